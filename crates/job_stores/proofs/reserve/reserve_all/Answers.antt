use borrow.Author.Rules.{rules}
use Prim.Native.Nat.{ℕ, ◌+◌, ◌-◌}
use mathlib.Core.Path.{ap, sym, ◌∙◌}
use lib.ListN.{get_or}
use Rattle.reg_matrix.specs.Lists.{foldl, count}
use Rattle.entries.specs.Reserving.{Lain, cleared, reserving}
use Rattle.job_stores.specs.Storing.{reserving_all}
use Rattle.job_tests.proofs.Places.{fold_more, fold_end}
use Rattle.job_stores.proofs.reserve.reserve_all.Goals as goal

pub loop-i-preserved : goal.loop-i-preserved
loop-i-preserved c =
    let a = c.args in
    let v = c.loop-i in
    let put = λ (l : Lain) (k : ℕ). reserving (get_or a.fixed.units.now k 0) (get_or a.fixed.froms.now k 0) (get_or a.fixed.tos.now k 0) (get_or a.fixed.uses.now k 0) l in (
      ap (λ (l : Lain). foldl put l (count (v.i + 1) (a.fixed.count - (v.i + 1)))) (c.reserve_fixed.ensures.after ∙ rw (c.at-unit.ensures, c.at-from.ensures, c.at-to.ensures, c.at-number.ensures))
          ∙ sym (fold_more _ a.fixed.count v.i _ c.loop-i-test.true)
          ∙ v.invariant.0,
      search rules,
      c.reserve_fixed.auto.uses ∙ v.invariant.2,
    )

pub returns-clause-after : goal.returns-clause-after
unfolding reserving_all cleared
returns-clause-after c = sym (fold_end _ c.args.fixed.count c.loop-i.i _ c.loop-i-test.false) ∙ c.loop-i.invariant.0 ∙ rw (c.clear.ensures.ends_after, c.clear.ensures.rests_after, c.clear.ensures.uses_after)
