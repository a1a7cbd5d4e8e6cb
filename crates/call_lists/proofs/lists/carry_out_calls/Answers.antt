use borrow.Author.Rules.{rules}
use native.Mathlib.Omega.{arith}
use Prim.Native.Nat.{◌+◌, ◌*◌}
use mathlib.Core.Path.{◌≡◌, sym, ◌∙◌}
use lib.ListN.{length}
use Rattle.call_lists.proofs.ListLaws as laws
use Rattle.call_lists.proofs.lists.carry_out_calls.Goals as goal

pub loop-i-preserved : goal.loop-i-preserved
loop-i-preserved c =
    let i = c.loop-i.i in
    let from : 4 * (i + 1) ≡ 4 * i + 4 = omega arith in
    let to : 3 * (i + 1) ≡ 3 * i + 3 = omega arith in
    let same = c.loop-i.invariant.0 in
    let listed = laws.listed_four c.args.list.now _ c.as_chunks.ensures.front c.as_chunks.ensures.front_len i _ c.loop-i-test.true in
    rw (from, to) (
      search rules,
      laws.list_more _ _ c.args.list.now _ _ _ _ _ _ _ _ _ c.loop-i.invariant.1 c.in-Some.call (sym listed ∙ sym c.listed_by.ensures ∙ c.in-Some.is) same.ends_length same.rests_length same.queue_length c.loop-i.invariant.2 _ _ _ c.carry_out-after.ensures.stored,
      search rules,
      search rules,
      search rules,
    )

pub returns-in_default-clause-done : goal.returns-in_default-clause-done
returns-in_default-clause-done c =
    laws.list_end _ _ c.args.list.now _ _ _ _ _ _ _ _ _ c.loop-i.invariant.1
    (sym c.in_default.is ∙ c.listed_by.ensures ∙ laws.listed_four c.args.list.now _ c.as_chunks.ensures.front c.as_chunks.ensures.front_len c.loop-i.i _ c.loop-i-test.true)

pub returns-clause-done : goal.returns-clause-done
returns-clause-done c =
    let q : length c.as_chunks.result.0.now ≡ c.loop-i.i = search rules in
    rw q (laws.list_end _ _ c.args.list.now _ _ _ _ _ _ _ _ _ c.loop-i.invariant.1 (laws.listed_none c.args.list.now _ c.as_chunks.ensures.front c.as_chunks.ensures.front_len c.loop-i.i (sym q)))
