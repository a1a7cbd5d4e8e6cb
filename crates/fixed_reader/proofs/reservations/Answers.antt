use Prim.Native.Nat.{◌+◌}
use native.Mathlib.Omega.{arith}
use mathlib.Core.Path.{◌≡◌, refl, sym, ◌∙◌}
use mathlib.Core.List.{[], ◌∷◌, ◌++◌}
use lib.ListN.{length}
use Rattle.std.proofs.lemmas.Result.{err_from_is_err_and}
use Rattle.reader.proofs.Reading.{begin, more, stops, ends as finish}
use Rattle.reader.proofs.Stores.{none_stored, more_stored}
use Rattle.reader.proofs.Tables.{ends_none, ends_more, after_ends}
use Rattle.fixed_reader.proofs.reservations.Goals as goal

pub loop-i-init : goal.loop-i-init
loop-i-init c = ([], begin, ends_none, record { units = none_stored; froms = none_stored; tos = none_stored; uses = none_stored }, record { units = refl; froms = refl; tos = refl; uses = refl; units_length = refl; froms_length = refl; tos_length = refl; uses_length = refl }, refl)

pub returns-in_err-e-clause-read : goal.returns-in_err-e-clause-read
returns-in_err-e-clause-read c =
    let p = err_from_is_err_and c.from_residual.result c.from_residual.ensures.1 in
    rw (p.1, p.2) (stops c.loop-i.invariant.1 c.loop-i-test.true (after_ends c.loop-i.invariant.2 _ ∙ sym c.in_err-e.ensures.read.view))

pub loop-i-preserved : goal.loop-i-preserved
loop-i-preserved c =
    let v = c.loop-i.invariant in
    let n : 0 + length v.0 ≡ c.loop-i.i = omega (arith, v.1.read) in
    let e = c.in_ok-e.e in (
      v.0 ++ (e ∷ []),
      more v.1 c.loop-i-test.true (after_ends v.2 _ ∙ sym c.in_ok-e.ensures.read.view),
      ends_more e v.2 c.in_ok-e.ensures.read.unit c.put.ensures,
      record {
        units = more_stored v.3.units e n c.put-in-loop-i.ensures;
        froms = more_stored v.3.froms e n c.put-in-loop-i-2.ensures;
        tos = more_stored v.3.tos e n c.put-in-loop-i-3.ensures;
        uses = more_stored v.3.uses e n (c.put-in-loop-i-4.ensures ∙ rw c.use_number.ensures);
      },
      record {
        units = v.4.units;
        froms = v.4.froms;
        tos = v.4.tos;
        uses = v.4.uses;
        units_length = c.put-in-loop-i.auto.s ∙ v.4.units_length;
        froms_length = c.put-in-loop-i-2.auto.s ∙ v.4.froms_length;
        tos_length = c.put-in-loop-i-3.auto.s ∙ v.4.tos_length;
        uses_length = c.put-in-loop-i-4.auto.s ∙ v.4.uses_length;
      },
      c.reservation.ensures.same ∙ v.5,
    )

pub returns-clause-read : goal.returns-clause-read
returns-clause-read c = (c.loop-i.invariant.0, finish c.loop-i.invariant.1 c.loop-i-test.false, c.loop-i.invariant.3)
