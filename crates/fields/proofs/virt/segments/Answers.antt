use Prim.Native.Nat.{◌+◌}
use native.Mathlib.Omega.{arith}
use mathlib.Core.Path.{◌≡◌, refl, ◌∙◌}
use mathlib.Core.List.{[], ◌∷◌, ◌++◌}
use lib.ListN.{length}
use Rattle.std.proofs.lemmas.Result.{err_from_is_err_and}
use Rattle.reg_matrix.specs.Lists.{foldl}
use Rattle.reader.proofs.Tables.{past_of_more}
use Rattle.job.specs.Load.{segment, past_of}
use Rattle.reader.proofs.Reading.{begin, more, stops, ends}
use Rattle.reader.proofs.Stores.{none_stored, more_stored}
use Rattle.fields.proofs.Slices.{more_segments}
use Rattle.fields.proofs.virt.segments.Goals as goal

pub loop-i-init : goal.loop-i-init
unfolding past_of foldl
loop-i-init c = ([], begin, refl, record { points = refl; values = none_stored }, refl)

pub returns-in_err-seg-clause-read : goal.returns-in_err-seg-clause-read
unfolding segment
returns-in_err-seg-clause-read c =
    let p = err_from_is_err_and c.from_residual.result c.from_residual.ensures.1 in
    rw (p.1, p.2) (stops c.loop-i.invariant.1 c.loop-i-test.true (rw (← c.loop-i.invariant.2, ← c.in_err-seg.ensures.read)))

pub loop-i-preserved : goal.loop-i-preserved
unfolding segment
loop-i-preserved c =
    let v = c.loop-i.invariant in
    let n : 529 + c.args.g + length v.0 ≡ 529 + c.args.g + c.loop-i.i = omega (arith, v.1.read) in
    let x = c.in_ok-seg.seg in (
      v.0 ++ (x ∷ []),
      more v.1 c.loop-i-test.true (rw (← v.2, ← c.in_ok-seg.ensures.read)),
      past_of_more v.0 x,
      more_segments v.3 x v.1.read c.loop-i-test.true c.requires c.put.ensures c.put-in-loop-i.ensures (more_stored v.3.values x n c.put-in-loop-i-2.ensures),
      c.range.ensures.same ∙ v.4,
    )

pub returns-clause-read : goal.returns-clause-read
returns-clause-read c = (c.loop-i.invariant.0, ends c.loop-i.invariant.1 c.loop-i-test.false, c.loop-i.invariant.3)
