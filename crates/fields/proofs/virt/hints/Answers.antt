use Prim.Native.Nat.{◌+◌}
use native.Mathlib.Omega.{arith}
use mathlib.Core.Path.{◌≡◌, sym, ◌∙◌}
use mathlib.Core.List.{[], ◌∷◌, ◌++◌}
use lib.ListN.{length}
use Rattle.std.proofs.lemmas.Result.{err_from_is_err_and}
use Rattle.reader.proofs.Reading.{more, stops, ends}
use Rattle.reader.proofs.Stores.{more_stored}
use Rattle.fields.proofs.virt.hints.Goals as goal

pub returns-in_err-x-clause-read : goal.returns-in_err-x-clause-read
returns-in_err-x-clause-read c =
    let p = err_from_is_err_and c.from_residual.result c.from_residual.ensures.1 in
    rw (p.1, p.2) (stops c.loop-i.invariant.1 c.loop-i-test.true (sym c.in_err-x.ensures.read))

pub loop-i-preserved : goal.loop-i-preserved
loop-i-preserved c =
    let v = c.loop-i.invariant in
    let a : 1536 + c.args.h + length v.0 ≡ 1536 + c.args.h + c.loop-i.i = omega (arith, v.1.read) in
    let b : 512 + c.args.h + length v.0 ≡ 512 + c.args.h + c.loop-i.i = omega (arith, v.1.read) in
    let x = c.in_ok-x.x in (
      v.0 ++ (x ∷ []),
      more v.1 c.loop-i-test.true (sym c.in_ok-x.ensures.read),
      record { regs = more_stored v.2.regs x a c.put.ensures; weights = more_stored v.2.weights x b c.put-in-loop-i.ensures },
      c.hint.ensures.same ∙ v.3,
    )

pub returns-clause-read : goal.returns-clause-read
returns-clause-read c = (c.loop-i.invariant.0, ends c.loop-i.invariant.1 c.loop-i-test.false, c.loop-i.invariant.2)
