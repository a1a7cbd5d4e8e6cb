use Prim.Native.Nat.{◌+◌}
use native.Mathlib.Omega.{arith}
use mathlib.Core.Path.{◌≡◌, sym, ◌∙◌}
use mathlib.Core.List.{[], ◌∷◌, ◌++◌}
use lib.ListN.{length}
use Rattle.std.proofs.lemmas.Result.{err_from_is_err_and}
use Rattle.reader.proofs.Reading.{more, stops, ends}
use Rattle.reader.proofs.Stores.{more_stored}
use Rattle.reg_reader.proofs.registers.Goals as goal

pub returns-in_err-m-clause-read : goal.returns-in_err-m-clause-read
returns-in_err-m-clause-read c =
    let p = err_from_is_err_and c.from_residual.result c.from_residual.ensures.1 in
    rw (p.1, p.2) (stops c.loop-i.invariant.1 c.loop-i-test.true (sym c.in_err-m.ensures.read.view))

pub loop-i-preserved : goal.loop-i-preserved
loop-i-preserved c =
    let v = c.loop-i.invariant in
    let x = c.in_ok-m.m in
    let n : 0 + length v.0 ≡ c.loop-i.i = omega (arith, v.1.read) in
    (v.0 ++ (x ∷ []), more v.1 c.loop-i-test.true (sym c.in_ok-m.ensures.read.view), more_stored v.2 x n c.put.ensures, c.register.ensures.same ∙ v.3)

pub returns-clause-read : goal.returns-clause-read
returns-clause-read c = (c.loop-i.invariant.0, ends c.loop-i.invariant.1 c.loop-i-test.false, c.loop-i.invariant.2)
