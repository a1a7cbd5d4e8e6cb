use Prim.Native.Nat.{◌/◌, ◌^◌, ◌≤◌}
use native.Mathlib.Omega.{arith}
use mathlib.Core.Path.{◌≡◌, refl}
use borrow.Author.Tests.{le-ltb}
use Rattle.std.proofs.Math.Pow.{pow_mono}
use Rattle.std.proofs.lemmas.Nat.{div_below}
use Rattle.reader.proofs.read.bit.Goals as goal

pub returns-else-i-lt64 : goal.returns-else-i-lt64
returns-else-i-lt64 c =
    let a = c.args in
    let p : 2 ^ 64 ≤ 2 ^ a.i = pow_mono c.if-i-lt64.false in
    let z : a.map / 2 ^ a.i ≡ 0 = omega (arith, div_below a.map (2 ^ a.i) 1 (omega (arith, p)) (omega (arith, p, c.ranges.map.fits))) in
    rw (le-ltb _ _ c.if-i-lt64.false, z) refl
