-- Weights whose bits refusal 9 lets through are no NaN and have no sign, and those of hints are finite. Assumes nothing.
use Prim.Native.Nat.{ℕ, ◌<◌, ◌+◌, ◌^◌}
use native.Mathlib.Omega.{arith}
use mathlib.Core.Path.{◌≡◌, refl, sym, ap, ◌∙◌}
use mathlib.Core.Bool.{Bool, true, false, not, ◌||◌, cond}
use lib.Dec.{T, leb, eqb, T_not, nleb→lt}
use lib.Ieee.{Float, nan, inf, fin, binary32, of_bits, to_bits, is_nan, nan_bits}
use lib.Ieee.Bits.{to_bits-of_bits, nan_bits_is}
use Rattle.reg_matrix.proofs.Tests.{eqb_in}
use Rattle.job.specs.Load.{bad_spill_bits, bad_hint_bits}
use Rattle.job.proofs.Premises.{Plain, Finite}

-- "or" fails
pub neither : (a b : Bool) → T (not (a || b)) → T (not a) × T (not b)
neither true b t = absurd t
neither false b t = (tt, t)

-- a value whose bits are below the sign's
plain_below : (v : Float) → T (not (is_nan v)) → to_bits binary32 v < 2 ^ 31 → Plain v
unfolding is_nan to_bits
plain_below nan t h = absurd t
plain_below (inf true) t h = absurd (omega arith)
plain_below (inf false) t h = refl
plain_below (fin true m e) t h = absurd (omega arith)
plain_below (fin false m e) t h = refl

finite_below : (v : Float) → Plain v → (to_bits binary32 v ≡ 0x7f80_0000 → ⊥) → Finite v
unfolding to_bits
finite_below nan p h = p
finite_below (inf s) p h = h (ap (λ (z : Bool). cond z 2147483648 0 + 2139095040) p)
finite_below (fin s m e) p h = p

module _ (b : ℕ) where
  read_back : T (not (bad_spill_bits b)) → T (not (is_nan (of_bits binary32 b))) × (to_bits binary32 (of_bits binary32 b) ≡ b) × (b < 2 ^ 31)
  read_back t =
      let k = neither (leb (2 ^ 31) b) (nan_bits binary32 b) t in
      let l : b < 2 ^ 31 = nleb→lt (2 ^ 31) b k.0 in
      let n : T (not (is_nan (of_bits binary32 b))) = rw (nan_bits_is binary32 b) at k.1 in
      (n, to_bits-of_bits binary32 b (omega arith) n, l)

  pub plain_spill : T (not (bad_spill_bits b)) → Plain (of_bits binary32 b)
  plain_spill t = let k = read_back t in plain_below (of_bits binary32 b) k.0 (omega (arith, k.1, k.2))

  pub finite_hint : T (not (bad_hint_bits b)) → Finite (of_bits binary32 b)
  finite_hint t =
      let k = neither (bad_spill_bits b) (eqb b 0x7f80_0000) t in
      finite_below (of_bits binary32 b) (plain_spill k.0) (λ q. T_not (eqb b 0x7f80_0000) k.1 (eqb_in (sym (read_back k.0).1 ∙ q)))
