-- Weights that are no NaN and have no sign (`Plain`): 0 is one, a hint's weight is one, and a sum of two such is one. Assumes nothing.
use Prim.Native.Nat.{ℕ, zero, suc, ◌+◌, ◌*◌, ◌^◌}
use native.Mathlib.Omega.{arith}
use mathlib.Core.Path.{◌≡◌, refl, sym, subst}
use mathlib.Core.Bool.{Bool, true, false, not, cond}
use lib.Dec.{T, ltb}
use lib.Ieee.{Float, nan, inf, fin, Format, prec, emax, low, odd, units, round, sum, add, of_fields, of_bits}
use lib.Ieee.Fits.{round_is}
use Rattle.job.specs.Model.{zero_weight}
use Rattle.job.proofs.Premises.{Plain, Finite}
use Rattle.allocator.specs.Calls.{bad_weight}

pub finite_plain : (x : Float) → Finite x → Plain x
finite_plain nan h = h
finite_plain (inf s) h = absurd h
finite_plain (fin s m e) h = h

-- what test 9 of a direct placement lets through
pub not_bad_plain : (x : Float) → T (not (bad_weight x)) → Plain x
not_bad_plain nan h = absurd h
not_bad_plain (inf s) h = absurd h
not_bad_plain (fin true m e) h = absurd h
not_bad_plain (fin false m e) h = refl

pub plain_zero : Plain zero_weight
unfolding of_bits of_fields odd
plain_zero = refl

pub plain_cond : (b : Bool) (x y : Float) → Plain x → Plain y → Plain (cond b x y)
plain_cond true x y p q = p
plain_cond false x y p q = q

plain_odd : (d q k l : ℕ) → Plain (odd d false q k l)
unfolding odd
plain_odd d zero k l = refl
plain_odd d (suc q) k l = refl

plain_units : (f : Format) (q k : ℕ) → Plain (units f false q k)
unfolding units
plain_units f q k =
    plain_cond (ltb (q * 2 ^ k) (2 ^ (low f + suc (emax f)))) (odd (suc (prec f)) false q k (low f)) (inf false) (plain_odd (suc (prec f)) q k (low f)) refl

pub plain_round : (f : Format) (a b : ℕ) → Plain (round f false a b)
plain_round f a b = subst (λ (x : Float). Plain x) (sym (round_is f false a b)) (plain_units f _ _)

pub signed : true ≡ false → ⊥
signed q = let z : ◌≡◌ {A = ℕ} 0 1 = cc in omega arith

pub plain_add : (f : Format) (x y : Float) → Plain x → Plain y → Plain (add f x y)
unfolding add sum
plain_add f nan y p q = absurd p
plain_add f (inf true) y p q = absurd (signed p)
plain_add f (inf false) nan p q = absurd q
plain_add f (inf false) (inf true) p q = absurd (signed q)
plain_add f (inf false) (inf false) p q = refl
plain_add f (inf false) (fin t n d) p q = refl
plain_add f (fin true m e) y p q = absurd (signed p)
plain_add f (fin false m e) nan p q = absurd q
plain_add f (fin false m e) (inf t) p q = q
plain_add f (fin false m e) (fin true n d) p q = absurd (signed q)
plain_add f (fin false m e) (fin false n d) p q = plain_round f _ _
