-- Tests as facts: what "and", "or" and the tests of numbers say when they pass. Assumes nothing.
use Prim.Native.Nat.{ℕ, ◌≤◌, ◌<◌}
use native.Mathlib.Omega.{arith}
use native.Mathlib.Decide.{dec_lt}
use mathlib.Core.Path.{◌≡◌, refl, subst}
use mathlib.Core.Logic.{◌⊎◌, inl, inr}
use mathlib.Core.Option.{Option, none, some}
use mathlib.Core.Bool.{Bool, true, false, not, ◌&&◌, ◌||◌}
use lib.Dec.{T, ltb, eqb, ltb→lt, nltb→le, eqb_refl}
use Rattle.reg_matrix.specs.Lists.{is_some}

pub both : (a b : Bool) → T (a && b) → T a × T b
both true b t = (tt, t)
both false b t = absurd t

pub both_in : (a b : Bool) → T a → T b → T (a && b)
both_in true b s t = t
both_in false b s t = absurd s

pub either : (a b : Bool) → T (a || b) → T a ⊎ T b
either true b t = inl tt
either false b t = inr t

pub or_left : (a b : Bool) → T a → T (a || b)
or_left true b t = tt
or_left false b t = absurd t

pub or_right : (a b : Bool) → T b → T (a || b)
or_right true b t = tt
or_right false b t = t

-- a test passes or fails
pub passes_or_not : (b : Bool) → T b ⊎ T (not b)
passes_or_not true = inl tt
passes_or_not false = inr tt

-- one that cannot pass
pub never : (b : Bool) → (T b → ⊥) → b ≡ false
never true h = absurd (h tt)
never false h = refl

-- two tests that pass together are one
pub same_test : (a b : Bool) → (T a → T b) → (T b → T a) → a ≡ b
same_test true true f g = refl
same_test true false f g = absurd (f tt)
same_test false true f g = absurd (g tt)
same_test false false f g = refl

pub not_some : {A : Type 0} (o : Option A) → T (not (is_some o)) → o ≡ none
not_some none t = refl
not_some (some x) t = absurd t

pub eqb_in : {a b : ℕ} → a ≡ b → T (eqb a b)
eqb_in {a} q = subst (λ (n : ℕ). T (eqb a n)) q (eqb_refl a)

pub lt_or_le : (a b : ℕ) → (a < b) ⊎ (b ≤ a)
lt_or_le a b = elim (dec_lt a b) as (λ _. (a < b) ⊎ (b ≤ a)) [ yes h ↦ inl h | no h ↦ inr (omega arith) ]

pub less_equal_greater : (a b : ℕ) → (a < b) ⊎ ((a ≡ b) ⊎ (b < a))
less_equal_greater a b = go (passes_or_not (ltb a b)) (passes_or_not (ltb b a))
  where
    go : T (ltb a b) ⊎ T (not (ltb a b)) → T (ltb b a) ⊎ T (not (ltb b a)) → (a < b) ⊎ ((a ≡ b) ⊎ (b < a))
    go (inl t) k = inl (ltb→lt _ _ t)
    go (inr t) (inl k) = inr (inr (ltb→lt _ _ k))
    go (inr t) (inr k) = inr (inl (omega (arith, nltb→le a b t, nltb→le b a k)))
