-- An array made by calls at each number below n (`array::from_fn`): where each call gives a function's value and leaves the closure as it was, it
-- is that function's values. Assumes nothing.
use Prim.Native.Nat.{ℕ, zero, suc, ◌+◌, ◌≤◌, ◌<◌}
use native.Mathlib.Omega.{arith}
use native.Mathlib.Nat.{eq-or-lt_of_le}
use mathlib.Core.Path.{◌≡◌, subst, ◌∙◌}
use mathlib.Core.Logic.{⊎_elim}
use mathlib.Core.List.{List}
use lib.ListN.{get_or}
use denote.Param.Members.{Mut}
use Rattle.std.specs.Fn.{Called}
use Rattle.std.specs.Array.{IsFromFnResultFrom}

module _ {F A : Type 0} (g : Mut F (ℕ × Unit {0}) A) (v : ℕ → A) (f : F) (h : (i : ℕ) (x : A) (q : F) → Called g f (i, tt) x q → (q ≡ f) × (x ≡ v i)) (xs : List A) where
  pub made_at : (d : A) (i n : ℕ) → IsFromFnResultFrom g f xs i n → (k : ℕ) → i ≤ k → k < i + n → get_or xs k d ≡ v k
  made_at d i zero m k l b = absurd (omega arith)
  made_at d i (suc n) m k l b =
      let e = h i m.1 m.0 m.3 in
      ⊎_elim (λ (p : i ≡ k). subst (λ (t : ℕ). get_or xs t d ≡ v t) p (m.2.1 d ∙ e.1))
      (λ (p : i < k). made_at d (i + 1) n (subst (λ (q : F). IsFromFnResultFrom g q xs (i + 1) n) e.0 m.4) k (omega arith) (omega arith))
      (eq-or-lt_of_le l)
