-- Tests and loops over places. Assumes nothing.
use Prim.Native.Nat.{ℕ, zero, suc, ◌+◌, ◌-◌, ◌≤◌, ◌<◌}
use native.Mathlib.Numerals.{add-one}
use native.Mathlib.Omega.{arith}
use mathlib.Core.Path.{◌≡◌, refl, ap, ◌∙◌}
use mathlib.Core.Bool.{Bool, ◌||◌}
use mathlib.Core.List.{List, [], ◌∷◌}
use lib.ListN.{length, get_or}
use Rattle.reg_matrix.specs.Lists.{any, any_pair, foldl, count}
use Rattle.reg_matrix.proofs.Places.{count_more, count_end, any_at}

-- two places below n pass a test where some place passes one of those behind it
pub any_behind : (p : ℕ → ℕ → Bool) (n i k : ℕ) → n - i ≡ k → any (λ m. any (p m) (count (m + 1) (n - (m + 1)))) (count i k) ≡ any_pair p (count i k)
unfolding any any_pair count
any_behind p n i zero e = refl
any_behind p n i (suc k) e =
    let e' : n - suc i ≡ k = omega arith in
    rw (add-one i, e') (ap (λ (b : Bool). any (p i) (count (suc i) k) || b) (any_behind p n (suc i) k e'))

module _ {L : Type 0} (g : L → ℕ → L) (n i : ℕ) (l : L) where
  pub fold_more : i < n → foldl g l (count i (n - i)) ≡ foldl g (g l i) (count (i + 1) (n - (i + 1)))
  unfolding foldl
  fold_more h = rw (count_more n i h)

  pub fold_end : n ≤ i → foldl g l (count i (n - i)) ≡ l
  unfolding foldl
  fold_end h = rw (count_end n i h)

both : (q : ℕ → ℕ → Bool) {a b c e : ℕ} → a ≡ b → c ≡ e → q a c ≡ q b e
both q u v = rw (u, v)

-- ---- tests by places are tests of what stands there

module _ {A : Type 0} (d : A) where
  pub pair_at : (p : A → A → Bool) (q : ℕ → ℕ → Bool) (xs : List A) (i : ℕ) → ((k m : ℕ) → k < length xs → m < length xs → q (i + k) (i + m) ≡ p (get_or xs k d) (get_or xs m d)) → any_pair q (count i (length xs)) ≡ any_pair p xs
  unfolding any_pair count
  pair_at p q [] i h = refl
  pair_at p q (x ∷ xs) i h =
      rw (
        any_at d (p x) (q i) xs (suc i) (λ m l. both q (omega arith) (omega arith) ∙ h 0 (suc m) (omega arith) (omega arith)),
        pair_at p q xs (suc i) (λ k m a b. both q (omega arith) (omega arith) ∙ h (suc k) (suc m) (omega arith) (omega arith)),
      )

  pub anys_at : (p : A → Bool) (q : ℕ → Bool) (xs : List A) → ((k : ℕ) → k < length xs → q k ≡ p (get_or xs k d)) → any q (count 0 (length xs)) ≡ any p xs
  anys_at p q xs h = any_at d p q xs 0 (λ k l. ap q (omega arith) ∙ h k l)

  pub pairs_at : (p : A → A → Bool) (q : ℕ → ℕ → Bool) (xs : List A) → ((k m : ℕ) → k < length xs → m < length xs → q k m ≡ p (get_or xs k d) (get_or xs m d)) → any_pair q (count 0 (length xs)) ≡ any_pair p xs
  pairs_at p q xs h = pair_at p q xs 0 (λ k m a b. both q (omega arith) (omega arith) ∙ h k m a b)

-- a fold by places is a fold over what stands there
module _ {L A : Type 0} (d : A) (g : L → ℕ → L) (p : L → A → L) where
  pub fold_at : (xs : List A) (i : ℕ) (l : L) → ((k : ℕ) (l : L) → k < length xs → g l (i + k) ≡ p l (get_or xs k d)) → foldl g l (count i (length xs)) ≡ foldl p l xs
  unfolding foldl count
  fold_at [] i l h = refl
  fold_at (x ∷ xs) i l h =
      ap (λ (z : L). foldl g z (count (suc i) (length xs))) (ap (g l) (omega arith) ∙ h 0 l (omega arith))
      ∙ fold_at xs (suc i) (p l x) (λ k l m. ap (g l) (omega arith) ∙ h (suc k) l (omega arith))
