-- Lists one after another: where each starts, and what stands there. Assumes nothing.
use Prim.Native.Nat.{ℕ, zero, suc, ◌+◌, ◌≤◌, ◌<◌}
use native.Mathlib.Omega.{arith}
use mathlib.Core.Path.{◌≡◌, ap, ◌∙◌}
use mathlib.Core.List.{List, [], ◌∷◌, ◌++◌}
use lib.ListN.{length, take, get_or, length-append, get_or-append}
use lib.Seq.{get_or-append-add}
use Rattle.reg_matrix.specs.Lists.{concat_map}
use Rattle.job.specs.Layout.{starts_from}

module _ {A B : Type 0} (f : A → List B) where
  abbrev pub size_of : A → ℕ
  size_of x = length (f x)

  -- a start is the number of what stands before
  pub start_is : (at : ℕ) (xs : List A) (i : ℕ) → i ≤ length xs → get_or (starts_from size_of at xs) i 0 ≡ at + length (concat_map f (take i xs))
  unfolding starts_from concat_map
  start_is at [] zero h = omega arith
  start_is at [] (suc i) h = absurd (omega arith)
  start_is at (x ∷ xs) zero h = omega arith
  start_is at (x ∷ xs) (suc i) h = omega (arith, start_is (at + length (f x)) xs i (omega arith), length-append (f x) (concat_map f (take i xs)))

  pub next_start : (xs : List A) (i : ℕ) (d : A) → i < length xs → length (concat_map f (take (suc i) xs)) ≡ length (concat_map f (take i xs)) + length (f (get_or xs i d))
  unfolding concat_map
  next_start [] i d h = absurd (omega arith)
  next_start (x ∷ xs) zero d h = omega (arith, length-append (f x) [])
  next_start (x ∷ xs) (suc i) d h =
      omega (arith, length-append (f x) (concat_map f (take (suc i) xs)), length-append (f x) (concat_map f (take i xs)), next_start xs i d (omega arith))

  -- what stands k places after a start is the k-th of what that one has
  pub item_at : (xs : List A) (i k : ℕ) (d : A) (e : B) → i < length xs → k < length (f (get_or xs i d)) → get_or (concat_map f xs) (length (concat_map f (take i xs)) + k) e ≡ get_or (f (get_or xs i d)) k e
  unfolding concat_map
  item_at [] i k d e h l = absurd (omega arith)
  item_at (x ∷ xs) zero k d e h l =
      let n : 0 + k ≡ k = omega arith in
      ap (λ (n : ℕ). get_or (f x ++ concat_map f xs) n e) n ∙ get_or-append (f x) (concat_map f xs) e k l
  item_at (x ∷ xs) (suc i) k d e h l =
      let n : length (f x ++ concat_map f (take i xs)) + k ≡ length (f x) + (length (concat_map f (take i xs)) + k) = omega (arith, length-append (f x) (concat_map f (take i xs))) in
      ap (λ (n : ℕ). get_or (f x ++ concat_map f xs) n e) n
      ∙ get_or-append-add (f x) (concat_map f xs) (length (concat_map f (take i xs)) + k) e
      ∙ item_at xs i k d e (omega arith) l

  pub item_below : (xs : List A) (i k : ℕ) (d : A) → i < length xs → k < length (f (get_or xs i d)) → length (concat_map f (take i xs)) + k < length (concat_map f xs)
  unfolding concat_map
  item_below [] i k d h l = absurd (omega arith)
  item_below (x ∷ xs) zero k d h l = omega (arith, length-append (f x) (concat_map f xs))
  item_below (x ∷ xs) (suc i) k d h l =
      omega (arith, length-append (f x) (concat_map f xs), length-append (f x) (concat_map f (take i xs)), item_below xs i k d (omega arith) l)
