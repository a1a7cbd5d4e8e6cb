-- Lists that grow at the end, as the tables of a job are read, and lists by their places. Assumes nothing.
use Prim.Native.Nat.{ℕ, zero, suc, ◌<◌, ◌≤◌, ◌+◌}
use native.Mathlib.Omega.{arith}
use native.Mathlib.Nat.{add-zero}
use mathlib.Core.Path.{◌≡◌, refl, sym, ◌∙◌, subst}
use mathlib.Core.Logic.{◌⊎◌, inl, inr}
use mathlib.Core.List.Memᴰ
use mathlib.Core.List.{List, [], ◌∷◌, ◌++◌}
use mathlib.Core.Bool.{Bool, true, false, cond}
use lib.Dec.{T}
use lib.ListN.{length, get_or, length-append}
use Rattle.reg_matrix.specs.Lists.{filter, any, any_pair, concat_map, foldl}
use Rattle.reg_matrix.proofs.Tests.{or_left, or_right}
use Rattle.reg_matrix.proofs.Members.{◌∈◌, any_in, get_d_in}
use Rattle.job.specs.Layout.{starts_from}

module _ {A : Type 0} where
  abbrev pub Each : (A → Type 0) → List A → Type 0
  Each P xs = (x : A) → x ∈ xs → P x

  pub each_none : (P : A → Type 0) → Each P []
  each_none P x m = elim m [ ]

  -- R holds of any two, the earlier first
  abbrev pub Pairs : (A → A → Type 0) → List A → Type 0
  Pairs R [] = Unit {0}
  Pairs R (x ∷ xs) = Each (R x) xs × Pairs R xs

  -- ---- one more at the end

  module _ (xs : List A) (x : A) where
    pub each_more : (P : A → Type 0) → Each P xs → P x → Each P (xs ++ (x ∷ []))
    each_more P h p y m = go (Memᴰ.append_cases xs m)
      where
        go : (y ∈ xs) ⊎ (y ∈ x ∷ []) → P y
        go (inl n) = h y n
        go (inr n) = subst P (sym (Memᴰ.eq_of_singleton n)) p

  pub pairs_more : (R : A → A → Type 0) (xs : List A) (x : A) → Pairs R xs → Each (λ y. R y x) xs → Pairs R (xs ++ (x ∷ []))
  pairs_more R [] x o h = (each_none (R x), tt)
  pairs_more R (z ∷ xs) x o h = (each_more xs x (R z) o.0 (h z (Memᴰ.head refl)), pairs_more R xs x o.1 (λ y m. h y (Memᴰ.tail m)))

module _ {A B : Type 0} (f : B → A → B) where
  pub foldl_more : (b : B) (xs : List A) (x : A) → foldl f b (xs ++ (x ∷ [])) ≡ f (foldl f b xs) x
  unfolding foldl
  foldl_more b [] x = refl
  foldl_more b (y ∷ xs) x = foldl_more (f b y) xs x

-- where the last of those that pass the test ends: the others of these end no later
module _ {A : Type 0} (from to : A → ℕ) (on : A → Bool) where
  unfoldable pub last_to : List A → ℕ
  last_to xs = foldl (λ p x. cond (on x) (to x) p) 0 xs

  abbrev Ended : ℕ → A → Type 0
  Ended p x = T (on x) → to x ≤ p

  pub ended_more :
      (xs : List A) (x : A)
      → Each (Ended (last_to xs)) xs
      → (T (on x) → last_to xs ≤ from x)
      → from x < to x
      → Each (Ended (last_to (xs ++ (x ∷ [])))) (xs ++ (x ∷ []))
  unfolding last_to
  ended_more xs x h k l = rw (foldl_more (λ (p : ℕ) (x : A). cond (on x) (to x) p) 0 xs x) (go (on x) refl)
    where
      go : (b : Bool) → on x ≡ b → Each (Ended (cond b (to x) (last_to xs))) (xs ++ (x ∷ []))
      go true q = each_more xs x (Ended (to x)) (λ y m t. omega (arith, h y m t, k (subst T (sym q) tt), l)) (λ t. omega arith)
      go false q = each_more xs x (Ended (last_to xs)) h (λ t. absurd (subst T q t))

-- a sum of lengths is the length of all
module _ {A B : Type 0} (f : A → List B) where
  pub sum_length : (n : ℕ) (xs : List A) → foldl (λ m x. m + length (f x)) n xs ≡ n + length (concat_map f xs)
  unfolding concat_map foldl
  sum_length n [] = sym (add-zero n)
  sum_length n (x ∷ xs) = sum_length (n + length (f x)) xs ∙ omega (arith, length-append (f x) (concat_map f xs))

-- where each list begins and the last ends: one number more than there are lists
module _ {A : Type 0} (size : A → ℕ) where
  pub starts_length : (at : ℕ) (xs : List A) → length (starts_from size at xs) ≡ length xs + 1
  unfolding starts_from
  starts_length at [] = refl
  starts_length at (x ∷ xs) = omega (arith, starts_length (at + size x) xs)

-- ---- by place

module _ {A : Type 0} where
  pub a_member : (xs : List A) → 0 < length xs → (x : A) × (x ∈ xs)
  a_member [] h = absurd (omega arith)
  a_member (x ∷ xs) h = (x, Memᴰ.head refl)

  pub pair_in : (p : A → A → Bool) (xs : List A) (d : A) (i k : ℕ) → i < k → k < length xs → T (p (get_or xs i d) (get_or xs k d)) → T (any_pair p xs)
  unfolding any_pair
  pair_in p [] d i k a b t = absurd (omega arith)
  pair_in p (x ∷ xs) d i zero a b t = absurd (omega arith)
  pair_in p (x ∷ xs) d zero (suc k) a b t = or_left (any (p x) xs) (any_pair p xs) (any_in (p x) t (get_d_in xs k d (omega arith)))
  pair_in p (x ∷ xs) d (suc i) (suc k) a b t = or_right (any (p x) xs) (any_pair p xs) (pair_in p xs d i k (omega arith) (omega arith) t)

  -- ---- filter

  pub filter_same : (p q : A → Bool) (xs : List A) → ((x : A) → x ∈ xs → p x ≡ q x) → filter p xs ≡ filter q xs
  unfolding filter
  filter_same p q [] h = refl
  filter_same p q (x ∷ xs) h = let r = filter_same p q xs (λ y m. h y (Memᴰ.tail m)) in rw (h x (Memᴰ.head refl), r)
