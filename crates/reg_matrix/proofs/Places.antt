-- Lists by their places and in parts: padded lists, counted numbers, filtered and joined lists. Assumes nothing.
use Prim.Native.Nat.{ℕ, zero, suc, ◌+◌, ◌-◌, ◌≤◌, ◌<◌, min}
use native.Mathlib.Omega.{arith}
use native.Mathlib.Nat.{zero-add, add-zero, suc-add, add-suc}
use native.Mathlib.Numerals.{add-one}
use native.Mathlib.Decide.{dec_lt}
use mathlib.Core.Path.{◌≡◌, refl, sym, ap, ap₂, ◌∙◌}
use mathlib.Core.List.Memᴰ
use mathlib.Core.List.{List, [], ◌∷◌, ◌++◌, map, append_assoc}
use mathlib.Core.Bool.{Bool, true, false, ◌||◌}
use lib.ListN.{length, get_or, take, drop, replicate, drop_of_length-le, length-append, length-replicate, get_or-append, get_or-eq_default}
use lib.Seq.{get_or-append-add, drop-cons, take_all}
use Rattle.std.specs.List.{list_any, range_with_len}
use Rattle.reg_matrix.specs.Lists.{keep, filter, any, foldl, concat_map, count, padded, put_before, insert_by}
use Rattle.reg_matrix.proofs.Members.{◌∈◌}

module _ {A : Type 0} where
  -- ---- padded lists

  pub replicate_default : (n i : ℕ) (d : A) → get_or (replicate n d) i d ≡ d
  replicate_default zero i d = refl
  replicate_default (suc n) zero d = refl
  replicate_default (suc n) (suc i) d = replicate_default n i d

  -- a list up to n places has n
  pub padded_length : (n : ℕ) (d : A) (xs : List A) → length xs ≤ n → length (padded n d xs) ≡ n
  unfolding padded
  padded_length n d xs h = simp (length-append, length-replicate) (omega arith)

  -- what is read there is what the list has, whatever is behind the n places
  pub padded_read : (n : ℕ) (d : A) (xs behind : List A) (i : ℕ) → length xs ≤ n → i < n → get_or (padded n d xs ++ behind) i d ≡ get_or xs i d
  unfolding padded
  padded_read n d xs behind i h k =
      get_or-append (xs ++ replicate (n - length xs) d) behind d i (omega (arith, padded_length n d xs h)) ∙ go (dec_lt i (length xs))
    where
      go : Dec (i < length xs) → get_or (xs ++ replicate (n - length xs) d) i d ≡ get_or xs i d
      go (yes l) = get_or-append xs (replicate (n - length xs) d) d i l
      go (no l) =
          let e : i ≡ length xs + (i - length xs) = omega arith in
          ap (λ (p : ℕ). get_or (xs ++ replicate (n - length xs) d) p d) e
          ∙ get_or-append-add xs (replicate (n - length xs) d) (i - length xs) d
          ∙ replicate_default (n - length xs) (i - length xs) d
          ∙ sym (get_or-eq_default xs d (omega arith))

  -- ---- one more in a sorted list

  pub insert_longer : (before : A → A → Bool) (e : A) (xs : List A) → length (insert_by before e xs) ≡ suc (length xs)
  unfolding insert_by
  insert_longer before e [] = refl
  insert_longer before e (x ∷ xs) = go (before e x) (insert_longer before e xs)
    where
      go : (b : Bool) → length (insert_by before e xs) ≡ suc (length xs) → length (put_before b e x xs (insert_by before e xs)) ≡ suc (suc (length xs))
      go true ih = refl
      go false ih = ap suc ih

  -- ---- a function of the numbers, as a list

  pub numbers_at : (g : ℕ → A) (d : A) (v n i : ℕ) → i < n → get_or (map g (count v n)) i d ≡ g (v + i)
  unfolding count
  numbers_at g d v zero i h = absurd (omega arith)
  numbers_at g d v (suc n) zero h = ap g (sym (add-zero v))
  numbers_at g d v (suc n) (suc i) h = let e : suc v + i ≡ v + suc i = omega arith in numbers_at g d (suc v) n i (omega arith) ∙ ap g e

  pub from_zero : (g : ℕ → A) (d : A) (n i : ℕ) → i < n → get_or (map g (count 0 n)) i d ≡ g i
  from_zero g d n i h = numbers_at g d 0 n i h ∙ ap g (zero-add i)

  -- ---- lists in two parts

  pub filter_append : (p : A → Bool) (xs ys : List A) → filter p (xs ++ ys) ≡ filter p xs ++ filter p ys
  unfolding filter
  filter_append p [] ys = refl
  filter_append p (x ∷ xs) ys = go (p x) (filter_append p xs ys)
    where
      go : (b : Bool) → filter p (xs ++ ys) ≡ filter p xs ++ filter p ys → keep b x (filter p (xs ++ ys)) ≡ keep b x (filter p xs) ++ filter p ys
      go true e = ap (λ (l : List A). x ∷ l) e
      go false e = e

  -- ---- no more than there are

  pub take_least : (n : ℕ) (xs : List A) → take (min n (length xs)) xs ≡ take n xs
  take_least n xs = elim (dec_lt n (length xs)) as (λ _. take (min n (length xs)) xs ≡ take n xs) [
    | yes h ↦ let e : min n (length xs) ≡ n = omega arith in rw e
    | no h ↦ let e : min n (length xs) ≡ length xs = omega arith in rw e (take_all (length xs) xs (omega arith) ∙ sym (take_all n xs (omega arith)))
  ]

-- ---- a fold over a list's places

module _ {A B : Type 0} (f : B → A → B) (xs : List A) (i : ℕ) where
  pub fold_more : (b b' : B) (d : A) → i < length xs → b' ≡ f b (get_or xs i d) → foldl f b' (drop (i + 1) xs) ≡ foldl f b (drop i xs)
  unfolding foldl
  fold_more b b' d h q = rw (q, drop-cons xs i d h, add-one i)

  pub fold_end : (b : B) → length xs ≤ i → foldl f b (drop i xs) ≡ b
  unfolding foldl
  fold_end b h = rw (drop_of_length-le xs h)

module _ {A B : Type 0} where
  pub concat_append : (f : A → List B) (xs ys : List A) → concat_map f (xs ++ ys) ≡ concat_map f xs ++ concat_map f ys
  unfolding concat_map
  concat_append f [] ys = refl
  concat_append f (x ∷ xs) ys = ap (λ (l : List B). f x ++ l) (concat_append f xs ys) ∙ sym (append_assoc (f x) (concat_map f xs) (concat_map f ys))

  pub concat_same : (f g : A → List B) (xs : List A) → ((x : A) → x ∈ xs → f x ≡ g x) → concat_map f xs ≡ concat_map g xs
  unfolding concat_map
  concat_same f g [] h = refl
  concat_same f g (x ∷ xs) h = ap₂ (λ (k l : List B). k ++ l) (h x (Memᴰ.head refl)) (concat_same f g xs (λ y m. h y (Memᴰ.tail m)))

-- the numbers from i on, below n: this one and those after it
pub count_more : (n i : ℕ) → i < n → count i (n - i) ≡ i ∷ count (i + 1) (n - (i + 1))
unfolding count
count_more n i h =
    let k : n - i ≡ suc (n - (i + 1)) = omega arith in
    rw (k, add-one i)

pub count_end : (n i : ℕ) → n ≤ i → count i (n - i) ≡ []
unfolding count
count_end n i h =
    let k : n - i ≡ 0 = omega arith in
    rw k

-- a test of them
module _ (p : ℕ → Bool) (n i : ℕ) where
  pub any_more : i < n → any p (count i (n - i)) ≡ (p i || any p (count (i + 1) (n - (i + 1))))
  unfolding any
  any_more h = rw (count_more n i h)

  pub any_end : n ≤ i → any p (count i (n - i)) ≡ false
  unfolding any
  any_end h = rw (count_end n i h)

-- a test by number is one of what has the number
pub any_at : {A : Type 0} (d : A) (p : A → Bool) (q : ℕ → Bool) (xs : List A) (i : ℕ) → ((k : ℕ) → k < length xs → q (i + k) ≡ p (get_or xs k d))
    → any q (count i (length xs)) ≡ any p xs
unfolding any count
any_at d p q [] i h = refl
any_at d p q (x ∷ xs) i h =
    ap₂ ◌||◌ (ap q (omega arith) ∙ h 0 (omega arith)) (any_at d p q xs (suc i) (λ k l. ap q (omega arith) ∙ h (suc k) (omega arith)))

pub count_length : (v n : ℕ) → length (count v n) ≡ n
unfolding count
count_length v zero = refl
count_length v (suc n) = ap suc (count_length (suc v) n)

pub count_append : (i m n : ℕ) → count i (m + n) ≡ count i m ++ count (i + m) n
unfolding count
count_append i zero n = simp (zero-add, add-zero)
count_append i (suc m) n = rw (suc-add, add-suc, ← suc-add i m) (ap (λ (l : List ℕ). i ∷ l) (count_append (suc i) m n))

-- a test over a range
pub any_range : (p : ℕ → Bool) (i n : ℕ) → list_any p (range_with_len i n) ≡ any p (count i n)
unfolding any count
any_range p i zero = refl
any_range p i (suc n) = ap (λ (b : Bool). p i || b) (rw (add-one i) (any_range p (suc i) n))
