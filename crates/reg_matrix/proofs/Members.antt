-- Members of lists: what is in a filtered list, in a concatenation, in a counted range, and what a list that is empty or has a first
-- element says of its parts. Assumes nothing.
use Prim.Native.Nat.{ℕ, zero, suc, ◌<◌, ◌≤◌, ◌+◌}
use native.Mathlib.Omega.{arith}
use mathlib.Core.Path.{◌≡◌, refl, sym, ap, ◌∙◌, subst}
use mathlib.Core.Logic.{◌⊎◌, inl, inr}
use mathlib.Core.Option.{some}
use mathlib.Core.List.Memᴰ
use mathlib.Core.List.{List, [], ◌∷◌, ◌++◌}
use mathlib.Core.Bool.{Bool, true, false, ◌&&◌, ◌||◌}
use lib.Dec.{T, eqb, eqb→eq}
use lib.ListN.{length, get_or, drop}
use Rattle.reg_matrix.specs.Lists.{keep, filter, any, first, or_else, concat_map, count, bit}
pub use Rattle.reg_matrix.specs.Lists.{◌∈◌}
use Rattle.reg_matrix.specs.Table.{Table, units_of, is_use, fixed_uses, on_unit}
use Rattle.reg_matrix.specs.declared.Entry.{Entry}
use Rattle.reg_matrix.proofs.Tests.{both, both_in, or_left, or_right, eqb_in, less_equal_greater}

module _ {A : Type 0} where
  -- ---- filter

  keep_out : {e x : A} {xs : List A} (b : Bool) → e ∈ keep b x xs → (T b × (e ≡ x)) ⊎ (e ∈ xs)
  keep_out true (Memᴰ.head q) = inl (tt, q)
  keep_out true (Memᴰ.tail m) = inr m
  keep_out false m = inr m

  keep_tail : {e : A} (x : A) {xs : List A} (b : Bool) → e ∈ xs → e ∈ keep b x xs
  keep_tail x true m = Memᴰ.tail m
  keep_tail x false m = m

  keep_head : {e x : A} (xs : List A) (b : Bool) → T b → e ≡ x → e ∈ keep b x xs
  keep_head xs true t q = Memᴰ.head q
  keep_head xs false t q = absurd t

  module _ (p : A → Bool) where
    pub filter_out : {e : A} (xs : List A) → e ∈ filter p xs → T (p e) × (e ∈ xs)
    unfolding filter
    filter_out [] m = elim m [ ]
    filter_out {e} (x ∷ xs) m = step (keep_out (p x) m) (λ n. filter_out xs n)
      where
        step : (T (p x) × (e ≡ x)) ⊎ (e ∈ filter p xs) → (e ∈ filter p xs → T (p e) × (e ∈ xs)) → T (p e) × (e ∈ x ∷ xs)
        step (inl h) ih = (subst (λ (a : A). T (p a)) (sym h.1) h.0, Memᴰ.head h.1)
        step (inr n) ih = ((ih n).0, Memᴰ.tail (ih n).1)

    pub filter_in : {e : A} {xs : List A} → T (p e) → e ∈ xs → e ∈ filter p xs
    unfolding filter
    filter_in t (Memᴰ.head {x = x} {xs = xs} q) = keep_head (filter p xs) (p x) (subst (λ (a : A). T (p a)) q t) q
    filter_in t (Memᴰ.tail {x = x} m) = keep_tail x (p x) (filter_in t m)

    pub filter_none : (xs : List A) → ((x : A) → x ∈ xs → T (p x) → ⊥) → filter p xs ≡ []
    unfolding filter
    filter_none [] h = refl
    filter_none (x ∷ xs) h = go (p x) refl (filter_none xs (λ y m. h y (Memᴰ.tail m)))
      where
        go : (b : Bool) → p x ≡ b → filter p xs ≡ [] → keep b x (filter p xs) ≡ []
        go true q ih = absurd (h x (Memᴰ.head refl) (subst T (sym q) tt))
        go false q ih = ih

    -- ---- any, first

    pub any_in : {e : A} {xs : List A} → T (p e) → e ∈ xs → T (any p xs)
    unfolding any
    any_in t (Memᴰ.head {x = x} {xs = xs} q) = or_left (p x) (any p xs) (subst (λ (a : A). T (p a)) q t)
    any_in t (Memᴰ.tail {x = x} {xs = xs} m) = or_right (p x) (any p xs) (any_in t m)

    pub any_out : (xs : List A) → T (any p xs) → (e : A) × (e ∈ xs) × T (p e)
    unfolding any
    any_out [] t = absurd t
    any_out (x ∷ xs) t = go (p x) refl t (λ h. any_out xs h)
      where
        go : (b : Bool) → p x ≡ b → T (b || any p xs) → (T (any p xs) → (e : A) × (e ∈ xs) × T (p e)) → (e : A) × (e ∈ x ∷ xs) × T (p e)
        go true q h ih = (x, Memᴰ.head refl, subst T (sym q) tt)
        go false q h ih = ((ih h).0, Memᴰ.tail (ih h).1, (ih h).2)

    pub first_of : (xs : List A) → T (any p xs) → (e : A) × (first p xs ≡ some e) × (e ∈ xs) × T (p e)
    unfolding any first
    first_of [] t = absurd t
    first_of (x ∷ xs) t = go (p x) refl t (λ h. first_of xs h)
      where
        go :
            (b : Bool)
            → p x ≡ b
            → T (b || any p xs)
            → (T (any p xs) → (e : A) × (first p xs ≡ some e) × (e ∈ xs) × T (p e))
            → (e : A) × (or_else b x (first p xs) ≡ some e) × (e ∈ x ∷ xs) × T (p e)
        go true q h ih = (x, refl, Memᴰ.head refl, subst T (sym q) tt)
        go false q h ih = let k = ih h in (k.0, k.1, Memᴰ.tail k.2, k.3)

  -- ---- drop

  pub drop_out : (n : ℕ) (xs : List A) {e : A} → e ∈ drop n xs → e ∈ xs
  drop_out zero xs m = m
  drop_out (suc n) [] m = m
  drop_out (suc n) (x ∷ xs) m = Memᴰ.tail (drop_out n xs m)

  -- ---- by place

  pub get_d_in : (xs : List A) (i : ℕ) (d : A) → i < length xs → get_or xs i d ∈ xs
  get_d_in [] i d h = absurd (omega arith)
  get_d_in (x ∷ xs) zero d h = Memᴰ.head refl
  get_d_in (x ∷ xs) (suc i) d h = Memᴰ.tail (get_d_in xs i d (omega arith))

  -- ---- nothing

  abbrev Nil : List A → Type 0
  Nil [] = Unit {0}
  Nil (x ∷ xs) = ⊥

  pub not_nothing : {x : A} {xs : List A} → x ∷ xs ≡ [] → ⊥
  not_nothing h = subst Nil (sym h) tt

  pub append_nothing : (xs ys : List A) → xs ++ ys ≡ [] → (xs ≡ []) × (ys ≡ [])
  append_nothing [] ys h = (refl, h)
  append_nothing (x ∷ xs) ys h = absurd (not_nothing h)

-- ---- concat_map

module _ {A B : Type 0} (f : A → List B) where
  pub concat_in : {x : A} {y : B} {xs : List A} → x ∈ xs → y ∈ f x → y ∈ concat_map f xs
  unfolding concat_map
  concat_in {x} {y} (Memᴰ.head {x = z} {xs = zs} q) n = Memᴰ.append_left (concat_map f zs) (subst (λ (a : A). y ∈ f a) q n)
  concat_in (Memᴰ.tail {x = z} m) n = Memᴰ.append_right (f z) (concat_in m n)

  pub concat_out : (xs : List A) {y : B} → y ∈ concat_map f xs → (x : A) × (x ∈ xs) × (y ∈ f x)
  unfolding concat_map
  concat_out [] m = elim m [ ]
  concat_out (x ∷ xs) {y} m = go (Memᴰ.append_cases (f x) m) (λ n. concat_out xs n)
    where
      go : (y ∈ f x) ⊎ (y ∈ concat_map f xs) → (y ∈ concat_map f xs → (z : A) × (z ∈ xs) × (y ∈ f z)) → (z : A) × (z ∈ x ∷ xs) × (y ∈ f z)
      go (inl n) ih = (x, Memᴰ.head refl, n)
      go (inr n) ih = let k = ih n in (k.0, Memᴰ.tail k.1, k.2)

  pub concat_nothing : (xs : List A) → concat_map f xs ≡ [] → (x : A) → x ∈ xs → f x ≡ []
  unfolding concat_map
  concat_nothing [] h x m = elim m [ ]
  concat_nothing (y ∷ ys) h x m = go m (append_nothing (f y) (concat_map f ys) h) (λ n k. concat_nothing ys n x k)
    where
      go : x ∈ y ∷ ys → (f y ≡ []) × (concat_map f ys ≡ []) → (concat_map f ys ≡ [] → x ∈ ys → f x ≡ []) → f x ≡ []
      go (Memᴰ.head q) k ih = ap f q ∙ k.0
      go (Memᴰ.tail n) k ih = ih k.1 n

  pub concat_none : (xs : List A) → ((x : A) → x ∈ xs → f x ≡ []) → concat_map f xs ≡ []
  unfolding concat_map
  concat_none [] h = refl
  concat_none (x ∷ xs) h = ap (λ (l : List B). l ++ concat_map f xs) (h x (Memᴰ.head refl)) ∙ concat_none xs (λ y m. h y (Memᴰ.tail m))

-- ---- count

pub count_out : (i n x : ℕ) → x ∈ count i n → (i ≤ x) × (x < i + n)
unfolding count
count_out i zero x m = elim m [ ]
count_out i (suc n) x m = go (Memᴰ.cases_cons m) (λ k. count_out (suc i) n x k)
  where
    go : (x ≡ i) ⊎ (x ∈ count (suc i) n) → (x ∈ count (suc i) n → (suc i ≤ x) × (x < suc i + n)) → (i ≤ x) × (x < i + suc n)
    go (inl q) ih = (omega arith, omega arith)
    go (inr k) ih = let h = ih k in (omega arith, omega arith)

pub count_in : (i n x : ℕ) → i ≤ x → x < i + n → x ∈ count i n
unfolding count
count_in i zero x a b = absurd (omega arith)
count_in i (suc n) x a b = go (less_equal_greater i x) (λ c. count_in (suc i) n x c (omega arith))
  where
    go : (i < x) ⊎ ((i ≡ x) ⊎ (x < i)) → (suc i ≤ x → x ∈ count (suc i) n) → x ∈ i ∷ count (suc i) n
    go (inl h) ih = Memᴰ.tail (ih h)
    go (inr (inl q)) ih = Memᴰ.head (sym q)
    go (inr (inr h)) ih = absurd (omega arith)

-- no number comes twice
abbrev pub Distinct : List ℕ → Type 0
Distinct [] = Unit {0}
Distinct (u ∷ us) = (u ∈ us → ⊥) × Distinct us

count_distinct : (i n : ℕ) → Distinct (count i n)
unfolding count
count_distinct i zero = tt
count_distinct i (suc n) = ((λ m. omega (arith, (count_out (suc i) n i m).0)), count_distinct (suc i) n)

filter_distinct : (p : ℕ → Bool) (xs : List ℕ) → Distinct xs → Distinct (filter p xs)
unfolding filter
filter_distinct p [] d = tt
filter_distinct p (x ∷ xs) d = go (p x) (filter_distinct p xs d.1)
  where
    go : (b : Bool) → Distinct (filter p xs) → Distinct (keep b x (filter p xs))
    go true ih = ((λ m. d.0 (filter_out p xs m).1), ih)
    go false ih = ih

-- ---- the lists of the table

pub units_distinct : (m : ℕ) → Distinct (units_of m)
unfolding units_of
units_distinct m = filter_distinct (λ u. bit u m) (count 0 64) (count_distinct 0 64)

pub units_of_out : (m u : ℕ) → u ∈ units_of m → T (bit u m) × (u < 64)
unfolding units_of
units_of_out m u k = let h = filter_out (λ (u : ℕ). bit u m) (count 0 64) k in (h.0, omega (arith, (count_out 0 64 u h.1).1))

pub units_of_in : (m u : ℕ) → u < 64 → T (bit u m) → u ∈ units_of m
unfolding units_of
units_of_in m u b t = filter_in (λ (u : ℕ). bit u m) t (count_in 0 64 u (omega arith) (omega arith))

pub on_unit_out : (u : ℕ) (t : Table) (e : Entry) → e ∈ on_unit u t → (e ∈ t) × (e.unit ≡ u)
unfolding on_unit
on_unit_out u t e m = let k = filter_out (λ (e : Entry). eqb e.unit u) t m in (k.1, eqb→eq _ _ k.0)

pub on_unit_in : (u : ℕ) (t : Table) (e : Entry) → e ∈ t → e.unit ≡ u → e ∈ on_unit u t
unfolding on_unit
on_unit_in u t e m q = filter_in (λ (e : Entry). eqb e.unit u) (eqb_in q) m

pub fixed_uses_out : (fixed : List Entry) (u : ℕ) (e : Entry) → e ∈ fixed_uses fixed u → (e ∈ fixed) × (e.unit ≡ u) × T (is_use e.reservation)
unfolding fixed_uses
fixed_uses_out fixed u e m =
    let k = filter_out (λ (e : Entry). eqb e.unit u && is_use e.reservation) fixed m in
    let l = both (eqb e.unit u) (is_use e.reservation) k.0 in
    (k.1, eqb→eq _ _ l.0, l.1)

pub fixed_uses_in : (fixed : List Entry) (u : ℕ) (e : Entry) → e ∈ fixed → e.unit ≡ u → T (is_use e.reservation) → e ∈ fixed_uses fixed u
unfolding fixed_uses
fixed_uses_in fixed u e m q h =
    filter_in (λ (e : Entry). eqb e.unit u && is_use e.reservation) (both_in (eqb e.unit u) (is_use e.reservation) (eqb_in q) h) m
