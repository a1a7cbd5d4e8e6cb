-- What is read of a table that is laid out in numbers (Layout.antt): an entry and a fixed use whose numbers fit their fields come back, in
-- order, and past the last there are none. Assumes nothing.
use Prim.Native.Nat.{ℕ, zero, suc, ◌+◌, ◌-◌, ◌*◌, ◌/◌, ◌%◌, ◌^◌, ◌<◌, ◌≤◌}
use native.Mathlib.Numerals.{add-one}
use native.Mathlib.Omega.{arith}
use mathlib.Core.Path.{◌≡◌, refl, ap}
use mathlib.Core.Logic.{◌⊎◌, inl, inr}
use mathlib.Core.List.Memᴰ
use mathlib.Core.List.{List, [], ◌∷◌, ◌++◌, map}
use lib.ListN.{length, drop, get_or, replicate, get_or-replicate}
use borrow.Author.Tests.{lt-ltb, le-ltb, ne_eqb}
use Rattle.reg_matrix.specs.Layout.{greatest, end_word, rest_word, reservation_word, use_word, use_value, reservation_of, entry_of, use_of}
use Rattle.table_words.specs.Search.{Rises}
use Rattle.reg_matrix.specs.declared.Entry.{Entry}
use Rattle.std.specs.Prelude.{Option, Some, None}
use Rattle.reg_matrix.specs.declared.Reservation.{Reservation}
use Rattle.reg_matrix.specs.declared.Reservation.TheVariants.{Held, FixedUse, FixedDef}
use Rattle.reg_matrix.proofs.Members.{◌∈◌}

-- ---- numbers that fit their fields

abbrev pub SmallIndex : Option ℕ → Type 0
SmallIndex None = Unit {0}
SmallIndex (Some i) = i + 1 < 2 ^ 16

abbrev pub SmallReservation : Reservation → Type 0
SmallReservation FixedDef = Unit {0}
SmallReservation (FixedUse x) = x < 2 ^ 16
SmallReservation (Held v i) = (v + 2 < 2 ^ 16) × SmallIndex i

pub record Small (e : Entry) : Type 0 where
  pub unit : e.unit < 64
  pub from : e.from < 2 ^ 32
  pub to : e.to < 2 ^ 32
  pub reservation : SmallReservation e.reservation

-- a fixed use
pub record SmallUse (e : Entry) : Type 0 where
  pub unit : e.unit < 64
  pub to : e.to < 2 ^ 32
  pub two : e.to ≡ e.from + 2
  pub value : use_value e.reservation < 2 ^ 16
  pub isuse : e.reservation ≡ FixedUse (use_value e.reservation)

-- ---- and back

pub fits_word : (r : Reservation) → SmallReservation r → reservation_word r < 2 ^ 32
fits_word FixedDef h = omega arith
fits_word (FixedUse x) h = omega arith
fits_word (Held v None) h = omega arith
fits_word (Held v (Some i)) h = omega arith

reservation_back : (r : Reservation) → SmallReservation r → reservation_of (reservation_word r) ≡ r
unfolding reservation_of
reservation_back FixedDef h = refl
reservation_back (FixedUse x) h =
    let a : (x + 1 - 1) % 2 ^ 16 ≡ x = omega arith in
    rw (ne_eqb (x + 1) 0 (λ q. omega arith), lt-ltb (x + 1) (2 ^ 17) (omega arith), a)
reservation_back (Held v None) h =
    let w = (v + 2) * 2 ^ 16 + 0 in
    let a : w / 2 ^ 16 - 2 ≡ v = omega arith in
    let b : w % 2 ^ 16 ≡ 0 = omega arith in
    rw (ne_eqb w 0 (λ q. omega arith), le-ltb w (2 ^ 17) (omega arith), a, b)
reservation_back (Held v (Some i)) h =
    let w = (v + 2) * 2 ^ 16 + (i + 1) in
    let a : w / 2 ^ 16 - 2 ≡ v = omega arith in
    let b : w % 2 ^ 16 ≡ i + 1 = omega arith in
    let d : i + 1 - 1 ≡ i = omega arith in
    rw (ne_eqb w 0 (λ q. omega arith), le-ltb w (2 ^ 17) (omega arith), a, b, ne_eqb (i + 1) 0 (λ q. omega arith), d)

pub entry_back : (e : Entry) → Small e → entry_of (end_word e) (rest_word e) ≡ e
unfolding entry_of
entry_back e h =
    let f = fits_word e.reservation h.reservation in
    let a : end_word e / 2 ^ 32 % 256 ≡ e.unit = omega (arith, h.unit, h.to) in
    let b : rest_word e / 2 ^ 32 ≡ e.from = omega (arith, f) in
    let c : end_word e % 2 ^ 32 ≡ e.to = omega (arith, h.to) in
    let d : rest_word e % 2 ^ 32 ≡ reservation_word e.reservation = omega (arith, f) in
    rw (a, b, c, d, reservation_back e.reservation h.reservation)

pub use_back : (e : Entry) → SmallUse e → use_of (use_word e) ≡ e
unfolding use_of
use_back e h =
    let a : use_word e / 2 ^ 48 % 256 ≡ e.unit = omega (arith, h.unit, h.to, h.two, h.value) in
    let b : use_word e / 2 ^ 16 % 2 ^ 32 ≡ e.from = omega (arith, h.unit, h.to, h.two, h.value) in
    let c : (e.from + 2) % 2 ^ 32 ≡ e.to = omega (arith, h.to, h.two) in
    let d : use_word e % 2 ^ 16 ≡ use_value e.reservation = omega (arith, h.value) in
    rw (a, b, c, d, ← h.isuse)

pub use_value_lem : (e : Entry) → SmallUse e → use_word e % 2 ^ 16 ≡ use_value e.reservation
use_value_lem e h = omega (arith, h.value)

-- ---- a list from a place on

module _ {A : Type 0} where
  pub drop_next : (i : ℕ) (t : List A) (x : A) (xs : List A) → drop i t ≡ x ∷ xs → drop (i + 1) t ≡ xs
  drop_next i [] x xs q = absurd (none i q)
    where
      none : (i : ℕ) → drop i [] ≡ x ∷ xs → ⊥
      none zero q = let z : ◌≡◌ {A = ℕ} 0 1 = cc in omega arith
      none (suc i) q = let z : ◌≡◌ {A = ℕ} 0 1 = cc in omega arith
  drop_next zero (y ∷ ys) x xs q = cc
  drop_next (suc i) (y ∷ ys) x xs q = rw (add-one (suc i)) (rw (add-one i) at (drop_next i ys x xs q))

  pub drop_inside : (i : ℕ) (t : List A) (x : A) (xs : List A) → drop i t ≡ x ∷ xs → i < length t
  drop_inside zero [] x xs q = let z : ◌≡◌ {A = ℕ} 0 1 = cc in absurd (omega arith)
  drop_inside (suc i) [] x xs q = let z : ◌≡◌ {A = ℕ} 0 1 = cc in absurd (omega arith)
  drop_inside zero (y ∷ ys) x xs q = omega arith
  drop_inside (suc i) (y ∷ ys) x xs q = omega (arith, drop_inside i ys x xs q)

  pub drop_past : (i : ℕ) (t : List A) → drop i t ≡ [] → length t ≤ i
  drop_past i [] q = omega arith
  drop_past zero (y ∷ ys) q = let z : ◌≡◌ {A = ℕ} 0 1 = cc in absurd (omega arith)
  drop_past (suc i) (y ∷ ys) q = omega (arith, drop_past i ys q)

module _ {A : Type 0} (f : A → ℕ) where
  pub word_at : (r : List ℕ) (i : ℕ) (t : List A) (x : A) (xs : List A) → drop i t ≡ x ∷ xs → get_or (map f t ++ r) i 0 ≡ f x
  word_at r zero [] x xs q = let z : ◌≡◌ {A = ℕ} 0 1 = cc in absurd (omega arith)
  word_at r (suc i) [] x xs q = let z : ◌≡◌ {A = ℕ} 0 1 = cc in absurd (omega arith)
  word_at r zero (y ∷ ys) x xs q = ap f (same q)
    where
      same : y ∷ ys ≡ x ∷ xs → y ≡ x
      same p = cc
  word_at r (suc i) (y ∷ ys) x xs q = word_at r i ys x xs q

  pub word_past : (d k i : ℕ) (t : List A) → length t ≤ i → i < length t + k → get_or (map f t ++ replicate k d) i 0 ≡ d
  word_past d k i [] h l = get_or-replicate k i d 0 (omega arith)
  word_past d k zero (y ∷ ys) h l = absurd (omega arith)
  word_past d k (suc i) (y ∷ ys) h l = word_past d k i ys (omega arith) (omega arith)

-- ---- the numbers rise

pub rises_append : (xs ys : List ℕ) → Rises xs → Rises ys → ((x y : ℕ) → x ∈ xs → y ∈ ys → x ≤ y) → Rises (xs ++ ys)
rises_append [] ys a b h = b
rises_append (x ∷ xs) ys a b h = (first, rises_append xs ys a.1 b (λ p q m n. h p q (Memᴰ.tail m) n))
  where
    first : (y : ℕ) → y ∈ xs ++ ys → x ≤ y
    first y m = go (Memᴰ.append_cases xs m)
      where
        go : (y ∈ xs) ⊎ (y ∈ ys) → x ≤ y
        go (inl n) = a.0 y n
        go (inr n) = h x y (Memᴰ.head refl) n

pub replicate_in : (k d y : ℕ) → y ∈ replicate k d → y ≡ d
replicate_in zero d y m = elim m [ ]
replicate_in (suc k) d y m = go (Memᴰ.cases_cons m) (λ n. replicate_in k d y n)
  where
    go : (y ≡ d) ⊎ (y ∈ replicate k d) → (y ∈ replicate k d → y ≡ d) → y ≡ d
    go (inl q) ih = q
    go (inr n) ih = ih n

pub replicate_rises : (k d : ℕ) → Rises (replicate k d)
replicate_rises zero d = tt
replicate_rises (suc k) d = ((λ y m. omega (arith, replicate_in k d y m)), replicate_rises k d)

pub map_out : {A : Type 0} (f : A → ℕ) (xs : List A) (y : ℕ) → y ∈ map f xs → (x : A) × (x ∈ xs) × (y ≡ f x)
map_out f [] y m = elim m [ ]
map_out f (x ∷ xs) y m = go (Memᴰ.cases_cons m) (λ n. map_out f xs y n)
  where
    go : (y ≡ f x) ⊎ (y ∈ map f xs) → (y ∈ map f xs → (z : _) × (z ∈ xs) × (y ≡ f z)) → (z : _) × (z ∈ x ∷ xs) × (y ≡ f z)
    go (inl q) ih = (x, Memᴰ.head refl, q)
    go (inr n) ih = let k = ih n in (k.0, Memᴰ.tail k.1, k.2)

-- the greatest number is above every use
pub uses_below : (e : Entry) → SmallUse e → use_word e ≤ greatest
uses_below e h = omega (arith, h.unit, h.to, h.two, h.value)
