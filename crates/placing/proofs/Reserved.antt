-- Loading in lent numbers: the empty layout is that of no reservations, and a reservation put in is put into the table and, if it is a use,
-- among the fixed uses. Assumes nothing.
use Prim.Native.Nat.{ℕ, zero, suc, ◌+◌, ◌-◌, ◌*◌, ◌%◌, ◌^◌, ◌≤◌, ◌<◌}
use native.Mathlib.Omega.{arith}
use mathlib.Core.Path.{◌≡◌, refl, sym, ap, ap₂, ◌∙◌}
use mathlib.Core.Logic.{◌⊎◌, inl, inr}
use mathlib.Core.List.Memᴰ
use mathlib.Core.List.{List, [], ◌∷◌, ◌++◌, map, append_assoc, append-nil}
use mathlib.Core.Bool.{Bool, true, false, ◌&&◌}
use lib.Dec.{T, ltb, eqb}
use lib.ListN.{length, take, drop, length-append, length-take, length-drop}
use lib.Seq.{take_at, drop_at}
use borrow.Author.Tests.{lt-ltb, eq-eqb, ne_eqb}
use Rattle.reg_matrix.specs.Lists.{keep, filter, concat_map, count, padded}
use Rattle.reg_matrix.specs.Table.{Table, is_use, fixed_uses, insert}
use Rattle.reg_matrix.specs.Layout.{max_entries, max_fixed, greatest, end_word, rest_word, reservation_word, end_words, rest_words, use_word, use_words}
use Rattle.table_words.specs.Search.{place_of}
use Rattle.entries.specs.Moves.{Words, words, inserting, inserted}
use Rattle.entries.specs.Placing.{inserting_use, use_key}
use Rattle.lent.specs.Parts.{filled}
use Rattle.entries.specs.Reserving.{inserting_word}
use Rattle.reg_matrix.specs.declared.Entry.{Entry}
use Rattle.reg_matrix.specs.declared.Reservation.{Reservation}
use Rattle.reg_matrix.specs.declared.Reservation.TheVariants.{FixedDef}
use Rattle.reg_matrix.proofs.Tests.{less_equal_greater}
use Rattle.reg_matrix.proofs.Members.{◌∈◌, concat_none, count_out}
use Rattle.reg_matrix.proofs.Sorted.{Sorted}
use Rattle.reg_matrix.proofs.Chains.{Sound}
use Rattle.reg_matrix.proofs.Places.{filter_append, concat_same}
use Rattle.entries.proofs.Shifts.{filled_is}
use Rattle.placing.proofs.Standing.{SmallEnds, Stands, room_inserted, insert_stands}
use Rattle.reg_matrix.proofs.Small.{SmallEntry}
use Rattle.placing.proofs.Lying.{AllSmall, all_uses, UsesLie, first_use_lem, use_place, use_count}
use Rattle.placing.proofs.Evicted.{inserting_use_lem, units_split}

-- ---- nothing at first

filled_padded : (n d : ℕ) (xs : List ℕ) → n ≤ length xs → filled n d xs ≡ padded n d [] ++ drop n xs
unfolding padded
filled_padded n d xs h = let e : n - 0 ≡ n = omega arith in rw e (filled_is n d xs h)

pub clear_stands : (es rs : List ℕ) → max_entries ≤ length es → max_entries ≤ length rs → Stands [] (drop max_entries es) (drop max_entries rs) (words (filled max_entries greatest es) (filled max_entries 0 rs))
unfolding end_words rest_words
clear_stands es rs a b = record { few = omega arith; ends_are = filled_padded max_entries greatest es a; rests_are = filled_padded max_entries 0 rs b }

no_uses : all_uses [] ≡ []
unfolding fixed_uses filter
no_uses = concat_none (fixed_uses []) (count 0 64) (λ x m. refl)

pub clear_lies : (us : List ℕ) → max_fixed ≤ length us → UsesLie [] (drop max_fixed us) (filled max_fixed greatest us)
unfolding use_words
clear_lies us h =
    record {
      few = omega (arith, ap (λ (l : List Entry). length l) no_uses);
      are = filled_padded max_fixed greatest us h ∙ ap (λ (l : List Entry). padded max_fixed greatest (map use_word l) ++ drop max_fixed us) (sym no_uses);
    }

-- ---- one more reservation, e, behind those of `fixed`

filter_last : (p : Entry → Bool) (xs : List Entry) (e : Entry) → filter p (xs ++ e ∷ []) ≡ filter p xs ++ keep (p e) e []
unfolding filter
filter_last p xs e = filter_append p xs (e ∷ [])

module _ (fixed : List Entry) (e : Entry) where
  abbrev more : List Entry
  more = fixed ++ e ∷ []

  -- of another unit, or no use
  uses_same : (k : ℕ) → (eqb e.unit k && is_use e.reservation) ≡ false → fixed_uses more k ≡ fixed_uses fixed k
  unfolding fixed_uses
  uses_same k q = filter_last (λ x. eqb x.unit k && is_use x.reservation) fixed e ∙ rw q (append-nil (filter (λ x. eqb x.unit k && is_use x.reservation) fixed))

  uses_more : is_use e.reservation ≡ true → fixed_uses more e.unit ≡ fixed_uses fixed e.unit ++ e ∷ []
  unfolding fixed_uses
  uses_more q = filter_last (λ x. eqb x.unit e.unit && is_use x.reservation) fixed e ∙ rw (eq-eqb e.unit e.unit refl, q)

  -- a def
  pub def_lies : is_use e.reservation ≡ false → (ut uses : List ℕ) → UsesLie fixed ut uses → UsesLie more ut uses
  unfolding use_words
  def_lies q ut uses lie =
      let s : all_uses more ≡ all_uses fixed = concat_same (fixed_uses more) (fixed_uses fixed) (count 0 64) (λ k m. uses_same k (and-false (eqb e.unit k) q)) in
      record {
        few = omega (arith, lie.few, ap (λ (l : List Entry). length l) s);
        are = lie.are ∙ ap (λ (l : List Entry). padded max_fixed greatest (map use_word l) ++ ut) (sym s);
      }
    where
      and-false : (b : Bool) {c : Bool} → c ≡ false → (b && c) ≡ false
      and-false true h = h
      and-false false h = refl

  -- a use that starts after the unit's other uses
  module _ (isuse : is_use e.reservation ≡ true) (sd : Sound fixed) (sf : AllSmall fixed) (se : SmallEntry e) (after : (f : Entry) → f ∈ fixed_uses fixed e.unit → f.from < e.from) (ut uses : List ℕ) (lie : UsesLie fixed ut uses) (room : length (all_uses fixed) < max_fixed) where
    u : ℕ
    u = e.unit

    front : List Entry
    front = concat_map (fixed_uses fixed) (count 0 u)

    later : List Entry
    later = concat_map (fixed_uses fixed) (count (suc u) (64 - suc u))

    other : (k : ℕ) → (e.unit ≡ k → ⊥) → fixed_uses more k ≡ fixed_uses fixed k
    other k h = uses_same k (rw (ne_eqb e.unit k h))

    old : all_uses fixed ≡ front ++ (fixed_uses fixed u ++ later)
    unfolding u front later
    old =
        let z : u - 0 ≡ u = omega arith in
        units_split fixed u 0 64 (omega arith) (omega (arith, se.unit)) ∙ ap (λ (n : ℕ). concat_map (fixed_uses fixed) (count 0 n) ++ (fixed_uses fixed u ++ later)) z

    new : all_uses more ≡ front ++ ((fixed_uses fixed u ++ e ∷ []) ++ later)
    unfolding u front later
    new =
        let z : u - 0 ≡ u = omega arith in
        units_split more u 0 64 (omega arith) (omega (arith, se.unit))
        ∙ ap (λ (n : ℕ). concat_map (fixed_uses more) (count 0 n) ++ (fixed_uses more u ++ concat_map (fixed_uses more) (count (suc u) (64 - suc u)))) z
        ∙ ap₂ (λ (a b : List Entry). a ++ b)
        (concat_same (fixed_uses more) (fixed_uses fixed) (count 0 u) (λ k m. other k (λ q. omega (arith, (count_out 0 u k m).1, q))))
        (ap₂ (λ (a b : List Entry). a ++ b) (uses_more isuse)
        (concat_same (fixed_uses more) (fixed_uses fixed) (count (suc u) (64 - suc u)) (λ k m. other k (λ q. omega (arith, (count_out (suc u) (64 - suc u) k m).0, q)))))

    us : List Entry
    us = fixed_uses fixed u

    place : ℕ
    place = length front + length us

    old_two : all_uses fixed ≡ (front ++ us) ++ later
    unfolding us
    old_two = old ∙ sym (append_assoc front (fixed_uses fixed u) later)

    put_is : take place (all_uses fixed) ++ e ∷ drop place (all_uses fixed) ≡ all_uses more
    unfolding place us
    put_is =
        let l : length (front ++ us) ≡ place = length-append front us in
        ap (λ (x : List Entry). take place x ++ e ∷ drop place x) old_two
        ∙ ap₂ (λ (a b : List Entry). a ++ e ∷ b) (take_at (front ++ us) later place l) (drop_at (front ++ us) later place l)
        ∙ append_assoc front us (e ∷ later)
        ∙ ap (λ (l : List Entry). front ++ l) (sym (append_assoc us (e ∷ []) later))
        ∙ sym new

    within : place ≤ length (all_uses fixed)
    unfolding place
    within = omega (arith, ap (λ (x : List Entry). length x) old_two, length-append (front ++ us) later, length-append front us)

    filter_all : (p : Entry → Bool) (xs : List Entry) → ((x : Entry) → x ∈ xs → p x ≡ true) → filter p xs ≡ xs
    unfolding filter
    filter_all p [] h = refl
    filter_all p (x ∷ xs) h = rw (h x (Memᴰ.head refl)) (ap (λ l. x ∷ l) (filter_all p xs (λ y m. h y (Memᴰ.tail m))))

    found_place : place_of max_fixed uses (use_word e - use_word e % 2 ^ 16) ≡ place
    unfolding place us u front first_use_lem
    found_place =
        let k : use_word e - use_word e % 2 ^ 16 ≡ use_key e.unit e.from = omega (arith, se.value) in
        ap (place_of max_fixed uses) k
        ∙ use_place fixed sd sf ut uses lie e.unit se.unit e.from (omega (arith, se.from))
        ∙ ap (λ (l : List Entry). length front + length l) (filter_all (λ x. ltb x.from e.from) us (λ x m. lt-ltb x.from e.from (after x m)))

    pub use_lies : UsesLie more ut (inserting_word (use_word e) uses)
    unfolding inserting_word use_words
    use_lies =
        let n = use_count fixed sd sf ut uses lie in
        record {
          few = omega (arith, room, within, ap (λ (x : List Entry). length x) put_is, ap (λ (x : List Entry). length x) old_two, put_length);
          are =
              rw (n, lt-ltb (length (all_uses fixed)) max_fixed room, found_place)
              (ap (λ (l : List ℕ). inserted (length (all_uses fixed) + 1) place (use_word e) l) lie.are
              ∙ room_inserted max_fixed use_word greatest (all_uses fixed) ut e place room within
              ∙ ap (λ (l : List Entry). padded max_fixed greatest (map use_word l) ++ ut) put_is);
        }
      where
        put_length : length (take place (all_uses fixed) ++ e ∷ drop place (all_uses fixed)) ≡ suc (length (all_uses fixed))
        put_length =
            length-append (take place (all_uses fixed)) (e ∷ drop place (all_uses fixed))
            ∙ omega (arith, within, length-take place (all_uses fixed), length-drop place (all_uses fixed))

-- ---- and in the table

module _ (t : Table) (et rt : List ℕ) (w : Words) (st : Stands t et rt w) (so : Sorted t) (sm : SmallEnds t) (room : length t < max_entries) (e : Entry) (se : SmallEntry e) where
  pub use_stands : T (is_use e.reservation) → Stands (insert e t) et rt (inserting_use (use_word e) w)
  use_stands h = rw (inserting_use_lem e se h w) (insert_stands t et rt w st so sm room e (record { unit = se.unit; to = se.to }))

  pub def_stands : e.reservation ≡ FixedDef → Stands (insert e t) et rt (inserting (end_word e) (e.from * 2 ^ 32) w)
  def_stands h =
      let q : e.from * 2 ^ 32 ≡ rest_word e = sym (ap (λ (r : Reservation). e.from * 2 ^ 32 + reservation_word r) h ∙ omega arith) in
      rw q (insert_stands t et rt w st so sm room e (record { unit = se.unit; to = se.to }))

-- ---- no more uses than reservations

module _ (x : Entry) (xs : List Entry) where
  skips : (k : ℕ) → (x.unit ≡ k → ⊥) → fixed_uses (x ∷ xs) k ≡ fixed_uses xs k
  unfolding fixed_uses filter
  skips k h = rw (ne_eqb x.unit k h)

  one_longer : (k : ℕ) → length (fixed_uses (x ∷ xs) k) ≤ suc (length (fixed_uses xs k))
  unfolding fixed_uses filter
  one_longer k = go (eqb x.unit k && is_use x.reservation)
    where
      go : (b : Bool) → length (keep b x (fixed_uses xs k)) ≤ suc (length (fixed_uses xs k))
      go true = omega arith
      go false = omega arith

  one_more_use : (k n : ℕ) → length (concat_map (fixed_uses (x ∷ xs)) (count k n)) ≤ suc (length (concat_map (fixed_uses xs) (count k n)))
  unfolding concat_map count
  one_more_use k zero = omega arith
  one_more_use k (suc n) = go (split (less_equal_greater x.unit k)) (one_more_use (suc k) n)
    where
      split : (x.unit < k) ⊎ ((x.unit ≡ k) ⊎ (k < x.unit)) → (x.unit ≡ k) ⊎ (x.unit ≡ k → ⊥)
      split (inl h) = inr (λ q. omega arith)
      split (inr (inl q)) = inl q
      split (inr (inr h)) = inr (λ q. omega arith)

      go :
          (x.unit ≡ k) ⊎ (x.unit ≡ k → ⊥)
          → length (concat_map (fixed_uses (x ∷ xs)) (count (suc k) n)) ≤ suc (length (concat_map (fixed_uses xs) (count (suc k) n)))
          → length (fixed_uses (x ∷ xs) k ++ concat_map (fixed_uses (x ∷ xs)) (count (suc k) n)) ≤ suc (length (fixed_uses xs k ++ concat_map (fixed_uses xs) (count (suc k) n)))
      go (inl q) ih =
          let s : concat_map (fixed_uses (x ∷ xs)) (count (suc k) n) ≡ concat_map (fixed_uses xs) (count (suc k) n) =
          concat_same (fixed_uses (x ∷ xs)) (fixed_uses xs) (count (suc k) n) (λ j m. skips j (λ p. omega (arith, p, q, (count_out (suc k) n j m).0))) in
          rw s (omega (arith, one_longer k, length-append (fixed_uses (x ∷ xs) k) (concat_map (fixed_uses xs) (count (suc k) n)), length-append (fixed_uses xs k) (concat_map (fixed_uses xs) (count (suc k) n))))
      go (inr q) ih =
          rw (skips k q)
          (omega (arith, ih, length-append (fixed_uses xs k) (concat_map (fixed_uses (x ∷ xs)) (count (suc k) n)), length-append (fixed_uses xs k) (concat_map (fixed_uses xs) (count (suc k) n))))

pub uses_few : (fixed : List Entry) → length (all_uses fixed) ≤ length fixed
uses_few [] = omega (arith, ap (λ (l : List Entry). length l) no_uses)
uses_few (x ∷ xs) = omega (arith, one_more_use x xs 0 64, uses_few xs)
