-- Evicting in lent numbers evicts from the table: where the table of a cell and others stands in the slices, the table without the cell stands
-- there afterwards. Assumes nothing.
use Prim.Native.Nat.{ℕ, zero, suc, ◌+◌, ◌-◌, ◌/◌, ◌%◌, ◌^◌, ◌≤◌, ◌<◌}
use native.Mathlib.Omega.{arith}
use native.Mathlib.Decide.{dec_lt}
use mathlib.Core.Path.{◌≡◌, refl, sym, ap, ◌∙◌, subst}
use mathlib.Core.Logic.{◌⊎◌, inl, inr}
use mathlib.Core.Option.{Option, some}
use mathlib.Core.List.Memᴰ
use mathlib.Core.List.{List, [], ◌∷◌, ◌++◌, map, map-append, append_assoc}
use mathlib.Core.Bool.{Bool, true, false, not, ◌&&◌}
use lib.Dec.{T, ltb, eqb, ltb→lt, eqb→eq}
use lib.ListN.{length, drop, get_or, replicate, length-append, length-map}
use lib.Seq.{drop-drop, get_or-drop, drop-append-add, drop-append-le}
use borrow.Author.Tests.{lt-ltb, eq-eqb, ne_eqb, ltb-false}
use Rattle.reg_matrix.specs.Lists.{keep, filter, first, put_before, insert_by, foldl, concat_map, count, padded}
use Rattle.reg_matrix.specs.Table.{Table, is_use, before, fixed_uses, insert, insert_all}
use Rattle.reg_matrix.specs.Assign.{fixed_index, entry_of, held_by, uses_from, put_back, evict_segment}
use Rattle.reg_matrix.specs.Layout.{max_entries, max_fixed, greatest, end_word, rest_word, end_words, rest_words, reservation_word, index_word, use_value, use_word, use_words}
use Rattle.table_words.specs.Search.{place_of, below}
use Rattle.entries.specs.Moves.{Words, inserting, removing}
use Rattle.entries.specs.Placing.{inserting_use, inserting_uses, is_own, first_under, evicting_segment, unit_key}
use Rattle.reg_matrix.specs.declared.Entry.{Entry}
use Rattle.std.specs.Prelude.{Option as Maybe, Some, None}
use Rattle.reg_matrix.specs.declared.Reservation.{Reservation}
use Rattle.reg_matrix.specs.declared.Reservation.TheVariants.{Held, FixedUse, FixedDef}
use Rattle.reg_matrix.proofs.Members.{◌∈◌, filter_out, filter_none, drop_out, fixed_uses_out}
use Rattle.reg_matrix.proofs.Sorted.{Before, before→, below_in, below_out, Sorted, insert_there, insert_out}
use Rattle.reg_matrix.proofs.Cells.{Nonempty, Cell, entry_for, cell, IsTable, Free}
use Rattle.reg_matrix.proofs.Tests.{both, never}
use Rattle.reg_matrix.proofs.Evicting.{evict_cell}
use Rattle.reg_matrix.proofs.Capacity.{capacity, held_index, held_index_fixed}
use Rattle.placing.proofs.Placed.{SmallCell}
use Rattle.reg_matrix.proofs.Chains.{Chain, chain_drop, Sound, uses_nonempty}
use Rattle.reg_matrix.proofs.Small.{SmallEntry}
use Rattle.placing.proofs.Lying.{AllSmall, all_uses, UsesLie, first_use_lem, use_place, unit_place}
use Rattle.placing.proofs.Standing.{below_step, below_past, below_none, SmallEnd, SmallEnds, word_small, words_above, Stands, found, insert_stands, insert_length, remove_stands, among_more}

-- ---- what stands before an insertion is sorted if what stands after it is

pub sorted_before : (e : Entry) (t : Table) → Sorted (insert e t) → Sorted t
unfolding insert insert_by
sorted_before e [] h = tt
sorted_before e (x ∷ t) h = go (before e x) h (λ k. sorted_before e t k)
  where
    go : (b : Bool) → Sorted (put_before b e x t (insert e t)) → (Sorted (insert e t) → Sorted t) → Sorted (x ∷ t)
    go true k ih = k.1
    go false k ih = (below_in x t (λ y m. below_out x k.0 (insert_there e m)), ih k.1)

pub sorted_before_all : (bs : List Entry) (t : Table) → Sorted (insert_all bs t) → Sorted t
unfolding insert_all foldl
sorted_before_all [] t h = h
sorted_before_all (b ∷ bs) t h = sorted_before b t (sorted_before_all bs (insert b t) h)

pub insert_all_length : (bs : List Entry) (t : Table) → length (insert_all bs t) ≡ length bs + length t
unfolding insert_all foldl
insert_all_length [] t = omega arith
insert_all_length (b ∷ bs) t = insert_all_length bs (insert b t) ∙ omega (arith, insert_length b t)

-- ---- entries that go in one after another

unfoldable pub inserting_all : List Entry → Words → Words
inserting_all es w = foldl (λ w e. inserting (end_word e) (rest_word e) w) w es

pub insert_all_stands :
    (bs : List Entry) (t : Table) (et rt : List ℕ) (w : Words)
    → Stands t et rt w
    → Sorted (insert_all bs t)
    → SmallEnds t
    → SmallEnds bs
    → length (insert_all bs t) ≤ max_entries
    → Stands (insert_all bs t) et rt (inserting_all bs w)
unfolding insert_all inserting_all foldl
insert_all_stands [] t et rt w st so sm sb room = st
insert_all_stands (b ∷ bs) t et rt w st so sm sb room =
    insert_all_stands bs (insert b t) et rt (inserting (end_word b) (rest_word b) w)
    (insert_stands t et rt w st (sorted_before_all (b ∷ bs) t so) sm (omega (arith, insert_all_length (b ∷ bs) t)) b (sb b (Memᴰ.head refl)))
    so
    (λ e m. go e (insert_out t m))
    (λ e m. sb e (Memᴰ.tail m))
    room
  where
    go : (e : Entry) → (e ≡ b) ⊎ (e ∈ t) → SmallEnd e
    go e (inl q) = subst SmallEnd (sym q) (sb b (Memᴰ.head refl))
    go e (inr m) = sm e m

-- ---- a table in two parts, before and after one of its entries

pub record Around (k : Entry) (t : Table) : Type 0 where
  pub front : Table
  pub back : Table
  pub whole : t ≡ front ++ k ∷ back

pub around : {k : Entry} {t : Table} → k ∈ t → Around k t
around {k} (Memᴰ.head {x = x} {xs = xs} q) = record { front = []; back = xs; whole = ap (λ (e : Entry). e ∷ xs) (sym q) }
around {k} (Memᴰ.tail {x = x} m) =
    let r = around m in
    record { front = x ∷ r.front; back = r.back; whole = ap (λ l. x ∷ l) r.whole }

pub around_place : (k : Entry) (xs ys : Table) → Sorted (xs ++ k ∷ ys) → SmallEnds (xs ++ k ∷ ys) → below (end_word k) (map end_word (xs ++ k ∷ ys)) ≡ length xs
around_place k [] ys so sm =
    below_past (end_word k) (end_word k) (map end_word ys) (omega arith)
    ∙ below_none (end_word k) (map end_word ys)
    (λ y m. let z = words_above k ys so.0 (sm k (Memᴰ.head refl)) (λ e n. sm e (Memᴰ.tail n)) y m in omega (arith, z))
around_place k (x ∷ xs) ys so sm =
    let h = words_above x (xs ++ k ∷ ys) so.0 (sm x (Memᴰ.head refl)) (λ e n. sm e (Memᴰ.tail n)) (end_word k) (Memᴰ.map end_word (Memᴰ.append_right xs (Memᴰ.head refl))) in
    below_step (end_word k) (end_word x) (map end_word (xs ++ k ∷ ys)) h ∙ ap suc (around_place k xs ys so.1 (λ e n. sm e (Memᴰ.tail n)))

-- what passes the test is k alone
module _ (p : Entry → Bool) (k : Entry) (pass : p k ≡ true) where
  around_others : (xs ys : Table) → ((e : Entry) → e ∈ xs → p e ≡ false) → ((e : Entry) → e ∈ ys → p e ≡ false) → filter (λ e. not (p e)) (xs ++ k ∷ ys) ≡ xs ++ ys
  unfolding filter
  around_others [] ys a b = rw pass (all ys b)
    where
      all : (ys : Table) → ((e : Entry) → e ∈ ys → p e ≡ false) → filter (λ e. not (p e)) ys ≡ ys
      all [] b = refl
      all (y ∷ ys) b = rw (b y (Memᴰ.head refl)) (ap (λ l. y ∷ l) (all ys (λ e m. b e (Memᴰ.tail m))))
  around_others (x ∷ xs) ys a b = rw (a x (Memᴰ.head refl)) (ap (λ l. x ∷ l) (around_others xs ys (λ e m. a e (Memᴰ.tail m)) b))

  around_first : (xs ys : Table) → ((e : Entry) → e ∈ xs → p e ≡ false) → first p (xs ++ k ∷ ys) ≡ some k
  unfolding first
  around_first [] ys a = rw pass
  around_first (x ∷ xs) ys a = rw (a x (Memᴰ.head refl)) (around_first xs ys (λ e m. a e (Memᴰ.tail m)))

-- of a sorted table, nothing but k has its unit and end
around_before : (k : Entry) (xs ys : Table) → Sorted (xs ++ k ∷ ys) → (e : Entry) → e ∈ xs → T (before e k)
around_before k [] ys so e x'' = elim x'' [ ]
around_before k (x ∷ xs) ys so e (Memᴰ.head q) = subst (λ (z : Entry). T (before z k)) (sym q) (below_out x so.0 (Memᴰ.append_right xs (Memᴰ.head refl)))
around_before k (x ∷ xs) ys so e (Memᴰ.tail m) = around_before k xs ys so.1 e m

around_after : (k : Entry) (xs ys : Table) → Sorted (xs ++ k ∷ ys) → (e : Entry) → e ∈ ys → T (before k e)
around_after k [] ys so e m = below_out k so.0 m
around_after k (x ∷ xs) ys so e m = around_after k xs ys so.1 e m

not_before : (a b : Entry) → a.unit ≡ b.unit → a.to ≡ b.to → T (before a b) → ⊥
unfolding Before
not_before a b p q h = go (before→ a b h)
  where
    go : Before a b → ⊥
    go (inl k) = omega (arith, p)
    go (inr k) = omega (arith, q, k.1)

-- ---- fixed uses that go in are entries that go in

use_rest : (r : Reservation) → T (is_use r) → reservation_word r ≡ use_value r + 1
use_rest (Held v i) h = absurd h
use_rest (FixedUse x) h = refl
use_rest FixedDef h = absurd h

pub inserting_use_lem : (e : Entry) → SmallEntry e → T (is_use e.reservation) → (w : Words) → inserting_use (use_word e) w ≡ inserting (end_word e) (rest_word e) w
unfolding inserting_use
inserting_use_lem e s h w =
    let a : use_word e / 2 ^ 48 ≡ e.unit = omega (arith, s.from, s.value) in
    let b : use_word e / 2 ^ 16 % 2 ^ 32 ≡ e.from = omega (arith, s.from, s.value) in
    let c : use_word e % 2 ^ 16 ≡ use_value e.reservation = omega (arith, s.from, s.value) in
    let d : e.to ≡ e.from + 2 = s.two h in
    rw (a, b, c, ← d, ← use_rest e.reservation h)

-- uses that start before a point, of a chain: they come first
module _ (p : ℕ) where
  abbrev early : Entry → Bool
  early e = ltb e.from p

  none_early : (x : Entry) (us : List Entry) → Nonempty (x ∷ us) → Chain (x ∷ us) → ltb x.from p ≡ false → (y : Entry) → y ∈ us → T (early y) → ⊥
  none_early x us ne ch q y m t = omega (arith, ne x (Memᴰ.head refl), ch.0 y m, ltb-false x.from p q, ltb→lt y.from p t)

  early_drop : (us : List Entry) (i : ℕ) → Nonempty us → Chain us → length (filter early (drop i us)) ≡ length (filter early us) - i
  unfolding filter
  early_drop us zero ne ch = omega arith
  early_drop [] (suc i) ne ch = omega arith
  early_drop (x ∷ us) (suc i) ne ch = go (ltb x.from p) refl (early_drop us i (λ y m. ne y (Memᴰ.tail m)) ch.1)
    where
      go : (b : Bool) → ltb x.from p ≡ b → length (filter early (drop i us)) ≡ length (filter early us) - i → length (filter early (drop i us)) ≡ length (keep (ltb x.from p) x (filter early us)) - suc i
      go true q ih = rw q (ih ∙ omega arith)
      go false q ih =
          let a : filter early us ≡ [] = filter_none early us (none_early x us ne ch q) in
          let b : filter early (drop i us) ≡ [] = filter_none early (drop i us) (λ y m. none_early x us ne ch q y (drop_out i us m)) in
          rw (q, a, b) (omega arith)

  inserting_uses_lem :
      (zs : List Entry) (j : ℕ) (uses r : List ℕ) (w : Words)
      → drop j uses ≡ map use_word zs ++ r
      → Nonempty zs
      → Chain zs
      → ((e : Entry) → e ∈ zs → SmallEntry e × T (is_use e.reservation))
      → inserting_uses (length (filter early zs)) j uses w ≡ inserting_all (filter early zs) w
  unfolding inserting_uses inserting_all foldl filter
  inserting_uses_lem [] j uses r w q ne ch h = refl
  inserting_uses_lem (z ∷ zs) j uses r w q ne ch h = go (ltb z.from p) refl (λ v. inserting_uses_lem zs (j + 1) uses r v tail (λ y m. ne y (Memᴰ.tail m)) ch.1 (λ e m. h e (Memᴰ.tail m)))
    where
      tail : drop (j + 1) uses ≡ map use_word zs ++ r
      tail = sym (drop-drop 1 j uses) ∙ ap (drop 1) q

      head : get_or uses j 0 ≡ use_word z
      head = let e : j + 0 ≡ j = omega arith in ap (λ (n : ℕ). get_or uses n 0) (sym e) ∙ sym (get_or-drop j uses 0 0) ∙ ap (λ (l : List ℕ). get_or l 0 0) q

      go :
          (b : Bool)
          → ltb z.from p ≡ b
          → ((v : Words) → inserting_uses (length (filter early zs)) (j + 1) uses v ≡ inserting_all (filter early zs) v)
          → inserting_uses (length (keep (ltb z.from p) z (filter early zs))) j uses w ≡ inserting_all (keep (ltb z.from p) z (filter early zs)) w
      go true e ih =
          let k = h z (Memᴰ.head refl) in
          rw e
          (ap (λ (v : Words). inserting_uses (length (filter early zs)) (j + 1) uses v)
          (ap (λ (x : ℕ). inserting_use x w) head ∙ inserting_use_lem z k.0 k.1 w)
          ∙ ih (inserting (end_word z) (rest_word z) w))
      go false e ih = rw (e, filter_none early zs (none_early z zs ne ch e))

-- ---- the fixed uses of a unit, in their slice

map_drop : (f : Entry → ℕ) (i : ℕ) (us : List Entry) → drop i (map f us) ≡ map f (drop i us)
map_drop f zero us = refl
map_drop f (suc i) [] = refl
map_drop f (suc i) (x ∷ us) = map_drop f i us

module _ (fixed : List Entry) (u : ℕ) where
  pub units_split :
      (k n : ℕ)
      → k ≤ u
      → u < k + n
      → concat_map (fixed_uses fixed) (count k n) ≡ concat_map (fixed_uses fixed) (count k (u - k)) ++ (fixed_uses fixed u ++ concat_map (fixed_uses fixed) (count (suc u) (k + n - suc u)))
  unfolding concat_map count
  units_split k zero a b = absurd (omega arith)
  units_split k (suc n) a b = go (dec_lt k u) (λ c. units_split (suc k) n c (omega arith))
    where
      Goal : Type 0
      Goal = concat_map (fixed_uses fixed) (count k (suc n)) ≡ concat_map (fixed_uses fixed) (count k (u - k)) ++ (fixed_uses fixed u ++ concat_map (fixed_uses fixed) (count (suc u) (k + suc n - suc u)))

      go :
          Dec (k < u)
          → (suc k ≤ u → concat_map (fixed_uses fixed) (count (suc k) n) ≡ concat_map (fixed_uses fixed) (count (suc k) (u - suc k)) ++ (fixed_uses fixed u ++ concat_map (fixed_uses fixed) (count (suc u) (suc k + n - suc u))))
          → Goal
      go (yes c) ih =
          let e : u - k ≡ suc (u - suc k) = omega arith in
          let d : k + suc n - suc u ≡ suc k + n - suc u = omega arith in
          rw (e, d, ih c, append_assoc)
      go (no c) ih =
          let q : k ≡ u = omega arith in
          let e : u - k ≡ 0 = omega arith in
          let d : k + suc n - suc u ≡ n = omega arith in
          rw (e, d, q)

  module _ (sd : Sound fixed) (sf : AllSmall fixed) (ut uses : List ℕ) (lie : UsesLie fixed ut uses) (small : u < 64) where
    pub uses_of_unit : (i : ℕ) → i ≤ length (fixed_uses fixed u) → (r : List ℕ) × (drop (first_use_lem fixed sd sf ut uses lie u small + i) uses ≡ map use_word (drop i (fixed_uses fixed u)) ++ r)
    unfolding use_words padded first_use_lem
    uses_of_unit i h = (drop 0 (map use_word later ++ rest), ap (drop (length front + i)) is ∙ skip)
      where
        front : List Entry
        front = concat_map (fixed_uses fixed) (count 0 u)

        us : List Entry
        us = fixed_uses fixed u

        later : List Entry
        later = concat_map (fixed_uses fixed) (count (suc u) (64 - suc u))

        rest : List ℕ
        rest = replicate (max_fixed - length (map use_word (all_uses fixed))) greatest ++ ut

        split : all_uses fixed ≡ front ++ (us ++ later)
        split =
            let z : u - 0 ≡ u = omega arith in
            units_split 0 64 (omega arith) (omega arith) ∙ ap (λ (n : ℕ). concat_map (fixed_uses fixed) (count 0 n) ++ (us ++ later)) z

        is : uses ≡ map use_word front ++ (map use_word us ++ (map use_word later ++ rest))
        is = lie.are ∙ append_assoc (map use_word (all_uses fixed)) _ ut ∙ ap (λ (l : List Entry). map use_word l ++ rest) split ∙ rw (map-append, map-append, append_assoc, append_assoc)

        skip : drop (length front + i) (map use_word front ++ (map use_word us ++ (map use_word later ++ rest))) ≡ map use_word (drop i us) ++ (map use_word later ++ rest)
        skip =
            let l : length (map use_word front) ≡ length front = length-map front use_word in
            let m : i ≤ length (map use_word us) = simp length-map h in
            rw (← l, drop-append-add (map use_word front) (map use_word us ++ (map use_word later ++ rest)) i, drop-append-le i (map use_word us) (map use_word later ++ rest) m, map_drop)

-- ---- one cell

-- a number of a slice, at the place of an entry
pub word_at : (f : Entry → ℕ) (xs : Table) (k : Entry) (ys : Table) (r behind : List ℕ) → get_or ((map f (xs ++ k ∷ ys) ++ r) ++ behind) (length xs) 0 ≡ f k
word_at f [] k ys r behind = refl
word_at f (x ∷ xs) k ys r behind = word_at f xs k ys r behind

module _ (fixed : List Entry) (cs : List Cell) (t : Table) (c : Cell) (sd : Sound fixed) (it : IsTable fixed (c ∷ cs) t) (fr : Free fixed cs c) (sm : SmallEnds t) (sc : SmallCell c) (few : length fixed ≤ max_fixed) (number : c.v < 512) where
  own : Entry
  own = entry_for fixed c

  index : Maybe ℕ
  index = fixed_index fixed c.u c.s fixed

  us : List Entry
  us = fixed_uses fixed c.u

  back : List Entry
  back = uses_from us c.s index

  mine : Entry → Bool
  mine = entry_of c.v c.u c.s

  own_in : own ∈ t
  unfolding own
  own_in = it.into own (cell c (Memᴰ.head refl) refl)

  at : Around own t
  at = around own_in

  at_sorted : Sorted (at.front ++ own ∷ at.back)
  at_sorted = subst Sorted at.whole it.sorted

  at_small : SmallEnds (at.front ++ own ∷ at.back)
  at_small = subst SmallEnds at.whole sm

  mine_own : mine own ≡ true
  unfolding mine own entry_for
  mine_own = rw (eq-eqb c.u c.u refl, eq-eqb c.s.to c.s.to refl, eq-eqb c.v c.v refl)

  mine→ : (e : Entry) → T (mine e) → (e.unit ≡ own.unit) × (e.to ≡ own.to)
  unfolding mine own entry_for
  mine→ e h =
      let k = both (eqb e.unit c.u) (eqb e.to c.s.to && held_by c.v e.reservation) h in
      let l = both (eqb e.to c.s.to) (held_by c.v e.reservation) k.1 in
      (eqb→eq _ _ k.0, eqb→eq _ _ l.0)

  not_front : (e : Entry) → e ∈ at.front → mine e ≡ false
  not_front e m =
      never (mine e) (λ h. let k = mine→ e h in not_before e own k.0 k.1 (around_before own at.front at.back at_sorted e m))

  not_back : (e : Entry) → e ∈ at.back → mine e ≡ false
  not_back e m =
      never (mine e)
      (λ h. let k = mine→ e h in not_before own e (sym k.0) (sym k.1) (around_after own at.front at.back at_sorted e m))

  -- evicting puts the uses back into what is left
  evict_is : evict_segment fixed c.v c.u t c.s ≡ insert_all back (at.front ++ at.back)
  unfolding evict_segment back us index own entry_for mine
  evict_is =
      ap (λ (x : Table). insert_all (put_back us c.s (first mine x)) (filter (λ e. not (mine e)) x)) at.whole
      ∙ ap (λ (o : Option Entry). insert_all (put_back us c.s o) (filter (λ e. not (mine e)) (at.front ++ own ∷ at.back)))
      (around_first mine own mine_own at.front at.back not_front)
      ∙ ap (insert_all back) (around_others mine own mine_own at.front at.back not_front not_back)

  index_small : index_word index ≤ 512
  unfolding index own entry_for
  index_small = go (fixed_index fixed c.u c.s fixed) refl
    where
      go : (i : Maybe ℕ) → fixed_index fixed c.u c.s fixed ≡ i → index_word i ≤ 512
      go None q = omega arith
      go (Some i) q = omega (arith, few, held_index_fixed fixed (c ∷ cs) t sd it own own_in c.v i (ap (Held c.v) q))

  module _ (sf : AllSmall fixed) (ut uses : List ℕ) (lie : UsesLie fixed ut uses) (et rt : List ℕ) (w : Words) (st : Stands t et rt w) where
    base : ℕ
    base = first_use_lem fixed sd sf ut uses lie c.u sc.unit

    last : ℕ
    last = base + length (filter (early c.s.to) us)

    -- what the slices say at the entry's place
    place : place_of max_entries w.ends (end_word own) ≡ length at.front
    place =
        found t et rt w st it.sorted sm (end_word own) (omega (arith, word_small own (sm own own_in)))
        ∙ ap (λ (x : Table). below (end_word own) (map end_word x)) at.whole
        ∙ around_place own at.front at.back at_sorted at_small

    end_there : get_or w.ends (length at.front) 0 ≡ end_word own
    unfolding end_words padded
    end_there =
        ap (λ (l : List ℕ). get_or l (length at.front) 0) st.ends_are
        ∙ ap (λ (x : Table). get_or (end_words x ++ et) (length at.front) 0) at.whole
        ∙ word_at end_word at.front own at.back _ et

    rest_there : get_or w.rests (length at.front) 0 ≡ rest_word own
    unfolding rest_words padded
    rest_there =
        ap (λ (l : List ℕ). get_or l (length at.front) 0) st.rests_are
        ∙ ap (λ (x : Table). get_or (rest_words x ++ rt) (length at.front) 0) at.whole
        ∙ word_at rest_word at.front own at.back _ rt

    is_own_lem : is_own c.v (end_word own) (length at.front) w ≡ true
    unfolding is_own own entry_for index
    is_own_lem =
        let n : length at.front < max_entries =
        omega (arith, st.few, ap (λ (x : Table). length x) at.whole, length-append at.front (own ∷ at.back)) in
        let h : rest_word own % 2 ^ 32 / 2 ^ 16 ≡ c.v + 2 = omega (arith, index_small, number) in
        rw (lt-ltb (length at.front) max_entries n, end_there, rest_there, eq-eqb (end_word own) (end_word own) refl, eq-eqb (rest_word own % 2 ^ 32 / 2 ^ 16) (c.v + 2) h)

    index_there : get_or w.rests (length at.front) 0 % 2 ^ 16 ≡ index_word index
    unfolding own entry_for index
    index_there = rw rest_there (omega (arith, index_small))

    -- the uses put back are those under the entry
    back_at : (i : ℕ) → index ≡ Some i → (v : Words) → inserting_uses (last - first_under uses c.u (i + 1) last) (first_under uses c.u (i + 1) last) uses v ≡ inserting_all (uses_from us c.s (Some i)) v
    unfolding first_under index own entry_for base last us
    back_at i q v =
        let z : eqb (i + 1) 0 ≡ false = ne_eqb (i + 1) 0 (λ e. omega arith) in
        let p : place_of max_fixed uses (unit_key c.u) ≡ base = unit_place fixed sd sf ut uses lie c.u sc.unit in
        let a : base + (i + 1 - 1) ≡ base + i = omega arith in
        let n : i < length us = held_index fixed (c ∷ cs) t sd it own own_in c.v i (ap (Held c.v) q) in
        let b : last - (base + i) ≡ length (filter (early c.s.to) (drop i us)) =
        omega (arith, early_drop c.s.to us i (uses_nonempty fixed sd c.u) (sd.chain c.u)) in
        let k = uses_of_unit fixed c.u sd sf ut uses lie sc.unit i (omega arith) in
        rw (z, p, a, b)
        (inserting_uses_lem c.s.to (drop i us) (base + i) uses k.0 v k.1
        (λ e m. uses_nonempty fixed sd c.u e (drop_out i us m))
        (chain_drop i us (sd.chain c.u))
        (λ e m. let f = fixed_uses_out fixed c.u e (drop_out i us m) in (sf e f.0, f.2)))

    back_none : (v : Words) → inserting_uses (last - last) last uses v ≡ inserting_all [] v
    unfolding inserting_uses inserting_all foldl
    back_none v = let e : last - last ≡ 0 = omega arith in rw e refl

    back_is : (v : Words) → inserting_uses (last - first_under uses c.u (index_word index) last) (first_under uses c.u (index_word index) last) uses v ≡ inserting_all back v
    unfolding first_under back
    back_is v = go index refl
      where
        go : (i : Maybe ℕ) → index ≡ i → inserting_uses (last - first_under uses c.u (index_word i) last) (first_under uses c.u (index_word i) last) uses v ≡ inserting_all (uses_from us c.s i) v
        go None q = back_none v
        go (Some i) q = back_at i q v

    back_small : SmallEnds back
    unfolding back us
    back_small e m = go index m
      where
        go : (i : Maybe ℕ) → e ∈ uses_from us c.s i → SmallEnd e
        go None n = elim n [ ]
        go (Some i) n =
            let s = sf e (fixed_uses_out fixed c.u e (drop_out i us (filter_out (early c.s.to) (drop i us) n).1)).0 in
            record { unit = s.unit; to = s.to }

    after : IsTable fixed cs (insert_all back (at.front ++ at.back))
    after = subst (λ (x : Table). IsTable fixed cs x) evict_is (evict_cell fixed cs t c sd it fr)

    code_is : evicting_segment uses c.v c.u w c.s.to ≡ inserting_all back (removing (length at.front) w)
    unfolding evicting_segment own entry_for last base us
    code_is =
        rw (place, is_own_lem, use_place fixed sd sf ut uses lie c.u sc.unit c.s.to (omega (arith, sc.to)), index_there)
        (back_is (removing (length at.front) w))

    -- evicting a cell in the slices evicts it from the table
    pub evict_segment_stands : length fixed + length cs ≤ max_entries → Stands (evict_segment fixed c.v c.u t c.s) et rt (evicting_segment uses c.v c.u w c.s.to)
    evict_segment_stands room =
        rw (evict_is, code_is)
        (insert_all_stands back (at.front ++ at.back) et rt (removing (length at.front) w)
        (remove_stands at.front own at.back et rt w (subst (λ (x : Table). Stands x et rt w) at.whole st) at_sorted at_small)
        after.sorted
        (λ e m. at_small e (among_more at.front own at.back e m))
        back_small
        (omega (arith, capacity fixed cs (insert_all back (at.front ++ at.back)) after)))
