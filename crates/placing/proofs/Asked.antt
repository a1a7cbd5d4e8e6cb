-- The spare question on lent numbers is the spare question on the table: where a sorted table stands in the slices, `free_at` says what
-- `is_unit_free` says. Assumes nothing.
use Prim.Native.Nat.{ℕ, suc, ◌+◌, ◌-◌, ◌*◌, ◌/◌, ◌^◌, ◌≤◌, ◌<◌}
use native.Mathlib.Omega.{arith}
use native.Mathlib.Decide.{dec_lt}
use mathlib.Core.Path.{◌≡◌, refl, sym, ap, ◌∙◌, subst}
use mathlib.Core.Option.{Option, none, some}
use mathlib.Core.List.Memᴰ
use mathlib.Core.List.{List, [], ◌∷◌, ◌++◌, map}
use mathlib.Core.Bool.{Bool, true, false, not, ◌&&◌, cond}
use lib.Dec.{T, ltb, leb, eqb, eqb→eq}
use lib.ListN.{length, take, drop, get_or, replicate, length-map, length-take, length-drop, take-append-drop}
use lib.Seq.{drop-nil}
use borrow.Author.Tests.{lt-ltb, le-ltb, le-leb, lt-leb, eq-eqb, ne_eqb}
use Rattle.reg_matrix.specs.Lists.{keep, filter, first, padded}
use Rattle.reg_matrix.specs.Table.{Table, on_unit}
use Rattle.reg_matrix.specs.Questions.{starts_past, is_unit_free}
use Rattle.reg_matrix.specs.Layout.{max_entries, greatest, end_word, rest_word, reservation_word, end_words, rest_words}
use Rattle.table_words.specs.Search.{place_of, below}
use Rattle.entries.specs.Moves.{Words}
use Rattle.unit_free.specs.Spare.{free_at, range}
use Rattle.reg_matrix.specs.declared.Entry.{Entry}
use Rattle.reg_matrix.proofs.Members.{◌∈◌, filter_none}
use Rattle.reg_matrix.proofs.Sorted.{Sorted}
use Rattle.placing.proofs.Standing.{below_step, below_past, below_none, SmallEnd, SmallEnds, words_above, Stands, found, place_within}
use Rattle.placing.proofs.Evicted.{word_at}

module _ (u from : ℕ) where
  abbrev key : ℕ
  key = u * 2 ^ 32 + from + 1

  -- the first entry of a list, if it is the unit's
  abbrev head_on : List Entry → Option Entry
  head_on [] = none
  head_on (x ∷ xs) = cond (eqb x.unit u) (some x) none

  past : Entry → Bool
  past e = ltb from e.to

  -- a later entry is on the same unit or a higher one
  first_past : (t : Table) → Sorted t → SmallEnds t → from < 2 ^ 32 → first past (on_unit u t) ≡ head_on (drop (below key (map end_word t)) t)
  unfolding on_unit filter first past
  first_past [] so sm h = nil (below key [])
    where
      nil : (n : ℕ) → none ≡ head_on (drop n [])
      nil n = rw (drop-nil n)
  first_past (x ∷ t) so sm h = go (dec_lt (end_word x) key) (first_past t so.1 (λ e m. sm e (Memᴰ.tail m)) h)
    where
      sx : SmallEnd x
      sx = sm x (Memᴰ.head refl)

      Goal : Type 0
      Goal = first past (keep (eqb x.unit u) x (filter (λ e. eqb e.unit u) t)) ≡ head_on (drop (below key (map end_word (x ∷ t))) (x ∷ t))

      skip : (b : Bool) → eqb x.unit u ≡ b → end_word x < key → first past (keep b x (on_unit u t)) ≡ first past (on_unit u t)
      skip true q k = let n : ltb from x.to ≡ false = le-ltb from x.to (omega (arith, eqb→eq x.unit u (subst T (sym q) tt))) in rw n
      skip false q k = refl

      stop : (b : Bool) → eqb x.unit u ≡ b → key ≤ end_word x → first past (keep b x (on_unit u t)) ≡ cond b (some x) none
      stop true q k = let n : ltb from x.to ≡ true = lt-ltb from x.to (omega (arith, eqb→eq x.unit u (subst T (sym q) tt))) in rw n
      stop false q k = rw (filter_none (λ e. eqb e.unit u) t higher)
        where
          higher : (e : Entry) → e ∈ t → T (eqb e.unit u) → ⊥
          higher e m c =
              let l : end_word x < end_word e = words_above x t so.0 sx (λ d n. sm d (Memᴰ.tail n)) (end_word e) (Memᴰ.map end_word m) in
              let n : x.unit ≡ u = omega (arith, l, sx.to, (sm e (Memᴰ.tail m)).to, eqb→eq e.unit u c) in
              subst T (sym (eq-eqb x.unit u n) ∙ q) tt

      go : Dec (end_word x < key) → first past (on_unit u t) ≡ head_on (drop (below key (map end_word t)) t) → Goal
      go (yes k) ih = rw (below_step key (end_word x) (map end_word t) k) (skip (eqb x.unit u) refl k ∙ ih)
      go (no k) ih =
          let a : key ≤ end_word x = omega arith in
          let z : below key (map end_word (x ∷ t)) ≡ 0 =
          below_past key (end_word x) (map end_word t) a
          ∙ below_none key (map end_word t) (λ y m. let l = words_above x t so.0 sx (λ e n. sm e (Memᴰ.tail n)) y m in omega (arith, a, l)) in
          rw z (stop (eqb x.unit u) refl a)

-- ---- the slices

-- the reservation fits into its half of an entry's second number
abbrev pub SmallRests : Table → Type 0
SmallRests t = (e : Entry) → e ∈ t → reservation_word e.reservation < 2 ^ 32

-- behind the last entry
pub filled_at : (n d : ℕ) (xs behind : List ℕ) → length xs < n → get_or (padded n d xs ++ behind) (length xs) 0 ≡ d
unfolding padded
filled_at n d [] behind h = let e : n - 0 ≡ suc (n - 1) = omega arith in rw e
filled_at n d (x ∷ xs) behind h =
    let e : n - suc (length xs) ≡ n - 1 - length xs = omega arith in
    rw e (filled_at (n - 1) d xs behind (omega arith))

module _ (t : Table) (et rt : List ℕ) (w : Words) (st : Stands t et rt w) (so : Sorted t) (sm : SmallEnds t) (sr : SmallRests t) (u from to : ℕ) (small : u < 64) (start : from < 2 ^ 32) where
  place : ℕ
  place = below (key u from) (map end_word t)

  -- what the code tests at the place that it found
  taken : Bool
  taken = ltb place max_entries && (eqb (get_or w.ends place 0 / 2 ^ 32) u && leb (get_or w.rests place 0 / 2 ^ 32) to)

  at_entry : (x : Entry) (r : Table) → drop place t ≡ x ∷ r → taken ≡ (eqb x.unit u && leb x.from to)
  unfolding taken place end_words rest_words padded
  at_entry x r q = rw (lt-ltb place max_entries in_table, ends, rests)
    where
      whole : t ≡ take place t ++ x ∷ r
      whole = sym (take-append-drop place t) ∙ ap (λ (l : Table). take place t ++ l) q

      there : x ∈ t
      there = subst (λ (l : Table). x ∈ l) (sym whole) (Memᴰ.append_right (take place t) (Memᴰ.head refl))

      front : length (take place t) ≡ place
      front = omega (arith, length-take place t, place_within (key u from) t)

      in_table : place < max_entries
      in_table = omega (arith, st.few, ap (λ (l : Table). length l) q, length-drop place t)

      ends : get_or w.ends place 0 / 2 ^ 32 ≡ x.unit
      ends =
          let a : get_or w.ends place 0 ≡ end_word x =
          ap (λ (l : List ℕ). get_or l place 0) st.ends_are
          ∙ ap (λ (y : Table). get_or (end_words y ++ et) place 0) whole
          ∙ ap (λ (n : ℕ). get_or (end_words (take place t ++ x ∷ r) ++ et) n 0) (sym front)
          ∙ word_at end_word (take place t) x r (replicate (max_entries - length (map end_word (take place t ++ x ∷ r))) greatest) et in
          rw a (omega (arith, (sm x there).to))

      rests : get_or w.rests place 0 / 2 ^ 32 ≡ x.from
      rests =
          let a : get_or w.rests place 0 ≡ rest_word x =
          ap (λ (l : List ℕ). get_or l place 0) st.rests_are
          ∙ ap (λ (y : Table). get_or (rest_words y ++ rt) place 0) whole
          ∙ ap (λ (n : ℕ). get_or (rest_words (take place t ++ x ∷ r) ++ rt) n 0) (sym front)
          ∙ word_at rest_word (take place t) x r (replicate (max_entries - length (map rest_word (take place t ++ x ∷ r))) 0) rt in
          rw a (omega (arith, sr x there))

  at_end : drop place t ≡ [] → taken ≡ false
  unfolding taken place end_words
  at_end q = go (dec_lt place max_entries)
    where
      n : place ≡ length (map end_word t)
      n = omega (arith, ap (λ (l : Table). length l) q, length-drop place t, place_within (key u from) t, length-map t end_word)

      go : Dec (place < max_entries) → taken ≡ false
      go (no k) = rw (le-ltb place max_entries (omega arith))
      go (yes k) =
          let a : get_or w.ends place 0 ≡ greatest =
          ap (λ (l : List ℕ). get_or l place 0) st.ends_are
          ∙ ap (λ (i : ℕ). get_or (end_words t ++ et) i 0) n
          ∙ filled_at max_entries greatest (map end_word t) et (omega (arith, n)) in
          rw (lt-ltb place max_entries k, a, ne_eqb (greatest / 2 ^ 32) u (λ e. omega arith))

  -- the question on the slices is the question on the table
  pub free_stands : free_at u from to w ≡ is_unit_free t u (range from to)
  unfolding free_at is_unit_free past taken place
  free_stands =
      let f : place_of max_entries w.ends (key u from) ≡ place = found t et rt w st so sm (key u from) (omega arith) in
      rw (f, first_past u from t so sm start) (go (drop place t) refl)
    where
      flip : (x : Entry) (b : Bool) → not (b && leb x.from to) ≡ starts_past (range from to) (cond b (some x) none)
      flip x true = elim (dec_lt to x.from) as (λ _. not (leb x.from to) ≡ ltb to x.from) [
        | yes h ↦ rw (lt-leb x.from to h, lt-ltb to x.from h)
        | no h ↦ rw (le-leb x.from to (omega arith), le-ltb to x.from (omega arith))
      ]
      flip x false = refl

      go : (l : Table) → drop place t ≡ l → not taken ≡ starts_past (range from to) (head_on u from l)
      go [] q = ap not (at_end q)
      go (x ∷ r) q = ap not (at_entry x r q) ∙ flip x (eqb x.unit u)
