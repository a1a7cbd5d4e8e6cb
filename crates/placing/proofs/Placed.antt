-- Placing in lent numbers places in the table: where a table stands in the slices (`Stands`) and a free cell is placed, the table with the cell
-- stands there afterwards, and what is lent behind it stays. Assumes nothing.
use Prim.Native.Nat.{ℕ, suc, ◌+◌, ◌-◌, ◌*◌, ◌^◌, ◌≤◌, ◌<◌}
use native.Mathlib.Omega.{arith}
use native.Mathlib.Decide.{dec_lt}
use mathlib.Core.Path.{◌≡◌, refl, sym, ap, ◌∙◌, subst}
use mathlib.Core.Logic.{inl, inr}
use mathlib.Core.List.Memᴰ
use mathlib.Core.List.{List, [], ◌∷◌, ◌++◌, map}
use mathlib.Core.Bool.{Bool, true, false, not, cond}
use lib.Dec.{T, ltb}
use lib.ListN.{length}
use lib.Ieee.Bits.{is_true}
use borrow.Author.Tests.{lt-ltb, le-ltb}
use Rattle.reg_matrix.specs.Lists.{filter, any, is_nil}
use Rattle.reg_matrix.specs.Table.{Table, fixed_uses}
use Rattle.reg_matrix.specs.Assign.{replaced, first_use, fixed_index, assign_segment}
use Rattle.reg_matrix.specs.Layout.{max_entries, end_word, index_word, rest_word}
use Rattle.table_words.specs.Search.{place_of, below}
use Rattle.entries.specs.Moves.{Words, removing_run}
use Rattle.entries.specs.Placing.{index_part, held_word, assigning_segment}
use Rattle.reg_matrix.specs.declared.Entry.{Entry}
use Rattle.std.specs.Prelude.{Some, None}
use Rattle.reg_matrix.specs.declared.Reservation.TheVariants.{Held}
use Rattle.reg_matrix.proofs.Tests.{never}
use Rattle.reg_matrix.proofs.Members.{◌∈◌, filter_out}
use Rattle.reg_matrix.proofs.Sorted.{Sorted, sorted_filter}
use Rattle.reg_matrix.proofs.Cells.{Disjoint, replaced→, →replaced, →overlaps, Cell, entry_for, Laid, reserved, cell, IsTable, Free}
use Rattle.reg_matrix.proofs.Chains.{Sound}
use Rattle.reg_matrix.proofs.Apart.{entry_nonempty}
use Rattle.reg_matrix.proofs.Capacity.{filter_length}
use Rattle.placing.proofs.Standing.{below_step, below_past, below_none, SmallEnd, SmallEnds, words_above, Stands, found, insert_stands, run_stands}
use Rattle.placing.proofs.Lying.{AllSmall, UsesLie, uses_before_lem}

-- ---- a table in three parts, by the numbers of its entries

-- the entries numbered below a, from a to below b, and from b on; p tells the middle part
pub record Parts (a b : ℕ) (p : Entry → Bool) (t : Table) : Type 0 where
  pub front : Table
  pub middle : Table
  pub back : Table
  pub whole : t ≡ front ++ (middle ++ back)
  pub low : below a (map end_word t) ≡ length front
  pub high : below b (map end_word t) ≡ length front + length middle
  pub others : filter (λ e. not (p e)) t ≡ front ++ back
  pub some : any p t ≡ not (is_nil middle)

-- p passes exactly the entries numbered from a to below b
abbrev pub Tells : ℕ → ℕ → (Entry → Bool) → Entry → Type 0
Tells a b p e = (T (p e) → (a ≤ end_word e) × (end_word e < b)) × (a ≤ end_word e → end_word e < b → T (p e))

no_length : {A : Type 0} (xs : List A) → 0 ≡ length xs → xs ≡ []
no_length [] q = refl
no_length (x ∷ xs) q = absurd (omega arith)

module _ (a b : ℕ) (p : Entry → Bool) (ab : a ≤ b) where
  in_front : (x : Entry) (t : Table) → p x ≡ false → end_word x < a → Parts a b p t → Parts a b p (x ∷ t)
  unfolding filter any
  in_front x t q h k =
      record {
        front = x ∷ k.front;
        middle = k.middle;
        back = k.back;
        whole = ap (λ l. x ∷ l) k.whole;
        low = below_step a (end_word x) (map end_word t) h ∙ ap suc k.low;
        high = below_step b (end_word x) (map end_word t) (omega arith) ∙ ap suc k.high ∙ omega arith;
        others = rw q (ap (λ l. x ∷ l) k.others);
        some = rw q k.some;
      }

  in_middle : (x : Entry) (t : Table) → p x ≡ true → a ≤ end_word x → end_word x < b → below a (map end_word t) ≡ 0 → Parts a b p t → Parts a b p (x ∷ t)
  unfolding filter any
  in_middle x t q h l z k =
      let n : k.front ≡ [] = no_length k.front (sym z ∙ k.low) in
      record {
        front = [];
        middle = x ∷ k.middle;
        back = k.back;
        whole = ap (λ l. x ∷ l) (rw n at k.whole);
        low = below_past a (end_word x) (map end_word t) h ∙ z;
        high = below_step b (end_word x) (map end_word t) l ∙ omega (arith, k.high, ap length n);
        others = rw q (rw n at k.others);
        some = rw q;
      }

  in_back : (x : Entry) (t : Table) → p x ≡ false → b ≤ end_word x → below a (map end_word t) ≡ 0 → below b (map end_word t) ≡ 0 → Parts a b p t → Parts a b p (x ∷ t)
  unfolding filter any
  in_back x t q h z y k =
      let n : k.front ≡ [] = no_length k.front (sym z ∙ k.low) in
      let m : k.middle ≡ [] = no_length k.middle (omega (arith, y, k.high)) in
      record {
        front = [];
        middle = [];
        back = x ∷ k.back;
        whole = ap (λ l. x ∷ l) (rw (n, m) at k.whole);
        low = below_past a (end_word x) (map end_word t) (omega arith) ∙ z;
        high = below_past b (end_word x) (map end_word t) h ∙ y ∙ omega arith;
        others = rw q (ap (λ l. x ∷ l) (rw n at k.others));
        some = rw q (k.some ∙ ap (λ (l : Table). not (is_nil l)) m);
      }

  pub parts : (t : Table) → Sorted t → SmallEnds t → ((e : Entry) → e ∈ t → Tells a b p e) → Parts a b p t
  unfolding filter any below
  parts [] so sm h = record { front = []; middle = []; back = []; whole = refl; low = refl; high = refl; others = refl; some = refl }
  parts (x ∷ t) so sm h = go (dec_lt (end_word x) a) (dec_lt (end_word x) b) (parts t so.1 (λ e m. sm e (Memᴰ.tail m)) (λ e m. h e (Memᴰ.tail m)))
    where
      tells : Tells a b p x
      tells = h x (Memᴰ.head refl)

      none : (key : ℕ) → key ≤ end_word x → below key (map end_word t) ≡ 0
      none key k =
          below_none key (map end_word t)
          (λ y m. let z = words_above x t so.0 (sm x (Memᴰ.head refl)) (λ e n. sm e (Memᴰ.tail n)) y m in omega (arith, z))

      go : Dec (end_word x < a) → Dec (end_word x < b) → Parts a b p t → Parts a b p (x ∷ t)
      go (yes u) v k = in_front x t (never (p x) (λ c. let z = (tells.0 c).0 in omega (arith, z))) u k
      go (no u) (yes v) k = in_middle x t (is_true (p x) (tells.1 (omega arith) v)) (omega arith) v (none a (omega arith)) k
      go (no u) (no v) k = in_back x t (never (p x) (λ c. let z = (tells.0 c).1 in omega (arith, z))) (omega arith) (none a (omega arith)) (none b (omega arith)) k

-- ---- the entries that a free cell replaces are those that end inside it

-- what a cell's numbers fit into
pub record SmallCell (c : Cell) : Type 0 where
  pub unit : c.u < 64
  pub from : c.s.from < 2 ^ 32
  pub to : c.s.to < 2 ^ 32

abbrev pub low_key : Cell → ℕ
low_key c = c.u * 2 ^ 32 + c.s.from + 1

abbrev pub high_key : Cell → ℕ
high_key c = c.u * 2 ^ 32 + c.s.to + 1

module _ (fixed : List Entry) (cs : List Cell) (t : Table) (c : Cell) (sd : Sound fixed) (it : IsTable fixed cs t) (fr : Free fixed cs c) (sm : SmallEnds t) (sc : SmallCell c) where
  same_unit : (e : Entry) → SmallEnd e → low_key c ≤ end_word e → end_word e < high_key c → e.unit ≡ c.u
  same_unit e s a b = omega (arith, s.to, sc.to, a, b)

  tells : (e : Entry) → e ∈ t → Tells (low_key c) (high_key c) (replaced c.u c.s) e
  unfolding entry_for
  tells e m = (ends, back)
    where
      ne : e.from < e.to
      ne = entry_nonempty fixed cs t sd it e m

      ends : T (replaced c.u c.s e) → (low_key c ≤ end_word e) × (end_word e < high_key c)
      ends r =
          let k = replaced→ c.u c.s e r in
          (omega (arith, ne, k.0, k.1.after), omega (arith, k.0, k.1.ahead))

      hit : e.unit ≡ c.u → c.s.from < e.to → e.to ≤ c.s.to → Laid fixed cs e → T (replaced c.u c.s e)
      hit q a b (reserved f h) = →replaced c.u c.s e q (fr.covers e f q (→overlaps c.s e (omega (arith, ne)) a))
      hit q a b (cell d n p) = go (fr.alone d n (sym (ap (λ (x : Entry). x.unit) p) ∙ q))
        where
          go : Disjoint d.s c.s → T (replaced c.u c.s e)
          go (inl h) = absurd (omega (arith, ap (λ (x : Entry). x.to) p))
          go (inr h) = absurd (omega (arith, ne, ap (λ (x : Entry). x.from) p))

      back : low_key c ≤ end_word e → end_word e < high_key c → T (replaced c.u c.s e)
      back a b = let q = same_unit e (sm e m) a b in hit q (omega (arith, q)) (omega (arith, q)) (it.out e m)

  cut : Parts (low_key c) (high_key c) (replaced c.u c.s) t
  cut = parts (low_key c) (high_key c) (replaced c.u c.s) (omega (arith, fr.nonempty)) t it.sorted sm tells

  -- ---- one cell

  module _ (sf : AllSmall fixed) (ut uses : List ℕ) (lie : UsesLie fixed ut uses) (et rt : List ℕ) (w : Words) (st : Stands t et rt w) (room : length t < max_entries) where
    index_same : index_part uses c.u c.s.from (length cut.front) (length cut.front + length cut.middle) ≡ index_word (fixed_index fixed c.u c.s t)
    unfolding index_part fixed_index
    index_same = rw (cut.some, uses_before_lem fixed sd sf ut uses lie c.u sc.unit c.s (omega (arith, sc.from))) (go cut.middle)
      where
        go : (m : Table) → cond (ltb (length cut.front) (length cut.front + length m)) (first_use (fixed_uses fixed c.u) c.s + 1) 0 ≡ index_word (cond (not (is_nil m)) (Some (first_use (fixed_uses fixed c.u) c.s)) None)
        go [] = rw (le-ltb (length cut.front) (length cut.front + 0) (omega arith))
        go (x ∷ m) = rw (lt-ltb (length cut.front) (length cut.front + suc (length m)) (omega arith))

    new : Entry
    new = record { unit = c.u; from = c.s.from; to = c.s.to; reservation = Held c.v (fixed_index fixed c.u c.s t) }

    split_sorted : Sorted (cut.front ++ (cut.middle ++ cut.back))
    split_sorted = subst Sorted cut.whole it.sorted

    split_small : SmallEnds (cut.front ++ (cut.middle ++ cut.back))
    split_small = subst SmallEnds cut.whole sm

    left : Entry → Bool
    left e = not (replaced c.u c.s e)

    left_sorted : Sorted (cut.front ++ cut.back)
    unfolding left
    left_sorted = subst Sorted cut.others (sorted_filter left t it.sorted)

    left_small : SmallEnds (cut.front ++ cut.back)
    unfolding left
    left_small = subst SmallEnds cut.others (λ e m. sm e (filter_out left t m).1)

    left_room : length (cut.front ++ cut.back) < max_entries
    unfolding left
    left_room = subst (λ (l : Table). length l < max_entries) cut.others (omega (arith, room, filter_length left t))

    left_stands : Stands (cut.front ++ cut.back) et rt (removing_run (length cut.middle) (length cut.front) w)
    left_stands =
        run_stands cut.front cut.middle cut.back et rt w (subst (λ (l : Table). Stands l et rt w) cut.whole st) split_sorted split_small

    -- placing a free cell in the slices places it in the table
    pub assign_segment_stands : Stands (assign_segment fixed c.v c.u t c.s) et rt (assigning_segment uses c.v c.u w c.s.from c.s.to)
    unfolding assign_segment assigning_segment new
    assign_segment_stands =
        let lo : place_of max_entries w.ends (low_key c) ≡ length cut.front =
        found t et rt w st it.sorted sm (low_key c) (omega (arith, sc.unit, sc.from)) ∙ cut.low in
        let hi : place_of max_entries w.ends (high_key c) ≡ length cut.front + length cut.middle =
        found t et rt w st it.sorted sm (high_key c) (omega (arith, sc.unit, sc.to)) ∙ cut.high in
        let d : length cut.front + length cut.middle - length cut.front ≡ length cut.middle = omega arith in
        let r : held_word c.v c.s.from (index_word (fixed_index fixed c.u c.s t)) ≡ rest_word new = omega arith in
        rw (lo, hi, d, index_same, r, cut.others)
        (insert_stands (cut.front ++ cut.back) et rt (removing_run (length cut.middle) (length cut.front) w) left_stands left_sorted left_small left_room new
        (record { unit = sc.unit; to = sc.to }))
