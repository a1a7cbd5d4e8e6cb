-- On a state that calls reach, the lines of the walk are together the printed sheet (document 01, "The printed sheet"). Assumes nothing.
use Prim.Native.Nat.{ℕ, zero, suc, ◌+◌, ◌-◌, ◌≤◌, ◌<◌}
use native.Mathlib.Omega.{arith}
use native.Mathlib.Decide.{dec_lt}
use native.Mathlib.Numerals.{add-one}
use mathlib.Core.Path.{◌≡◌, refl, sym, ap, ◌∙◌, subst}
use mathlib.Core.List.Memᴰ
use mathlib.Core.List.{List, [], ◌∷◌, ◌++◌, map, append-nil, append_assoc}
use mathlib.Core.Option.{Option, none, some}
use mathlib.Core.Bool.{Bool, true, false, not, cond, ◌&&◌, ◌||◌}
use lib.Dec.{T, ltb}
use lib.ListN.{length, get_or, replicate, length-map, length-append}
use lib.Seq.{append_snoc, get_or-append_seam}
use borrow.Author.Tests.{lt-ltb, le-ltb, lt-leb, ne_eqb}
use Rattle.reg_matrix.specs.Lists.{ascii, concat_map, filter, keep, any, first, bit, count, padded}
use Rattle.reg_matrix.specs.Lines.{number, sp, line, entry_line, table_lines}
use Rattle.reg_matrix.specs.Refusals.{refusal, short_buffer, bad_slot, range_refusal}
use Rattle.reg_matrix.specs.Table.{Table, on_unit}
use Rattle.reg_matrix.specs.Layout.{max_entries, greatest, end_word, rest_word, end_words, rest_words}
use Rattle.reg_matrix.specs.Questions.{starts_past, is_unit_free, spare_refusal}
use Rattle.reg_matrix.specs.declared.ValueSegment.{ValueSegment}
use Rattle.reg_matrix.specs.declared.Entry.{Entry}
use Rattle.reg_matrix.proofs.Members.{◌∈◌}
use Rattle.reg_matrix.proofs.Places.{padded_length, from_zero}
use Rattle.entries.specs.Moves.{words}
use Rattle.unit_free.specs.Spare.{range}
use Rattle.placing.proofs.Asked.{filled_at}
use Rattle.table_words.proofs.Decode.{entry_back}
use Rattle.placing.proofs.Evicted.{word_at}
use Rattle.job.specs.Model.{Job}
use Rattle.job.specs.Layout.{job_buffers, probe_of, header_of}
use Rattle.job.proofs.Premises.{GoodSegment, GoodProbe}
use Rattle.allocator.specs.State.{State, record_of, records}
use Rattle.allocator.specs.declared.Assignment.{Assignment}
use Rattle.allocator.specs.declared.Assignment.TheVariants.{Dead}
use Rattle.allocator.specs.declared.Ending.{Ending}
use Rattle.allocator.specs.Reached.{Reached}
use Rattle.allocator.specs.Sheet.{end_line, standing, standing_line, register_units, spare_line, sheet}
use Rattle.allocator.proofs.Good.{Good, good_reached}
use Rattle.stage.proofs.Reached.{entries_fit, walkable}
use Rattle.stage.proofs.ReachedMoves.{table_stands, spare_found_lem}
use Rattle.listing.specs.declared.Place.TheVariants.{Head, VirtReg}
use Rattle.lines.specs.LineTexts.{Lent, is_register_unit, is_spare, units_text, spare_text}
use Rattle.result_lines.specs.ResultTexts.{standing_text}
use Rattle.listing.specs.Walk.{is_entry, entry_at, record_at, spare_lines, entry_lines, virt_reg_lines, lines_from}

-- ---- lists

-- the lines, one after another
abbrev pub together : List (List ℕ) → List ℕ
together ls = concat_map (λ x. x) ls

any_places :
    (p : ℕ → Bool) (maps front xs behind : List ℕ)
    → maps ≡ front ++ (xs ++ behind)
    → any (λ r. p (get_or maps r 0)) (count (length front) (length xs)) ≡ any p xs
unfolding any count
any_places p maps front [] behind e = refl
any_places p maps front (x ∷ xs) behind e =
    let a : get_or maps (length front) 0 ≡ x = ap (λ (m : List ℕ). get_or m (length front) 0) e ∙ get_or-append_seam front x (xs ++ behind) 0 in
    let n : length (front ++ (x ∷ [])) ≡ suc (length front) = omega (arith, length-append front (x ∷ [])) in
    let r = any_places p maps (front ++ (x ∷ [])) xs behind (e ∙ sym (append_snoc front x (xs ++ behind))) in
    ap (λ (y : ℕ). p y || any (λ r. p (get_or maps r 0)) (count (suc (length front)) (length xs))) a
    ∙ ap (λ (b : Bool). p x || b) (subst (λ (k : ℕ). any (λ r. p (get_or maps r 0)) (count k (length xs)) ≡ any p xs) n r)

filter_both :
    (p q r : ℕ → Bool)
    → ((u : ℕ) → u < 64 → p u ≡ (r u && q u))
    → (n i : ℕ)
    → i + n ≤ 64
    → filter p (count i n) ≡ filter q (filter r (count i n))
unfolding filter count
filter_both p q r e zero i h = refl
filter_both p q r e (suc n) i h =
    ap (λ (b : Bool). keep b i (filter p (count (suc i) n))) (e i (omega arith)) ∙ go (r i) (filter_both p q r e n (suc i) (omega arith))
  where
    go : (b : Bool)
        → filter p (count (suc i) n) ≡ filter q (filter r (count (suc i) n))
        → keep (b && q i) i (filter p (count (suc i) n)) ≡ filter q (keep b i (filter r (count (suc i) n)))
    go true f = ap (keep (q i) i) f
    go false f = f

not_refused : (b : Bool) → T (not b) → b ≡ false
not_refused true t = absurd t
not_refused false t = refl

-- the question has no value
same_range : (t : Table) (u : ℕ) (p : ValueSegment) → is_unit_free t u (range p.from p.to) ≡ is_unit_free t u p
unfolding is_unit_free
same_range t u p = go (first (λ e. ltb p.from e.to) (on_unit u t))
  where
    go : (o : Option Entry) → starts_past (range p.from p.to) o ≡ starts_past p o
    go none = refl
    go (some e) = refl

-- ---- what is lent

-- the records, the maps of units and the table stand in what is lent; longer slices have something behind
pub record Laid (j : Job) (s : State) (rs : List Assignment) (l : Lent) : Type 0 where
  pub maps_behind : List ℕ
  pub ends_behind : List ℕ
  pub rests_behind : List ℕ
  pub records_are : rs ≡ records s
  pub maps_are : l.maps ≡ (job_buffers j).regs ++ maps_behind
  pub ends_are : l.ends ≡ end_words s.table ++ ends_behind
  pub rests_are : l.rests ≡ rest_words s.table ++ rests_behind

module _ (j : Job) (s : State) (g : Good j s) (rs : List Assignment) (l : Lent) (d : Laid j s rs l) where
  -- ---- the virtual registers

  standing_at : (v : ℕ) → v < 512 → standing_text v (record_at rs (VirtReg v)) ≡ standing_line s v
  unfolding standing_text standing_line records
  standing_at v h =
      ap (λ (a : Assignment). line (ascii "v " ++ number v ++ standing a))
      (ap (λ (b : Bool). get_or rs (cond b v 0) Dead) (lt-ltb v 512 h) ∙ ap (λ (r : List Assignment). get_or r v Dead) d.records_are
      ∙ from_zero (record_of s) Dead 512 v h)

  virt_lines :
      (n v : ℕ)
      → v + n ≤ 512
      → together (virt_reg_lines n v rs (header_of j) l) ≡ concat_map (standing_line s) (count v n) ++ together (entry_lines max_entries 0 (header_of j) l)
  unfolding virt_reg_lines concat_map count
  virt_lines zero v h = refl
  virt_lines (suc n) v h =
      let rest = together (entry_lines max_entries 0 (header_of j) l) in
      ap (λ (x : List ℕ). x ++ together (virt_reg_lines n (v + 1) rs (header_of j) l)) (standing_at v (omega arith))
      ∙ ap (λ (x : List ℕ). standing_line s v ++ x)
      (virt_lines n (v + 1) (omega arith) ∙ ap (λ (k : ℕ). concat_map (standing_line s) (count k n) ++ rest) (add-one v))
      ∙ sym (append_assoc (standing_line s v) (concat_map (standing_line s) (count (suc v) n)) rest)

  -- ---- the entries

  abbrev spares : List (List ℕ)
  spares = spare_lines (header_of j).probe (header_of j).regs l

  past_entries : length s.table < max_entries → get_or l.ends (length s.table) 0 ≡ greatest
  unfolding end_words
  past_entries h =
      let n = length-map s.table end_word in
      ap (λ (m : List ℕ). get_or m (length s.table) 0) d.ends_are
      ∙ ap (λ (k : ℕ). get_or (end_words s.table ++ d.ends_behind) k 0) (sym n)
      ∙ filled_at max_entries greatest (map end_word s.table) d.ends_behind (omega (arith, n))

  module _ (xs : Table) (y : Entry) (ys : Table) (q : xs ++ y ∷ ys ≡ s.table) where
    end_at : get_or l.ends (length xs) 0 ≡ end_word y
    unfolding end_words padded
    end_at =
        ap (λ (m : List ℕ). get_or m (length xs) 0) d.ends_are
        ∙ ap (λ (t : Table). get_or (end_words t ++ d.ends_behind) (length xs) 0) (sym q)
        ∙ word_at end_word xs y ys (replicate (max_entries - length (map end_word (xs ++ y ∷ ys))) greatest) d.ends_behind

    rest_at : get_or l.rests (length xs) 0 ≡ rest_word y
    unfolding rest_words padded
    rest_at =
        ap (λ (m : List ℕ). get_or m (length xs) 0) d.rests_are
        ∙ ap (λ (t : Table). get_or (rest_words t ++ d.rests_behind) (length xs) 0) (sym q)
        ∙ word_at rest_word xs y ys (replicate (max_entries - length (map rest_word (xs ++ y ∷ ys))) 0) d.rests_behind

    is_in : y ∈ s.table
    is_in = subst (λ (t : Table). y ∈ t) q (Memᴰ.append_right xs (Memᴰ.head refl))

    inside : length xs < max_entries
    inside = omega (arith, entries_fit j s g, length-append xs (y ∷ ys), ap (λ (t : Table). length t) q)

    is_entry_lem : is_entry l.ends (length xs) ≡ true
    is_entry_lem =
        let k = (walkable j s g).small y is_in in
        rw (lt-ltb (length xs) max_entries inside, end_at, ne_eqb (end_word y) greatest (λ e. omega (arith, e, k.unit, k.to)))

    the_entry : entry_at l (length xs) ≡ entry_line y
    the_entry = rw (end_at, rest_at, entry_back y ((walkable j s g).small y is_in))

  entry_lines_lem :
      (xs ys : Table)
      → xs ++ ys ≡ s.table
      → together (entry_lines (max_entries - length xs) (length xs) (header_of j) l) ≡ concat_map entry_line ys ++ together spares
  unfolding entry_lines concat_map
  entry_lines_lem xs [] q = go (dec_lt (length xs) max_entries)
    where
      all : xs ≡ s.table
      all = sym (append-nil xs) ∙ q

      go : Dec (length xs < max_entries) → together (entry_lines (max_entries - length xs) (length xs) (header_of j) l) ≡ together spares
      go (yes h) =
          let e : max_entries - length xs ≡ suc (max_entries - (length xs + 1)) = omega arith in
          let p : get_or l.ends (length xs) 0 ≡ greatest =
          subst (λ (t : Table). get_or l.ends (length t) 0 ≡ greatest) (sym all) (past_entries (subst (λ (t : Table). length t < max_entries) all h)) in
          rw (e, lt-ltb (length xs) max_entries h, p)
      go (no h) = let e : max_entries - length xs ≡ 0 = omega arith in rw e
  entry_lines_lem xs (y ∷ ys) q =
      let e : max_entries - length xs ≡ suc (max_entries - (length xs + 1)) = omega (arith, inside xs y ys q) in
      let n : length (xs ++ (y ∷ [])) ≡ length xs + 1 = omega (arith, length-append xs (y ∷ [])) in
      let r =
      subst (λ (k : ℕ). together (entry_lines (max_entries - k) k (header_of j) l) ≡ concat_map entry_line ys ++ together spares) n
      (entry_lines_lem (xs ++ (y ∷ [])) ys (append_snoc xs y ys ∙ q)) in
      rw (e, is_entry_lem xs y ys q, the_entry xs y ys q, r) (sym (append_assoc (entry_line y) (concat_map entry_line ys) (together spares)))

  -- ---- the spare line

  register_unit : (u : ℕ) → is_register_unit l.maps (length j.regs) u ≡ any (bit u) j.regs
  unfolding is_register_unit job_buffers padded
  register_unit u =
      any_places (bit u) l.maps [] j.regs (replicate (64 - length j.regs) 0 ++ d.maps_behind)
      (d.maps_are ∙ append_assoc j.regs (replicate (64 - length j.regs) 0) d.maps_behind)

  ends_long : max_entries ≤ length l.ends
  unfolding end_words
  ends_long =
      omega (
        arith,
        ap (λ (m : List ℕ). length m) d.ends_are,
        length-append (end_words s.table) d.ends_behind,
        padded_length max_entries greatest (map end_word s.table) (omega (arith, length-map s.table end_word, entries_fit j s g)),
      )

  rests_long : max_entries ≤ length l.rests
  unfolding rest_words
  rests_long =
      omega (
        arith,
        ap (λ (m : List ℕ). length m) d.rests_are,
        length-append (rest_words s.table) d.rests_behind,
        padded_length max_entries 0 (map rest_word s.table) (omega (arith, length-map s.table rest_word, entries_fit j s g)),
      )

  module _ (p : ValueSegment) (gs : GoodSegment p) where
    asked : (u : ℕ) → u < 64 → spare_refusal (length l.ends ∷ length l.rests ∷ []) u (range p.from p.to) ≡ none
    unfolding spare_refusal refusal short_buffer range_refusal
    asked u h =
        rw (
          le-ltb (length l.ends) max_entries ends_long,
          le-ltb (length l.rests) max_entries rests_long,
          lt-leb 64 u h,
          lt-leb p.to p.from gs.nonempty,
          not_refused (bad_slot p.from || bad_slot p.to) gs.slots,
          le-ltb p.from 0 (omega arith),
        )

    spare_unit : (u : ℕ) → u < 64 → is_spare l (length j.regs) p.from p.to u ≡ (any (bit u) j.regs && is_unit_free s.table u p)
    unfolding is_spare
    spare_unit u h =
        let st = table_stands j s g l.ends l.rests d.ends_behind d.rests_behind d.ends_are d.rests_are in
        rw (
          register_unit u,
          asked u h,
          spare_found_lem j s g d.ends_behind d.rests_behind (words l.ends l.rests) st u p.from p.to h gs.small.from,
          same_range s.table u p,
        )

    units : units_text (is_spare l (length j.regs) p.from p.to) 0 ≡ concat_map (λ u. sp (number u)) (filter (λ u. is_unit_free s.table u p) (register_units j))
    unfolding units_text register_units
    units =
        ap (concat_map (λ u. sp (number u)))
        (filter_both (is_spare l (length j.regs) p.from p.to) (λ u. is_unit_free s.table u p) (λ u. any (bit u) j.regs) spare_unit 64 0 (omega arith))

  spare_lines_lem : (o : Option ValueSegment) → GoodProbe o → together (spare_lines (probe_of o) (length j.regs) l) ≡ spare_line j s.table o
  unfolding spare_line spare_text concat_map
  spare_lines_lem none h = refl
  spare_lines_lem (some p) h =
      append-nil (line (ascii "spare" ++ units_text (is_spare l (length j.regs) p.from p.to) 0))
      ∙ ap (λ (x : List ℕ). line (ascii "spare" ++ x)) (units p h)

  -- ---- the whole sheet

  pub lines_sheet :
      (ending : Ending) (dequeues : ℕ)
      → together (lines_from (record { ending = ending; dequeues = dequeues; header = header_of j; place = Head }) rs l)
      ≡ sheet j (record { ending = ending; dequeues = dequeues; state = s })
  unfolding lines_from sheet table_lines header_of concat_map
  lines_sheet ending dequeues =
      let head = end_line ending dequeues in
      let virt_regs = concat_map (standing_line s) (count 0 (length j.virt_regs)) in
      let entries = concat_map entry_line s.table in
      let spare = spare_line j s.table j.probe in
      ap (λ (x : List ℕ). head ++ x)
      (virt_lines (length j.virt_regs) 0 (omega (arith, g.premises.few_numbers))
      ∙ ap (λ (x : List ℕ). virt_regs ++ x)
      (entry_lines_lem [] s.table refl ∙ ap (λ (x : List ℕ). entries ++ x) (spare_lines_lem j.probe g.premises.probe)))
      ∙ sym (append_assoc (head ++ virt_regs) entries spare ∙ append_assoc head virt_regs (entries ++ spare))

-- 01, "The printed sheet", on a state reached from loading by calls: the lines of the walk are together the sheet
pub reached_sheet :
    (j : Job) (s : State)
    → Reached j s
    → (rs : List Assignment) (l : Lent)
    → Laid j s rs l
    → (ending : Ending) (dequeues : ℕ)
    → together (lines_from (record { ending = ending; dequeues = dequeues; header = header_of j; place = Head }) rs l)
    ≡ sheet j (record { ending = ending; dequeues = dequeues; state = s })
reached_sheet j s r rs l d = lines_sheet j s (good_reached j s r) rs l d
