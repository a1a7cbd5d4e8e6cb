-- What is read from lent words on a state that calls reach: a virtual register stands as its record says, and the lines from position 0 on are
-- together the sheet. Assumes nothing.
use Prim.Native.Nat.{ℕ, ◌+◌, ◌-◌, ◌<◌}
use native.Mathlib.Omega.{arith}
use mathlib.Core.Path.{◌≡◌, refl, sym, ap, ◌∙◌, subst}
use mathlib.Core.List.{List, ◌∷◌}
use mathlib.Core.Bool.{Bool, true, false, not, cond, ◌&&◌}
use lib.Dec.{ltb, leb, eqb}
use lib.ListN.{length, get_or}
use borrow.Author.Tests.{lt-ltb, le-ltb, lt-leb, ltb-true, ne_eqb}
use Rattle.reg_matrix.specs.Layout.{max_entries, greatest}
use Rattle.reg_matrix.proofs.Places.{from_zero}
use Rattle.job.specs.Model.{Job}
use Rattle.job.specs.Layout.{header_of}
use Rattle.job.specs.declared.JobHeader.{JobHeader}
use Rattle.std.specs.Prelude.{Option, Some, None, Ok, Err}
use Rattle.allocator.specs.declared.Assignment.{Assignment}
use Rattle.allocator.specs.declared.Assignment.TheVariants.{Dead}
use Rattle.allocator.specs.declared.Ending.{Ending}
use Rattle.allocator.specs.declared.Ending.TheVariants.{Done, Spent, TooMany}
use Rattle.allocator.specs.State.{State, record_of, records}
use Rattle.allocator.specs.Reached.{Reached}
use Rattle.allocator.specs.Sheet.{sheet}
use Rattle.allocator.proofs.Good.{good_reached}
use Rattle.run_loop.specs.Running.{ending_number}
use Rattle.listing.specs.declared.Listing.{Listing}
use Rattle.listing.specs.declared.Place.{Place}
use Rattle.listing.specs.declared.Place.TheVariants.{Head, VirtReg, Entry, End}
use Rattle.lines.specs.LineTexts.{Lent}
use Rattle.result_lines.specs.ResultTexts.{standing_text}
use Rattle.listing.specs.Walk.{Found, no_more, a_line, spare_found, is_entry, entry_at, entry_found, virt_reg_found, found_at, found, moved, number_at, record_at, lines_from, lines_of}
use Rattle.listing.proofs.LineLaws.{number_small, lines_told}
use Rattle.listing.proofs.SheetLaws.{Laid, together, reached_sheet}
use Rattle.record_words.specs.Words.{record_in, records_in}
use Rattle.record_words.proofs.WordLaws.{record_in_lem}
use Rattle.result_lines.specs.ResultTexts.{ending_in}
use Rattle.words.specs.Words.{header_in, place_number, place_in, standing_number}
use Rattle.words.specs.Words.{words_short}
use Rattle.results.specs.Reading.{standing_found, either, standing_answer, listing_in, found_in, lines_at, lines_after}
use Rattle.results.proofs.ReadLaws.{place_is}

-- ---- records

record_of_lem : (s : State) (v : ℕ) → v < 512 → get_or (records s) v Dead ≡ record_of s v
unfolding records
record_of_lem s v h = from_zero (record_of s) Dead 512 v h

-- a virtual register stands as its record says
pub standing_is :
    (j : Job) (s : State) (head ws : List ℕ) (v : ℕ)
    → Reached j s
    → header_in head ≡ header_of j
    → records_in ws ≡ records s
    → words_short head ws ≡ false
    → v < length j.virt_regs
    → standing_answer head ws v ≡ standing_number (record_of s v)
unfolding standing_answer standing_found header_of
standing_is j s head ws v reach eh er long h =
    let small : v < 512 = omega (arith, h, (good_reached j s reach).premises.few_numbers) in
    let known : leb (header_in head).virt_regs v ≡ false = ap (λ (x : JobHeader). leb x.virt_regs v) eh ∙ lt-leb (length j.virt_regs) v h in
    ap (λ (b : Bool). either (cond b (Err 15) (cond (leb (header_in head).virt_regs v) (Err 8) (Ok (standing_number (record_in (get_or ws v 0))))))) long
    ∙ ap (λ (b : Bool). either (cond b (Err 8) (Ok (standing_number (record_in (get_or ws v 0)))))) known
    ∙ ap standing_number (sym (record_in_lem ws v small) ∙ ap (λ (l : List Assignment). get_or l v Dead) er ∙ record_of_lem s v small)

-- ---- positions

-- the place after a line is read back from its position
abbrev Back : Found → Type 0
Back no_more = Unit {0}
Back (a_line text p) = place_in (place_number p) ≡ p

back_virt_reg : (v : ℕ) → v < 65536 → place_in (1 + v) ≡ VirtReg v
unfolding place_in
back_virt_reg v h =
    let e : 1 + v - 1 ≡ v = omega arith in
    rw (ne_eqb (1 + v) 0 (λ z. omega (arith, z)), lt-ltb (1 + v) 65537 (omega arith)) (ap VirtReg e)

back_entry : (i : ℕ) → i < 2561 → place_in (place_number (Entry i)) ≡ Entry i
unfolding place_in
back_entry i h =
    let e : 65537 + i - 65537 ≡ i = omega arith in
    rw (lt-ltb i 2561 h, ne_eqb (65537 + i) 0 (λ z. omega (arith, z)), le-ltb (65537 + i) 65537 (omega arith), ne_eqb (65537 + i) greatest (λ z. omega (arith, z))) (ap Entry e)

back_end : place_in greatest ≡ End
unfolding place_in
back_end = refl

spare_back : (p : Option (ℕ × ℕ)) (n : ℕ) (l : Lent) → Back (spare_found p n l)
spare_back None n l = tt
spare_back (Some (a, b)) n l = back_end

both_true : (a b : Bool) → (a && b) ≡ true → a ≡ true
both_true true b e = refl
both_true false b e = e

entry_back : (i : ℕ) (h : JobHeader) (l : Lent) → Back (entry_found i h l)
unfolding entry_found
entry_back i h l = go (is_entry l.ends i) refl
  where
    go : (b : Bool) → is_entry l.ends i ≡ b → Back (cond b (a_line (entry_at l i) (Entry (i + 1))) (spare_found h.probe h.regs l))
    go true e = let k = ltb-true i max_entries (both_true (ltb i max_entries) (not (eqb (get_or l.ends i 0) greatest)) e) in back_entry (i + 1) (omega (arith, k))
    go false e = spare_back h.probe h.regs l

virt_reg_back : (v : ℕ) (a : Assignment) (h : JobHeader) (l : Lent) → h.virt_regs < 65536 → Back (virt_reg_found v a h l)
unfolding virt_reg_found
virt_reg_back v a h l small = go (ltb v h.virt_regs) refl
  where
    go : (b : Bool) → ltb v h.virt_regs ≡ b → Back (cond b (a_line (standing_text v a) (VirtReg (v + 1))) (entry_found 0 h l))
    go true e = let k = ltb-true v h.virt_regs e in back_virt_reg (v + 1) (omega (arith, k, small))
    go false e = entry_back 0 h l

found_back : (c : Listing) (a : Assignment) (l : Lent) → c.header.virt_regs < 65536 → Back (found c a l)
unfolding found
found_back c a l small = go c.place
  where
    go : (p : Place) → Back (found_at p c a l)
    go Head = back_virt_reg 0 (omega arith)
    go (VirtReg v) = virt_reg_back v a c.header l small
    go (Entry i) = entry_back i c.header l
    go End = tt

small_count : (head : List ℕ) → (header_in head).virt_regs < 65536
unfolding header_in
small_count head = omega arith

moved_is : (head answer : List ℕ) (n m : ℕ) (p : Place) → place_in m ≡ p → moved (listing_in head answer n) p ≡ listing_in head answer m
unfolding listing_in
moved_is head answer n m p e = rw e refl

header_is : (head answer : List ℕ) (n : ℕ) → (listing_in head answer n).header ≡ header_in head
unfolding listing_in
header_is head answer n = refl

ending_back : (e : Ending) → ending_in (ending_number e) ≡ e
unfolding ending_in
ending_back Done = refl
ending_back Spent = refl
ending_back TooMany = refl

start_is :
    (head answer : List ℕ) (h : JobHeader) (e : Ending)
    → header_in head ≡ h
    → get_or answer 0 0 ≡ ending_number e
    → listing_in head answer 0 ≡ record { ending = e; dequeues = get_or answer 1 0; header = h; place = Head }
unfolding listing_in place_in
start_is head answer h e eh ea = rw (ea, ending_back e, eh) refl

-- the lines from a position on are the one that is found there and those from the position after it
pub line_told : (head ws answer : List ℕ) (l : Lent) (n : ℕ) → lines_at head ws answer l n ≡ lines_after head ws answer l (found_in head ws answer n l)
line_told head ws answer l n =
    lines_told c (records_in ws) l
    ∙ ap (λ (a : Assignment). lines_of c (records_in ws) l (found c a l)) (ap (λ (p : Place). record_at (records_in ws) p) (place_is head answer n) ∙ record_in_lem ws (number_at (place_in n)) (number_small (place_in n)))
    ∙ go (found_in head ws answer n l) (found_back c _ l (subst (λ (h : JobHeader). h.virt_regs < 65536) (sym (header_is head answer n)) (small_count head)))
  where
    c : Listing
    c = listing_in head answer n

    go : (f : Found) → Back f → lines_of (listing_in head answer n) (records_in ws) l f ≡ lines_after head ws answer l f
    go no_more b = refl
    go (a_line text p) b = ap (λ (d : Listing). text ∷ lines_from d (records_in ws) l) (moved_is head answer n (place_number p) p b)

-- and from position 0 on, after a run that answered so, they are together its sheet
pub sheet_told :
    (j : Job) (s : State) (head ws answer : List ℕ) (l : Lent) (ending : Ending)
    → Reached j s
    → header_in head ≡ header_of j
    → Laid j s (records_in ws) l
    → get_or answer 0 0 ≡ ending_number ending
    → together (lines_at head ws answer l 0) ≡ sheet j (record { ending = ending; dequeues = get_or answer 1 0; state = s })
sheet_told j s head ws answer l ending reach eh laid ea =
    ap (λ (c : Listing). together (lines_from c (records_in ws) l)) (start_is head answer (header_of j) ending eh ea)
    ∙ reached_sheet j s reach (records_in ws) l laid ending (get_or answer 1 0)
