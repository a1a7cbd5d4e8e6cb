-- The sheet's lines from a position on, in the shape of the code, from any lent numbers; proofs/SheetLaws.antt ties them to the definition of the
-- sheet. Assumes nothing.
use Rattle.std.specs.Prelude.{ℕ, zero, suc, ◌+◌, ◌-◌, ◌≡◌, List, [], ◌∷◌, Bool, cond, not, ◌&&◌, ltb, eqb, length, get_or}
use Rattle.std.proofs.lemmas.List.Edits.{sets}
use Rattle.reg_matrix.specs.Lines.{entry_line}
use Rattle.reg_matrix.specs.Layout.{entry_of, greatest, max_entries}
use Rattle.std.specs.Prelude.{Option, Some, None, Result, Ok, Err}
use Rattle.job.specs.declared.JobHeader.{JobHeader}
use Rattle.allocator.specs.declared.Assignment.{Assignment}
use Rattle.allocator.specs.declared.Assignment.TheVariants.{Dead}
use Rattle.allocator.specs.Sheet.{end_line}
use Rattle.lines.specs.LineTexts.{Lent, spare_text}
use Rattle.result_lines.specs.ResultTexts.{standing_text}
use Rattle.listing.specs.declared.Place.{Place}
use Rattle.listing.specs.declared.Place.TheVariants.{Head, VirtReg, Entry, End}
use Rattle.listing.specs.declared.Listing.{Listing}

-- the bytes that a lent line must have room for
abbrev pub line_limit : ℕ
line_limit = 256

-- ---- what comes next

-- nothing, or a line and the place after it
pub data Found : Type 0 where
  no_more : Found
  a_line : List ℕ → Place → Found

abbrev pub spare_found : Option (ℕ × ℕ) → ℕ → Lent → Found
spare_found None n l = no_more
spare_found (Some (from, to)) n l = a_line (spare_text l n from to) End

-- an entry stands at place i
abbrev pub is_entry : List ℕ → ℕ → Bool
is_entry ends i = ltb i max_entries && not (eqb (get_or ends i 0) greatest)

abbrev pub entry_at : Lent → ℕ → List ℕ
entry_at l i = entry_line (entry_of (get_or l.ends i 0) (get_or l.rests i 0))

unfoldable pub entry_found : ℕ → JobHeader → Lent → Found
entry_found i h l = cond (is_entry l.ends i) (a_line (entry_at l i) (Entry (i + 1))) (spare_found h.probe h.regs l)

unfoldable pub virt_reg_found : ℕ → Assignment → JobHeader → Lent → Found
virt_reg_found v a h l = cond (ltb v h.virt_regs) (a_line (standing_text v a) (VirtReg (v + 1))) (entry_found 0 h l)

-- a is the record of the number that the position asks about
abbrev pub found_at : Place → Listing → Assignment → Lent → Found
found_at Head c a l = a_line (end_line c.ending c.dequeues) (VirtReg 0)
found_at (VirtReg v) c a l = virt_reg_found v a c.header l
found_at (Entry i) c a l = entry_found i c.header l
found_at End c a l = no_more

unfoldable pub found : Listing → Assignment → Lent → Found
found c a l = found_at c.place c a l

-- ---- the answer, and the lent line afterwards

abbrev pub moved : Listing → Place → Listing
moved c p = record { ending = c.ending; dequeues = c.dequeues; header = c.header; place = p }

abbrev pub step_of : Listing → Found → Option (ℕ × Listing)
step_of c no_more = None
step_of c (a_line text p) = Some (length text, moved c p)

abbrev pub printed_on : List ℕ → Found → List ℕ
printed_on s no_more = s
printed_on s (a_line text p) = sets s 0 text

-- the answer for what was found, where the lent line was s, and how that line is afterwards
abbrev pub Answered : Listing → Found → List ℕ → List ℕ → Option (ℕ × Listing) → Type 0
Answered c f s t r = (r ≡ step_of c f) × (t ≡ printed_on s f)

-- the same, or a refusal of a line that is too short, in which nothing is stored
abbrev pub AnsweredIfLong : Listing → Found → List ℕ → List ℕ → Result (Option (ℕ × Listing)) ℕ → Type 0
AnsweredIfLong c f s t r =
    (r ≡ cond (ltb (length s) line_limit) (Err 15) (Ok (step_of c f))) × (t ≡ cond (ltb (length s) line_limit) s (printed_on s f))

-- the number whose record the position asks about
abbrev pub number_at : Place → ℕ
number_at Head = 0
number_at (VirtReg v) = cond (ltb v 512) v 0
number_at (Entry i) = 0
number_at End = 0

-- ---- the lines from a position on, where `rs` are the records

-- the record that a place asks about
abbrev pub record_at : List Assignment → Place → Assignment
record_at rs p = get_or rs (number_at p) Dead

abbrev pub spare_lines : Option (ℕ × ℕ) → ℕ → Lent → List (List ℕ)
spare_lines None n l = []
spare_lines (Some (from, to)) n l = spare_text l n from to ∷ []

-- k places of the table, from place i on
unfoldable pub entry_lines : ℕ → ℕ → JobHeader → Lent → List (List ℕ)
entry_lines zero i h l = spare_lines h.probe h.regs l
entry_lines (suc k) i h l = cond (is_entry l.ends i) (entry_at l i ∷ entry_lines k (i + 1) h l) (spare_lines h.probe h.regs l)

-- k virtual registers, from v on
unfoldable pub virt_reg_lines : ℕ → ℕ → List Assignment → JobHeader → Lent → List (List ℕ)
virt_reg_lines zero v rs h l = entry_lines max_entries 0 h l
virt_reg_lines (suc k) v rs h l = standing_text v (record_at rs (VirtReg v)) ∷ virt_reg_lines k (v + 1) rs h l

abbrev pub lines_at : Place → Listing → List Assignment → Lent → List (List ℕ)
lines_at Head c rs l = end_line c.ending c.dequeues ∷ virt_reg_lines c.header.virt_regs 0 rs c.header l
lines_at (VirtReg v) c rs l = virt_reg_lines (c.header.virt_regs - v) v rs c.header l
lines_at (Entry i) c rs l = entry_lines (max_entries - i) i c.header l
lines_at End c rs l = []

unfoldable pub lines_from : Listing → List Assignment → Lent → List (List ℕ)
lines_from c rs l = lines_at c.place c rs l

-- a line, and those from the position after it
abbrev pub lines_of : Listing → List Assignment → Lent → Found → List (List ℕ)
lines_of c rs l no_more = []
lines_of c rs l (a_line text p) = text ∷ lines_from (moved c p) rs l
