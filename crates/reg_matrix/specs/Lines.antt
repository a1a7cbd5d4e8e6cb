-- Printed lines, as bytes: numbers, and the lines of entries (document 01, "The printed sheet") and of a check's reports (the script format,
-- docs/SCRIPT.md). Assumes nothing.
use Rattle.std.specs.Prelude.{ℕ, zero, suc, ◌+◌, ◌/◌, ◌%◌, List, [], ◌∷◌, ◌++◌, cond, ltb}
use Rattle.reg_matrix.specs.Lists.{ascii, concat_map}
use Rattle.reg_matrix.specs.Table.{Table}
use Rattle.reg_matrix.specs.declared.Entry.{Entry}
use Rattle.std.specs.Prelude.{Option, Some, None}
use Rattle.reg_matrix.specs.declared.Reservation.{Reservation}
use Rattle.reg_matrix.specs.declared.Reservation.TheVariants.{Held, FixedUse, FixedDef}
use Rattle.reg_matrix.specs.declared.Interference.{Interference}
use Rattle.reg_matrix.specs.declared.InterferenceKind.{InterferenceKind}
use Rattle.reg_matrix.specs.declared.InterferenceKind.TheVariants.{Fixed, VirtReg}

-- 01, "The printed sheet": a number's decimal digits, in front of r; d bounds how many it has
unfoldable pub digits : ℕ → ℕ → List ℕ → List ℕ
digits zero n r = r
digits (suc d) n r = let more = digits d (n / 10) ((48 + n % 10) ∷ r) in cond (ltb n 10) ((48 + n % 10) ∷ r) more

-- 01, "The printed sheet": every number there is below 10^20
abbrev pub number : ℕ → List ℕ
number n = digits 20 n []

-- 01, "The printed sheet": a space, and a word or a number
abbrev pub sp : List ℕ → List ℕ
sp w = 32 ∷ w

-- 01, "The printed sheet": a line and its end
abbrev pub line : List ℕ → List ℕ
line l = l ++ (10 ∷ [])

-- 01, "The printed sheet": "A refusal prints `refused N` alone"
abbrev pub refused_line : ℕ → List ℕ
refused_line n = line (ascii "refused " ++ number n)

-- ---- `u U FROM TO held N I`, `u U FROM TO use V`, `u U FROM TO def`

-- 01, "The printed sheet": "I the fixed index or `-`"
abbrev pub index_text : Option ℕ → List ℕ
index_text None = ascii "-"
index_text (Some i) = number i

-- 01, "The printed sheet": `held N I`, `use V`, `def`
unfoldable pub reservation_text : Reservation → List ℕ
reservation_text (Held v i) = ascii " held " ++ number v ++ sp (index_text i)
reservation_text (FixedUse x) = ascii " use " ++ number x
reservation_text FixedDef = ascii " def"

-- 01, "The printed sheet": the line of an entry
unfoldable pub entry_line : Entry → List ℕ
entry_line e = line (ascii "u " ++ number e.unit ++ sp (number e.from) ++ sp (number e.to) ++ reservation_text e.reservation)

-- 01, "The printed sheet": "entries by unit and end", as the table has them
unfoldable pub table_lines : Table → List ℕ
table_lines t = concat_map entry_line t

-- ---- `r UNIT SEGMENT FROM TO v N`, `r UNIT SEGMENT FROM TO fixed`

-- docs/SCRIPT.md: what a report is of
abbrev pub kind_text : InterferenceKind → List ℕ
kind_text Fixed = ascii " fixed"
kind_text (VirtReg v) = ascii " v " ++ number v

-- docs/SCRIPT.md: the line of a report of 01's "Check"
unfoldable pub report_line : Interference → List ℕ
report_line r =
    line (ascii "r " ++ number r.unit ++ sp (number r.segment) ++ sp (number r.from) ++ sp (number r.to) ++ kind_text r.kind)
