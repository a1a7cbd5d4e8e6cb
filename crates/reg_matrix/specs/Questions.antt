-- The questions that a caller asks by themselves: a check of given segments on a register, and whether a unit is spare over a range (document
-- 01, "Check", "Spare", and "Order": 15, 8, then 5, 6, 7 by range). `regs` are the registers' maps of units, `lent` the sizes of what was
-- lent. Assumes nothing.
use Rattle.std.specs.Prelude.{ℕ, List, [], ◌∷◌, ◌++◌, Bool, true, ltb, leb, length, get_or}
use Rattle.std.proofs.Math.Option.{Option, none, some}
use Rattle.reg_matrix.specs.Lists.{first, is_nil}
use Rattle.reg_matrix.specs.Refusals.{refusal, ◌if◌, or_then, short_buffer, range_refusal, ranges_refusal}
use Rattle.reg_matrix.specs.Table.{Table, on_unit}
use Rattle.reg_matrix.specs.Check.{check}
use Rattle.reg_matrix.specs.Layout.{max_entries, max_fixed}
use Rattle.reg_matrix.specs.declared.ValueSegment.{ValueSegment}
use Rattle.reg_matrix.specs.declared.Entry.{Entry}
use Rattle.reg_matrix.specs.declared.Interference.{Interference}

-- layout: the sizes of the table's two buffers
abbrev pub table_limits : List ℕ
table_limits = max_entries ∷ max_entries ∷ []

-- layout: what a check is lent: the maps of units, the fixed uses and the table; then the points and values of n segments
abbrev pub check_limits : ℕ → List ℕ
check_limits n = 64 ∷ max_fixed ∷ table_limits ++ (n ∷ n ∷ n ∷ [])

-- 01, "Order": "checks and spare questions 15, 8, then 5, 6, 7 by range"
unfoldable pub check_refusal : List ℕ → List ℕ → ℕ → List ValueSegment → Option ℕ
check_refusal lent regs r ss =
    or_then (refusal (15 if short_buffer (check_limits (length ss)) lent ∷ 8 if leb (length regs) r ∷ 5 if is_nil ss ∷ [])) (ranges_refusal 0 ss)

-- 01, "What the stage answers": a refusal's number, or the reports
pub data Checked : Type 0 where
  not_checked : ℕ → Checked
  checked : List Interference → Checked

-- 01, "What the stage answers": "A refusal returns its number alone"
abbrev pub or_reports : Option ℕ → List Interference → Checked
or_reports (some n) rs = not_checked n
or_reports none rs = checked rs

-- 01, "Check", asked by itself
unfoldable pub ask_check : List ℕ → List ℕ → List Entry → Table → Bool → ℕ → List ValueSegment → Checked
ask_check lent regs fixed t full r ss = or_reports (check_refusal lent regs r ss) (check full fixed t (get_or regs r 0) ss)

-- ---- spare

-- 01, "Spare": not "at or before the range's end"
abbrev pub starts_past : ValueSegment → Option Entry → Bool
starts_past s none = true
starts_past s (some e) = ltb s.to e.from

-- 01, "Spare": "A unit is spare over a range unless the first entry ending past the range's start starts at or before the range's end."
unfoldable pub is_unit_free : Table → ℕ → ValueSegment → Bool
is_unit_free t u s = starts_past s (first (λ e. ltb s.from e.to) (on_unit u t))

-- 01, "Order", of spare questions; 7 cannot be, as the range is the first
unfoldable pub spare_refusal : List ℕ → ℕ → ValueSegment → Option ℕ
spare_refusal lent u s = or_then (refusal (15 if short_buffer table_limits lent ∷ 8 if leb 64 u ∷ [])) (range_refusal 0 s)

-- 01, "What the stage answers": a refusal's number, or whether the unit is spare
pub data Spared : Type 0 where
  not_asked : ℕ → Spared
  is_spare : Bool → Spared

-- 01, "What the stage answers": "A refusal returns its number alone"
abbrev pub or_spare : Option ℕ → Bool → Spared
or_spare (some n) b = not_asked n
or_spare none b = is_spare b

-- 01, "Spare", asked by itself
unfoldable pub ask_spare : List ℕ → Table → ℕ → ValueSegment → Spared
ask_spare lent t u s = or_spare (spare_refusal lent u s) (is_unit_free t u s)
