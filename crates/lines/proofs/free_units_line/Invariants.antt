-- The invariant: the units from this one on, stored from here on, are the whole line of units; the line is the same slice.
use Prim.Native.Nat.{ℕ}
use mathlib.Core.Path.{◌≡◌}
use mathlib.Core.List.{List}
use Rattle.texts.specs.Texts.{Stored}
use Rattle.lines.specs.LineTexts.{sheet_of, is_spare, units_text}
use Rattle.lines.proofs.free_units_line.Given as goal

abbrev pub invariant-loop-unit : goal.invariant-loop-unit
invariant-loop-unit l = (l.out.bytes.ghost_name ≡ l.initial.out.bytes.ghost_name) × ((t : List ℕ) (k : ℕ) → Stored l.out.bytes.now l.out.at (units_text (is_spare (sheet_of l.sheet) l.regs l.from l.to) l.unit) t k → Stored l.initial.out.bytes.now l.initial.out.at (units_text (is_spare (sheet_of l.sheet) l.regs l.from l.to) 0) t k)
