-- The invariant: the hints read so far are stored, and the rest from here is the rest of the whole.
use mathlib.Core.Path.{◌≡◌}
use mathlib.Core.List.{List}
use Rattle.job.specs.declared.Hint.{Hint}
use Rattle.job.specs.Load.{hint}
use Rattle.reader.specs.Read.{left}
use Rattle.reader.proofs.Reading.{Reading}
use Rattle.fields.specs.Virt.{HintsAt}
use Rattle.fields.proofs.virt.hints.Given as goal

abbrev pub invariant-loop-i : goal.invariant-loop-i
invariant-loop-i l = (before : List Hint) × Reading (λ before. hint l.regs) l.count l.i (left l.initial.reader) (left l.reader) before × HintsAt l.h l.initial.j8 l.initial.jf l.j8 l.jf before × (l.reader.bytes ≡ l.initial.reader.bytes)
