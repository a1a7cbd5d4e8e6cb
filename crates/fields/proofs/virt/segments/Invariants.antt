-- The invariant: the segments read so far are stored, and the rest of them from here are the rest of the whole.
use mathlib.Core.Path.{◌≡◌}
use mathlib.Core.List.{List}
use Rattle.reg_matrix.specs.declared.ValueSegment.{ValueSegment}
use Rattle.job.specs.Load.{segment, past_of}
use Rattle.reader.specs.Read.{left}
use Rattle.reader.proofs.Reading.{Reading}
use Rattle.fields.specs.Virt.{SegmentsAt}
use Rattle.fields.proofs.virt.segments.Given as goal

abbrev pub invariant-loop-i : goal.invariant-loop-i
invariant-loop-i l = (before : List ValueSegment) × Reading segment l.count l.i (left l.initial.reader) (left l.reader) before × (l.past ≡ past_of before) × SegmentsAt l.g l.initial.j32 l.initial.j16 l.j32 l.j16 before × (l.reader.bytes ≡ l.initial.reader.bytes)
