-- Placing on the units that are left, on the table as it stands now, gives what placing on all gives on the table of the call. Assumes nothing.
use Prim.Native.Nat.{◌≤◌}
use mathlib.Core.Path.{◌≡◌}
use Rattle.table_words.specs.Buffers.{SameTable}
use Rattle.entries.specs.Moves.{words_of}
use Rattle.entries.specs.Placing.{assigning}
use Rattle.placing.proofs.assign.LiveRange.assign_units.Given as goal

abbrev pub invariant-loop-left : goal.invariant-loop-left
invariant-loop-left g l = (l.left ≤ l.self.units) × SameTable l.initial.table l.table × (assigning l.uses l.self.v l.left (g.S.SegmentList.froms l.self.segments) (g.S.SegmentList.tos l.self.segments) (words_of l.table) ≡ assigning l.uses l.self.v l.self.units (g.S.SegmentList.froms l.self.segments) (g.S.SegmentList.tos l.self.segments) (words_of l.initial.table))

abbrev pub decreases-loop-left : goal.decreases-loop-left
decreases-loop-left g l = l.left
