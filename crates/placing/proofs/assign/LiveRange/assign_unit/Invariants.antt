-- Placing the segments from here on, on the table as it stands now, gives what placing all gives on the table of the call. Assumes nothing.
use mathlib.Core.Path.{◌≡◌}
use lib.ListN.{drop}
use Rattle.table_words.specs.Buffers.{SameTable}
use Rattle.entries.specs.Moves.{words_of}
use Rattle.entries.specs.Placing.{assigning_unit}
use Rattle.placing.proofs.assign.LiveRange.assign_unit.Given as goal

abbrev pub invariant-loop-i : goal.invariant-loop-i
invariant-loop-i g l = let froms = g.S.SegmentList.froms l.self.segments in let tos = g.S.SegmentList.tos l.self.segments in SameTable l.initial.table l.table × (assigning_unit l.uses l.self.v l.unit (drop l.i froms) (drop l.i tos) (words_of l.table) ≡ assigning_unit l.uses l.self.v l.unit froms tos (words_of l.initial.table))
