-- Evicting the segments from here on, from the table as it stands now, gives what evicting all gives from the table of the call. Assumes nothing.
use mathlib.Core.Path.{◌≡◌}
use lib.ListN.{drop}
use Rattle.table_words.specs.Buffers.{SameTable}
use Rattle.entries.specs.Moves.{words_of}
use Rattle.entries.specs.Placing.{evicting_unit}
use Rattle.placing.proofs.assign.LiveRange.evict_unit.Given as goal

abbrev pub invariant-loop-i : goal.invariant-loop-i
invariant-loop-i g l = let tos = g.S.SegmentList.tos l.self.segments in SameTable l.initial.table l.table × (evicting_unit l.uses l.self.v l.unit (drop l.i tos) (words_of l.table) ≡ evicting_unit l.uses l.self.v l.unit tos (words_of l.initial.table))
