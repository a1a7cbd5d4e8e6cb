-- The segments from here on, with `past` the end of the one before, are refused as the whole list is.
use Prim.Native.Nat.{◌-◌}
use mathlib.Core.Path.{◌≡◌}
use mathlib.Core.List.{[]}
use lib.ListN.{length}
use Rattle.reg_matrix.specs.Refusals.{ranges_refusal}
use Rattle.table_words.specs.Segments.{segments_from, segments_in}
use Rattle.table_words.proofs.ranges.ranges_refusal.Given as goal

abbrev pub invariant-loop-i : goal.invariant-loop-i
invariant-loop-i g l =
    ranges_refusal 0 (segments_in (g.S.SegmentList.froms l.segments) (g.S.SegmentList.tos l.segments) []) ≡ ranges_refusal l.past (segments_from (g.S.SegmentList.froms l.segments) (g.S.SegmentList.tos l.segments) [] l.i (length (g.S.SegmentList.froms l.segments) - l.i))
