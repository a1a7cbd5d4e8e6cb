-- The next report from this position is the one that was asked for. The measure is how far the walk has to go at most.
use mathlib.Core.Path.{◌≡◌}
use Rattle.matrix.specs.Walk.{Lent, lent_in, left, next_of}
use Rattle.matrix.proofs.Cursor.next.Given as goal

abbrev pub invariant-loop-report : goal.invariant-loop-report
invariant-loop-report g l =
    let S = g.S.SegmentList in
    let W : Lent = lent_in l.matrix (S.froms l.segments) (S.tos l.segments) (S.values l.segments) in
    next_of W l.c ≡ next_of W l.initial.c

abbrev pub decreases-loop-report : goal.decreases-loop-report
decreases-loop-report g l =
    let S = g.S.SegmentList in
    left (lent_in l.matrix (S.froms l.segments) (S.tos l.segments) (S.values l.segments)) l.c
