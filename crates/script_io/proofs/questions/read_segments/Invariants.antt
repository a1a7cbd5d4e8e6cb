-- What was left is what is left now and ten bytes for each segment read so far. Assumes nothing.
use Prim.Native.Nat.{◌+◌, ◌*◌}
use mathlib.Core.Path.{◌≡◌}
use Rattle.script_io.proofs.questions.read_segments.Given as goal

abbrev pub invariant-loop-segment : goal.invariant-loop-segment
invariant-loop-segment l = l.input.left + 10 * l.segment-index ≡ l.initial.input.left
