-- Each call takes at least one byte, so what is left of the script falls, and the loop ends by itself. Assumes nothing.
use Prim.Native.Nat.{◌≤◌}
use Rattle.table_words.specs.Buffers.{SameState}
use Rattle.script_calls.proofs.make_calls.Given as goal

abbrev pub invariant-loop-call : goal.invariant-loop-call
invariant-loop-call l = (l.input.left ≤ l.initial.input.left) × SameState l.initial.state l.state

abbrev pub decreases-loop-call : goal.decreases-loop-call
decreases-loop-call l = l.input.left
