-- What is left and what is still to be read go down together. Assumes nothing.
use Prim.Native.Nat.{◌+◌, ◌≤◌}
use mathlib.Core.Path.{◌≡◌}
use Rattle.script_bytes.proofs.input.Input.skip.Given as goal

abbrev pub invariant-loop-more : goal.invariant-loop-more
invariant-loop-more l = (l.more ≤ l.n) × (l.self.left + l.n ≡ l.initial.self.left + l.more)

abbrev pub decreases-loop-more : goal.decreases-loop-more
decreases-loop-more l = l.more
