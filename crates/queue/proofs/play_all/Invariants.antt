-- The invariant: playing the matches that are left gives the whole.
use Prim.Native.Nat.{◌-◌}
use mathlib.Core.Path.{◌≡◌}
use Rattle.queue.specs.QueueWalk.{play_from}
use Rattle.queue.proofs.play_all.Given as goal

abbrev pub invariant-loop-i : goal.invariant-loop-i
invariant-loop-i l = play_from (l.i - 1) l.queue ≡ play_from 511 l.initial.queue
