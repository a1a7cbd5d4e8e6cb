-- The invariant: playing the matches that are left above this word gives all nine.
use Prim.Native.Nat.{◌<◌, ◌-◌}
use mathlib.Core.Path.{◌≡◌}
use Rattle.queue.specs.QueueWalk.{climb}
use Rattle.queue.proofs.set_word.Given as goal

abbrev pub invariant-loop : goal.invariant-loop
invariant-loop l = (l.i < 1024) × (climb (9 - l.counter) l.queue l.i ≡ climb 9 l.initial.queue l.initial.i)
