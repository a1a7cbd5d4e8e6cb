-- The invariant: storing the words of the numbers from this one on gives the whole.
use Prim.Native.Nat.{◌-◌}
use mathlib.Core.Path.{◌≡◌}
use Rattle.queue.specs.QueueWalk.{leaves_from, first_word}
use Rattle.queue.proofs.fill_leaves.Given as goal

abbrev pub invariant-loop-number : goal.invariant-loop-number
invariant-loop-number l = leaves_from (first_word l.loaded.count l.loaded.starts.now l.loaded.sizes.now) (512 - l.number) l.number l.queue ≡ leaves_from (first_word l.loaded.count l.loaded.starts.now l.loaded.sizes.now) 512 0 l.initial.queue
