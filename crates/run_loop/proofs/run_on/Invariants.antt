-- The invariant: the rest of the run from here is the rest of the whole, and the state is lent in the same slices.
use Prim.Native.Nat.{◌-◌}
use Rattle.table_words.specs.Buffers.{SameState}
use Rattle.job.specs.Layout.{lists_in}
use Rattle.job_parts.specs.Lent.{slices_of}
use Rattle.run_loop.specs.Running.{state_in}
use Rattle.run_loop.proofs.RunLaws.{RunTo}
use Rattle.run_loop.proofs.run_on.Given as goal

abbrev pub invariant-loop-dequeues : goal.invariant-loop-dequeues
invariant-loop-dequeues l =
    SameState l.initial.state l.state
    × RunTo l.budget (l.budget - l.dequeues) (lists_in (slices_of l.job)) (state_in l.initial.state l.initial.last) l.initial.words (state_in l.state l.last) l.words
