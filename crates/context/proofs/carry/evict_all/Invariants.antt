-- The numbers below v are done, and the rest of the set from v on makes the whole; the state is lent in the same slices.
use Rattle.table_words.specs.Buffers.{SameState}
use Rattle.job.specs.Layout.{lists_in}
use Rattle.job_parts.specs.Lent.{slices_of}
use Rattle.context.proofs.CarryLaws.{EvictedTo}
use Rattle.context.proofs.carry.evict_all.Given as goal

abbrev pub invariant-loop-v : goal.invariant-loop-v
invariant-loop-v l =
    SameState l.initial.state l.state
    × EvictedTo l.v l.gone (lists_in (slices_of l.job)) l.initial.state l.initial.words l.state l.words
