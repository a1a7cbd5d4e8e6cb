-- The invariant: the words of the records in front of this one are stored.
use Rattle.record_words.proofs.WordLaws.{Storing}
use Rattle.record_words.proofs.store.Given as goal

abbrev pub invariant-loop-i : goal.invariant-loop-i
invariant-loop-i l = Storing l.fn.records l.initial.words l.words l.i
