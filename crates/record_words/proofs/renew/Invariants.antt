-- The invariant: the words in front of this one are stored anew, and the others are as they were.
use mathlib.Core.List.{◌++◌}
use lib.ListN.{drop}
use Rattle.record_words.proofs.WordLaws.{Renewing}
use Rattle.record_words.proofs.renew.Given as goal

abbrev pub invariant-loop-word : goal.invariant-loop-word
invariant-loop-word l = Renewing l.fn.words (l.word-items ++ drop l.n l.fn.words) l.word-index
