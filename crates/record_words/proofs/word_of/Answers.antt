use borrow.Author.Rules.{rules}
use mathlib.Core.Path.{sym}
use Rattle.record_words.proofs.WordLaws.{word_told, kind_told}
use Rattle.record_words.proofs.word_of.Goals as goal

pub returns-in-Some : goal.returns-in-Some
returns-in-Some c = word_told _ _ _ _ _ (sym c.in-Some.ensures.2) c.weight_bits.ensures (search rules) (sym c.in-Some.ensures.1) (search rules) c.kind_of-kind.ensures

pub returns-in-None : goal.returns-in-None
returns-in-None c = kind_told _ _ c.in-None.ensures.1 c.in-None.ensures.2 c.kind_of-kind.ensures
