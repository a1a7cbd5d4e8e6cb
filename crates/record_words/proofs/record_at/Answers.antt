use mathlib.Core.Path.{sym, ◌∙◌}
use Rattle.record_words.proofs.WordLaws.{record_in_lem, record_past}
use Rattle.record_words.proofs.record_at.Goals as goal

pub returns-then-i-ge512 : goal.returns-then-i-ge512
returns-then-i-ge512 c = record_past _ _ c.if-i-ge512.true

pub returns : goal.returns
returns c = c.record_of.ensures ∙ rw c.at.ensures (sym (record_in_lem _ _ c.if-i-ge512.false))
