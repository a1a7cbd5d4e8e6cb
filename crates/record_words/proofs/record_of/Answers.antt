use mathlib.Core.Path.{◌∙◌}
use Rattle.record_words.specs.Words.{record_in}
use Rattle.record_words.proofs.record_of.Goals as goal

pub returns : goal.returns
unfolding record_in
returns c = c.record_by.ensures ∙ rw c.weight_in.ensures
