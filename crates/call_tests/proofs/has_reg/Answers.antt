use mathlib.Core.Path.{◌∙◌}
use Rattle.call_tests.proofs.RefusalLaws.{has_read}
use Rattle.call_tests.proofs.has_reg.Goals as goal

pub returns : goal.returns
returns c = c.contains.ensures.value ∙ has_read _ _
