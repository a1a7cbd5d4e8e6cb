use mathlib.Core.Path.{◌∙◌}
use Rattle.job.specs.Layout.{lists_in}
use Rattle.job_parts.specs.Lent.{slices_of}
use Rattle.call_tests.proofs.RefusalLaws.{named_class, named_sets}
use Rattle.call_tests.proofs.is_named.Goals as goal

pub returns-then-has_reg : goal.returns-then-has_reg
returns-then-has_reg c = named_class (lists_in (slices_of c.args.job)) _ _ _ _ _ c.class_of-class.ensures c.has_reg.ensures c.if-has_reg.true

pub returns : goal.returns
returns c = named_sets (lists_in (slices_of c.args.job)) _ _ _ _ _ c.class_of-class.ensures c.has_reg.ensures c.if-has_reg.false _ _ (c.at-set.ensures ∙ rw c.from-sets.ensures) (c.set_names.ensures ∙ rw (c.from-sets.ensures, c.from-starts.ensures, c.from.ensures))
