use native.Mathlib.Omega.{arith}
use mathlib.Core.Path.{sym, ◌∙◌}
use lib.Seq.{length-take-le, take_all}
use borrow.Author.Tests.{ltb-true, ltb-false}
use Rattle.thin.proofs.check.seen.Goals as goal

pub slice_bounds-result-end : goal.slice_bounds-result-end
slice_bounds-result-end c = sym (length-take-le 512 c.args.segments.now (omega (arith, ltb-true _ _ (sym c.is_long.ensures ∙ c.if-is_long.true))))

pub returns-else-is_long : goal.returns-else-is_long
returns-else-is_long c = sym (take_all _ _ (ltb-false _ _ (sym c.is_long.ensures ∙ c.if-is_long.false)))
