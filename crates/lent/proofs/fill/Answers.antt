use Rattle.std.proofs.Common.{◌∙◌}
use Rattle.lent.proofs.Laws.{pad_more}
use Rattle.lent.proofs.fill.Goals as goal

pub loop-i-preserved : goal.loop-i-preserved
loop-i-preserved g c = c.loop-i.invariant ∙ pad_more _ _ _ _ _ c.loop-i-test.true c.put.ensures
