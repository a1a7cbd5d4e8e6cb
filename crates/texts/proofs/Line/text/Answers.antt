use Rattle.std.proofs.Common.{◌∙◌}
use Rattle.texts.proofs.StoreLaws as laws
use Rattle.texts.proofs.Line.text.Goals as goal

pub loop-b-preserved : goal.loop-b-preserved
loop-b-preserved c =
    (c.byte.ensures.same ∙ c.loop-b.invariant.0, laws.text_more _ _ _ c.loop-b.b-index _ _ _ _ c.loop-b-test.true c.loop-b.invariant.1 c.byte.ensures.stored)
