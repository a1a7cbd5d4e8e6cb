use mathlib.Core.Path.{◌∙◌}
use Rattle.context.proofs.Carried.{settled}
use Rattle.context.proofs.carry.settle.Goals as goal

pub returns-clause-after : goal.returns-clause-after
returns-clause-after c =
    settled _ _ _ _ _ _ _ _ _ c.take.ensures.after _ (c.record_of-before.ensures ∙ rw c.at.ensures) _ c.given.ensures _ c.word_of.ensures _ c.put.ensures
