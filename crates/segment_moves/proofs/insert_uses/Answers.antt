use Rattle.std.proofs.Common.{rules}
use mathlib.Core.Path.{sym, ◌∙◌}
use Rattle.segment_moves.proofs.UseWalks.{uses_more, uses_end}
use Rattle.segment_moves.proofs.insert_uses.Goals as goal

pub loop-j-preserved : goal.loop-j-preserved
loop-j-preserved c = (search rules, uses_more _ _ _ _ _ c.loop-j-test.true (rw (← c.at.ensures) c.insert_use.ensures.after) ∙ c.loop-j.invariant.1)

pub returns-clause-after : goal.returns-clause-after
returns-clause-after c = sym (uses_end _ _ _ _ c.loop-j-test.false) ∙ c.loop-j.invariant.1
