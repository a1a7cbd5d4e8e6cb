use mathlib.Core.Path.{sym, ◌∙◌}
use Rattle.matrix.proofs.Walks.{answered, next_goes, goes_less, next_meets, next_ends}
use Rattle.matrix.proofs.Cursor.next.Goals as goal

pub returns-in-Meets : goal.returns-in-Meets
returns-in-Meets g c = answered _ _ _ (sym (next_meets _ _ _ _ (sym c.step.ensures ∙ c.in-Meets.is)) ∙ c.loop-report.invariant)

pub returns-in-Ends : goal.returns-in-Ends
returns-in-Ends g c = answered _ _ _ (sym (next_ends _ _ (sym c.step.ensures ∙ c.in-Ends.is)) ∙ c.loop-report.invariant)

pub loop-report-smaller : goal.loop-report-smaller
loop-report-smaller g c = goes_less _ _ _ (sym c.step.ensures ∙ c.in-Goes.is)

pub loop-report-preserved : goal.loop-report-preserved
loop-report-preserved g c = sym (next_goes _ _ _ (sym c.step.ensures ∙ c.in-Goes.is)) ∙ c.loop-report.invariant
