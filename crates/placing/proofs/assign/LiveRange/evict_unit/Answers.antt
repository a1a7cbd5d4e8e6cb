use mathlib.Core.Path.{ap, sym, ◌∙◌}
use Rattle.std.proofs.Common.{rules}
use Rattle.reg_matrix.specs.declared.ValueSegment.{ValueSegment}
use Rattle.entries.specs.Placing.{evicting_unit}
use Rattle.reg_matrix.proofs.Places.{fold_more, fold_end}
use Rattle.placing.proofs.assign.LiveRange.evict_unit.Goals as goal

pub loop-i-preserved : goal.loop-i-preserved
unfolding evicting_unit
loop-i-preserved g c =
    let to = ap (λ (s : ValueSegment). s.to) c.segment-segment.ensures in
    (search rules, fold_more _ _ _ _ _ 0 (rw c.end_count-i-end.ensures at c.loop-i-test.true) (rw (← to) c.evict_segment.ensures.after) ∙ c.loop-i.invariant.1)

pub returns-clause-after : goal.returns-clause-after
unfolding evicting_unit
returns-clause-after g c = sym (fold_end _ _ _ _ (rw c.end_count-i-end.ensures at c.loop-i-test.false)) ∙ c.loop-i.invariant.1
