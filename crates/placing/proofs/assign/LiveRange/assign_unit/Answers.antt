use mathlib.Core.Path.{ap, sym, ◌∙◌}
use mathlib.Core.List.{[]}
use Rattle.std.proofs.Common.{rules}
use Rattle.reg_matrix.specs.declared.ValueSegment.{ValueSegment}
use Rattle.entries.specs.Moves.{words}
use Rattle.placing.proofs.PlacingWalks.{unit_more, unit_end}
use Rattle.placing.proofs.assign.LiveRange.assign_unit.Goals as goal

pub loop-i-preserved : goal.loop-i-preserved
loop-i-preserved g c =
    let from = ap (λ (s : ValueSegment). s.from) c.segment-segment.ensures in
    let to = ap (λ (s : ValueSegment). s.to) c.segment-segment.ensures in
    (search rules, unit_more _ _ _ _ _ _ _ _ c.requires (rw c.count-i-end.ensures at c.loop-i-test.true) (rw (← from, ← to) c.assign_segment.ensures.after) ∙ c.loop-i.invariant.1)

pub returns-clause-after : goal.returns-clause-after
returns-clause-after g c = sym (unit_end _ _ _ _ _ _ _ (words [] []) (rw c.count-i-end.ensures at c.loop-i-test.false)) ∙ c.loop-i.invariant.1
