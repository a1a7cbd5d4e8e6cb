use Prim.Native.Nat.{◌-◌}
use native.Mathlib.Omega.{arith}
use mathlib.Core.Path.{sym, ◌∙◌}
use mathlib.Core.List.{[]}
use lib.Bits.{and_le_r}
use Rattle.std.proofs.Common.{rules}
use Rattle.entries.specs.Moves.{words}
use Rattle.entries.specs.Placing.{assigning}
use Rattle.placing.proofs.PlacingWalks.{units_more, units_end}
use Rattle.placing.proofs.assign.LiveRange.assign_units.Goals as goal

pub loop-left-preserved : goal.loop-left-preserved
unfolding assigning
loop-left-preserved g c =
    let m = c.loop-left.left in
    (omega (arith, and_le_r m (m - 1)), search rules, units_more _ m _ _ c.loop-left-test.true (omega arith) c.assign_unit.ensures.after ∙ c.loop-left.invariant.2)

pub returns-clause-after : goal.returns-clause-after
unfolding assigning
returns-clause-after g c = sym (units_end _ _ _ (words [] []) c.loop-left-test.false) ∙ c.loop-left.invariant.2
