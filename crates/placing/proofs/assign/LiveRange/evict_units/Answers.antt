-- The same steps as of `assign_units`, by the same two laws. One lemma over both would be no plainer: it would have to be given all that is cited here.
use Prim.Native.Nat.{◌-◌}
use native.Mathlib.Omega.{arith}
use mathlib.Core.Path.{sym, ◌∙◌}
use mathlib.Core.List.{[]}
use lib.Bits.{and_le_r}
use Rattle.std.proofs.Common.{rules}
use Rattle.entries.specs.Moves.{words}
use Rattle.entries.specs.Placing.{evicting}
use Rattle.placing.proofs.PlacingWalks.{units_more, units_end}
use Rattle.placing.proofs.assign.LiveRange.evict_units.Goals as goal

pub loop-left-preserved : goal.loop-left-preserved
unfolding evicting
loop-left-preserved g c =
    let m = c.loop-left.left in
    (omega (arith, and_le_r m (m - 1)), search rules, units_more _ m _ _ c.loop-left-test.true (omega arith) c.evict_unit.ensures.after ∙ c.loop-left.invariant.2)

pub returns-clause-after : goal.returns-clause-after
unfolding evicting
returns-clause-after g c = sym (units_end _ _ _ (words [] []) c.loop-left-test.false) ∙ c.loop-left.invariant.2
