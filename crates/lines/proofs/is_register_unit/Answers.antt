use Prim.Native.Nat.{ℕ}
use native.Mathlib.Omega.{arith}
use mathlib.Core.Path.{refl, ◌∙◌}
use mathlib.Core.Bool.{Bool}
use lib.ListN.{get_or}
use Rattle.std.proofs.Common.{rules, tests}
use Rattle.std.proofs.lemmas.Iterator.{YieldsList-from_range}
use Rattle.std.proofs.lemmas.Iterator.Search.{any_from_yields_List}
use Rattle.reg_matrix.specs.Lists.{bit}
use Rattle.reg_matrix.proofs.Places.{any_range}
use Rattle.lines.specs.LineTexts.{is_register_unit}
use Rattle.lines.proofs.is_register_unit.Goals as goal

pub returns : goal.returns
unfolding is_register_unit
returns c =
    let a = c.args in
    let has_unit : ℕ → Bool = λ r. bit a.unit (get_or a.maps.now r 0) in
    any_from_yields_List has_unit _ _ c.any.result c.any.ensures.ran (YieldsList-from_range 0 a.regs a.regs refl (omega arith)) (λ x b q k. search (rules, tests)) ∙ any_range has_unit 0 a.regs
