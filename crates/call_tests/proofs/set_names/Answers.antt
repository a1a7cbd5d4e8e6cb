use native.Mathlib.Omega.{arith}
use mathlib.Core.Path.{refl, ◌∙◌}
use Rattle.std.proofs.Common.{rules, tests}
use Rattle.std.proofs.lemmas.Iterator.{YieldsList-from_range}
use Rattle.std.proofs.lemmas.Iterator.Search.{any_from_yields_List}
use Rattle.reg_matrix.proofs.Places.{any_range}
use Rattle.call_tests.specs.Testing.{hinted_at}
use Rattle.call_tests.proofs.set_names.Goals as goal

pub returns : goal.returns
returns c =
    let a = c.args in
    let names = hinted_at a.sets.now a.starts.now a.hints.now a.set a.reg in
    any_from_yields_List names _ _ c.any.result c.any.ensures.ran (YieldsList-from_range 0 a.n a.n refl (omega arith)) (λ x b q k. search (rules, tests)) ∙ any_range names 0 a.n
