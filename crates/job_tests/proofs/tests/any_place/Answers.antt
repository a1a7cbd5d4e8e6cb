use borrow.Author.Rules.{rules}
use Rattle.std.proofs.Common.{◌-◌, refl, ◌∙◌}
use Rattle.std.proofs.lemmas.Iterator.{YieldsList-from_range}
use Rattle.std.proofs.lemmas.Iterator.Search.{any_from_yields_List}
use Rattle.reg_matrix.proofs.Places.{any_range}
use Rattle.job_tests.proofs.tests.any_place.Goals as goal

pub returns : goal.returns
returns g c p h =
    let a = c.args in
    any_from_yields_List p _ _ _ c.any.ensures.ran (YieldsList-from_range a.from a.to (a.to - a.from) refl refl) (λ x b q k. search (rules, h))
    ∙ any_range p a.from (a.to - a.from)
