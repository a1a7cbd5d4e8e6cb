use Rattle.std.proofs.Common.{◌+◌, ◌-◌, refl, ◌∙◌}
use Rattle.reg_matrix.specs.Lists.{any, count}
use Rattle.job_tests.proofs.Places.{any_behind}
use Rattle.job_tests.proofs.tests.any_two_places.Goals as goal

pub returns : goal.returns
returns g c p h =
    let a = c.args in
    c.any_place.ensures (λ i. any (p i) (count (i + 1) (a.to - (i + 1)))) (λ i b q. q p h) ∙ any_behind p a.to a.from (a.to - a.from) refl
