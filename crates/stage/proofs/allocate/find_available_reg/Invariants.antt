-- The invariant: the walk over the candidates from place i on finds what the whole walk finds. Assumes nothing.
use mathlib.Core.Path.{◌≡◌}
use mathlib.Core.Bool.{false}
use Rattle.stage.specs.Searching.{lent_for}
use Rattle.order.specs.Hinted.{hinted_by}
use Rattle.order.specs.OrderWalk.{offers_from}
use Rattle.stage.specs.AllocateWalk.{available_in}
use Rattle.stage.proofs.allocate.find_available_reg.Given as goal

abbrev pub invariant-loop-place : goal.invariant-loop-place
invariant-loop-place l = available_in (lent_for l.search) l.search.maps.now l.tried (offers_from (hinted_by l.order) l.order.class.now l.place) ≡ available_in (lent_for l.search) l.search.maps.now false (offers_from (hinted_by l.order) l.order.class.now 0)
