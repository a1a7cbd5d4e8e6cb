use mathlib.Core.Path.{sym, ◌∙◌}
use Rattle.order.specs.Hinted.{hinted_by}
use Rattle.stage.proofs.AllocateLaws.{clear_is, available_skip, available_clear, available_not, available_past}
use Rattle.stage.proofs.allocate.find_available_reg.Goals as goal

pub loop-place-preserved-in_default : goal.loop-place-preserved-in_default
loop-place-preserved-in_default c =
    let o = c.args.order.now in
    available_skip _ _ (hinted_by o) o.class.now c.loop-place.place _ (sym c.in_default.is ∙ c.candidate.ensures) ∙ c.loop-place.invariant

pub returns-then-is_clear : goal.returns-then-is_clear
returns-then-is_clear c =
    let o = c.args.order.now in
    available_clear _ _ (hinted_by o) o.class.now c.loop-place.place c.loop-place.tried _ (sym c.in-Some.is ∙ c.candidate.ensures) (clear_is _ _ _ _ _ _ c.at-units.ensures c.is_clear.ensures c.if-is_clear.true)
    ∙ c.loop-place.invariant

pub loop-place-preserved : goal.loop-place-preserved
loop-place-preserved c =
    let o = c.args.order.now in
    available_not _ _ (hinted_by o) o.class.now c.loop-place.place c.loop-place.tried _ (sym c.in-Some.is ∙ c.candidate.ensures) (clear_is _ _ _ _ _ _ c.at-units.ensures c.is_clear.ensures c.if-is_clear.false)
    ∙ c.loop-place.invariant

pub returns : goal.returns
returns c =
    let o = c.args.order.now in
    c.none_of.ensures ∙ available_past _ _ (hinted_by o) o.class.now c.loop-place.place _ (rw c.len-place-end.ensures at c.loop-place-test.false) ∙ c.loop-place.invariant
