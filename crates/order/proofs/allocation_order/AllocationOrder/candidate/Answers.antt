use mathlib.Core.Path.{refl, ap, sym, ◌∙◌}
use mathlib.Core.Bool.{true, false}
use lib.ListN.{length}
use Rattle.std.proofs.Common.{Some}
use Rattle.order.proofs.OrderLaws as laws
use Rattle.order.proofs.allocation_order.AllocationOrder.candidate.Goals as goal

pub returns-then-place-n : goal.returns-then-place-n
returns-then-place-n c =
    let a = c.args.self.now in
    let hs = a.hinted.now in
    ap Some (laws.same_at hs _ c.args.place c.if-place-n.true)
    ∙ laws.at_hinted hs a.class.now c.args.place (length hs) refl c.if-place-n.true

pub returns-then-self-place : goal.returns-then-self-place
returns-then-self-place c =
    let a = c.args.self.now in
    let hs = a.hinted.now in
    laws.at_end hs a.class.now c.args.place (length hs) refl c.if-place-n.false c.if-self-place.true

pub returns-then-is_hinted : goal.returns-then-is_hinted
returns-then-is_hinted c =
    let a = c.args.self.now in
    let hs = a.hinted.now in
    laws.offer_class_lem hs a.class.now c.args.place (length hs) refl true c.if-place-n.false c.if-self-place.false (sym c.is_hinted.ensures ∙ c.if-is_hinted.true)

pub returns : goal.returns
returns c =
    let a = c.args.self.now in
    let hs = a.hinted.now in
    laws.offer_class_lem hs a.class.now c.args.place (length hs) refl false c.if-place-n.false c.if-self-place.false (sym c.is_hinted.ensures ∙ c.if-is_hinted.false)
