use mathlib.Core.Path.{refl, sym, ap, ◌∙◌}
use Rattle.std.proofs.Common.{Some}
use Rattle.std.proofs.lemmas.List.{get_or_default}
use Rattle.stage.proofs.AllocateLaws.{tried_is, prefer_end, prefer_yes, prefer_no, prefer_out}
use Rattle.stage.proofs.allocate.try_evict_for_preferred_reg.Goals as goal

pub loop-c-preserved-in_default : goal.loop-c-preserved-in_default
loop-c-preserved-in_default c =
    let hs = c.args.hinted.now in
    let l = c.loop-c in
    (
    prefer_out _ _ _ _ _ hs l.c-index c.loop-c-test.true _ (get_or_default hs l.c-index _ _ c.loop-c-test.true) _
    (tried_is _ _ _ _ _ _ _ _ _ refl c.at-units.ensures c.try_reports.ensures) c.in_default.is
    ∙ l.invariant
    )

pub returns-then-is_preferred : goal.returns-then-is_preferred
returns-then-is_preferred c =
    let hs = c.args.hinted.now in
    let l = c.loop-c in
    (
    ap Some c.found.ensures ∙ prefer_yes _ _ _ _ _ hs l.c-index c.loop-c-test.true _ (get_or_default hs l.c-index _ _ c.loop-c-test.true) _
    (tried_is _ _ _ _ _ _ _ _ _ refl c.at-units.ensures c.try_reports.ensures) _ c.in-Some.is (sym c.is_preferred.ensures ∙ c.if-is_preferred.true)
    ∙ l.invariant
    )

pub loop-c-preserved : goal.loop-c-preserved
loop-c-preserved c =
    let hs = c.args.hinted.now in
    let l = c.loop-c in
    (
    prefer_no _ _ _ _ _ hs l.c-index c.loop-c-test.true _ (get_or_default hs l.c-index _ _ c.loop-c-test.true) _
    (tried_is _ _ _ _ _ _ _ _ _ refl c.at-units.ensures c.try_reports.ensures) _ c.in-Some.is (sym c.is_preferred.ensures ∙ c.if-is_preferred.false)
    ∙ l.invariant
    )

pub returns : goal.returns
returns c =
    prefer_end _ _ _ _ _ c.args.hinted.now c.loop-c.c-index c.loop-c-test.false ∙ c.loop-c.invariant
