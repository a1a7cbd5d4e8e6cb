use mathlib.Core.Path.{sym, ◌∙◌}
use Rattle.order.specs.Hinted.{hinted_by}
use Rattle.stage.proofs.AllocateLaws.{tried_is, evict_skip, evict_past, evict_better, evict_not, evict_out}
use Rattle.stage.proofs.allocate.try_evict.Goals as goal
use Rattle.stage.proofs.allocate.try_evict.Goals.{then-can_win, else-can_win}

pub loop-place-preserved-in_default : goal.loop-place-preserved-in_default
loop-place-preserved-in_default c =
    let o = c.args.order.now in
    evict_skip _ _ _ _ _ _ (hinted_by o) o.class.now c.loop-place.place _ (sym c.in_default.is ∙ c.candidate.ensures) ∙ c.loop-place.invariant

pub loop-place-preserved-in_default-try_reports : goal.loop-place-preserved-in_default-try_reports
loop-place-preserved-in_default-try_reports c =
    let o = c.args.order.now in
    evict_out _ _ _ _ _ _ (hinted_by o) o.class.now c.loop-place.place c.loop-place.best _ (sym c.in-Some.is ∙ c.candidate.ensures) _
    (tried_is _ _ _ _ _ _ _ _ _ (c.by_cost-limit.ensures ∙ rw c.cost_so_far.ensures) c.at-units.ensures c.try_reports.ensures) c.in_default-try_reports.is
    ∙ c.loop-place.invariant

pub loop-place-preserved : goal.loop-place-preserved
loop-place-preserved c =
    let o = c.args.order.now in
    let k = tried_is _ _ _ _ _ _ _ _ _ (c.by_cost-limit.ensures ∙ rw c.cost_so_far.ensures) c.at-units.ensures c.try_reports.ensures in
    elim c.if-can_win.branch [
      | then-can_win w ↦
          rw (w.best-is, w.found.ensures)
          (evict_better _ _ _ _ _ _ (hinted_by o) o.class.now c.loop-place.place c.loop-place.best _ (sym c.in-Some.is ∙ c.candidate.ensures) _ k _ c.in-Some-try_reports.is
          (rw (c.by_cost-limit.ensures, c.cost_so_far.ensures) at (sym c.can_win.ensures ∙ w.if-can_win.true)))
          ∙ c.loop-place.invariant
      | else-can_win w ↦
          rw w.best-is
          (evict_not _ _ _ _ _ _ (hinted_by o) o.class.now c.loop-place.place c.loop-place.best _ (sym c.in-Some.is ∙ c.candidate.ensures) _ k _ c.in-Some-try_reports.is
          (rw (c.by_cost-limit.ensures, c.cost_so_far.ensures) at (sym c.can_win.ensures ∙ w.if-can_win.false)))
          ∙ c.loop-place.invariant
    ]

pub returns : goal.returns
returns c =
    let o = c.args.order.now in
    evict_past _ _ _ _ _ _ (hinted_by o) o.class.now c.loop-place.place _ (rw c.len-place-end.ensures at c.loop-place-test.false) ∙ c.loop-place.invariant
