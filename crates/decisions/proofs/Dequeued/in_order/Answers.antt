use mathlib.Core.Path.{◌∙◌}
use Rattle.order.specs.Hinted.{hinted_by}
use Rattle.decisions.proofs.DecideLaws.{found_no_candidates, found_clear, found_none_clear, order_found}
use Rattle.decisions.proofs.Dequeued.in_order.Goals as goal

pub returns-in-NoCandidates : goal.returns-in-NoCandidates
returns-in-NoCandidates c =
    let hs = hinted_by c.args.self.now.order.now in
    found_no_candidates _ _ _ _ hs _ _ _ _ _ c.in-NoCandidates.is ∙ order_found _ _ _ _ hs _ _ _ _ _ c.find_available_reg.ensures

pub returns-in-Clear : goal.returns-in-Clear
returns-in-Clear c =
    let hs = hinted_by c.args.self.now.order.now in
    c.with_clear.ensures ∙ found_clear _ _ _ _ hs _ _ _ _ _ _ c.in-Clear.is ∙ order_found _ _ _ _ hs _ _ _ _ _ c.find_available_reg.ensures

pub returns-in-NoneClear : goal.returns-in-NoneClear
returns-in-NoneClear c =
    let hs = hinted_by c.args.self.now.order.now in
    c.with_none_clear.ensures ∙ found_none_clear _ _ _ _ hs _ _ _ _ _ c.in-NoneClear.is ∙ order_found _ _ _ _ hs _ _ _ _ _ c.find_available_reg.ensures
