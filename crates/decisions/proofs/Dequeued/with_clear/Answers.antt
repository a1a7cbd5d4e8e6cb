use mathlib.Core.Path.{◌∙◌}
use Rattle.order.specs.Hinted.{hinted_by}
use Rattle.decisions.proofs.DecideLaws.{clear_taken, clear_searched, preferred_found, preferred_none}
use Rattle.decisions.proofs.Dequeued.with_clear.Goals as goal

pub returns-then-not-wants_preferred : goal.returns-then-not-wants_preferred
returns-then-not-wants_preferred c = clear_taken _ _ _ _ (hinted_by c.args.self.now.order.now) _ _ _ c.wants_preferred.ensures c.if-not-wants_preferred.true

pub returns-in-Some : goal.returns-in-Some
returns-in-Some c =
    c.evicts.ensures ∙ preferred_found _ _ _ c.in-Some.is
    ∙ clear_searched _ _ _ _ (hinted_by c.args.self.now.order.now) _ _ _ c.wants_preferred.ensures c.if-not-wants_preferred.false _ c.try_evict_for_preferred_reg.ensures

pub returns-in-None : goal.returns-in-None
returns-in-None c =
    preferred_none _ _ c.in-None.is
    ∙ clear_searched _ _ _ _ (hinted_by c.args.self.now.order.now) _ _ _ c.wants_preferred.ensures c.if-not-wants_preferred.false _ c.try_evict_for_preferred_reg.ensures
