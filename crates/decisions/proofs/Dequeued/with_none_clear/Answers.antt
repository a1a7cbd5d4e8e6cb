use mathlib.Core.Path.{◌∙◌}
use Rattle.decisions.proofs.DecideLaws.{none_at_split, none_at_evict, evicted_found, evicted_fails, evicted_splits}
use Rattle.decisions.proofs.Dequeued.with_none_clear.Goals as goal

pub returns-in_default : goal.returns-in_default
returns-in_default c = none_at_split _ _ _ _ _ _ _ _ c.in_default.is

pub returns-in-Some : goal.returns-in-Some
returns-in-Some c = c.evicts.ensures ∙ evicted_found _ _ _ c.in-Some.is ∙ none_at_evict _ _ _ _ _ _ _ _ c.in-Evict.is _ c.try_evict.ensures

pub returns-in-None : goal.returns-in-None
returns-in-None c = evicted_fails _ _ c.in-None.is c.if-self.true ∙ none_at_evict _ _ _ _ _ _ _ _ c.in-Evict.is _ c.try_evict.ensures

pub returns-in-None-2 : goal.returns-in-None-2
returns-in-None-2 c = evicted_splits _ _ c.in-None.is c.if-self.false ∙ none_at_evict _ _ _ _ _ _ _ _ c.in-Evict.is _ c.try_evict.ensures
