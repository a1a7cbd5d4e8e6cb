use borrow.Author.Rules.{rules}
use lib.Ieee.{ne}
use Rattle.evict_costs.proofs.may_evict.Goals as goal

pub returns-then-not-flag : goal.returns-then-not-flag
unfolding ne
returns-then-not-flag c = search rules
