-- The invariant: the walk over the reports still to come, from the cost and the holders so far, finds what the whole walk finds. Assumes nothing.
use mathlib.Core.Path.{◌≡◌}
use lib.ListN.{length}
use Rattle.matrix.specs.Walk.{remaining}
use Rattle.stage.specs.Searching.{lent_for}
use Rattle.record_words.specs.Words.{held_in}
use Rattle.stage.specs.EvictWalk.{try_below, tried_below}
use Rattle.stage.specs.AllocateWalk.{reports_on}
use Rattle.stage.proofs.evict.Limit.try_reports.Given as goal

abbrev pub invariant-loop-report : goal.invariant-loop-report
invariant-loop-report l = (length l.t.holders ≡ 512) × (try_below l.self (held_in l.search.words.now) l.search.spills.now (remaining (lent_for l.search) l.c) l.t.cost l.t.every_report l.t.holders ≡ tried_below l.self (held_in l.search.words.now) l.search.spills.now (reports_on (lent_for l.search) l.units))

abbrev pub decreases-loop-report : goal.decreases-loop-report
decreases-loop-report l = length (remaining (lent_for l.search) l.c)
