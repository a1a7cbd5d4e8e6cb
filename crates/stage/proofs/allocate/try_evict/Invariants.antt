-- The invariant: the search from place i on, with the best so far, finds what the whole search finds. Assumes nothing.
use mathlib.Core.Path.{◌≡◌}
use Rattle.std.proofs.Common.{None}
use Rattle.stage.specs.Searching.{lent_for}
use Rattle.order.specs.Hinted.{hinted_by}
use Rattle.record_words.specs.Words.{held_in}
use Rattle.order.specs.OrderWalk.{offers_from}
use Rattle.stage.specs.AllocateWalk.{evict_in}
use Rattle.stage.proofs.allocate.try_evict.Given as goal

abbrev pub invariant-loop-place : goal.invariant-loop-place
invariant-loop-place l = evict_in (lent_for l.search) l.search.maps.now (held_in l.search.words.now) l.search.spills.now l.flag l.own l.best (offers_from (hinted_by l.order) l.order.class.now l.place) ≡ evict_in (lent_for l.search) l.search.maps.now (held_in l.search.words.now) l.search.spills.now l.flag l.own None (offers_from (hinted_by l.order) l.order.class.now 0)
