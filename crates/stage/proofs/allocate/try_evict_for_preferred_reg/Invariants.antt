-- The invariant: the search over the hinted candidates from its place on finds what the whole search finds. Assumes nothing.
use mathlib.Core.Path.{◌≡◌}
use lib.ListN.{drop}
use Rattle.stage.specs.Searching.{lent_for}
use Rattle.record_words.specs.Words.{held_in}
use Rattle.stage.specs.AllocateWalk.{prefer_in}
use Rattle.stage.proofs.allocate.try_evict_for_preferred_reg.Given as goal

abbrev pub invariant-loop-c : goal.invariant-loop-c
invariant-loop-c l = prefer_in (lent_for l.search) l.search.maps.now (held_in l.search.words.now) l.search.spills.now l.clear (drop l.c-index l.hinted) ≡ prefer_in (lent_for l.search) l.search.maps.now (held_in l.search.words.now) l.search.spills.now l.clear l.hinted
