-- What a search of a dequeue reads. Assumes nothing.
use Rattle.matrix.specs.Walk.{Lent, lent_in}
use Rattle.stage.specs.declared.search.Search.{Search}

-- what its checks are lent
abbrev pub lent_for : Search → Lent
lent_for s = lent_in s.matrix s.segments.froms.now s.segments.tos.now s.segments.values.now
