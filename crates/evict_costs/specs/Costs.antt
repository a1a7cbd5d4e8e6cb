-- An eviction's cost in the shape of the code, a holder at a time; what of it is the rule's own is Evict.antt's (document 01, "Costs").
-- Assumes nothing.
use Rattle.std.specs.Prelude.{Bool, not, ◌&&◌, ◌||◌, cond, Float}
use Rattle.std.specs.Float.{binary32}
use Rattle.std.specs.Float.Ieee.{add, lt, eq}
use Rattle.job.specs.Model.{zero_weight}
use Rattle.allocator.specs.Evict.{max_weight}
use Rattle.allocator.specs.declared.EvictCost.{EvictCost}

-- the cost with one holder more, of this weight held and spill weight
abbrev pub add_holder : EvictCost → Float → Float → EvictCost
add_holder k w s = record { preference_weight = add binary32 k.preference_weight w; spill_weight = max_weight k.spill_weight s }

-- whether a candidate of weight w may evict holders of this spill weight, for a number with this flag and spill weight
abbrev pub may_evict : Float → Bool → Float → Float → Bool
may_evict w flag spill own = lt spill own || (not flag && not (eq w zero_weight))

-- the cost with a holder that was seen before or not
abbrev pub with_holder : EvictCost → Bool → Float → Float → EvictCost
with_holder k seen w s = cond seen k (add_holder k w s)
