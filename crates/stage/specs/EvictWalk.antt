-- Costs in the shape of the code: over the weights held, spill weights and a check's reports. Laws in proofs/EvictLaws.antt tie them to Evict.antt.
-- Assumes nothing.
use Rattle.std.specs.Prelude.{ℕ, List, [], ◌∷◌, Bool, true, false, ◌&&◌, Option as Maybe, Some, None, cond, ltb, Float, get_or, set, replicate}
use Rattle.std.specs.Float.{binary32}
use Rattle.std.specs.Float.Ieee.{add, lt}
use Rattle.reg_matrix.specs.declared.Interference.{Interference}
use Rattle.reg_matrix.specs.declared.InterferenceKind.{InterferenceKind}
use Rattle.reg_matrix.specs.declared.InterferenceKind.TheVariants.{Fixed, VirtReg}
use Rattle.job.specs.Model.{zero_weight}
use Rattle.allocator.specs.Evict.{cheaper}
use Rattle.allocator.specs.declared.EvictCost.{EvictCost}
use Rattle.evict_costs.specs.Costs.{add_holder, may_evict, with_holder}
use Rattle.stage.specs.declared.evict.Tried.{Tried}
use Rattle.stage.specs.declared.evict.Limit.{Limit}
use Rattle.stage.specs.declared.evict.Limit.TheVariants.{ByCost, ByWeight}

-- the weight with which v holds its register, by the weights held
abbrev pub weight_in : List Float → ℕ → Float
weight_in ws v = get_or ws v zero_weight

-- the cost with the holder v more
abbrev pub holder_cost : List Float → List Float → EvictCost → ℕ → EvictCost
holder_cost ws ss k v = add_holder k (weight_in ws v) (get_or ss v zero_weight)

abbrev pub zero_cost : EvictCost
zero_cost = record { preference_weight = zero_weight; spill_weight = zero_weight }

abbrev pub tried : EvictCost → Float → List Bool → Tried
tried k w seen = record { cost = k; every_report = w; holders = seen }

abbrev pub on_kind : InterferenceKind → (ℕ → Maybe Tried) → Maybe Tried
on_kind Fixed more = None
on_kind (VirtReg v) more = more v

-- The reports one after another: a holder that was not seen yet adds its cost, every report adds the holder's weight to w, and a fixed one rules the
-- candidate out. Numbers from 512 on, which no table has, are passed over.
unfoldable pub try_reports : List Float → List Float → List Interference → EvictCost → Float → List Bool → Maybe Tried
try_reports ws ss [] k w seen = Some (tried k w seen)
try_reports ws ss (x ∷ xs) k w seen =
    on_kind x.kind
    (λ v.
    cond (ltb v 512)
    (cond (get_or seen v false) (try_reports ws ss xs k (add binary32 w (weight_in ws v)) seen) (try_reports ws ss xs (holder_cost ws ss k v) (add binary32 w (weight_in ws v)) (set seen v true)))
    (try_reports ws ss xs k w seen))

unfoldable pub tried_of : List Float → List Float → List Interference → Maybe Tried
tried_of ws ss xs = try_reports ws ss xs zero_cost zero_weight (replicate 512 false)

-- ---- stopped where the candidate can no longer win

-- what a search still wants of a candidate, where it costs k and the sum at every report is w: that its holders may be evicted and cost less than the
-- best; or that the sum is below its weight
abbrev pub can_win : Limit → EvictCost → Float → Bool
can_win (ByCost weight flag own best) k w = may_evict weight flag k.spill_weight own && cheaper k best
can_win (ByWeight weight) k w = lt w weight

-- the same walk, which ends where the candidate can no longer win; laws in proofs/StopLaws.antt say that this changes nothing
unfoldable pub try_below : Limit → List Float → List Float → List Interference → EvictCost → Float → List Bool → Maybe Tried
try_below l ws ss [] k w seen = Some (tried k w seen)
try_below l ws ss (x ∷ xs) k w seen =
    on_kind x.kind
    (λ v.
    cond (ltb v 512)
    (cond
    (can_win l (with_holder k (get_or seen v false) (weight_in ws v) (get_or ss v zero_weight)) (add binary32 w (weight_in ws v)))
    (try_below l ws ss xs (with_holder k (get_or seen v false) (weight_in ws v) (get_or ss v zero_weight)) (add binary32 w (weight_in ws v)) (set seen v true))
    None)
    (try_below l ws ss xs k w seen))

unfoldable pub tried_below : Limit → List Float → List Float → List Interference → Maybe Tried
tried_below l ws ss xs = try_below l ws ss xs zero_cost zero_weight (replicate 512 false)
