-- A dequeue's decision in the shape of the code. Laws in proofs/AllocateLaws.antt tie these to Dequeue.antt. Assumes nothing.
use Rattle.std.specs.Prelude.{ℕ, List, [], ◌∷◌, Bool, true, false, ◌&&◌, Option as Maybe, Some, None, cond, Float, get_or}
use Rattle.std.specs.Float.Ieee.{lt}
use Rattle.reg_matrix.specs.Lists.{is_nil, foldl}
use Rattle.matrix.specs.Walk.{Lent, entered, remaining}
use Rattle.reg_matrix.specs.declared.Interference.{Interference}
use Rattle.allocator.specs.declared.CandidateReg.{CandidateReg}
use Rattle.allocator.specs.Evict.{cheaper, infinite}
use Rattle.allocator.specs.declared.EvictCost.{EvictCost}
use Rattle.evict_costs.specs.Costs.{may_evict}
use Rattle.stage.specs.EvictWalk.{tried_below}
use Rattle.stage.specs.declared.evict.Tried.{Tried}
use Rattle.stage.specs.declared.evict.Limit.{Limit}
use Rattle.stage.specs.declared.evict.Limit.TheVariants.{ByCost, ByWeight}
use Rattle.stage.specs.declared.allocate.Best.{Best}
use Rattle.stage.specs.declared.allocate.Available.{Available}
use Rattle.stage.specs.declared.allocate.Available.TheVariants.{Clear, NoneClear, NoCandidates}

-- what the check on these units reports, in the short form
unfoldable pub reports_on : Lent → ℕ → List Interference
reports_on W units = remaining W (entered W.ends W.froms units false)

-- the register's units are clear
unfoldable pub clear_on : Lent → List ℕ → CandidateReg → Bool
clear_on W maps c = is_nil (reports_on W (get_or maps c.reg 0))

-- none is clear, where some have been tried or not
abbrev pub none_of : Bool → Available
none_of true = NoneClear
none_of false = NoCandidates

-- the first candidate that is clear, where some have been tried already or not
unfoldable pub available_in : Lent → List ℕ → Bool → List CandidateReg → Available
available_in W maps t [] = none_of t
available_in W maps t (c ∷ cs) = cond (clear_on W maps c) (Clear c) (available_in W maps true cs)

-- ---- the search for a register to evict from

-- what the best one so far costs: where there is none, two infinities, and any cost is better
abbrev pub cost_so_far : Maybe Best → EvictCost
cost_so_far None = record { preference_weight = infinite; spill_weight = infinite }
cost_so_far (Some b) = b.cost

abbrev pub taking : CandidateReg → Tried → Best
taking c t = record { to = c; cost = t.cost; holders = t.holders }

-- what the search wants of a candidate for a number with this flag and spill weight, where this is the best cost so far
abbrev pub by_cost : Bool → Float → CandidateReg → EvictCost → Limit
by_cost flag own c best = ByCost c.preference_weight flag own best

-- what the check's reports say of a candidate
unfoldable pub tried_on : Limit → Lent → List ℕ → List Float → List Float → CandidateReg → Maybe Tried
tried_on l W maps ws ss c = tried_below l ws ss (reports_on W (get_or maps c.reg 0))

-- a number's flag and spill weight
abbrev pub improves : Bool → Float → CandidateReg → Tried → EvictCost → Bool
improves flag own c t best = may_evict c.preference_weight flag t.cost.spill_weight own && cheaper t.cost best

-- the candidate, by what its reports say, or else the best so far
abbrev pub better_of : Bool → Float → CandidateReg → Maybe Tried → Maybe Best → Maybe Best
better_of flag own c None b = b
better_of flag own c (Some t) b = cond (improves flag own c t (cost_so_far b)) (Some (taking c t)) b

unfoldable pub better_in : Lent → List ℕ → List Float → List Float → Bool → Float → Maybe Best → CandidateReg → Maybe Best
better_in W maps ws ss flag own b c = better_of flag own c (tried_on (by_cost flag own c (cost_so_far b)) W maps ws ss c) b

unfoldable pub evict_in : Lent → List ℕ → List Float → List Float → Bool → Float → Maybe Best → List CandidateReg → Maybe Best
evict_in W maps ws ss flag own b cs = foldl (better_in W maps ws ss flag own) b cs

-- ---- the search for a preferred register

-- what it wants of a candidate
abbrev pub by_weight : CandidateReg → Limit
by_weight c = ByWeight c.preference_weight

-- heavier than the clear candidate, and than its holders at every report together
abbrev pub prefers : CandidateReg → CandidateReg → Tried → Bool
prefers clear c t = lt clear.preference_weight c.preference_weight && lt t.every_report c.preference_weight

-- the candidate, by what its reports say, or else the rest's
abbrev pub preferred_of : CandidateReg → CandidateReg → Maybe Tried → Maybe Best → Maybe Best
preferred_of clear c None rest = rest
preferred_of clear c (Some t) rest = cond (prefers clear c t) (Some (taking c t)) rest

unfoldable pub prefer_in : Lent → List ℕ → List Float → List Float → CandidateReg → List CandidateReg → Maybe Best
prefer_in W maps ws ss clear [] = None
prefer_in W maps ws ss clear (c ∷ cs) = preferred_of clear c (tried_on (by_weight c) W maps ws ss c) (prefer_in W maps ws ss clear cs)
