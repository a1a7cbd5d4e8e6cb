-- A dequeue (document 01, "A dequeue"; `Context::allocate`): what it decides, and the step that carries it out. Assumes nothing.
use Rattle.std.specs.Prelude.{ℕ, List, [], ◌∷◌, Bool, true, false, not, ◌&&◌, cond, Float}
use Rattle.std.proofs.Math.Option.{Option, none, some}
use Rattle.std.specs.Float.{nan, inf, fin}
use Rattle.std.specs.Float.Ieee.{lt}
use Rattle.reg_matrix.specs.Lists.{first, foldl, is_nil}
use Rattle.job.specs.Model.{Job, virt_reg}
use Rattle.allocator.specs.State.{State, CandidateReg, Stage, Evict, Split, flag, last_given, check_of, give, evict_number, requeue, leave}
use Rattle.allocator.specs.Order.{hinted_order, order, highest_preference}
use Rattle.allocator.specs.Evict.{evictees, spill_weight, Eviction, try_evict, preferred}

-- 01, "A dequeue": left over; or the register of a candidate is taken, the flag turning on or not, after evicting some holders (ascending, each
-- once); or back to the queue at stage Split; or the Rust's `TooManyLiveRegs`, which ends the run
pub data Decision : Type 0 where
  leaves : Decision
  takes : CandidateReg → Bool → List ℕ → Decision
  splits : Decision
  fails : Decision

-- 01, "A dequeue": "infinite spill weight"
abbrev pub is_infinite : Float → Bool
is_infinite nan = false
is_infinite (inf n) = true
is_infinite (fin n m e) = false

-- 01, "Costs": whom taking the candidate evicts
abbrev pub evictees_of : Job → State → ℕ → CandidateReg → List ℕ
evictees_of j s v c = evictees j (check_of j s v c.reg)

-- 01, "A dequeue": "failing, infinite spill weight ends the run, otherwise the number returns at stage Split". "Costs": the flag turns on "where the
-- spill maximum evicted is not below the placed number's"
abbrev pub by_eviction : Job → State → ℕ → Option Eviction → Decision
by_eviction j s v none = cond (is_infinite (spill_weight j v)) fails splits
by_eviction j s v (some e) = takes e.to (not (lt e.cost.spill_weight (spill_weight j v))) (evictees_of j s v e.to)

-- 01, "A dequeue": "If none is clear, stage Evict runs `try_evict`"; "Stage Split then leaves it over"
abbrev pub none_clear : Job → State → ℕ → List CandidateReg → Stage → Decision
none_clear j s v cs Evict = by_eviction j s v (try_evict j s v cs)
none_clear j s v cs Split = leaves

-- 01, "A dequeue": the clear candidate, or the preferred one. "Costs": "The flag turns on after a preferred eviction"
abbrev pub or_preferred : Job → State → ℕ → CandidateReg → Option CandidateReg → Decision
or_preferred j s v clear none = takes clear false []
or_preferred j s v clear (some c) = takes c true (evictees_of j s v c)

-- 01, "A dequeue": "if its weight is below the first hinted weight and the evicted-for-preference flag is off, `try_evict_for_preferred_reg` goes
-- first"
abbrev pub by_clear : Job → State → ℕ → List CandidateReg → List CandidateReg → Stage → Option CandidateReg → Decision
by_clear j s v hinted cs q none = none_clear j s v cs q
by_clear j s v hinted cs q (some c) =
    or_preferred j s v c
    (cond (lt c.preference_weight (highest_preference hinted) && not (flag s v)) (first (preferred j s v c) hinted) none)

-- 01, "A dequeue": a clear candidate, whose check reports nothing
unfoldable pub is_clear : Job → State → ℕ → CandidateReg → Bool
is_clear j s v c = is_nil (check_of j s v c.reg)

-- 01, "A dequeue": "No candidates: left over. Else the first clear candidate is taken"
abbrev pub by_candidates : Job → State → ℕ → List CandidateReg → List CandidateReg → Stage → Decision
by_candidates j s v hinted [] q = leaves
by_candidates j s v hinted (c ∷ cs) q = by_clear j s v hinted (c ∷ cs) q (first (is_clear j s v) (c ∷ cs))

-- 01, "A dequeue": what the dequeue of v from stage q decides
unfoldable pub decide : Job → State → ℕ → Stage → Decision
decide j s v q =
    let hinted = hinted_order (virt_reg j v) (last_given j s v) in
    by_candidates j s v hinted (order j v hinted) q

-- ---- carrying it out

-- 01, "A dequeue": the state after it, and whether the run goes on
pub data Step : Type 0 where
  goes_on : State → Step
  too_many : State → Step

-- 01, "A dequeue": the state that a step leaves
abbrev pub state_of : Step → State
state_of (goes_on s) = s
state_of (too_many s) = s

-- 01, "A dequeue": its evictions, one after another
unfoldable pub evict_all : Job → List ℕ → State → State
evict_all j vs s = foldl (evict_number j) s vs

-- 01, "A dequeue": the decision carried out; "What the stage answers": who met `toomany` "stays unassigned, unqueued"
unfoldable pub carry_out : Job → State → ℕ → Decision → Step
carry_out j s v leaves = goes_on (leave v s)
carry_out j s v (takes c f vs) = goes_on (give j v c f (evict_all j vs s))
carry_out j s v splits = goes_on (requeue v (some Split) s)
carry_out j s v fails = too_many (requeue v none s)

-- 01, "A dequeue": decided and carried out
unfoldable pub dequeue : Job → State → ℕ → Stage → Step
dequeue j s v q = carry_out j s v (decide j s v q)
