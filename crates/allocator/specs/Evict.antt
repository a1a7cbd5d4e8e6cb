-- Whom a candidate would evict, and at what cost (document 01, "Costs"; `evict.rs`). Assumes nothing.
use Rattle.std.specs.Prelude.{ℕ, List, [], ◌∷◌, Bool, true, false, not, ◌&&◌, ◌||◌, cond, Float, length}
use Rattle.std.proofs.Math.Option.{Option, none, some}
use Rattle.std.specs.Float.{binary32}
use Rattle.std.specs.Float.Ieee.{of_bits, add, lt, eq}
use Rattle.reg_matrix.specs.Lists.{keep, filter, any, foldl, concat_map, count, has}
use Rattle.reg_matrix.specs.declared.Interference.{Interference}
use Rattle.reg_matrix.specs.declared.InterferenceKind.{InterferenceKind}
use Rattle.reg_matrix.specs.declared.InterferenceKind.TheVariants.{Fixed, VirtReg}
use Rattle.job.specs.Model.{Job, virt_reg, zero_weight}
use Rattle.allocator.specs.State.{State, CandidateReg, held_by, weight_of, flag, check_of}
pub use Rattle.allocator.specs.declared.EvictCost.{EvictCost}

-- ---- who is reported

-- 01, "Costs": a fixed report
abbrev pub is_fixed : InterferenceKind → Bool
is_fixed Fixed = true
is_fixed (VirtReg v) = false

-- 01, "Costs": the holder that a report is of
abbrev pub holder : InterferenceKind → List ℕ
holder Fixed = []
holder (VirtReg v) = v ∷ []

-- 01, "Costs": "A fixed report rules a candidate out of either."
unfoldable pub ruled_out : List Interference → Bool
ruled_out rs = any (λ r. is_fixed r.kind) rs

-- 01, "Costs": the holders "at every report", in order
unfoldable pub holders : List Interference → List ℕ
holders rs = concat_map (λ r. holder r.kind) rs

-- 01, "Costs": "counts once": each number where it first stands, but for those seen
unfoldable pub firsts : List ℕ → List ℕ → List ℕ
firsts seen [] = []
firsts seen (v ∷ vs) = keep (not (has v seen)) v (firsts (v ∷ seen) vs)

-- 01, "Costs": the holders as a set, ascending, each once
unfoldable pub evictees : Job → List Interference → List ℕ
evictees j rs = filter (λ v. has v (holders rs)) (count 0 (length j.virt_regs))

-- ---- costs

-- 01, "Costs": the weights with which they hold their registers, added in this order from 0
unfoldable pub weights : State → List ℕ → Float
weights s vs = foldl (λ w v. add binary32 w (weight_of (held_by s v))) zero_weight vs

-- 01, "The job": the spill weight of v
abbrev pub spill_weight : Job → ℕ → Float
spill_weight j v = (virt_reg j v).spill_weight

-- 01, "Costs": for the spill maximum
abbrev pub max_weight : Float → Float → Float
max_weight a b = cond (lt a b) b a

-- 01, "Costs": "spill maximum"
unfoldable pub greatest_spill : Job → List ℕ → Float
greatest_spill j vs = foldl (λ w v. max_weight w (spill_weight j v)) zero_weight vs

-- 01, "Costs": "compares a pair, preference sum first, spill maximum second"
abbrev pub cheaper : EvictCost → EvictCost → Bool
cheaper a b =
    lt a.preference_weight b.preference_weight
    || (eq a.preference_weight b.preference_weight && lt a.spill_weight b.spill_weight)

-- 01, "Costs": "a holder of nonzero weight counts once", at its first report; adding a weight of 0 again changes nothing
unfoldable pub cost_of : Job → State → List Interference → EvictCost
cost_of j s rs =
    let vs = firsts [] (holders rs) in
    record { preference_weight = weights s vs; spill_weight = greatest_spill j vs }

-- ---- `try_evict`

-- 01, "Costs": "A nonzero-weight candidate with the flag off may evict a holder of any spill weight, every other only strictly smaller ones."
abbrev pub allowed : Job → State → ℕ → CandidateReg → EvictCost → Bool
allowed j s v c k = (not (eq c.preference_weight zero_weight) && not (flag s v)) || lt k.spill_weight (spill_weight j v)

-- 01, "Costs": the candidate that `try_evict` settles on, and its cost
pub record Eviction : Type 0 where
  pub to : CandidateReg
  pub cost : EvictCost

-- 01, "Costs": an infinity
abbrev pub infinite : Float
infinite = of_bits binary32 0x7F80_0000

-- 01, "Costs": "two infinities never"
abbrev pub best_cost : Option Eviction → EvictCost
best_cost none = record { preference_weight = infinite; spill_weight = infinite }
best_cost (some e) = e.cost

-- 01, "Costs": the candidate against the best so far
unfoldable pub better : Job → State → ℕ → Option Eviction → CandidateReg → Option Eviction
better j s v best c =
    let rs = check_of j s v c.reg in
    let k = cost_of j s rs in
    cond (not (ruled_out rs) && (allowed j s v c k && cheaper k (best_cost best))) (some (record { to = c; cost = k })) best

-- 01, "Costs": "The least pair wins, the first on ties"
unfoldable pub try_evict : Job → State → ℕ → List CandidateReg → Option Eviction
try_evict j s v cs = foldl (better j s v) none cs

-- ---- `try_evict_for_preferred_reg`

-- 01, "Costs": "the first hinted candidate heavier than the clear one whose holders' weights, added at every report, stay below its own"
unfoldable pub preferred : Job → State → ℕ → CandidateReg → CandidateReg → Bool
preferred j s v clear c =
    let rs = check_of j s v c.reg in
    lt clear.preference_weight c.preference_weight && (not (ruled_out rs) && lt (weights s (holders rs)) c.preference_weight)
