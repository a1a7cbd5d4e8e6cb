-- A dequeue's decision in the shape of the code, over what is lent. Laws in proofs/ and in context/proofs tie it to Dequeue.antt. Assumes nothing.
use Rattle.std.specs.Prelude.{ℕ, ◌-◌, List, [], Bool, true, false, not, ◌&&◌, Option as Maybe, Some, None, cond, eqb, Float, get_or}
use Rattle.std.specs.Float.Ieee.{lt, eq}
use Rattle.reg_matrix.specs.Lists.{filter, count}
use Rattle.matrix.specs.Walk.{Lent, lent}
use Rattle.job.specs.Model.{zero_weight}
use Rattle.job.specs.Layout.{JobBuffers}
use Rattle.job_parts.specs.Shares.{share_of, froms_in, tos_in, values_in, class_in}
use Rattle.allocator.specs.declared.CandidateReg.{CandidateReg}
use Rattle.allocator.specs.declared.Stage.{Stage}
use Rattle.allocator.specs.declared.Stage.TheVariants.{Evict, Split}
use Rattle.allocator.specs.Order.{highest_preference}
use Rattle.allocator.specs.Evict.{infinite}
use Rattle.allocator.specs.Dequeue.{Decision, leaves, takes, splits, fails}
use Rattle.order.specs.OrderWalk.{hints_of, hinted_of, offers_from, last_of}
use Rattle.stage.specs.AllocateWalk.{available_in, evict_in, prefer_in}
use Rattle.stage.specs.declared.allocate.Best.{Best}
use Rattle.stage.specs.declared.allocate.Available.{Available}
use Rattle.stage.specs.declared.allocate.Available.TheVariants.{Clear, NoneClear, NoCandidates}
pub use Rattle.decisions.specs.declared.Decided.{Decided}
pub use Rattle.decisions.specs.declared.Decided.TheVariants.{Leaves, Takes, Evicts, Splits, Fails}

-- ---- the decision that the code's answer stands for

-- whom a set of numbers names, ascending
unfoldable pub members : List Bool → List ℕ
members set = filter (λ v. get_or set v false) (count 0 512)

abbrev pub decision_of : Decided → Decision
decision_of Leaves = leaves
decision_of (Takes c) = takes c false []
decision_of (Evicts c f vs) = takes c f (members vs)
decision_of Splits = splits
decision_of Fails = fails

-- ---- in the shape of the code

-- the register last given to the set of v, by its word
unfoldable pub last_in : List ℕ → List ℕ → ℕ → Maybe ℕ
last_in last sets v = cond (eqb (get_or last (get_or sets v 0) 0) 0) None (Some (get_or last (get_or sets v 0) 0 - 1))

abbrev pub preferred_or : CandidateReg → Maybe Best → Decided
preferred_or c None = Takes c
preferred_or c (Some b) = Evicts b.to true b.holders

-- the clear candidate c, unless another is preferred
unfoldable pub clear_in : Lent → List ℕ → List Float → List Float → List CandidateReg → Bool → CandidateReg → Decided
clear_in W maps ws ss hs flag c =
    cond (lt c.preference_weight (highest_preference hs) && not flag) (preferred_or c (prefer_in W maps ws ss c hs)) (Takes c)

abbrev pub evicted_or : Float → Maybe Best → Decided
evicted_or own None = cond (eq own infinite) Fails Splits
evicted_or own (Some b) = Evicts b.to (not (lt b.cost.spill_weight own)) b.holders

unfoldable pub none_clear_in : Lent → List ℕ → List Float → List Float → Bool → Float → List CandidateReg → Stage → Decided
none_clear_in W maps ws ss flag own cs Evict = evicted_or own (evict_in W maps ws ss flag own None cs)
none_clear_in W maps ws ss flag own cs Split = Leaves

-- by what was found of the candidates
unfoldable pub found_in : Lent → List ℕ → List Float → List Float → List CandidateReg → Bool → Float → List CandidateReg → Stage → Available → Decided
found_in W maps ws ss hs flag own cs q NoCandidates = Leaves
found_in W maps ws ss hs flag own cs q (Clear c) = clear_in W maps ws ss hs flag c
found_in W maps ws ss hs flag own cs q NoneClear = none_clear_in W maps ws ss flag own cs q

-- the hinted candidates hs, then the class
unfoldable pub in_order : Lent → List ℕ → List Float → List Float → List CandidateReg → List ℕ → Bool → Float → Stage → Decided
in_order W maps ws ss hs class flag own q =
    found_in W maps ws ss hs flag own (offers_from hs class 0) q (available_in W maps false (offers_from hs class 0))

-- ---- over the job's buffers B, the table's, the last registers and the weights held

-- what a check of the segments of v is lent
abbrev pub lent_to : JobBuffers → List ℕ → List ℕ → ℕ → Lent
lent_to B ends rests v = lent ends rests B.fixed_uses (froms_in B v) (tos_in B v) (values_in B v)

unfoldable pub hinted_in : JobBuffers → List ℕ → ℕ → List CandidateReg
hinted_in B last v =
    hinted_of (hints_of (share_of B.hint_starts v B.hint_regs) (share_of B.hint_starts v B.hint_weights)) (last_of (last_in last B.value_sets v))

unfoldable pub decided_in : JobBuffers → List ℕ → List ℕ → List ℕ → List Float → Bool → ℕ → Stage → Decided
decided_in B ends rests last ws flag v q =
    in_order (lent_to B ends rests v) B.regs ws B.spill_weights (hinted_in B last v) (class_in B v) flag (get_or B.spill_weights v zero_weight) q
