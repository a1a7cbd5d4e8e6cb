-- The calls that change a loaded stage, their refusals and answers, and lists of them (document 01, "Order": 15, 8, 9, 13, 14; runs 15 alone).
-- A call is given the sizes of what it was lent. Assumes nothing.
use Rattle.std.specs.Prelude.{ℕ, List, [], ◌∷◌, Bool, true, false, not, ◌&&◌, ◌||◌, leb, eqb, Float, length}
use Rattle.std.proofs.Math.Option.{Option, none, some}
use Rattle.std.specs.Float.{nan, inf, fin}
use Rattle.reg_matrix.specs.Lists.{any, has, foldl, is_nil, is_some}
use Rattle.reg_matrix.specs.Refusals.{refusal, ◌if◌, short_buffer}
use Rattle.job.specs.Model.{Job, virt_reg, class_of}
use Rattle.job.specs.Load.{Loaded, load_with}
use Rattle.allocator.specs.State.{State, CandidateReg, fresh_state, held_by, is_unassigned, check_of, give, evict_number}
use Rattle.allocator.specs.Order.{candidate}
use Rattle.allocator.specs.Run.{Ending, run}
use Rattle.allocator.specs.Layout.{stage_limits}

-- 01, "Order": loading a stage, which is lent all that calls are lent
unfoldable pub load : List ℕ → List ℕ → Loaded
load lent bytes = load_with stage_limits lent bytes

-- 01, "Order": direct calls and runs. What is lent; a number in a register with a weight; a number; a budget
pub data Call : Type 0 where
  placing : List ℕ → ℕ → ℕ → Float → Call
  evicting : List ℕ → ℕ → Call
  running : List ℕ → ℕ → Call

-- ---- refusals

-- 01, "What the stage answers", 8: no such virtual register
abbrev pub unknown_number : Job → ℕ → Bool
unknown_number j v = leb (length j.virt_regs) v

-- 01, "What the stage answers", 8: the class of v, or a hint of a member of its set, names r
unfoldable pub named : Job → ℕ → ℕ → Bool
named j v r = has r (class_of j v) || any (λ x. eqb x.value_set (virt_reg j v).value_set && any (λ h. eqb h.reg r) x.hints) j.virt_regs

-- 01, "What the stage answers", 9, of a direct weight: sign bit set, NaN or infinite
abbrev pub bad_weight : Float → Bool
bad_weight nan = true
bad_weight (inf n) = true
bad_weight (fin n m e) = n

-- 01, "Order": "Direct calls test 15, 8, 9, 13, 14; .. runs 15 alone"
unfoldable pub refusal_of : Job → State → Call → Option ℕ
refusal_of j s (placing lent v r w) =
    refusal
    (15 if short_buffer stage_limits lent
    ∷ 8 if (unknown_number j v || (leb (length j.regs) r || not (named j v r)))
    ∷ 9 if bad_weight w
    ∷ 13 if not (is_unassigned s v)
    ∷ 14 if not (is_nil (check_of j s v r))
    ∷ [])
refusal_of j s (evicting lent v) = refusal (15 if short_buffer stage_limits lent ∷ 8 if unknown_number j v ∷ 13 if not (is_some (held_by s v)) ∷ [])
refusal_of j s (running lent b) = refusal (15 if short_buffer stage_limits lent ∷ [])

-- ---- what a call does, and what it answers

-- 01, "Order": where no test refuses it. "The rules": "A direct placement takes its number off the queue and leaves its flag"
unfoldable pub carried_out : Job → State → Call → State
carried_out j s (placing lent v r w) = give j v (candidate r w) false s
carried_out j s (evicting lent v) = evict_number j s v
carried_out j s (running lent b) = (run j b s).state

-- 01, "What the stage answers": "A refusal returns its number alone and changes nothing"
abbrev pub unless_refused : {A : Type 0} → Option ℕ → A → A → A
unless_refused (some n) same a = same
unless_refused none same a = a

-- 01, "What the stage answers": the state that a call leaves
unfoldable pub after : Job → State → Call → State
after j s c = unless_refused (refusal_of j s c) s (carried_out j s c)

-- 01, "What the stage answers": the refusal's number; the register given; the register taken away; the run's word and its dequeues
pub data Answer : Type 0 where
  refused : ℕ → Answer
  placed : ℕ → Answer
  evicted : ℕ → Answer
  ended : Ending → ℕ → Answer

-- 01, "What the stage answers", 13: an accepted eviction finds a register
abbrev pub reg_of : Option CandidateReg → ℕ
reg_of none = 0
reg_of (some c) = c.reg

-- 01, "What the stage answers": of a call that no test refuses
abbrev pub accepted : Job → State → Call → Answer
accepted j s (placing lent v r w) = placed r
accepted j s (evicting lent v) = evicted (reg_of (held_by s v))
accepted j s (running lent b) = ended (run j b s).ending (run j b s).dequeues

-- 01, "What the stage answers": "A refusal returns its number alone"
abbrev pub or_refused : Option ℕ → Answer → Answer
or_refused (some n) a = refused n
or_refused none a = a

-- 01, "What the stage answers", of a call on a state
unfoldable pub answer_of : Job → State → Call → Answer
answer_of j s c = or_refused (refusal_of j s c) (accepted j s c)

-- ---- lists of calls, each on the state that the last one left

-- 01, "Holding": what each call of a list answers
unfoldable pub answers : Job → State → List Call → List Answer
answers j s [] = []
answers j s (c ∷ cs) = answer_of j s c ∷ answers j (after j s c) cs

-- 01, "Holding": the state after a list of calls on the fresh job
unfoldable pub after_all : Job → List Call → State
after_all j cs = foldl (after j) (fresh_state j) cs
