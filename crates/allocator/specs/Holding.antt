-- Holding, a term of document 01: which number holds which register, by what happened alone. The rules' decisions say what happens; neither the
-- records nor the table are asked. Assumes nothing.
use Rattle.std.specs.Prelude.{ℕ, zero, suc, List, [], ◌∷◌, ◌++◌, map, cond, eqb}
use Rattle.std.proofs.Math.Option.{Option, none, some}
use Rattle.reg_matrix.specs.Lists.{foldl}
use Rattle.job.specs.Model.{Job}
use Rattle.allocator.specs.State.{State, fresh_state}
use Rattle.allocator.specs.Dequeue.{Step, goes_on, too_many, Decision, leaves, takes, splits, fails, decide, dequeue}
use Rattle.allocator.specs.Run.{next_of}
use Rattle.allocator.specs.Calls.{Call, placing, evicting, running, refusal_of, unless_refused, after}

-- 01, "Holding": "An accepted direct placement gives its number the register named, a dequeue gives its number the one taken, if any; an eviction,
-- direct or in a dequeue, ends that; nothing else changes it."
pub data Event : Type 0 where
  gets : ℕ → ℕ → Event
  loses : ℕ → Event

-- 01, "Holding": the register that each number holds, if any
abbrev pub Holding : Type 0
Holding = ℕ → Option ℕ

-- 01, "Holding": "On the fresh job, as loading leaves it, no number holds a register."
abbrev pub nothing_held : Holding
nothing_held = λ v. none

-- 01, "Holding": the same, but for the number w
abbrev pub but : Holding → ℕ → Option ℕ → Holding
but h w o = λ v. cond (eqb v w) o (h v)

-- 01, "Holding": what an event changes
abbrev pub changed : Holding → Event → Holding
changed h (gets w r) = but h w (some r)
changed h (loses w) = but h w none

-- ---- what happens

-- 01, "Holding": in a dequeue of v that decides so
abbrev pub by_decision : ℕ → Decision → List Event
by_decision v leaves = []
by_decision v (takes c f vs) = map loses vs ++ (gets v c.reg ∷ [])
by_decision v splits = []
by_decision v fails = []

-- 01, "Holding": in the dequeues of a run with a budget of b more, as `run_from` makes them
unfoldable pub by_run : ℕ → Job → Step → List Event
by_run zero j x = []
by_run (suc b) j (too_many s) = []
by_run (suc b) j (goes_on s) =
    elim (next_of j s) [
      | none ↦ []
      | some q ↦ by_decision q.number (decide j s q.number q.stage) ++ by_run b j (dequeue j s q.number q.stage)
    ]

-- 01, "Holding": in a call that no test refuses
abbrev pub by_accepted : Job → State → Call → List Event
by_accepted j s (placing lent v r w) = gets v r ∷ []
by_accepted j s (evicting lent v) = loses v ∷ []
by_accepted j s (running lent b) = by_run b j (goes_on s)

-- 01, "Holding": in a call; "nothing else changes it", so nothing in a refused one
unfoldable pub by_call : Job → State → Call → List Event
by_call j s c = unless_refused (refusal_of j s c) [] (by_accepted j s c)

-- 01, "Holding": in a list of calls
unfoldable pub by_calls : Job → State → List Call → List Event
by_calls j s [] = []
by_calls j s (c ∷ cs) = by_call j s c ++ by_calls j (after j s c) cs

-- 01, "Holding": the register that each number holds after the calls on the fresh job
unfoldable pub holds : Job → List Call → Holding
holds j cs = foldl changed nothing_held (by_calls j (fresh_state j) cs)
