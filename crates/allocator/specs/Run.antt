-- A run with a budget (document 01, "What the stage answers"; `Allocator::run`). Assumes nothing.
use Rattle.std.specs.Prelude.{ℕ, zero, suc}
use Rattle.std.proofs.Math.Option.{Option, none, some}
use Rattle.job.specs.Model.{Job}
use Rattle.allocator.specs.State.{State}
use Rattle.allocator.specs.Queue.{Queued, next_from}
use Rattle.allocator.specs.Dequeue.{Step, goes_on, too_many, dequeue}
pub use Rattle.allocator.specs.declared.Ending.{Ending}
pub use Rattle.allocator.specs.declared.Ending.TheVariants.{Done, Spent, TooMany}

-- 01, "What the stage answers": a run's word, its dequeues and the state that it leaves
pub record Ran : Type 0 where
  pub ending : Ending
  pub dequeues : ℕ
  pub state : State

-- for `run_from`
abbrev pub ran : Ending → ℕ → State → Ran
ran w n s = record { ending = w; dequeues = n; state = s }

-- 01, "Queue": who is next
abbrev pub next_of : Job → State → Option Queued
next_of j s = next_from j 0 s.queued

-- 01, "What the stage answers": "`done` (the queue is empty), `spent` (as many dequeues were made as the budget allows, and the queue is not empty)"
abbrev pub done_or_spent : Option Queued → Ending
done_or_spent none = Done
done_or_spent (some q) = Spent

-- 01, "What the stage answers": the run after n dequeues, the last of which ended so, with a budget of b more. `toomany` goes "ahead of both"
unfoldable pub run_from : ℕ → Job → ℕ → Step → Ran
run_from zero j n (too_many s) = ran TooMany n s
run_from zero j n (goes_on s) = ran (done_or_spent (next_of j s)) n s
run_from (suc b) j n (too_many s) = ran TooMany n s
run_from (suc b) j n (goes_on s) =
    elim (next_of j s) [
      | none ↦ ran Done n s
      | some q ↦ run_from b j (suc n) (dequeue j s q.number q.stage)
    ]

-- 01, "What the stage answers": a run with a budget
unfoldable pub run : Job → ℕ → State → Ran
run j budget s = run_from budget j 0 (goes_on s)
