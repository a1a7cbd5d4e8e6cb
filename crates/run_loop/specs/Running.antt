-- What a dequeue and a run do to what is lent, on a state that calls reach: a run ends as the rules' run does, after as many dequeues, and leaves its
-- state there. On any other state these say nothing. Assumes nothing.
use Rattle.std.specs.Prelude.{ℕ, ◌≡◌, List, Bool, true, false, get_or}
use Rattle.std.proofs.Math.Option.{some, none}
use Rattle.table_words.specs.declared.buffers.LentState.{LentState}
use Rattle.job.specs.Model.{Job}
use Rattle.job.specs.Layout.{JobBuffers}
use Rattle.allocator.specs.declared.Ending.{Ending}
use Rattle.allocator.specs.declared.Ending.TheVariants.{Done, Spent, TooMany}
use Rattle.allocator.specs.declared.Stage.{Stage}
use Rattle.allocator.specs.State.{State, records}
use Rattle.allocator.specs.Layout.{StateBuffers}
use Rattle.allocator.specs.Dequeue.{Step, goes_on, too_many, state_of, dequeue}
use Rattle.allocator.specs.Run.{run}
use Rattle.allocator.specs.Reached.{Reached}
use Rattle.record_words.specs.Words.{WordsOf}
use Rattle.moves.specs.Standing.{JobStands, Stands}
use Rattle.decisions.specs.declared.Decided.{Decided}
use Rattle.decisions.specs.declared.Decided.TheVariants.{Leaves, Takes, Evicts, Splits, Fails}
use Rattle.run_loop.specs.declared.RunEnd.{RunEnd}

-- the state's four slices
abbrev pub lent_state : List ℕ → List ℕ → List ℕ → List ℕ → StateBuffers
lent_state ends rests queue last = record { ends = ends; rests = rests; queue = queue; last = last }

-- those of a state that is lent to change, with the registers last given beside it
abbrev pub state_in : LentState → List ℕ → StateBuffers
state_in s last = lent_state s.ends.now s.rests.now s.queue.now last

-- the number of a run's word
abbrev pub ending_number : Ending → ℕ
ending_number Done = 1
ending_number Spent = 2
ending_number TooMany = 3

-- the decision that ends a run
abbrev pub is_fails : Decided → Bool
is_fails Leaves = false
is_fails (Takes c) = false
is_fails (Evicts c f gone) = false
is_fails Splits = false
is_fails Fails = true

-- whether a run ends with this step
abbrev pub is_over : Step → Bool
is_over (goes_on s) = false
is_over (too_many s) = true

-- a job, and a state with its records in words, stand in what is lent
pub record LentTo (j : Job) (s : State) (t : StateBuffers) (B : JobBuffers) (S : StateBuffers) (W : List ℕ) : Type 0 where
  pub reached : Reached j s
  pub job_stands : JobStands j B
  pub stands : Stands j s t S.ends S.rests S.queue S.last
  pub records_are : WordsOf (records s) W

-- the dequeue of v, which waits at stage q
pub record DequeueMade (v : ℕ) (q : Stage) (B : JobBuffers) (S : StateBuffers) (W : List ℕ) (S' : StateBuffers) (W' : List ℕ) (over : Bool) : Type 0 where
  pub made :
      (j : Job) (s : State) (t : StateBuffers)
      → LentTo j s t B S W
      → get_or s.queued v none ≡ some q
      → Stands j (state_of (dequeue j s v q)) t S'.ends S'.rests S'.queue S'.last
      × WordsOf (records (state_of (dequeue j s v q))) W'
      × (over ≡ is_over (dequeue j s v q))

-- a run with this budget
pub record RunMade (budget : ℕ) (B : JobBuffers) (S : StateBuffers) (W : List ℕ) (S' : StateBuffers) (W' : List ℕ) (r : RunEnd) : Type 0 where
  pub made :
      (j : Job) (s : State) (t : StateBuffers)
      → LentTo j s t B S W
      → Stands j (run j budget s).state t S'.ends S'.rests S'.queue S'.last
      × WordsOf (records (run j budget s).state) W'
      × (r.ending ≡ (run j budget s).ending)
      × (r.dequeues ≡ (run j budget s).dequeues)
