-- A state that calls reach: the fresh state of a job that bytes load, after a list of calls (document 01, "Order": "On a state reached from loading
-- by calls, runs among them, a call that none of its tests refuses is carried out"). Assumes nothing.
use Rattle.std.specs.Prelude.{ℕ, ◌≡◌, List}
use Rattle.job.specs.Model.{Job}
use Rattle.job.specs.Load.{Bytes, loaded}
use Rattle.allocator.specs.State.{State}
use Rattle.allocator.specs.Calls.{load, Call, after_all}

-- 01, "Order": "a state reached from loading by calls, runs among them"
pub record Reached (j : Job) (s : State) : Type 0 where
  -- the sizes of what loading was lent, and the job's bytes
  pub lent : List ℕ
  pub bytes : List ℕ
  pub are_bytes : Bytes bytes
  pub loads : load lent bytes ≡ loaded j
  pub calls : List Call
  pub made : s ≡ after_all j calls
