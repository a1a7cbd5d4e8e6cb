-- Loading a stage: the job and the table as loading a job leaves them, the queue with all at Evict, no last register (document 01, "Order": loading
-- tests 15 first, for all that is lent). Assumes nothing.
use Rattle.std.specs.Prelude.{ℕ, ◌≡◌, List, ◌++◌, drop, Result, Ok, Err}
use Rattle.reg_matrix.specs.Layout.{max_entries, end_words, rest_words}
use Rattle.reg_matrix.specs.Refused.{numbered}
use Rattle.reg_matrix.specs.declared.Refusal.{Refusal}
use Rattle.job.specs.declared.JobHeader.{JobHeader}
use Rattle.job.specs.Model.{Job}
use Rattle.job.specs.Load.{Loaded, not_loaded, loaded}
use Rattle.job.specs.Layout.{JobSlices, header_of}
use Rattle.allocator.specs.State.{fresh_state}
use Rattle.allocator.specs.Layout.{StateBuffers, queue_words, last_words}
use Rattle.allocator.specs.Calls.{load}
use Rattle.loader.specs.Loading.{lent, later}
use Rattle.calls.specs.Calling.{sizes_of}

-- what loading the job leaves in the state's four buffers: the fresh state, and the tail of a longer buffer
unfoldable pub later_state : Job → StateBuffers → StateBuffers
later_state j S =
    record {
      ends = end_words (fresh_state j).table ++ drop max_entries S.ends;
      rests = rest_words (fresh_state j).table ++ drop max_entries S.rests;
      queue = queue_words j (fresh_state j) ++ drop 1024 S.queue;
      last = last_words (fresh_state j) ++ drop 512 S.last;
    }

-- and in the job's
abbrev pub later_job : Job → JobSlices → StateBuffers → JobSlices
later_job j B S = (later j (lent B S.ends S.rests)).job

abbrev pub StageLoadParts : JobSlices → StateBuffers → JobSlices → StateBuffers → Result JobHeader Refusal → Loaded → Type 0
StageLoadParts B S B' S' r (not_loaded n) = (numbered r ≡ Err n) × (B' ≡ B) × (S' ≡ S)
StageLoadParts B S B' S' r (loaded j) = (r ≡ Ok (header_of j)) × (B' ≡ later_job j B S) × (S' ≡ later_state j S)

-- loading the bytes, where B and S are lent, answers r and leaves B' and S': a refusal leaves all as it was
pub record StageLoadDone (bytes : List ℕ) (B : JobSlices) (S : StateBuffers) (B' : JobSlices) (S' : StateBuffers) (r : Result JobHeader Refusal) : Type 0 where
  pub parts : StageLoadParts B S B' S' r (load (sizes_of B S) bytes)
