-- Loading a stage whose header and records stand in lent words (document 01, "Order": loading tests 15 first, for all that is lent). Assumes nothing.
use Rattle.std.specs.Prelude.{ℕ, ◌≡◌, List, map, cond}
use Rattle.std.proofs.lemmas.List.Edits.{sets}
use Rattle.job.specs.Model.{Job}
use Rattle.job.specs.Load.{Loaded, not_loaded, loaded}
use Rattle.job.specs.Layout.{JobSlices, header_of, lists_in}
use Rattle.allocator.specs.State.{fresh_state}
use Rattle.allocator.specs.Layout.{StateBuffers}
use Rattle.allocator.specs.Calls.{load}
use Rattle.allocator.specs.Reached.{Reached}
use Rattle.moves.specs.Standing.{JobStands}
use Rattle.calls.specs.Calling.{sizes_of, StateStands}
use Rattle.stage_loader.specs.StageLoading.{later_state, later_job}
use Rattle.records.specs.Fields.{first_records}
use Rattle.record_words.specs.Words.{record_word, records_in}
use Rattle.words.specs.Words.{header_words, header_in, words_short}

-- a refusal leaves all as it was; else the header, the first records, the job and the fresh state stand there, and the tail of every longer slice
abbrev pub LoadParts : List ℕ → List ℕ → JobSlices → StateBuffers → List ℕ → List ℕ → JobSlices → StateBuffers → ℕ → Loaded → Type 0
LoadParts head ws B S head' ws' B' S' n (not_loaded m) = (n ≡ m) × (head' ≡ head) × (ws' ≡ ws) × (B' ≡ B) × (S' ≡ S)
LoadParts head ws B S head' ws' B' S' n (loaded j) =
    (n ≡ 0)
    × (head' ≡ sets head 0 (header_words (header_of j)))
    × (ws' ≡ sets ws 0 (map record_word first_records))
    × (B' ≡ later_job j B S)
    × (S' ≡ later_state j S)

-- loading the bytes answers n and leaves these
pub record LoadCalled (bytes head ws : List ℕ) (B : JobSlices) (S : StateBuffers) (head' ws' : List ℕ) (B' : JobSlices) (S' : StateBuffers) (n : ℕ) : Type 0 where
  pub parts : LoadParts head ws B S head' ws' B' S' n (cond (words_short head ws) (not_loaded 15) (load (sizes_of B S) bytes))

-- what every call asks of what is lent, as a load leaves it: so a load, and then any calls, each on what the last one left
pub record JustLoaded (head ws : List ℕ) (B : JobSlices) (S : StateBuffers) : Type 0 where
  pub job : Job
  pub reached : Reached job (fresh_state job)
  pub job_stands : JobStands job (lists_in B)
  pub header_is : header_in head ≡ header_of job
  pub behind : StateBuffers
  pub fresh : StateStands job (fresh_state job) behind S (records_in ws)
