-- From a job's bytes to the lines printed (document 01, "The printed sheet"): a job is loaded and run with its budget, and then its sheet comes line
-- by line from a position. Assumes nothing.
use Rattle.std.specs.Prelude.{ℕ, ◌≤◌, ◌≡◌, List, [], ◌∷◌, ◌++◌, map, false, length, take, drop, get_or, Option, Some, None, Result, Ok, Err}
use Rattle.std.proofs.lemmas.List.Edits.{sets}
use Rattle.reg_matrix.specs.Lists.{concat_map}
use Rattle.reg_matrix.specs.Lines.{refused_line}
use Rattle.reg_matrix.specs.Refusals.{short_buffer}
use Rattle.reg_matrix.specs.Layout.{max_entries, end_words, rest_words}
use Rattle.job.specs.Model.{Job}
use Rattle.job.specs.Load.{Loaded, not_loaded, loaded, load_with}
use Rattle.job.specs.Layout.{JobSlices, header_of, lists_in}
use Rattle.job.specs.declared.JobHeader.{JobHeader}
use Rattle.allocator.specs.declared.Ending.{Ending}
use Rattle.allocator.specs.State.{State, fresh_state, records}
use Rattle.allocator.specs.Layout.{StateBuffers, stage_limits, queue_words, last_words}
use Rattle.allocator.specs.Run.{Ran, run}
use Rattle.allocator.specs.Sheet.{sheet_of, printed}
use Rattle.run_loop.specs.declared.RunEnd.{RunEnd}
use Rattle.run_loop.specs.Running.{RunMade}
use Rattle.calls.specs.Calling.{sizes_of}
use Rattle.stage_loader.specs.StageLoading.{later_job}
use Rattle.records.specs.Fields.{first_records}
use Rattle.listing.specs.declared.Listing.{Listing}
use Rattle.listing.specs.declared.Place.TheVariants.{Head}
use Rattle.lines.specs.LineTexts.{Lent, lent}
use Rattle.listing.specs.Walk.{line_limit, found, AnsweredIfLong, number_at, lines_from}
use Rattle.record_words.specs.Words.{record_word, record_in, records_in, AllPlain}

-- ---- what is lent

-- a call on a stage's limits, and a word for each record: 01, "What the stage answers", 15
abbrev pub sheet_limits : List ℕ
sheet_limits = stage_limits ++ (512 ∷ [])

abbrev pub sheet_sizes : JobSlices → StateBuffers → List ℕ → List ℕ
sheet_sizes B S words = sizes_of B S ++ (length words ∷ [])

-- 01, "Order": what loading these bytes answers, with these buffers lent
unfoldable pub loaded_with : JobSlices → StateBuffers → List ℕ → List ℕ → Loaded
loaded_with B S words bytes = load_with sheet_limits (sheet_sizes B S words) bytes

-- ---- what stands there afterwards

-- the run of a loaded job with its budget
abbrev pub ran_of : Job → Ran
ran_of j = run j j.budget (fresh_state j)

-- the state in the four buffers, and the tail of a longer buffer
unfoldable pub state_in : Job → State → StateBuffers → StateBuffers
state_in j s S =
    record {
      ends = end_words s.table ++ drop max_entries S.ends;
      rests = rest_words s.table ++ drop max_entries S.rests;
      queue = queue_words j s ++ drop 1024 S.queue;
      last = last_words s ++ drop 512 S.last;
    }

-- the records in as many words, and the tail
unfoldable pub records_on : State → List ℕ → List ℕ
records_on s words = map record_word (records s) ++ drop 512 words

-- the position before the first line of the sheet of a run
abbrev pub start_of : JobHeader → Ending → ℕ → Listing
start_of h ending dequeues = record { ending = ending; dequeues = dequeues; header = h; place = Head }

-- ---- the lines

-- what of the buffers the lines are read from, beside the records
abbrev pub lines_lent : JobSlices → StateBuffers → Lent
lines_lent B S = lent B.j64 S.ends S.rests

-- 01, "The printed sheet": what is printed for an answer: "A refusal prints `refused N` alone", or the lines one after another
unfoldable pub shown : Result Listing ℕ → Lent → List ℕ → List ℕ
shown (Err n) l words = refused_line n
shown (Ok c) l words = concat_map (λ x. x) (lines_from c (records_in words) l)

-- ---- the contracts

abbrev pub BegunParts : JobSlices → StateBuffers → List ℕ → JobSlices → StateBuffers → List ℕ → Result Listing ℕ → Loaded → Type 0
BegunParts B S W B' S' W' r (not_loaded n) = (r ≡ Err n) × (B' ≡ B) × (S' ≡ S) × (W' ≡ W)
BegunParts B S W B' S' W' r (loaded j) =
    (r ≡ Ok (start_of (header_of j) (ran_of j).ending (ran_of j).dequeues))
    × (B' ≡ later_job j B S)
    × (S' ≡ state_in j (ran_of j).state S)
    × (W' ≡ records_on (ran_of j).state W)

-- Of any bytes, with B, S and the words W lent: the answer and what stands there afterwards, where a refusal leaves all as it was; and the lines from
-- the answered position are together the sheet, which is the printed one where no buffer is short.
pub record Begun (bytes : List ℕ) (B : JobSlices) (S : StateBuffers) (W : List ℕ) (B' : JobSlices) (S' : StateBuffers) (W' : List ℕ) (r : Result Listing ℕ) : Type 0 where
  pub parts : BegunParts B S W B' S' W' r (loaded_with B S W bytes)
  pub shows : shown r (lines_lent B' S') W' ≡ sheet_of (loaded_with B S W bytes)
  pub prints : short_buffer sheet_limits (sheet_sizes B S W) ≡ false → shown r (lines_lent B' S') W' ≡ printed bytes

-- A run of what was loaded, with the job's budget, whose records stand in the first 512 words: first those that a job starts out with, and then the
-- run's. The answer is the position before the first line.
pub record RunStored (h : JobHeader) (B : JobSlices) (S : StateBuffers) (W : List ℕ) (S' : StateBuffers) (W' : List ℕ) (c : Listing) : Type 0 where
  pub firsts : List ℕ
  pub stored : firsts ≡ sets W 0 (map record_word first_records)
  pub read_back : AllPlain first_records → 512 ≤ length W → records_in firsts ≡ first_records
  pub end : RunEnd
  pub ran : 512 ≤ length W → RunMade h.budget (lists_in B) S (take 512 firsts) S' (take 512 W') end
  pub behind : 512 ≤ length W → drop 512 W' ≡ drop 512 W
  pub at : c ≡ start_of h end.ending end.dequeues

-- ---- one line

-- what is left to print from the position c, by the answer: nothing; or the front of the lent line, and then the lines from the next position
abbrev pub LeftToPrint : Listing → Lent → List ℕ → List ℕ → Result (Option (ℕ × Listing)) ℕ → Type 0
LeftToPrint c l words t (Ok None) = lines_from c (records_in words) l ≡ []
LeftToPrint c l words t (Ok (Some (n, after))) = (n ≤ line_limit) × (lines_from c (records_in words) l ≡ take n t ∷ lines_from after (records_in words) l)
LeftToPrint c l words t (Err n) = ⊥

-- The next line from c, over any content of l and the words, in a lent line that was s and is t afterwards: the answer, and how the line is, where a
-- line that is too short is refused and as it was; and, in a line that is long enough, how the lines from here and from the position after it go
-- together.
pub record NextLine (c : Listing) (l : Lent) (words s t : List ℕ) (r : Result (Option (ℕ × Listing)) ℕ) : Type 0 where
  pub answered : AnsweredIfLong c (found c (record_in (get_or words (number_at c.place) 0)) l) s t r
  pub left : line_limit ≤ length s → LeftToPrint c l words t r
