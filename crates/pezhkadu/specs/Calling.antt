-- What a call answers and leaves where the records stand in lent words (document 01, "Order", "What the stage answers"). Assumes nothing.
use Rattle.std.specs.Prelude.{ℕ, ◌≡◌, List, [], ◌∷◌, Bool, true, false, ◌||◌, ltb, length, drop, set}
use Rattle.std.proofs.lemmas.List.Edits.{sets}
use Rattle.reg_matrix.specs.Refusals.{short_buffer}
use Rattle.job.specs.Model.{Job}
use Rattle.job.specs.Layout.{JobSlices, header_of, lists_in}
use Rattle.allocator.specs.State.{State}
use Rattle.allocator.specs.Layout.{StateBuffers, stage_limits}
use Rattle.allocator.specs.Calls.{Call, evicting, running, answer_of, after}
use Rattle.allocator.specs.Reached.{Reached}
use Rattle.allocator.specs.Run.{run}
use Rattle.moves.specs.Standing.{JobStands}
use Rattle.run_loop.specs.Running.{ending_number}
use Rattle.calls.specs.Calling.{sizes_of, refusal_number, value_number, StateStands}
use Rattle.record_words.specs.Words.{records_in}
use Rattle.words.specs.Words.{records_limit, words_short, header_in}

-- A call c that answered n, from S and the words ws to S' and ws'; `own` says whether one of the words that only firmware lends is short. Of any
-- content: a short slice is refused with 15, what is refused changes nothing, and the tail of the words stays. On a state that calls reach and that
-- the words read as: the answer is the definition's, and the words read as the definition's state afterwards.
pub record Called (own : Bool) (head : List ℕ) (B : JobSlices) (c : Call)
    (S : StateBuffers) (ws : List ℕ) (S' : StateBuffers) (ws' : List ℕ) (n : ℕ) : Type 0 where
  pub short : (own || short_buffer stage_limits (sizes_of B S)) ≡ true → n ≡ 15
  pub unchanged : (n ≡ 0 → ⊥) → (S' ≡ S) × (ws' ≡ ws)
  pub behind : drop records_limit ws' ≡ drop records_limit ws
  pub reached :
      own ≡ false
      → (j : Job) (s : State) (t : StateBuffers)
      → Reached j s
      → JobStands j (lists_in B)
      → header_in head ≡ header_of j
      → StateStands j s t S (records_in ws)
      → (n ≡ refusal_number (answer_of j s c)) × StateStands j (after j s c) t S' (records_in ws')

-- ---- a run

-- the records or the two words of the answer are short
abbrev pub run_short : List ℕ → List ℕ → Bool
run_short ws answer = ltb (length ws) records_limit || ltb (length answer) 2

-- a run with a budget, which answered its word's number and its dequeues too; it needs no header. Refused, the answer's words stay as they were
pub record RunCalled (B : JobSlices) (budget : ℕ) (S : StateBuffers) (ws answer : List ℕ) (S' : StateBuffers) (ws' answer' : List ℕ) (n : ℕ) : Type 0 where
  pub called : (head : List ℕ) → Called (run_short ws answer) head B (running (sizes_of B S) budget) S ws S' ws' n
  pub no_answer : (n ≡ 0 → ⊥) → answer' ≡ answer
  pub answered :
      (j : Job) (s : State) (t : StateBuffers)
      → Reached j s
      → JobStands j (lists_in B)
      → StateStands j s t S (records_in ws)
      → n ≡ 0
      → answer' ≡ sets answer 0 (ending_number (run j budget s).ending ∷ (run j budget s).dequeues ∷ [])

-- ---- direct calls

-- the header or the records are short, or the answer's one word is missing
abbrev pub evict_short : List ℕ → List ℕ → List ℕ → Bool
evict_short head ws answer = words_short head ws || ltb (length answer) 1

-- a direct eviction of v, which answered the register that it held too. Refused, the answer's word stays as it was
pub record EvictCalled (head : List ℕ) (B : JobSlices) (v : ℕ) (S : StateBuffers) (ws answer : List ℕ) (S' : StateBuffers) (ws' answer' : List ℕ) (n : ℕ) : Type 0 where
  pub called : Called (evict_short head ws answer) head B (evicting (sizes_of B S) v) S ws S' ws' n
  pub no_answer : (n ≡ 0 → ⊥) → answer' ≡ answer
  pub answered :
      (j : Job) (s : State) (t : StateBuffers)
      → Reached j s
      → JobStands j (lists_in B)
      → header_in head ≡ header_of j
      → StateStands j s t S (records_in ws)
      → n ≡ 0
      → answer' ≡ set answer 0 (value_number (answer_of j s (evicting (sizes_of B S) v)))
