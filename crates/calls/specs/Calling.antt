-- What a direct call answers and leaves in what is lent (document 01, "Order", "What the stage answers"). Assumes nothing.
use Rattle.std.specs.Prelude.{ℕ, ◌≡◌, List, [], ◌∷◌, Bool, true, leb, length, get_or, set, Result, Ok, Err}
use Rattle.std.specs.Float.{binary32}
use Rattle.std.specs.Float.Ieee.{of_bits}
use Rattle.reg_matrix.specs.Refusals.{refusal, short_buffer}
use Rattle.table_words.specs.Segments.{refusal_number as number_of}
use Rattle.reg_matrix.specs.declared.Refusal.{Refusal}
use Rattle.job.specs.Model.{Job}
use Rattle.job.specs.Layout.{JobSlices, lists_in, header_of}
use Rattle.job.specs.declared.JobHeader.{JobHeader}
use Rattle.allocator.specs.declared.Assignment.{Assignment}
use Rattle.allocator.specs.declared.Assignment.TheVariants.{Assigned, Unassigned, Dead}
use Rattle.allocator.specs.State.{State, records}
use Rattle.allocator.specs.Layout.{StateBuffers, stage_limits}
use Rattle.allocator.specs.Calls.{Call, placing, evicting, running, Answer, refused, placed, evicted, ended, answer_of, after}
use Rattle.allocator.specs.Reached.{Reached}
use Rattle.allocator.specs.Run.{run}
use Rattle.records.specs.Fields.{flag_in, reg_in}
use Rattle.moves.specs.Standing.{JobStands, Stands}
use Rattle.run_loop.specs.declared.RunEnd.{RunEnd}
use Rattle.run_loop.specs.Running.{ending_number}
use Rattle.call_tests.specs.Testing.{named_to, unknown_in, clear_to, place_tests, evict_tests}

-- ---- an answer in numbers

-- 01, "What the stage answers": "A refusal returns its number alone"; 0 where the call is carried out
abbrev pub refusal_number : Answer → ℕ
refusal_number (refused n) = n
refusal_number (placed r) = 0
refusal_number (evicted r) = 0
refusal_number (ended e n) = 0

-- the register given or taken away
abbrev pub value_number : Answer → ℕ
value_number (refused n) = 0
value_number (placed r) = r
value_number (evicted r) = r
value_number (ended e n) = n

-- ---- what the code answers

module _ {A : Type 0} where
  -- what was there, or what the answer gives in its place: a refusal changes nothing
  abbrev pub afterwards : A → Result A Refusal → A
  afterwards a (Ok b) = b
  afterwards a (Err r) = a

  -- the number beside what the answer gives, or 0
  abbrev pub second_in : Result (A × ℕ) Refusal → ℕ
  second_in (Ok (a, r)) = r
  second_in (Err e) = 0

  -- the number of a run's word, or 0
  abbrev pub ending_in : Result (A × RunEnd) Refusal → ℕ
  ending_in (Ok (a, end)) = ending_number end.ending
  ending_in (Err e) = 0

  -- its dequeues, or 0
  abbrev pub dequeues_in : Result (A × RunEnd) Refusal → ℕ
  dequeues_in (Ok (a, end)) = end.dequeues
  dequeues_in (Err e) = 0

module _ {A B : Type 0} where
  -- an answer's first part alone
  abbrev pub first_in : Result (A × B) Refusal → Result A Refusal
  first_in (Ok (a, b)) = Ok a
  first_in (Err e) = Err e

-- ---- what is lent

-- the sizes of what is lent, in the order of the limits
abbrev pub sizes_of : JobSlices → StateBuffers → List ℕ
sizes_of B S =
    length B.j64
    ∷ length B.j32
    ∷ length B.j16
    ∷ length B.j8
    ∷ length B.jf
    ∷ length S.ends
    ∷ length S.rests
    ∷ length S.queue
    ∷ length S.last
    ∷ []

-- the state s stands in the slices and in the records
pub record StateStands (j : Job) (s : State) (t : StateBuffers) (S : StateBuffers) (rs : List Assignment) : Type 0 where
  pub stands : Stands j s t S.ends S.rests S.queue S.last
  pub records_are : rs ≡ records s

-- ---- the calls

-- test 8 of a placement, by what is lent
abbrev pub unknown_to : JobHeader → JobSlices → ℕ → ℕ → Bool
unknown_to header B v reg = unknown_in header.virt_regs header.regs v reg (named_to B header.virt_regs v reg)

-- the refusal of a placement by what is lent and the record of v, or 0
unfoldable pub place_answer : JobHeader → JobSlices → ℕ → ℕ → ℕ → StateBuffers → Assignment → ℕ
place_answer header B v reg bits S a =
    number_of (refusal (place_tests (short_buffer stage_limits (sizes_of B S)) (unknown_to header B v reg) bits a (clear_to B S.ends S.rests v reg)))

-- the same of an eviction
unfoldable pub evict_answer : JobHeader → JobSlices → ℕ → StateBuffers → Assignment → ℕ
evict_answer header B v S a = number_of (refusal (evict_tests (short_buffer stage_limits (sizes_of B S)) (leb header.virt_regs v) a))

-- slices and records are as they were
pub record Unchanged (S : StateBuffers) (rs : List Assignment) (S' : StateBuffers) (rs' : List Assignment) : Type 0 where
  pub slices : S' ≡ S
  pub records_too : rs' ≡ rs

-- A call c that answered n, from S and rs to S' and rs'. Of any content: a short buffer is refused with 15, and what is refused changes nothing. On a
-- state that calls reach: the answer is the definition's, and the state that the definition gives stands there afterwards.
pub record Called (header : JobHeader) (B : JobSlices) (c : Call)
    (S : StateBuffers) (rs : List Assignment) (S' : StateBuffers) (rs' : List Assignment) (n : ℕ) : Type 0 where
  pub short : short_buffer stage_limits (sizes_of B S) ≡ true → n ≡ 15
  pub unchanged : (n ≡ 0 → ⊥) → Unchanged S rs S' rs'
  pub reached :
      (j : Job) (s : State) (t : StateBuffers)
      → Reached j s
      → JobStands j (lists_in B)
      → header ≡ header_of j
      → StateStands j s t S rs
      → (n ≡ refusal_number (answer_of j s c)) × StateStands j (after j s c) t S' rs'

-- a direct placement of v in the register with the weight of these bits. Of any content: the answer is that of the tests over what is lent, and the
-- records are decided
pub record Placed (header : JobHeader) (B : JobSlices) (v reg bits : ℕ)
    (S : StateBuffers) (rs : List Assignment) (S' : StateBuffers) (rs' : List Assignment) (n : ℕ) : Type 0 where
  pub answer : n ≡ place_answer header B v reg bits S (get_or rs v Dead)
  pub recorded : n ≡ 0 → rs' ≡ set rs v (Assigned (flag_in (get_or rs v Dead)) reg (of_bits binary32 bits))
  pub called : Called header B (placing (sizes_of B S) v reg (of_bits binary32 bits)) S rs S' rs' n

-- a direct eviction of v, which answered the register r too. The same of any content
pub record Evicted (header : JobHeader) (B : JobSlices) (v : ℕ)
    (S : StateBuffers) (rs : List Assignment) (S' : StateBuffers) (rs' : List Assignment) (n r : ℕ) : Type 0 where
  pub answer : n ≡ evict_answer header B v S (get_or rs v Dead)
  pub recorded : n ≡ 0 → (rs' ≡ set rs v (Unassigned (flag_in (get_or rs v Dead)))) × (r ≡ reg_in (get_or rs v Dead))
  pub nothing : (n ≡ 0 → ⊥) → r ≡ 0
  pub called : Called header B (evicting (sizes_of B S) v) S rs S' rs' n
  pub taken_away :
      (j : Job) (s : State) (t : StateBuffers)
      → Reached j s
      → JobStands j (lists_in B)
      → header ≡ header_of j
      → StateStands j s t S rs
      → r ≡ value_number (answer_of j s (evicting (sizes_of B S) v))

-- a run with a budget, which answered its word's number and its dequeues too; it needs no header
pub record RunCalled (B : JobSlices) (budget : ℕ) (S : StateBuffers) (rs : List Assignment) (S' : StateBuffers) (rs' : List Assignment) (n ending dequeues : ℕ) : Type 0 where
  pub nothing : (n ≡ 0 → ⊥) → (ending ≡ 0) × (dequeues ≡ 0)
  pub called : (header : JobHeader) → Called header B (running (sizes_of B S) budget) S rs S' rs' n
  pub ended_so :
      (j : Job) (s : State) (t : StateBuffers)
      → Reached j s
      → JobStands j (lists_in B)
      → StateStands j s t S rs
      → n ≡ 0
      → (ending ≡ ending_number (run j budget s).ending) × (dequeues ≡ (run j budget s).dequeues)
