-- What a move of a number does to what is lent: it takes a register or loses it, on a state that calls reach, and afterwards the state that the rules
-- give stands there; on any other state these say nothing. Or it is passed by. Assumes nothing.
use Rattle.std.specs.Prelude.{ℕ, ◌+◌, ◌<◌, ◌≡◌, List, [], Bool, T, ltb, length, get_or, set}
use Rattle.std.proofs.Math.Option.{some}
use Rattle.lent.specs.Parts.{Begins}
use Rattle.job.specs.Model.{Job}
use Rattle.table_words.specs.declared.buffers.LentState.{LentState}
use Rattle.job.specs.Layout.{JobBuffers, job_buffers}
use Rattle.allocator.specs.declared.CandidateReg.{CandidateReg}
use Rattle.allocator.specs.declared.Stage.{Stage}
use Rattle.allocator.specs.declared.Assignment.TheVariants.{Dead}
use Rattle.allocator.specs.State.{State, held_by, is_unassigned, check_of, give, lose}
use Rattle.allocator.specs.Layout.{StateBuffers}
use Rattle.allocator.specs.Calls.{named}
use Rattle.allocator.specs.Reached.{Reached}
use Rattle.queue.specs.QueueWalk.{key_of, set_word}
use Rattle.record_words.specs.Words.{record_word}
use Rattle.decisions.specs.declared.Decided.{Decided}
use Rattle.decisions.specs.declared.Decided.TheVariants.{Leaves, Takes, Evicts, Splits, Fails}
use Rattle.moves.specs.Standing.{Moves, Stands}

-- the lists that an eviction reads
pub record EvictReads (j : Job) (B : JobBuffers) : Type 0 where
  pub regs : Begins (job_buffers j).regs B.regs
  pub fixed_uses : Begins (job_buffers j).fixed_uses B.fixed_uses
  pub sizes_are : Begins (job_buffers j).sizes B.sizes
  pub hint_starts : Begins (job_buffers j).hint_starts B.hint_starts
  pub segment_starts : Begins (job_buffers j).segment_starts B.segment_starts
  pub tos_are : Begins (job_buffers j).tos B.tos

-- those that a placement reads
pub record TakeReads (j : Job) (B : JobBuffers) : Type 0 where
  pub regs : Begins (job_buffers j).regs B.regs
  pub fixed_uses : Begins (job_buffers j).fixed_uses B.fixed_uses
  pub value_sets : Begins (job_buffers j).value_sets B.value_sets
  pub segment_starts : Begins (job_buffers j).segment_starts B.segment_starts
  pub froms_are : Begins (job_buffers j).froms B.froms
  pub tos_are : Begins (job_buffers j).tos B.tos

-- the key of v at a stage, by what is lent of its hints and its size
abbrev pub key_in : JobBuffers → ℕ → Stage → ℕ
key_in B v q = key_of v (ltb (get_or B.hint_starts v 0) (get_or B.hint_starts (v + 1) 0)) (get_or B.sizes v 0) q

-- v, which holds the register, loses it and is queued at stage Evict
pub record TakenBack (v reg : ℕ) (B : JobBuffers) (before after : LentState) : Type 0 where
  pub reached :
      (j : Job) (s : State) (t : StateBuffers)
      → Reached j s
      → EvictReads j B
      → Moves j s t before.ends.now before.rests.now before.queue.now
      → (c : CandidateReg)
      → held_by s v ≡ some c
      → c.reg ≡ reg
      → Moves j (lose j v c.reg s) t after.ends.now after.rests.now after.queue.now

-- v, which holds nothing, takes a register that it may have and that is clear
pub record Taken (v reg : ℕ) (B : JobBuffers) (before : LentState) (last : List ℕ) (after : LentState) (last' : List ℕ) : Type 0 where
  pub reached :
      (j : Job) (s : State) (t : StateBuffers)
      → Reached j s
      → TakeReads j B
      → Stands j s t before.ends.now before.rests.now before.queue.now last
      → v < length j.virt_regs
      → T (is_unassigned s v)
      → T (named j v reg)
      → check_of j s v reg ≡ []
      → (c : CandidateReg) (f : Bool)
      → c.reg ≡ reg
      → Stands j (give j v c f s) t after.ends.now after.rests.now after.queue.now last'

-- v is left over, back in the queue with this key, or off the queue
abbrev pub PassedParts : Decided → ℕ → ℕ → List ℕ → List ℕ → List ℕ → List ℕ → Type 0
PassedParts Leaves v key queue words queue' words' = (queue' ≡ set_word v 0 queue) × (words' ≡ set words v (record_word Dead))
PassedParts (Takes c) v key queue words queue' words' = Unit {0}
PassedParts (Evicts c f gone) v key queue words queue' words' = Unit {0}
PassedParts Splits v key queue words queue' words' = (queue' ≡ set_word v (key + 1) queue) × (words' ≡ words)
PassedParts Fails v key queue words queue' words' = (queue' ≡ set_word v 0 queue) × (words' ≡ words)

-- what becomes of v, which takes no register and has this key at stage Split
pub record PassedBy (d : Decided) (v key : ℕ) (queue words queue' words' : List ℕ) : Type 0 where
  pub parts : PassedParts d v key queue words queue' words'
