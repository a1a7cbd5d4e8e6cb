-- What carrying a decision out does to what is lent, on a state that calls reach: afterwards the state that the rules give stands there. On any other
-- state these say nothing. Assumes nothing.
use Rattle.std.specs.Prelude.{ℕ, ◌<◌, ◌≡◌, List, [], Bool, ◌||◌, T, length, get_or}
use Rattle.std.proofs.Math.Option.{some, none}
use Rattle.job.specs.Model.{Job, Plain}
use Rattle.table_words.specs.declared.buffers.LentState.{LentState}
use Rattle.job.specs.Layout.{JobBuffers}
use Rattle.allocator.specs.declared.CandidateReg.{CandidateReg}
use Rattle.allocator.specs.declared.Stage.{Stage}
use Rattle.allocator.specs.declared.Assignment.{Assignment}
use Rattle.allocator.specs.declared.Assignment.TheVariants.{Assigned}
use Rattle.allocator.specs.State.{State, is_unassigned, check_of, records, give}
use Rattle.allocator.specs.Dequeue.{decide, state_of, evict_all, dequeue}
use Rattle.allocator.specs.Layout.{StateBuffers}
use Rattle.allocator.specs.Calls.{named}
use Rattle.allocator.specs.Reached.{Reached}
use Rattle.records.specs.Fields.{flag_in}
use Rattle.record_words.specs.Words.{WordsOf}
use Rattle.decisions.specs.declared.Decided.{Decided}
use Rattle.decisions.specs.Deciding.{members, decision_of}
use Rattle.moves.specs.Standing.{Moves, Stands}
use Rattle.moves.specs.Moving.{EvictReads, TakeReads}

-- all of a set are evicted, where the records stand in the words
pub record EvictedAll (gone : List Bool) (B : JobBuffers) (before : LentState) (words : List ℕ) (after : LentState) (words' : List ℕ) : Type 0 where
  pub reached :
      (j : Job) (s : State) (t : StateBuffers)
      → Reached j s
      → EvictReads j B
      → Moves j s t before.ends.now before.rests.now before.queue.now
      → WordsOf (records s) words
      → Moves j (evict_all j (members gone) s) t after.ends.now after.rests.now after.queue.now × WordsOf (records (evict_all j (members gone) s)) words'

-- the record of a number that takes a register: its flag stays on, or turns on
abbrev pub given_record : Bool → Assignment → CandidateReg → Assignment
given_record f a c = Assigned (f || flag_in a) c.reg c.preference_weight

-- v, which holds nothing, takes the register that was decided, and its record says so. The weight is no NaN and carries no sign
pub record Settled (v : ℕ) (c : CandidateReg) (f : Bool) (B : JobBuffers) (before : LentState) (last words : List ℕ) (after : LentState) (last' words' : List ℕ) : Type 0 where
  pub reached :
      (j : Job) (s : State) (t : StateBuffers)
      → Reached j s
      → TakeReads j B
      → Stands j s t before.ends.now before.rests.now before.queue.now last
      → WordsOf (records s) words
      → v < length j.virt_regs
      → T (is_unassigned s v)
      → T (named j v c.reg)
      → check_of j s v c.reg ≡ []
      → Plain c.preference_weight
      → Stands j (give j v c f s) t after.ends.now after.rests.now after.queue.now last' × WordsOf (records (give j v c f s)) words'

-- what the dequeue of v decides is carried out
pub record CarriedOut (d : Decided) (v : ℕ) (B : JobBuffers) (before : LentState) (last words : List ℕ) (after : LentState) (last' words' : List ℕ) : Type 0 where
  pub reached :
      (j : Job) (s : State) (t : StateBuffers) (q : Stage)
      → Reached j s
      → EvictReads j B
      → TakeReads j B
      → Stands j s t before.ends.now before.rests.now before.queue.now last
      → WordsOf (records s) words
      → get_or s.queued v none ≡ some q
      → decision_of d ≡ decide j s v q
      → Stands j (state_of (dequeue j s v q)) t after.ends.now after.rests.now after.queue.now last' × WordsOf (records (state_of (dequeue j s v q))) words'
