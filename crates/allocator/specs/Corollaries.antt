-- What follows from demand 3 and what fixed buffers need, as statements on whole lists of calls: no sharing, agreement with Holding, capacity, the
-- order of evictions, printed lines. Their proofs stand in proofs/. Assumes nothing.
use Rattle.std.specs.Prelude.{ℕ, ◌<◌, ◌≤◌, ◌^◌, ◌≡◌, ◌⊎◌, ◌↔◌, List, Bool, not, ◌&&◌, T, Float, length, get_or}
use Rattle.std.proofs.Math.Option.{none, some}
use Rattle.reg_matrix.specs.Lists.{◌∈◌, is_some}
use Rattle.reg_matrix.specs.Refusals.{short_buffer}
use Rattle.reg_matrix.specs.Table.{units_of}
use Rattle.reg_matrix.specs.Layout.{max_entries, greatest, end_word, rest_word}
use Rattle.reg_matrix.specs.Lines.{entry_line}
use Rattle.reg_matrix.specs.declared.ValueSegment.{ValueSegment}
use Rattle.reg_matrix.specs.declared.Entry.{Entry}
use Rattle.std.specs.Prelude.{Option, Some}
use Rattle.reg_matrix.specs.declared.Reservation.TheVariants.{Held, FixedUse}
use Rattle.reg_matrix.specs.declared.Interference.{Interference}
use Rattle.job.specs.Model.{Job, virt_reg, segments_of, unit_map, Plain}
use Rattle.allocator.specs.State.{State, CandidateReg, Stage, Assignment, Assigned, held_by, is_left_over, is_unassigned, last_given, record_of}
use Rattle.allocator.specs.Order.{hinted_order, order}
use Rattle.allocator.specs.Queue.{encode}
use Rattle.allocator.specs.Evict.{weights, cost_of}
use Rattle.allocator.specs.Dequeue.{takes, carry_out}
use Rattle.allocator.specs.Run.{run}
use Rattle.allocator.specs.Layout.{stage_limits}
use Rattle.allocator.specs.Calls.{Call, evicting, refusal_of, evicted, answer_of, after_all}
use Rattle.allocator.specs.Holding.{Holding, holds}
use Rattle.allocator.specs.Demand.{OfLoaded}

-- ---- no sharing (00, demand 3: what the box needs of Holding)

-- 01, "Holding": v holds a register that has the unit u
pub record HasUnit (j : Job) (h : Holding) (v u : ℕ) : Type 0 where
  pub reg : ℕ
  pub holds : h v ≡ some reg
  pub unit : u ∈ units_of (unit_map j reg)

-- 01, "The job" (ranges are half-open): v is live at the point x, one of its segments has it
pub record LiveAt (j : Job) (v x : ℕ) : Type 0 where
  pub segment : ValueSegment
  pub among : segment ∈ segments_of j v
  pub starts : segment.from ≤ x
  pub ends : x < segment.to

-- 01, "Holding", and the check's reports: who holds what never clashes
pub record NeverShared (j : Job) (h : Holding) : Type 0 where
  -- two that have a unit in common: of a segment of the one and a segment of the other, one ends before the other starts
  pub units_apart :
      (v w u : ℕ) → (v ≡ w → ⊥) → HasUnit j h v u → HasUnit j h w u
      → (s t : ValueSegment) → s ∈ segments_of j v → t ∈ segments_of j w → (s.to ≤ t.from) ⊎ (t.to ≤ s.from)
  -- so they are live at no common point
  pub units_once : (v w u : ℕ) → (v ≡ w → ⊥) → HasUnit j h v u → HasUnit j h w u → (x : ℕ) → LiveAt j v x → LiveAt j w x → ⊥
  -- and no two live numbers share a register
  pub registers_once : (v w r : ℕ) → (v ≡ w → ⊥) → h v ≡ some r → h w ≡ some r → (x : ℕ) → LiveAt j v x → LiveAt j w x → ⊥
  -- a fixed reservation of a unit that v has, and that a segment of v overlaps, is a fixed use of the segment's value
  pub own_uses :
      (v u : ℕ) → HasUnit j h v u → (e : Entry) → e ∈ j.fixed → e.unit ≡ u
      → (s : ValueSegment) → s ∈ segments_of j v → e.from < s.to → s.from < e.to → e.reservation ≡ FixedUse s.value

-- 01, "Holding": after any list of calls
abbrev pub NeverSharedAfter : Type 0
NeverSharedAfter = OfLoaded (λ j. (cs : List Call) → NeverShared j (holds j cs))

-- ---- agreement with Holding (01, "Holding": the records never decide it; "What the stage answers": 13)

-- 01, "Where the Rust's forms give way", `Assignment`: the record stands as assigned, with the register r
pub record AssignedTo (a : Assignment) (r : ℕ) : Type 0 where
  pub flag : Bool
  pub weight : Float
  pub stands : a ≡ Assigned flag r weight

-- 01, "Order" (15, 8, 13): full-size buffers, a number of a virtual register, and it holds something
pub record MayBeEvicted (j : Job) (h : Holding) (lent : List ℕ) (v : ℕ) : Type 0 where
  pub lends : T (not (short_buffer stage_limits lent))
  pub known : v < length j.virt_regs
  pub holds : T (is_some (h v))

-- 01, "Placing": an entry of a holder, of a segment of its number, on a unit that the number has
pub record HeldEntry (j : Job) (h : Holding) (e : Entry) : Type 0 where
  pub number : ℕ
  pub segment : ValueSegment
  pub index : Option ℕ
  pub has : HasUnit j h number e.unit
  pub among : segment ∈ segments_of j number
  pub stands : e ≡ record { unit = e.unit; from = segment.from; to = segment.to; reservation = Held number index }

-- 01, "Holding": a state beside who holds what
pub record Agreement (j : Job) (s : State) (h : Holding) : Type 0 where
  -- the table has an entry for each segment of a holder on each of its units, and what else it has is fixed
  pub table_has :
      (v u : ℕ) → HasUnit j h v u → (x : ValueSegment) → x ∈ segments_of j v
      → (i : Option ℕ) × (record { unit = u; from = x.from; to = x.to; reservation = Held v i } ∈ s.table)
  pub table_only : (e : Entry) → e ∈ s.table → (e ∈ j.fixed) ⊎ HeldEntry j h e
  -- a number's record stands as assigned exactly where it holds that register
  pub records : (v r : ℕ) → AssignedTo (record_of s v) r ↔ (h v ≡ some r)
  -- who is queued holds nothing and is not left over
  pub queue : (v : ℕ) (q : Stage) → get_or s.queued v none ≡ some q → (v < length j.virt_regs) × (h v ≡ none) × T (not (is_left_over s v))
  -- a direct eviction is accepted exactly when its number is known and holds something, and then answers what it held
  pub evictions : (lent : List ℕ) (v : ℕ) → (refusal_of j s (evicting lent v) ≡ none) ↔ MayBeEvicted j h lent v
  pub eviction_answers : (lent : List ℕ) (v r : ℕ) → refusal_of j s (evicting lent v) ≡ none → h v ≡ some r → answer_of j s (evicting lent v) ≡ evicted r
  -- test 13 of a direct placement: it holds nothing and is not left over
  pub standing : (v : ℕ) → is_unassigned s v ≡ (not (is_some (h v)) && not (is_left_over s v))

-- 01, "Holding": after any list of calls
abbrev pub AgreementAfter : Type 0
AgreementAfter = OfLoaded (λ j. (cs : List Call) → Agreement j (after_all j cs) (holds j cs))

-- ---- capacity (01, "Limits"; "Order": "a call that none of its tests refuses is carried out")

-- 01, "Limits": what a state of the job j needs of fixed buffers
pub record FitsBuffers (j : Job) (s : State) : Type 0 where
  -- the table: its entries, the two words of each, and a fixed index in it
  pub entries : length s.table ≤ max_entries
  pub end_words_lem : (e : Entry) → e ∈ s.table → end_word e < greatest
  pub rest_words_lem : (e : Entry) → e ∈ s.table → rest_word e < 2 ^ 64
  pub indices : (e : Entry) → e ∈ s.table → (v i : ℕ) → e.reservation ≡ Held v (Some i) → i < 512
  -- the queue: the key of a number, at either stage
  pub keys : (v : ℕ) → v < length j.virt_regs → (q : Stage) → encode j v q < 2 ^ 64
  pub queued : (v : ℕ) (q : Stage) → get_or s.queued v none ≡ some q → v < length j.virt_regs
  -- the lists: 512 places each, and register numbers below 64
  pub places :
      (length s.held ≡ 512)
      × (length s.left_over ≡ 512)
      × (length s.flags ≡ 512)
      × (length s.queued ≡ 512)
      × (length s.last ≡ 512)
  pub held_regs : (v : ℕ) (c : CandidateReg) → held_by s v ≡ some c → c.reg < 64
  pub last_regs : (t r : ℕ) → get_or s.last t none ≡ some r → r < 64
  -- weights: of what is held, of candidates, of what candidates cost
  pub held_weights : (v : ℕ) (c : CandidateReg) → held_by s v ≡ some c → Plain c.preference_weight
  pub hinted_weights :
      (v : ℕ) → v < length j.virt_regs → (c : CandidateReg) → c ∈ hinted_order (virt_reg j v) (last_given j s v) → Plain c.preference_weight
  pub candidate_weights :
      (v : ℕ) → v < length j.virt_regs → (c : CandidateReg)
      → c ∈ order j v (hinted_order (virt_reg j v) (last_given j s v)) → Plain c.preference_weight
  pub sums : (vs : List ℕ) → Plain (weights s vs)
  pub costs : (rs : List Interference) → Plain (cost_of j s rs).preference_weight × Plain (cost_of j s rs).spill_weight

-- 01, "Order": after any list of calls, so that what no test refuses can be carried out
abbrev pub FitsBuffersAfter : Type 0
FitsBuffersAfter = OfLoaded (λ j. (cs : List Call) → FitsBuffers j (after_all j cs))

-- ---- the order of evictions (01, "A dequeue")

-- for `EvictOrder`
abbrev pub SameMembers : List ℕ → List ℕ → Type 0
SameMembers vs ws = (v : ℕ) → (v ∈ vs) ↔ (v ∈ ws)

-- 01, "A dequeue": in a run with any budget after any list of calls, a decision with other evictions in the place of its own, of the same members, is
-- carried out to the same state
abbrev pub EvictOrder : Type 0
EvictOrder =
    OfLoaded
    (λ j. (cs : List Call) (b v : ℕ) (c : CandidateReg) (f : Bool) (vs ws : List ℕ)
    → SameMembers vs ws
    → carry_out j (run j b (after_all j cs)).state v (takes c f vs) ≡ carry_out j (run j b (after_all j cs)).state v (takes c f ws))

-- ---- printed lines (01, "Holding": "Entries are equal where their printed lines are")

-- 01, "Holding": "Entries are equal where their printed lines are", any two, of tables after any calls
abbrev pub EntryLines : Type 0
EntryLines =
    OfLoaded
    (λ j. (cs ds : List Call) (e f : Entry)
    → e ∈ (after_all j cs).table
    → f ∈ (after_all j ds).table
    → (entry_line e ≡ entry_line f) ↔ (e ≡ f))
