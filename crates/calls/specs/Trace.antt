-- Demand 3 of the code (00, demand 3; document 01, "Holding"): a trace is a list of calls, each of which met its contract, from buffers that loading
-- filled; and the tables are those read from the buffers. Assumes nothing.
use Rattle.std.specs.Prelude.{ℕ, zero, suc, ◌≡◌, ◌↔◌, ◌⊎◌, List, [], ◌∷◌, ◌++◌, map, true, cond, ltb}
use Rattle.reg_matrix.specs.Table.{Table}
use Rattle.reg_matrix.specs.Refusals.{short_buffer}
use Rattle.reg_matrix.specs.Layout.{max_entries, greatest, entry_of}
use Rattle.reg_matrix.specs.Lines.{table_lines}
use Rattle.job.specs.Model.{Job}
use Rattle.job.specs.Load.{Bytes, loaded}
use Rattle.job.specs.Layout.{JobSlices, lists_in, header_of}
use Rattle.job.specs.declared.JobHeader.{JobHeader}
use Rattle.allocator.specs.declared.Assignment.{Assignment}
use Rattle.allocator.specs.State.{fresh_state}
use Rattle.allocator.specs.Layout.{StateBuffers, stage_limits}
use Rattle.allocator.specs.Calls.{load, Call, placing, evicting, running, placed, answers, after_all}
use Rattle.allocator.specs.Holding.{holds}
use Rattle.allocator.specs.Demand.{holders_after, placements}
use Rattle.moves.specs.Standing.{JobStands}
use Rattle.calls.specs.Calling.{sizes_of, StateStands, Called}

-- ---- the table read from its two buffers: the entries before the first number that is no entry's

unfoldable pub read_table : ℕ → List ℕ → List ℕ → Table
read_table zero es rs = []
read_table (suc n) [] rs = []
read_table (suc n) (e ∷ es) [] = []
read_table (suc n) (e ∷ es) (r ∷ rs) = cond (ltb e greatest) (entry_of e r ∷ read_table n es rs) []

abbrev pub table_in : StateBuffers → Table
table_in S = read_table max_entries S.ends S.rests

-- ---- one call

-- the sizes that a call was lent
abbrev pub lent_to : Call → List ℕ
lent_to (placing lent v r w) = lent
lent_to (evicting lent v) = lent
lent_to (running lent b) = lent

-- the call is lent the whole state and the job
pub record WholeCall (header : JobHeader) (B : JobSlices) (c : Call) (S : StateBuffers) (rs : List Assignment) (S' : StateBuffers) (rs' : List Assignment) : Type 0 where
  pub sizes : lent_to c ≡ sizes_of B S
  pub answer : ℕ
  pub called : Called header B c S rs S' rs' answer

-- each buffer in two parts
abbrev pub joined : StateBuffers → StateBuffers → StateBuffers
joined a b = record { ends = a.ends ++ b.ends; rests = a.rests ++ b.rests; queue = a.queue ++ b.queue; last = a.last ++ b.last }

-- "one refused 15 perhaps only part of it": the call is lent a part of the state, and some job buffers, that are too short
pub record ShortCall (c : Call) (S : StateBuffers) (rs : List Assignment) (S' : StateBuffers) (rs' : List Assignment) : Type 0 where
  pub header : JobHeader
  pub job : JobSlices
  pub part : StateBuffers
  pub rest : StateBuffers
  pub after : StateBuffers
  pub before_is : S ≡ joined part rest
  pub after_is : S' ≡ joined after rest
  pub sizes : lent_to c ≡ sizes_of job part
  pub short : short_buffer stage_limits (sizes_of job part) ≡ true
  pub answer : ℕ
  pub called : Called header job c part rs after rs' answer

-- ---- traces

-- "each call gets the state that the last one left", "and nobody else writes it meanwhile"; the job's buffers never change
unfoldable pub Trace : JobHeader → JobSlices → StateBuffers → List Assignment → List Call → StateBuffers → List Assignment → Type 0
Trace header B S rs [] S' rs' = (S' ≡ S) × (rs' ≡ rs)
Trace header B S rs (c ∷ cs) S' rs' =
    (S₁ : StateBuffers) × (rs₁ : List Assignment) × (WholeCall header B c S rs S₁ rs₁ ⊎ ShortCall c S rs S₁ rs₁) × Trace header B S₁ rs₁ cs S' rs'

-- "from a job just loaded": the job's and the fresh state's layout, with whatever is lent behind
pub record JustLoaded (j : Job) (header : JobHeader) (B : JobSlices) (S : StateBuffers) (rs : List Assignment) : Type 0 where
  pub lent : List ℕ
  pub bytes : List ℕ
  pub are_bytes : Bytes bytes
  pub loads : load lent bytes ≡ loaded j
  pub header_is : header ≡ header_of j
  pub job_stands : JobStands j (lists_in B)
  pub behind : StateBuffers
  pub fresh : StateStands j (fresh_state j) behind S rs

-- a trace from loading, by the calls made
pub record TraceOf (j : Job) (cs : List Call) (S : StateBuffers) : Type 0 where
  pub header : JobHeader
  pub job : JobSlices
  pub first : StateBuffers
  pub first_records_lem : List Assignment
  pub loaded_so : JustLoaded j header job first first_records_lem
  pub records_after : List Assignment
  pub trace : Trace header job first first_records_lem cs S records_after

-- ---- demand 3 of every trace

pub record CodeTablesAreHolders (j : Job) : Type 0 where
  pub none_refused : (cs : List Call) (S : StateBuffers) → TraceOf j cs S → answers j (fresh_state j) (placements j cs) ≡ map (λ h. placed h.reg) (holders_after j cs)
  pub rebuilt : (cs : List Call) (S : StateBuffers) → TraceOf j cs S → table_in S ≡ (after_all j (placements j cs)).table
  pub decided :
      (cs ds : List Call) (S S' : StateBuffers) → TraceOf j cs S → TraceOf j ds S' → (table_in S ≡ table_in S') ↔ ((v : ℕ) → holds j cs v ≡ holds j ds v)
  pub by_lines :
      (cs ds : List Call) (S S' : StateBuffers) → TraceOf j cs S → TraceOf j ds S' → (table_lines (table_in S) ≡ table_lines (table_in S')) ↔ ((v : ℕ) → holds j cs v ≡ holds j ds v)

abbrev pub CodeDemand3 : Type 0
CodeDemand3 = (j : Job) → CodeTablesAreHolders j
