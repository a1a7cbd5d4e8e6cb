-- Demand 3 of lists of calls (00, demand 3; document 01, "Holding"): the table is read from the buffers after loading and one list of calls. Assumes
-- nothing.
use Rattle.std.specs.Prelude.{ℕ, ◌≡◌, ◌↔◌, List, map, false}
use Rattle.reg_matrix.specs.Lines.{table_lines}
use Rattle.job.specs.Model.{Job}
use Rattle.job.specs.Layout.{JobSlices}
use Rattle.job.specs.declared.JobHeader.{JobHeader}
use Rattle.allocator.specs.declared.Assignment.{Assignment}
use Rattle.allocator.specs.State.{fresh_state}
use Rattle.allocator.specs.Layout.{StateBuffers}
use Rattle.allocator.specs.Calls.{Call, placed, answers, after_all}
use Rattle.allocator.specs.Holding.{holds}
use Rattle.allocator.specs.Demand.{holders_after, placements}
use Rattle.calls.specs.Calling.{sizes_of}
use Rattle.calls.specs.Trace.{table_in, JustLoaded}
use Rattle.call_lists.specs.Listed.{calls_in, no_room, ListCarriedOut}

-- what loading left, and a list with the calls cs that met its contract there and was not refused
pub record ListFromLoad (j : Job) (cs : List Call) (S : StateBuffers) : Type 0 where
  pub header : JobHeader
  pub job : JobSlices
  pub first : StateBuffers
  pub first_records_lem : List Assignment
  pub loaded_so : JustLoaded j header job first first_records_lem
  pub list : List ℕ
  pub calls_are : cs ≡ calls_in (sizes_of job first) list
  pub answers_before : List ℕ
  pub answers_after : List ℕ
  pub records_after : List Assignment
  pub refusal : ℕ
  pub done : ℕ
  pub has_room : no_room answers_before list ≡ false
  pub carried_out_lem : ListCarriedOut header job list first first_records_lem answers_before S records_after answers_after refusal done

-- the table is that of the holders, placed anew on the fresh job, where no placement is refused; and two tables are equal exactly where the same
-- numbers hold the same registers
pub record ListTablesAreHolders (j : Job) : Type 0 where
  pub none_refused : (cs : List Call) (S : StateBuffers) → ListFromLoad j cs S → answers j (fresh_state j) (placements j cs) ≡ map (λ h. placed h.reg) (holders_after j cs)
  pub rebuilt : (cs : List Call) (S : StateBuffers) → ListFromLoad j cs S → table_in S ≡ (after_all j (placements j cs)).table
  pub decided :
      (cs ds : List Call) (S S' : StateBuffers) → ListFromLoad j cs S → ListFromLoad j ds S' → (table_in S ≡ table_in S') ↔ ((v : ℕ) → holds j cs v ≡ holds j ds v)
  pub by_lines :
      (cs ds : List Call) (S S' : StateBuffers) → ListFromLoad j cs S → ListFromLoad j ds S'
      → (table_lines (table_in S) ≡ table_lines (table_in S')) ↔ ((v : ℕ) → holds j cs v ≡ holds j ds v)

abbrev pub ListDemand3 : Type 0
ListDemand3 = (j : Job) → ListTablesAreHolders j
