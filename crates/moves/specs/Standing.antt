-- What stands in what is lent, on a state that calls reach: the job's slices begin with its layout, and the state's are its layout with whatever is
-- lent behind. Assumes nothing.
use Rattle.std.specs.Prelude.{ℕ, ◌≡◌, List, ◌++◌}
use Rattle.lent.specs.Parts.{Begins}
use Rattle.reg_matrix.specs.Layout.{end_words, rest_words}
use Rattle.job.specs.Model.{Job}
use Rattle.job.specs.Layout.{JobBuffers, job_buffers}
use Rattle.allocator.specs.State.{State}
use Rattle.allocator.specs.Layout.{StateBuffers, queue_words, last_words}

-- the job's buffers that a decision reads: all but the sizes
pub record JobReads (j : Job) (B : JobBuffers) : Type 0 where
  pub regs : Begins (job_buffers j).regs B.regs
  pub class_starts : Begins (job_buffers j).class_starts B.class_starts
  pub class_regs : Begins (job_buffers j).class_regs B.class_regs
  pub fixed_uses : Begins (job_buffers j).fixed_uses B.fixed_uses
  pub classes : Begins (job_buffers j).classes B.classes
  pub value_sets : Begins (job_buffers j).value_sets B.value_sets
  pub spill_weights : Begins (job_buffers j).spill_weights B.spill_weights
  pub hint_starts : Begins (job_buffers j).hint_starts B.hint_starts
  pub hint_regs : Begins (job_buffers j).hint_regs B.hint_regs
  pub hint_weights : Begins (job_buffers j).hint_weights B.hint_weights
  pub segment_starts : Begins (job_buffers j).segment_starts B.segment_starts
  pub froms : Begins (job_buffers j).froms B.froms
  pub tos : Begins (job_buffers j).tos B.tos
  pub values : Begins (job_buffers j).values B.values

pub record JobStands (j : Job) (B : JobBuffers) : Type 0 where
  pub reads : JobReads j B
  pub sizes : Begins (job_buffers j).sizes B.sizes

-- the table, with what is lent behind it
pub record TableStands (s : State) (et rt ends rests : List ℕ) : Type 0 where
  pub ends_are : ends ≡ end_words s.table ++ et
  pub rests_are : rests ≡ rest_words s.table ++ rt

-- the table and the queue
pub record Moves (j : Job) (s : State) (t : StateBuffers) (ends rests queue : List ℕ) : Type 0 where
  pub table : TableStands s t.ends t.rests ends rests
  pub queue_is : queue ≡ queue_words j s ++ t.queue

-- and the last registers
pub record Stands (j : Job) (s : State) (t : StateBuffers) (ends rests queue last : List ℕ) : Type 0 where
  pub moves : Moves j s t ends rests queue
  pub last_is : last ≡ last_words s ++ t.last
