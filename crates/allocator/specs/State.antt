-- What the rules keep: the table, who holds which register, who is left over, flags, queue stages, last registers; and the records derived from
-- it (document 01, "Where the Rust's forms give way": `Assignment`). Assumes nothing.
use Rattle.std.specs.Prelude.{ℕ, List, map, Bool, true, false, not, ◌&&◌, ◌||◌, Float, length, get_or, set, replicate}
use Rattle.std.proofs.Math.Option.{Option, none, some}
use Rattle.reg_matrix.specs.Lists.{count, padded, is_some}
use Rattle.reg_matrix.specs.Table.{Table, fresh_table}
use Rattle.reg_matrix.specs.Assign.{assign, evict}
use Rattle.reg_matrix.specs.Check.{check}
use Rattle.reg_matrix.specs.declared.Interference.{Interference}
use Rattle.job.specs.Model.{Job, virt_reg, segments_of, unit_map, zero_weight}
pub use Rattle.allocator.specs.declared.Assignment.{Assignment}
pub use Rattle.allocator.specs.declared.Assignment.TheVariants.{Assigned, Unassigned, Dead}
pub use Rattle.allocator.specs.declared.CandidateReg.{CandidateReg}
pub use Rattle.allocator.specs.declared.Stage.{Stage}
pub use Rattle.allocator.specs.declared.Stage.TheVariants.{Evict, Split}

-- 01, "The rules", what they keep: `last` goes by set, the other lists by number: the register held, with the weight that it is held with; left over;
-- the evicted-for-preference flag; the stage queued at
pub record State : Type 0 where
  pub table : Table
  pub held : List (Option CandidateReg)
  pub left_over : List Bool
  pub flags : List Bool
  pub queued : List (Option Stage)
  pub last : List (Option ℕ)

-- 01, "Queue": as loading leaves it: "Loading queues all at Evict". "The rules": the flag is "off on loading"
unfoldable pub fresh_state : Job → State
fresh_state j =
    record {
      table = fresh_table j.fixed;
      held = replicate 512 none;
      left_over = replicate 512 false;
      flags = replicate 512 false;
      queued = padded 512 none (replicate (length j.virt_regs) (some Evict));
      last = replicate 512 none;
    }

-- ---- reading a state

-- 01, "Costs": what v holds, and with which weight
abbrev pub held_by : State → ℕ → Option CandidateReg
held_by s v = get_or s.held v none

-- 01, "A dequeue": v was left over
abbrev pub is_left_over : State → ℕ → Bool
is_left_over s v = get_or s.left_over v false

-- 01, "A dequeue": the evicted-for-preference flag of v
abbrev pub flag : State → ℕ → Bool
flag s v = get_or s.flags v false

-- 01, "Candidates": "the register last given to a member of its set"
abbrev pub last_given : Job → State → ℕ → Option ℕ
last_given j s v = get_or s.last (virt_reg j v).value_set none

-- 01, "What the stage answers", 13: neither holding a register nor left over
abbrev pub is_unassigned : State → ℕ → Bool
is_unassigned s v = not (is_some (held_by s v)) && not (is_left_over s v)

-- 01, "Costs": the preference weight of what v holds
abbrev pub weight_of : Option CandidateReg → Float
weight_of none = zero_weight
weight_of (some c) = c.preference_weight

-- 01, "Check": of v's segments on the register r. "Callers below take the short form."
unfoldable pub check_of : Job → State → ℕ → ℕ → List Interference
check_of j s v r = check false j.fixed s.table (unit_map j r) (segments_of j v)

-- ---- records

-- 01, "Where the Rust's forms give way", `Assignment`: of left over, flag and what is held; left over is "marked `Dead`" ("A dequeue")
abbrev pub assignment : Bool → Bool → Option CandidateReg → Assignment
assignment true f h = Dead
assignment false f none = Unassigned f
assignment false f (some c) = Assigned f c.reg c.preference_weight

-- 01, "Where the Rust's forms give way": the record of v
unfoldable pub record_of : State → ℕ → Assignment
record_of s v = assignment (is_left_over s v) (flag s v) (held_by s v)

-- 01, "Where the Rust's forms give way": "The 512 records"
unfoldable pub records : State → List Assignment
records s = map (record_of s) (count 0 512)

-- ---- the state's changes

-- 01, "A dequeue" and "The rules": v takes the register of c with its weight, off the queue; where f is, its flag turns on
unfoldable pub give : Job → ℕ → CandidateReg → Bool → State → State
give j v c f s =
    record {
      table = assign j.fixed v (unit_map j c.reg) (segments_of j v) s.table;
      held = set s.held v (some c);
      left_over = s.left_over;
      flags = set s.flags v (f || flag s v);
      queued = set s.queued v none;
      last = set s.last (virt_reg j v).value_set (some c.reg);
    }

-- 01, "The rules": v, which holds the register r, loses it: "an evicted number keeps its flag and is queued at stage Evict"
unfoldable pub lose : Job → ℕ → ℕ → State → State
lose j v r s =
    record {
      table = evict j.fixed v (unit_map j r) (segments_of j v) s.table;
      held = set s.held v none;
      left_over = s.left_over;
      flags = s.flags;
      queued = set s.queued v (some Evict);
      last = s.last;
    }

-- 01, "Evicting": of v, if it holds a register
abbrev pub lose_held : Job → ℕ → State → Option CandidateReg → State
lose_held j v s none = s
lose_held j v s (some c) = lose j v c.reg s

-- 01, "Evicting": v is evicted, if it holds a register
unfoldable pub evict_number : Job → State → ℕ → State
evict_number j s v = lose_held j v s (held_by s v)

-- 01, "A dequeue": v is queued so, or taken off the queue
unfoldable pub requeue : ℕ → Option Stage → State → State
requeue v q s = record { table = s.table; held = s.held; left_over = s.left_over; flags = s.flags; queued = set s.queued v q; last = s.last }

-- 01, "A dequeue": v is left over, off the queue
unfoldable pub leave : ℕ → State → State
leave v s =
    record { table = s.table; held = s.held; left_over = set s.left_over v true; flags = s.flags; queued = set s.queued v none; last = s.last }
