-- What a job holds (document 01, "The job"). Assumes nothing.
use Rattle.std.specs.Prelude.{ℕ, ◌≡◌, List, [], false, Float, get_or}
use Rattle.std.proofs.Math.Option.{Option}
use Rattle.std.specs.Float.{nan, inf, fin, binary32}
use Rattle.std.specs.Float.Ieee.{of_bits}
use Rattle.reg_matrix.specs.declared.ValueSegment.{ValueSegment}
use Rattle.reg_matrix.specs.declared.Entry.{Entry}
use Rattle.job.specs.declared.Hint.{Hint}

-- 01, "The job": a virtual register
pub record VirtReg : Type 0 where
  pub class : ℕ
  pub value_set : ℕ
  pub spill_weight : Float
  pub size : ℕ
  pub hints : List Hint
  pub segments : List ValueSegment

-- 01, "The job": `regs` has each register's map of units, `classes` the register numbers of each class in order, `fixed` the fixed reservations in
-- the job's order, as entries
pub record Job : Type 0 where
  pub regs : List ℕ
  pub classes : List (List ℕ)
  pub fixed : List Entry
  pub virt_regs : List VirtReg
  pub probe : Option ValueSegment
  pub budget : ℕ

-- 01, "The job": an absent weight
abbrev pub zero_weight : Float
zero_weight = of_bits binary32 0

-- 01, "What the stage answers", 9, of a weight that passed: no NaN, and no sign
abbrev pub Plain : Float → Type 0
Plain nan = ⊥
Plain (inf n) = n ≡ false
Plain (fin n m e) = n ≡ false

-- for `virt_reg`, past the last number
abbrev pub no_virt_reg : VirtReg
no_virt_reg = record { class = 0; value_set = 0; spill_weight = zero_weight; size = 0; hints = []; segments = [] }

-- 01, "The job": the virtual register of the number v
unfoldable pub virt_reg : Job → ℕ → VirtReg
virt_reg j v = get_or j.virt_regs v no_virt_reg

-- 01, "The job": the segments of v
abbrev pub segments_of : Job → ℕ → List ValueSegment
segments_of j v = (virt_reg j v).segments

-- 01, "The job": the units of the register r, as a map
abbrev pub unit_map : Job → ℕ → ℕ
unit_map j r = get_or j.regs r 0

-- 01, "Candidates": the registers of v's class, in order
abbrev pub class_of : Job → ℕ → List ℕ
class_of j v = get_or j.classes (virt_reg j v).class []
