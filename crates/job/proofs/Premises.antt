-- The premises of demand 3 and every bound that the stage relies on, as loading tested them (00, demand 3; document 01, "Limits" and refusals
-- 5 to 12). Assumes nothing.
use Prim.Native.Nat.{ℕ, ◌<◌, ◌≤◌, ◌^◌}
use mathlib.Core.Path.{◌≡◌}
use mathlib.Core.List.{List}
use mathlib.Core.Option.{Option, none, some}
use mathlib.Core.Bool.{false, not, ◌||◌}
use lib.Dec.{T}
use lib.Ieee.{Float, nan, inf, fin}
use lib.ListN.{length}
use Rattle.reg_matrix.specs.Refusals.{bad_slot}
use Rattle.reg_matrix.specs.Table.{units_of}
use Rattle.reg_matrix.specs.declared.ValueSegment.{ValueSegment}
use Rattle.reg_matrix.specs.declared.Entry.{Entry}
use Rattle.reg_matrix.proofs.Members.{◌∈◌}
use Rattle.reg_matrix.proofs.Sorted.{Parted}
use Rattle.reg_matrix.proofs.Chains.{Sound}
use Rattle.reg_matrix.proofs.Clear.{Segments}
use Rattle.reg_matrix.proofs.Small.{SmallEntry}
use Rattle.job.specs.declared.Hint.{Hint}
use Rattle.job.specs.Model.{VirtReg, Job, virt_reg, segments_of, unit_map}
pub use Rattle.job.specs.Model.{Plain}
use Rattle.job.specs.Layout.{all_hints, all_segments}

-- every unit of the first map is one of the second
abbrev pub UnitsWithin : ℕ → ℕ → Type 0
UnitsWithin m n = (u : ℕ) → u ∈ units_of m → u ∈ units_of n

-- no NaN, no sign, not infinite
abbrev pub Finite : Float → Type 0
Finite nan = ⊥
Finite (inf n) = ⊥
Finite (fin n m e) = n ≡ false

pub record SmallSegment (s : ValueSegment) : Type 0 where
  pub from : s.from < 2 ^ 32
  pub to : s.to < 2 ^ 32
  pub value : s.value < 2 ^ 16

-- neither point is in slot 3
abbrev pub GoodSlots : ValueSegment → Type 0
GoodSlots s = T (not (bad_slot s.from || bad_slot s.to))

-- v is a number of a virtual register
abbrev pub IsNumber : Job → ℕ → Type 0
IsNumber j v = v < length j.virt_regs

abbrev pub IsReg : Job → ℕ → Type 0
IsReg j r = r < length j.regs

-- what a segment was tested for by itself, 5 and 6
pub record GoodSegment (s : ValueSegment) : Type 0 where
  pub nonempty : s.from < s.to
  pub small : SmallSegment s
  pub slots : GoodSlots s

-- and the probe range, if there is one
abbrev pub GoodProbe : Option ValueSegment → Type 0
GoodProbe none = Unit {0}
GoodProbe (some s) = GoodSegment s

pub record Premises (j : Job) : Type 0 where
  -- the limits
  pub few_regs : length j.regs ≤ 64
  pub few_classes : length j.classes ≤ 16
  pub few_numbers : length j.virt_regs ≤ 512
  pub few_fixed : length j.fixed ≤ 512
  pub few_hints : length (all_hints j) ≤ 1024
  pub few_segments : length (all_segments j) ≤ 512
  pub few_own_hints : (v : ℕ) → IsNumber j v → length (virt_reg j v).hints ≤ 64
  pub small_classes : (c : List ℕ) → c ∈ j.classes → length c ≤ 64
  pub small_maps : (r : ℕ) → IsReg j r → unit_map j r < 2 ^ 64
  pub few_units : (r : ℕ) → IsReg j r → length (units_of (unit_map j r)) ≤ 4
  pub small_fixed : (e : Entry) → e ∈ j.fixed → SmallEntry e
  pub small_segments : (v : ℕ) → IsNumber j v → (s : ValueSegment) → s ∈ segments_of j v → SmallSegment s
  pub small_sets : (v : ℕ) → IsNumber j v → (virt_reg j v).value_set < 512
  pub small_sizes : (v : ℕ) → IsNumber j v → (virt_reg j v).size < 2 ^ 32
  pub small_budget : j.budget < 2 ^ 32
  pub probe : GoodProbe j.probe
  -- 5, 7: fixed reservations are nonempty and, on each unit, sorted and disjoint
  pub sound : Sound j.fixed
  pub parted : Parted j.fixed
  -- 5, 7, 12: segments are there, nonempty, sorted and disjoint, and cut no fixed use of their own value
  pub segments : (v : ℕ) → IsNumber j v → Segments j.fixed (segments_of j v)
  pub a_segment : (v : ℕ) → IsNumber j v → (s : ValueSegment) × (s ∈ segments_of j v)
  -- 6: their points have slots
  pub slots : (v : ℕ) → IsNumber j v → (s : ValueSegment) → s ∈ segments_of j v → GoodSlots s
  -- 5, 10: every register has units, no two the same ones
  pub a_unit : (r : ℕ) → IsReg j r → (u : ℕ) × (u ∈ units_of (unit_map j r))
  pub no_twin : (q r : ℕ) → IsReg j q → IsReg j r → UnitsWithin (unit_map j q) (unit_map j r) → UnitsWithin (unit_map j r) (unit_map j q) → q ≡ r
  -- 8: the registers and classes that are named exist
  pub class_known : (c : List ℕ) → c ∈ j.classes → (r : ℕ) → r ∈ c → IsReg j r
  pub hint_known : (x : VirtReg) → x ∈ j.virt_regs → (h : Hint) → h ∈ x.hints → IsReg j h.reg
  pub a_class : (v : ℕ) → IsNumber j v → (virt_reg j v).class < length j.classes
  -- 9: weights
  pub plain_spill : (v : ℕ) → IsNumber j v → Plain (virt_reg j v).spill_weight
  pub finite_hints : (x : VirtReg) → x ∈ j.virt_regs → (h : Hint) → h ∈ x.hints → Finite h.weight
  -- 11: numbers of one set share a class
  pub one_class : (v w : ℕ) → IsNumber j v → IsNumber j w → (virt_reg j v).value_set ≡ (virt_reg j w).value_set → (virt_reg j v).class ≡ (virt_reg j w).class
