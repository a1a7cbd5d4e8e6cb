-- What a record says, whichever of its three cases it is (01, "Where the Rust's forms give way": `Assignment`). Assumes nothing.
use Rattle.std.specs.Prelude.{ℕ, List, Bool, true, false, cond, eqb, leb, Float, replicate}
use Rattle.std.specs.Float.{binary32}
use Rattle.std.specs.Float.Ieee.{of_bits}
use Rattle.job.specs.Model.{zero_weight}
use Rattle.allocator.specs.declared.Assignment.{Assignment}
use Rattle.allocator.specs.declared.Assignment.TheVariants.{Assigned, Unassigned, Dead}

-- whether its evicted-for-preference flag is on
abbrev pub flag_in : Assignment → Bool
flag_in (Assigned f r w) = f
flag_in (Unassigned f) = f
flag_in Dead = false

-- whether it holds a register
abbrev pub is_held : Assignment → Bool
is_held (Assigned f r w) = true
is_held (Unassigned f) = false
is_held Dead = false

-- the register that it holds, or 0
abbrev pub reg_in : Assignment → ℕ
reg_in (Assigned f r w) = r
reg_in (Unassigned f) = 0
reg_in Dead = 0

-- the weight with which it holds that register, or 0
abbrev pub record_weight : Assignment → Float
record_weight (Assigned f r w) = w
record_weight (Unassigned f) = zero_weight
record_weight Dead = zero_weight

-- ---- a record by its three parts

-- what it is: 0 or 1 if it is unassigned, 4 or 5 if it is assigned, the second of each where the flag is on; 2 if it is dead
abbrev pub kind_of : Assignment → ℕ
kind_of (Assigned f r w) = cond f 5 4
kind_of (Unassigned f) = cond f 1 0
kind_of Dead = 2

-- the record of this kind, with this register and weight where it is assigned
abbrev pub record_by : ℕ → ℕ → Float → Assignment
record_by k r w =
    cond (eqb k 0) (Unassigned false)
    (cond (eqb k 1) (Unassigned true)
    (cond (eqb k 4) (Assigned false r w)
    (cond (eqb k 5) (Assigned true r w) Dead)))

-- the weight of these bits, or 0
abbrev pub weight_in : ℕ → Float
weight_in b = cond (leb b 0x7F80_0000) (of_bits binary32 b) (of_bits binary32 0)

-- ---- all of them

-- 01, "Where the Rust's forms give way": "The 512 records start out unassigned"
abbrev pub first_records : List Assignment
first_records = replicate 512 (Unassigned false)
