-- A sheet has few lines, whatever is lent: one for each virtual register and each place of the table, and two more. Assumes nothing.
use Prim.Native.Nat.{ℕ, zero, suc, ◌+◌, ◌-◌, ◌≤◌, ◌<◌}
use native.Mathlib.Omega.{arith}
use mathlib.Core.List.{List, ◌∷◌}
use mathlib.Core.Bool.{Bool, true, false, cond}
use lib.ListN.{length}
use Rattle.reg_matrix.specs.Layout.{max_entries}
use Rattle.std.specs.Prelude.{Option, Some, None}
use Rattle.job.specs.declared.JobHeader.{JobHeader}
use Rattle.allocator.specs.declared.Assignment.{Assignment}
use Rattle.lines.specs.LineTexts.{Lent}
use Rattle.listing.specs.declared.Place.{Place}
use Rattle.listing.specs.declared.Place.TheVariants.{Head, VirtReg, Entry, End}
use Rattle.listing.specs.declared.Listing.{Listing}
use Rattle.listing.specs.Walk.{is_entry, entry_at, spare_lines, entry_lines, virt_reg_lines, lines_at, lines_from}

spare_few : (p : Option (ℕ × ℕ)) (n : ℕ) (l : Lent) → length (spare_lines p n l) ≤ 1
spare_few None n l = omega arith
spare_few (Some (from, to)) n l = omega arith

entry_few : (k i : ℕ) (h : JobHeader) (l : Lent) → length (entry_lines k i h l) ≤ k + 1
unfolding entry_lines
entry_few zero i h l = omega (arith, spare_few h.probe h.regs l)
entry_few (suc k) i h l = go (is_entry l.ends i) (entry_few k (i + 1) h l) (spare_few h.probe h.regs l)
  where
    go : (b : Bool)
        → length (entry_lines k (i + 1) h l) ≤ k + 1
        → length (spare_lines h.probe h.regs l) ≤ 1
        → length (cond b (entry_at l i ∷ entry_lines k (i + 1) h l) (spare_lines h.probe h.regs l)) ≤ suc k + 1
    go true p q = omega (arith, p)
    go false p q = omega (arith, q)

virt_few : (k v : ℕ) (rs : List Assignment) (h : JobHeader) (l : Lent) → length (virt_reg_lines k v rs h l) ≤ k + (max_entries + 1)
unfolding virt_reg_lines
virt_few zero v rs h l = omega (arith, entry_few max_entries 0 h l)
virt_few (suc k) v rs h l = omega (arith, virt_few k (v + 1) rs h l)

pub lines_few : (c : Listing) (rs : List Assignment) (l : Lent) → c.header.virt_regs < 65536 → length (lines_from c rs l) ≤ 70000
unfolding lines_from
lines_few c rs l small = go c.place
  where
    go : (p : Place) → length (lines_at p c rs l) ≤ 70000
    go Head = omega (arith, small, virt_few c.header.virt_regs 0 rs c.header l)
    go (VirtReg v) = omega (arith, small, virt_few (c.header.virt_regs - v) v rs c.header l)
    go (Entry i) = omega (arith, entry_few (max_entries - i) i c.header l)
    go End = omega arith
