-- The invariant: the reservations from here on are the rest of the whole.
use Prim.Native.Nat.{◌-◌}
use mathlib.Core.Path.{◌≡◌}
use lib.ListN.{length, get_or}
use Rattle.reg_matrix.specs.Lists.{foldl, count}
use Rattle.table_words.specs.Buffers.{SameTable}
use Rattle.entries.specs.Reserving.{lain, reserving}
use Rattle.job_stores.proofs.reserve.reserve_all.Given as goal

abbrev pub invariant-loop-i : goal.invariant-loop-i
invariant-loop-i l =
    (foldl (λ t k. reserving (get_or l.fixed.units.now k 0) (get_or l.fixed.froms.now k 0) (get_or l.fixed.tos.now k 0) (get_or l.fixed.uses.now k 0) t) (lain l.table.ends.now l.table.rests.now l.uses) (count l.i (l.fixed.count - l.i))
    ≡ foldl (λ t k. reserving (get_or l.fixed.units.now k 0) (get_or l.fixed.froms.now k 0) (get_or l.fixed.tos.now k 0) (get_or l.fixed.uses.now k 0) t) (lain l.initial.table.ends.now l.initial.table.rests.now l.initial.uses) (count 0 l.fixed.count))
    × SameTable l.initial.table l.table × (length l.uses ≡ length l.initial.uses)
