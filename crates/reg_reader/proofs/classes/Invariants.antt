-- The invariant: the classes read so far are stored with their starts, g counts their registers, and the rest from here is the rest of the whole.
use Prim.Native.Nat.{ℕ, ◌*◌, ◌≤◌}
use mathlib.Core.Path.{◌≡◌}
use mathlib.Core.List.{List}
use lib.ListN.{length}
use Rattle.job.specs.Load.{class}
use Rattle.reader.specs.Read.{left, ClassesAt, all_members}
use Rattle.reader.proofs.Reading.{Reading}
use Rattle.reg_reader.proofs.classes.Given as goal

abbrev pub invariant-loop-i : goal.invariant-loop-i
invariant-loop-i l =
    (before : List (List ℕ)) × Reading (λ before. class l.regs) l.count l.i (left l.initial.reader) (left l.reader) before × (length (all_members before) ≡ l.g) × (l.g ≤ 64 * l.i) × ClassesAt l.initial.starts l.initial.list l.starts l.list before × (l.reader.bytes ≡ l.initial.reader.bytes)
