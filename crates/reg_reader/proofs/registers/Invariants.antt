-- The invariant: the maps read so far are stored, and the rest from here is the rest of the whole.
use Prim.Native.Nat.{ℕ}
use mathlib.Core.Path.{◌≡◌}
use mathlib.Core.List.{List}
use Rattle.job.specs.Load.{register}
use Rattle.reader.specs.Read.{left, Stored}
use Rattle.reader.proofs.Reading.{Reading}
use Rattle.reg_reader.proofs.registers.Given as goal

abbrev pub invariant-loop-i : goal.invariant-loop-i
invariant-loop-i l =
    (before : List ℕ) × Reading (λ before. register) l.count l.i (left l.initial.reader) (left l.reader) before × Stored (λ (x : ℕ). x) l.initial.maps 0 before l.maps × (l.reader.bytes ≡ l.initial.reader.bytes)
