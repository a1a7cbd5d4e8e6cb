-- The invariant: the reservations read so far are stored, `ends` has the ends of the last ones, and the rest from here is the rest of the whole.
use mathlib.Core.Path.{◌≡◌}
use mathlib.Core.List.{List}
use Rattle.reg_matrix.specs.declared.Entry.{Entry}
use Rattle.job.specs.Load.{reservation}
use Rattle.reader.specs.Read.{left}
use Rattle.fixed_reader.specs.Fixed.{FixedIn, SameFixed}
use Rattle.reader.proofs.Reading.{Reading}
use Rattle.reader.proofs.Tables.{Ends}
use Rattle.fixed_reader.proofs.reservations.Given as goal

abbrev pub invariant-loop-i : goal.invariant-loop-i
invariant-loop-i l =
    (before : List Entry) × Reading reservation l.count l.i (left l.initial.reader) (left l.reader) before × Ends l.ends before × FixedIn l.initial.fixed l.fixed before × SameFixed l.initial.fixed l.fixed × (l.reader.bytes ≡ l.initial.reader.bytes)
