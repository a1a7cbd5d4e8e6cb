-- The invariant: the virtual registers read so far are stored, the totals are theirs, and the rest from here is the rest of the whole.
use mathlib.Core.Path.{◌≡◌}
use Rattle.reader.specs.Read.{left}
use Rattle.job_parts.specs.Lent.{SameJob}
use Rattle.fields.proofs.Turns.{SoFar}
use Rattle.fields.proofs.virt.virt_regs.Given as goal

abbrev pub invariant-loop-i : goal.invariant-loop-i
invariant-loop-i l =
    SoFar (left l.initial.reader) (left l.reader) l.count l.regs l.classes l.initial.job.j32.now l.initial.job.j16.now l.initial.job.j8.now l.initial.job.jf.now l.job.j32.now l.job.j16.now l.job.j8.now l.job.jf.now l.totals l.i
    × SameJob l.initial.job l.job × (l.job.j64.now ≡ l.initial.job.j64.now) × (l.reader.bytes ≡ l.initial.reader.bytes)
