use native.Mathlib.Omega.{arith}
use mathlib.Core.Path.{sym}
use borrow.Author.Tests.{lt-ltb, lt-leb, ne_eqb}
use Rattle.job.specs.Load.{fixed_range}
use Rattle.fixed_reader.proofs.fixed_range.Goals as goal

pub returns-then-entry-past : goal.returns-then-entry-past
unfolding fixed_range
returns-then-entry-past c = record { view = λ t. sym (rw (lt-leb _ _ c.if-entry.false, ne_eqb _ _ c.if-entry-eq3.false, c.if-bad.false, lt-ltb _ _ c.if-entry-past.true)); unit = omega arith }
