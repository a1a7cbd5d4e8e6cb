use native.Mathlib.Omega.{arith}
use mathlib.Core.Path.{sym}
use borrow.Author.Tests.{lt-leb}
use Rattle.job.specs.Load.{hint}
use Rattle.job.proofs.WeightBits.{hint_bad, hint_good, not_nan}
use Rattle.virt_reader.proofs.hint.Goals as goal

pub returns-then-w-ge2139095040-clause-read : goal.returns-then-w-ge2139095040-clause-read
unfolding hint
returns-then-w-ge2139095040-clause-read c = sym (rw (← c.in_ok-r.ensures.read.view, ← c.in_ok-w.ensures.read.view, lt-leb _ _ c.if-regs-r.false, hint_bad _ c.if-w-ge2139095040.true))

pub float_from_bits-hint : goal.float_from_bits-hint
float_from_bits-hint c = rw (not_nan c.in_ok-w.w (omega (arith, c.if-w-ge2139095040.false))) tt

pub returns-clause-read : goal.returns-clause-read
unfolding hint
returns-clause-read c = sym (rw (← c.in_ok-r.ensures.read.view, ← c.in_ok-w.ensures.read.view, lt-leb _ _ c.if-regs-r.false, hint_good _ c.if-w-ge2139095040.false))
