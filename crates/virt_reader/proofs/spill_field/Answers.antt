use borrow.Author.Rules.{rules}
use native.Mathlib.Omega.{arith}
use mathlib.Core.Path.{sym}
use Rattle.job.specs.Load.{spill_bits}
use Rattle.job.proofs.WeightBits.{spill_bad, spill_good}
use Rattle.virt_reader.proofs.spill_field.Goals as goal

pub returns-then-v-gt2139095040-clause-read : goal.returns-then-v-gt2139095040-clause-read
unfolding spill_bits
returns-then-v-gt2139095040-clause-read c = record { view = sym (rw (c.if-not-stands.false, ← c.in_ok-v.ensures.read.view, spill_bad _ c.if-v-gt2139095040.true)); small = search rules }

pub returns-clause-read : goal.returns-clause-read
unfolding spill_bits
returns-clause-read c = record { view = sym (rw (c.if-not-stands.false, ← c.in_ok-v.ensures.read.view, spill_good _ c.if-v-gt2139095040.false)); small = omega (arith, c.if-v-gt2139095040.false) }
