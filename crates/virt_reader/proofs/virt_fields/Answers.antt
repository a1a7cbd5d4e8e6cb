use mathlib.Core.Path.{sym}
use borrow.Author.Tests.{lt-leb}
use Rattle.job.specs.Load.{virt_reg_fields}
use Rattle.job.proofs.WeightBits.{not_nan}
use Rattle.virt_reader.proofs.virt_fields.Goals as goal

pub returns-then-no_class-clause-read : goal.returns-then-no_class-clause-read
unfolding virt_reg_fields
returns-then-no_class-clause-read c = sym (rw (← c.in_ok-m.ensures.read.view, lt-leb _ _ c.if-m-ge64.false, ← c.if-not-bit.ensures, ← c.bit-has_class.ensures, ← c.if-no_class.ensures))

pub float_from_bits-fields : goal.float_from_bits-fields
float_from_bits-fields c = rw (not_nan c.in_ok-w.w c.in_ok-w.ensures.read.small) tt
