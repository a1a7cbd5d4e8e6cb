use native.Mathlib.Omega.{arith}
use mathlib.Core.Path.{sym}
use borrow.Author.Tests.{lt-leb}
use Rattle.std.proofs.lemmas.Result.{err_from_is_err_and}
use Rattle.job.specs.Load.{job_fields}
use Rattle.whole_fields.proofs.Joined.{first_is}
use Rattle.whole_fields.proofs.first_tables.Goals as goal

pub returns-in_err-cn-clause-read : goal.returns-in_err-cn-clause-read
unfolding job_fields
returns-in_err-cn-clause-read c =
    let p = err_from_is_err_and c.from_residual-in_err-cn.result c.from_residual-in_err-cn.ensures.1 in
    let w = c.in_ok-rn.ensures.read in
    rw (p.1, p.2) (rw (← c.in_ok-m.ensures.read.view, lt-leb _ _ c.if-m-ge64.false, ← c.bit-has_regs.ensures, w.1, ← c.bit-has_classes.ensures, w.2, c.in_err-cn.ensures.read))

pub returns-in_err-en-clause-read : goal.returns-in_err-en-clause-read
unfolding job_fields
returns-in_err-en-clause-read c =
    let p = err_from_is_err_and c.from_residual-in_err-en.result c.from_residual-in_err-en.ensures.1 in
    let w = c.in_ok-rn.ensures.read in
    let x = c.in_ok-cn.ensures.read in
    rw (p.1, p.2) (rw (← c.in_ok-m.ensures.read.view, lt-leb _ _ c.if-m-ge64.false, ← c.bit-has_regs.ensures, w.1, ← c.bit-has_classes.ensures, w.2, x.1, ← c.bit-has_fixed.ensures, c.in_err-en.ensures.read))

pub returns-clause-read : goal.returns-clause-read
returns-clause-read c =
    let w = c.in_ok-rn.ensures.read in
    let x = c.in_ok-cn.ensures.read in
    let y = c.in_ok-en.ensures.read in (
      w.0,
      x.0,
      y.0,
      first_is _ (sym c.in_ok-m.ensures.read.view) (lt-leb _ _ c.if-m-ge64.false) (rw c.bit-has_regs.ensures at w.1) w.2 (rw c.bit-has_classes.ensures at x.1) (rw c.bit-has_fixed.ensures at y.1),
      record { regs = w.2; classes = x.2; few_class_regs = omega (arith, x.3, x.4); fixed = y.2 },
      w.4,
      x.5,
      y.4,
    )
