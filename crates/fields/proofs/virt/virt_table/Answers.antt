use native.Mathlib.Omega.{arith}
use mathlib.Core.Path.{◌∙◌}
use mathlib.Core.List.{[]}
use Rattle.std.proofs.lemmas.Result.{err_from_is_err_and}
use Rattle.job.specs.Load.{virt_reg_after}
use Rattle.reader.proofs.Tables.{counted}
use Rattle.reader.proofs.Reading.{each_length}
use Rattle.fields.proofs.virt.virt_table.Goals as goal

pub returns-in_err-totals-clause-read : goal.returns-in_err-totals-clause-read
returns-in_err-totals-clause-read c =
    let p = err_from_is_err_and c.from_residual-in_err-totals.result c.from_residual-in_err-totals.ensures.1 in
    rw (p.1, p.2) (counted (virt_reg_after c.args.regs c.args.classes) c.args.stands 2 512 _ ∙ rw (← c.in_ok-k.ensures.read.view) c.in_err-totals.ensures.read)

pub returns-clause-read : goal.returns-clause-read
returns-clause-read c =
    let w = c.in_ok-totals.ensures.read in
    (w.0, counted (virt_reg_after c.args.regs c.args.classes) c.args.stands 2 512 _ ∙ rw (← c.in_ok-k.ensures.read.view) w.1, each_length (virt_reg_after c.args.regs c.args.classes) c.in_ok-k.k [] _ w.1 ∙ omega arith, w.2, w.3)
