use native.Mathlib.Omega.{arith}
use mathlib.Core.Path.{◌∙◌}
use mathlib.Core.List.{[]}
use Rattle.std.proofs.lemmas.Result.{err_from_is_err_and}
use Rattle.job.specs.Load.{class}
use Rattle.reader.proofs.Reading.{each_length}
use Rattle.reader.proofs.Tables.{counted}
use Rattle.reg_reader.proofs.class_table.Goals as goal

pub returns-in_err-g-clause-read : goal.returns-in_err-g-clause-read
returns-in_err-g-clause-read c =
    let p = err_from_is_err_and c.from_residual-in_err-g.result c.from_residual-in_err-g.ensures.1 in
    rw (p.1, p.2) (counted (λ before. class c.args.regs) c.args.stands 1 16 _ ∙ rw (← c.in_ok-k.ensures.read.view) c.in_err-g.ensures.read)

pub returns-clause-read : goal.returns-clause-read
returns-clause-read c =
    let w = c.in_ok-g.ensures.read in
    (w.0, counted (λ before. class c.args.regs) c.args.stands 1 16 _ ∙ rw (← c.in_ok-k.ensures.read.view) w.1, each_length (λ before. class c.args.regs) c.in_ok-k.k [] _ w.1 ∙ omega arith, w.2, omega (arith, w.3, c.in_ok-k.ensures.read.small), w.4)
