use native.Mathlib.Omega.{arith}
use mathlib.Core.Path.{◌∙◌}
use mathlib.Core.List.{[]}
use Rattle.std.proofs.lemmas.Result.{err_from_is_err_and}
use Rattle.job.specs.Load.{reservation}
use Rattle.reader.proofs.Reading.{each_length}
use Rattle.reader.proofs.Tables.{counted}
use Rattle.fixed_reader.proofs.fixed_table.Goals as goal

pub returns-in_err-reservations-clause-read : goal.returns-in_err-reservations-clause-read
returns-in_err-reservations-clause-read c =
    let p = err_from_is_err_and c.from_residual-in_err-reservations.result c.from_residual-in_err-reservations.ensures.1 in
    rw (p.1, p.2) (counted reservation c.args.stands 2 512 _ ∙ rw (← c.in_ok-k.ensures.read.view) c.in_err-reservations.ensures.read)

pub returns-clause-read : goal.returns-clause-read
returns-clause-read c =
    let w = c.in_ok-reservations.ensures.read in
    (w.0, counted reservation c.args.stands 2 512 _ ∙ rw (← c.in_ok-k.ensures.read.view) w.1, each_length reservation c.in_ok-k.k [] _ w.1 ∙ omega arith, c.in_ok-k.ensures.read.small, w.2)
