use Rattle.std.proofs.Common.{ap}
use Rattle.job.specs.Layout.{JobSlices}
use Rattle.printout.proofs.WholeLaws.{sheet_printed}
use Rattle.printout.proofs.print.Goals as goal

pub returns-clause-printed : goal.returns-clause-printed
returns-clause-printed c = sheet_printed _ _ _ _ _ _ _ _ _ _ _ c.begin-printing.ensures.begun _ _ _ (ap (λ (B : JobSlices). B.j64) c.as_job.ensures) c.as_table-table.ensures.0 c.as_table-table.ensures.1 c.print_shown.ensures
