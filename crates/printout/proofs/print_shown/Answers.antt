use native.Mathlib.Omega.{arith}
use Rattle.std.proofs.Common.{sym, ap, ◌∙◌}
use Rattle.std.specs.Prelude.{Err}
use Rattle.reg_matrix.specs.Refused.{numbered}
use Rattle.printout.proofs.WholeLaws.{refused_small, refused_printed, lines_printed}
use Rattle.printout.proofs.print_shown.Goals as goal

pub text-requires : goal.text-requires
text-requires c = refused_small _ _ _ _ (omega arith) c.refused_line-size.ensures _ c.part.ensures

pub returns-in-Err : goal.returns-in-Err
returns-in-Err c = refused_printed _ _ _ _ _ _ _ (ap numbered c.in-Err.is ∙ ap Err (sym c.number.ensures)) _ _ _ (omega arith) c.refused_line-size.ensures _ c.part.ensures c.text.ensures

pub returns-in-Ok : goal.returns-in-Ok
returns-in-Ok c = lines_printed _ _ _ _ _ _ _ (ap numbered c.in-Ok.is) c.print_from.ensures
