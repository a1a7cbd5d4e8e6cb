use borrow.Author.Rules.{rules}
use native.Mathlib.Omega.{arith}
use Rattle.std.proofs.Common.{◌≡◌, sym, ap, ◌∙◌, length}
use Rattle.std.specs.Prelude.{Err}
use Rattle.reg_matrix.specs.Refused.{numbered}
use Rattle.printer.proofs.WriteLaws.{front_written, refusal_written, lines_written}
use Rattle.printer.proofs.write_printing.Goals as goal

pub returns-in-Err : goal.returns-in-Err
returns-in-Err c =
    let sized : length c.args.line.now ≡ 256 = search rules in
    rw (c.is_some.ensures, c.unwrap_or.ensures) (refusal_written _ _ _ _ _ (ap numbered c.in-Err.is ∙ ap Err (sym c.number.ensures)) _ _ _ (omega (arith, sized)) c.refused_line-size.ensures (front_written _ c.write_front-written.result c.write_front-written.ensures))

pub returns-in-Ok : goal.returns-in-Ok
returns-in-Ok c = lines_written _ _ _ _ _ (ap numbered c.in-Ok.is) c.write_lines.ensures
