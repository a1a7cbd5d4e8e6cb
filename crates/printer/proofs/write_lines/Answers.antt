use borrow.Author.Rules.{rules}
use native.Mathlib.Omega.{arith}
use mathlib.Core.Path.{◌≡◌, ap, ◌∙◌}
use lib.ListN.{length}
use Rattle.std.specs.Prelude.{Ok}
use Rattle.reg_matrix.specs.Refused.{numbered}
use Rattle.sheets.proofs.CountLaws.{count_start}
use Rattle.printer.proofs.WriteLaws.{lines_end, line_room, line_written}
use Rattle.printer.proofs.write_lines.Goals as goal

pub loop-n-init : goal.loop-n-init
loop-n-init c = count_start _ _ _ (search rules)

pub returns-in-Ok-None : goal.returns-in-Ok-None
returns-in-Ok-None c =
    let sized : length c.loop-n.line ≡ 256 = search rules in
    lines_end _ _ _ _ _ c.loop-n.invariant _ _ (omega (arith, sized)) c.next.auto.line _ c.next.ensures (ap numbered (c.in-Ok-None.is ∙ ap Ok c.in-Ok-None.field-0-is))

pub overflow_add-bytes : goal.overflow_add-bytes
overflow_add-bytes c =
    let sized : length c.loop-n.line ≡ 256 = search rules in
    record { fits = omega (arith, line_room _ _ _ _ _ c.loop-n.invariant _ _ (omega (arith, sized)) c.next.auto.line _ c.next.ensures _ _ (ap numbered (c.in-Ok-Some.is ∙ ap Ok c.in-Ok-Some.field-0-is)) _ c.in-Some.ensures) }

pub loop-n-preserved : goal.loop-n-preserved
loop-n-preserved c =
    let sized : length c.loop-n.line ≡ 256 = search rules in
    line_written _ _ _ _ _ c.loop-n.invariant _ _ (omega (arith, sized)) c.next.auto.line _ c.next.ensures _ _ (ap numbered (c.in-Ok-Some.is ∙ ap Ok c.in-Ok-Some.field-0-is)) _ c.in-Some.ensures
