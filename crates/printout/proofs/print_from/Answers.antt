use borrow.Author.Rules.{rules}
use native.Mathlib.Omega.{arith}
use mathlib.Core.Path.{◌≡◌, ap, ◌∙◌}
use lib.ListN.{length}
use Rattle.std.specs.Prelude.{Ok}
use Rattle.reg_matrix.specs.Refused.{numbered}
use Rattle.printout.proofs.WholeLaws.{print_start, print_end, print_room, print_more}
use Rattle.printout.proofs.print_from.Goals as goal

pub loop-n-init : goal.loop-n-init
loop-n-init c = print_start _ _ _ _ (search rules)

pub returns-in-Ok-None : goal.returns-in-Ok-None
returns-in-Ok-None c =
    let sized : length c.loop-n.line ≡ 256 = search rules in
    print_end _ _ _ _ _ _ _ c.loop-n.invariant _ _ (omega (arith, sized)) c.next.auto.line _ c.next.ensures (ap numbered (c.in-Ok-None.is ∙ ap Ok c.in-Ok-None.field-0-is))

pub text-at-requires : goal.text-at-requires
text-at-requires c =
    let sized : length c.loop-n.line ≡ 256 = search rules in
    print_room _ _ _ _ _ _ _ c.loop-n.invariant _ _ (omega (arith, sized)) c.next.auto.line _ c.next.ensures _ _ (ap numbered (c.in-Ok-Some.is ∙ ap Ok c.in-Ok-Some.field-0-is)) _ c.part.ensures

pub loop-n-preserved : goal.loop-n-preserved
loop-n-preserved c =
    let sized : length c.loop-n.line ≡ 256 = search rules in
    print_more _ _ _ _ _ _ _ c.loop-n.invariant _ _ (omega (arith, sized)) c.next.auto.line _ c.next.ensures _ _ (ap numbered (c.in-Ok-Some.is ∙ ap Ok c.in-Ok-Some.field-0-is)) _ c.part.ensures _ _ c.text-at.ensures c.text-at.auto.out
