use Rattle.std.proofs.Common.{arith, sym}
use Rattle.texts.proofs.Digits.{number_one, number_more}
use Rattle.texts.proofs.StoreLaws as laws
use Rattle.texts.proofs.Line.+number.Goals as goal
use Rattle.texts.proofs.Line.+number.Goals.{then-n-ge10, else-n-ge10}

pub returns-clause-stored : goal.returns-clause-stored
returns-clause-stored t c =
    elim c.if-n-ge10.branch [
      | then-n-ge10 w ↦
          laws.named (sym (number_more c.args.n w.if-n-ge10.true (omega arith))) (laws.then w.number.ensures.stored (rw w.self-is at c.byte.ensures.stored))
      | else-n-ge10 w ↦
          laws.named (sym (number_one c.args.n (omega (arith, w.if-n-ge10.false)))) (rw w.self-is at c.byte.ensures.stored)
    ]
