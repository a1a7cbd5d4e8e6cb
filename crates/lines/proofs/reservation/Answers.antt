use Rattle.reg_matrix.specs.Lists.{ascii}
use Rattle.reg_matrix.specs.Lines.{reservation_text}
use Rattle.texts.proofs.StoreLaws as laws
use Rattle.lines.proofs.reservation.Goals as goal

pub returns-in-Held-clause-stored : goal.returns-in-Held-clause-stored
unfolding ascii reservation_text
returns-in-Held-clause-stored c = rw c.in-Held.is (laws.then (laws.then c.text.ensures.stored c.number.ensures.stored) c.index.ensures.stored)

pub returns-in-FixedUse-clause-stored : goal.returns-in-FixedUse-clause-stored
unfolding ascii reservation_text
returns-in-FixedUse-clause-stored c = rw c.in-FixedUse.is (laws.then c.text-in-FixedUse.ensures.stored c.number-in-FixedUse.ensures.stored)
