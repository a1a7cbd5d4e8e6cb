use Rattle.reg_matrix.specs.Lists.{ascii}
use Rattle.texts.proofs.StoreLaws as laws
use Rattle.result_lines.proofs.standing.Goals as goal

pub returns-in-Assigned-clause-stored : goal.returns-in-Assigned-clause-stored
unfolding ascii
returns-in-Assigned-clause-stored c = rw c.in-Assigned.is (laws.then c.text.ensures.stored c.number.ensures.stored)
