use Rattle.reg_matrix.specs.Lists.{ascii}
use Rattle.texts.proofs.StoreLaws as laws
use Rattle.answers.proofs.met.Goals as goal

pub returns-in-VirtReg-clause-stored : goal.returns-in-VirtReg-clause-stored
unfolding ascii
returns-in-VirtReg-clause-stored c = rw c.in-VirtReg.is (laws.then c.text-in-VirtReg.ensures.stored c.number.ensures.stored)
