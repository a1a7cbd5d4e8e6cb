use Rattle.texts.proofs.StoreLaws as laws
use Rattle.texts.proofs.Line.spaced.Goals as goal

pub returns-clause-stored : goal.returns-clause-stored
returns-clause-stored c = laws.then c.byte.ensures.stored c.number.ensures.stored
