use Rattle.reader.proofs.Answers.{number_small, number_padded}
use Rattle.reader.proofs.read.number.Goals as goal

pub returns-clause-value : goal.returns-clause-value
returns-clause-value c = number_padded c.args.bytes.now c.requires (rw c.copy_from_slice.ensures.after at c.from_le_bytes.ensures)

pub returns-clause-small : goal.returns-clause-small
returns-clause-small c =
    rw (number_padded c.args.bytes.now c.requires (rw c.copy_from_slice.ensures.after at c.from_le_bytes.ensures))
    (number_small c.args.bytes.now (λ i. (c.type_inv.bytes i).fits))
