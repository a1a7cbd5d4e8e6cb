use Prim.Native.Nat.{min}
use Rattle.reader.proofs.Answers.{pow_pos}
use Rattle.reader.proofs.read.Reader.little_if.Goals as goal

pub returns-else-stands-clause-read : goal.returns-else-stands-clause-read
returns-else-stands-clause-read g c = record { view = rw c.if-stands.false; small = pow_pos (min g.row.N 8) }
