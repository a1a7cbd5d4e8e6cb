use Prim.Native.Nat.{◌<◌, min}
use native.Mathlib.Omega.{arith}
use mathlib.Core.Path.{sym}
use lib.ListN.{length}
use Rattle.reader.proofs.Answers.{little_short, pow_pos, read_front}
use Rattle.reader.proofs.read.Reader.little.Goals as goal

pub returns-in_default-clause-read : goal.returns-in_default-clause-read
returns-in_default-clause-read g c =
    let few : length c.from.result.now < min g.row.N 8 = omega (arith, c.in_default.ensures.lookup) in
    record { view = sym (little_short _ _ (rw c.from.ensures at few)); small = pow_pos (min g.row.N 8) }

pub returns-clause-read : goal.returns-clause-read
returns-clause-read g c =
    let r = c.args.self.now in
    let k = c.in-Some.ensures.lookup.0 in
    rw (← c.min-n.ensures) (read_front r.bytes.now r.at c.from.ensures k.1 k.2 c.number.ensures.value c.number.ensures.small)
