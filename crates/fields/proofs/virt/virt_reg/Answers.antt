use mathlib.Core.Path.{refl, sym}
use Rattle.fields.proofs.Turns.{virt_out}
use Rattle.fields.proofs.virt.virt_reg.Goals as goal

pub returns-clause-read : goal.returns-clause-read
returns-clause-read c =
    let a = c.args in
    virt_out _ _ _ _ a.regs a.classes a.n c.in_ok-hints.hints c.in_ok-segments.segments c.in_ok-f.f a.totals _ refl refl (sym c.in_ok-f.ensures.read) (rw c.bit-stands.ensures at c.in_ok-hints.ensures.read) c.in_ok-segments.ensures.read
