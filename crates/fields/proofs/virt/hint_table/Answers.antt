use native.Mathlib.Omega.{arith}
use mathlib.Core.Path.{◌∙◌}
use mathlib.Core.List.{[]}
use Rattle.reader.proofs.Reading.{each_length}
use Rattle.job.specs.Load.{hints, hint}
use Rattle.fields.proofs.virt.hint_table.Goals as goal

pub returns-clause-read : goal.returns-clause-read
unfolding hints
returns-clause-read c =
    let w = c.in_ok-hints.ensures.read in
    (w.0, rw (c.if-not-stands.false, ← c.in_ok-k.ensures.read.view) w.1, each_length (λ before. hint c.args.regs) c.in_ok-k.k [] _ w.1 ∙ omega arith, c.in_ok-k.ensures.read.small, w.2)
