use native.Mathlib.Omega.{arith}
use mathlib.Core.Path.{◌∙◌}
use mathlib.Core.List.{[]}
use Rattle.reader.proofs.Reading.{each_length}
use Rattle.job.specs.Load.{segments, segment}
use Rattle.fields.proofs.virt.segment_table.Goals as goal

pub returns-clause-read : goal.returns-clause-read
unfolding segments
returns-clause-read c =
    let w = c.in_ok-segments.ensures.read in
    (w.0, rw (← c.in_ok-k.ensures.read.view) w.1, each_length segment c.in_ok-k.k [] _ w.1 ∙ omega arith, c.in_ok-k.ensures.read.small, w.2)
