use mathlib.Core.Path.{sym}
use Rattle.std.proofs.lemmas.Result.{err_from_is_err_and}
use Rattle.job.specs.Load.{range}
use Rattle.virt_reader.proofs.Ranges.{range_tested}
use Rattle.virt_reader.proofs.range.Goals as goal

pub returns-in_err-range_refusal-clause-read : goal.returns-in_err-range_refusal-clause-read
unfolding range
returns-in_err-range_refusal-clause-read c =
    let p = err_from_is_err_and c.from_residual-in_err-range_refusal.result c.from_residual-in_err-range_refusal.ensures.1 in
    rw (p.1, p.2) (sym (rw (← c.in_ok-a.ensures.read.view, ← c.in_ok-b.ensures.read.view, ← c.in_ok-x.ensures.read.view, range_tested c.args.past c.in_ok-a.a c.in_ok-b.b c.in_ok-x.x _, ← c.in_err-range_refusal.ensures)))

pub returns-clause-read : goal.returns-clause-read
unfolding range
returns-clause-read c = sym (rw (← c.in_ok-a.ensures.read.view, ← c.in_ok-b.ensures.read.view, ← c.in_ok-x.ensures.read.view, range_tested c.args.past c.in_ok-a.a c.in_ok-b.b c.in_ok-x.x _, ← c.in_ok-range_refusal.ensures))
