use borrow.Author.Rules.{rules}
use Rattle.matrix.proofs.Starts.{refused, started}
use Rattle.matrix.proofs.check.check_interference.Goals as goal

pub returns-in_err-start_refusal : goal.returns-in_err-start_refusal
returns-in_err-start_refusal g c =
    let a = c.args in
    let S = g.S.SegmentList in
    let q = refused (S.froms a.segments) (S.tos a.segments) (S.values a.segments) a.matrix.table.ends.now a.query.regs.now _ a.query.count a.query.reg a.query.full _ c.short_buffers-short.ensures _ c.in_err-start_refusal.ensures in
    search rules

pub returns : goal.returns
returns g c = started _ _ _ _ _ _ _ _ _ _ c.short_buffers-short.ensures _ _ c.in_ok-start_refusal.ensures c.at-units.ensures c.enter.ensures
