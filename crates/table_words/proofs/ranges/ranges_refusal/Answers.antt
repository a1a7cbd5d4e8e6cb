use borrow.Author.Rules.{rules}
use mathlib.Core.Path.{sym, ap, ◌∙◌}
use Rattle.reg_matrix.specs.declared.ValueSegment.{ValueSegment}
use Rattle.table_words.proofs.RangeLaws.{ranges_stop, ranges_go, ranges_end}
use Rattle.table_words.proofs.ranges.ranges_refusal.Goals as goal

pub returns-in_err-range_refusal : goal.returns-in_err-range_refusal
returns-in_err-range_refusal g c =
    let from = ap (λ (s : ValueSegment). s.from) c.segment-s.ensures in
    let to = ap (λ (s : ValueSegment). s.to) c.segment-s.ensures in
    let inside = rw c.count-i-end.ensures at c.loop-i-test.true in
    let q = ranges_stop _ _ _ _ _ _ _ inside from to _ c.in_err-range_refusal.ensures ∙ sym c.loop-i.invariant in
    search rules

pub loop-i-preserved : goal.loop-i-preserved
loop-i-preserved g c =
    let from = ap (λ (s : ValueSegment). s.from) c.segment-s.ensures in
    let to = ap (λ (s : ValueSegment). s.to) c.segment-s.ensures in
    let inside = rw c.count-i-end.ensures at c.loop-i-test.true in
    c.loop-i.invariant ∙ ranges_go _ _ _ _ _ _ _ inside from to c.in_ok-range_refusal.ensures

pub returns : goal.returns
returns g c =
    let outside = rw c.count-i-end.ensures at c.loop-i-test.false in
    sym (c.loop-i.invariant ∙ ranges_end _ _ _ _ _ outside)
