use mathlib.Core.Path.{refl, sym, ◌∙◌}
use lib.ListN.{length-set}
use borrow.Author.Tests.{lt-ltb, le-ltb}
use Rattle.record_words.proofs.WordLaws.{held_read}
use Rattle.stage.specs.EvictWalk.{tried_below}
use Rattle.stage.specs.AllocateWalk.{reports_on}
use Rattle.stage.proofs.EvictLaws.{below_end, below_fixed, below_more, below_stop, below_far}
use Rattle.stage.proofs.evict.Limit.try_reports.Goals as goal

pub loop-report-init : goal.loop-report-init
unfolding tried_below reports_on
loop-report-init c = rw (c.nothing_tried-t.ensures, c.enter-c.ensures) (refl, refl)

pub returns : goal.returns
returns c = below_end _ _ _ _ _ _ _ _ _ c.next.ensures.told c.in_default.is ∙ c.loop-report.invariant.1

pub returns-in_default-kind : goal.returns-in_default-kind
returns-in_default-kind c = below_fixed _ _ _ _ _ _ _ _ _ c.next.ensures.told _ _ c.in-Some.is c.in_default-kind.is ∙ c.loop-report.invariant.1

pub returns-then-not-can_win : goal.returns-then-not-can_win
returns-then-not-can_win c = below_stop _ _ _ _ _ _ _ _ _ c.next.ensures.told _ _ c.in-Some.is _ c.in-VirtReg.is (lt-ltb _ _ c.if-i-lt512.true) _ _ (c.with_holder-t.ensures ∙ rw (c.held_at-weight.ensures, held_read _ _ c.if-i-lt512.true, c.at.ensures)) (rw (c.held_at-weight.ensures, held_read _ _ c.if-i-lt512.true)) (sym c.can_win.ensures ∙ c.if-not-can_win.true) ∙ c.loop-report.invariant.1

pub loop-report-preserved-else-not-can_win : goal.loop-report-preserved-else-not-can_win
loop-report-preserved-else-not-can_win c = (simp length-set c.loop-report.invariant.0, below_more _ _ _ _ _ _ _ _ _ c.next.ensures.told _ _ c.in-Some.is _ c.in-VirtReg.is (lt-ltb _ _ c.if-i-lt512.true) _ _ (c.with_holder-t.ensures ∙ rw (c.held_at-weight.ensures, held_read _ _ c.if-i-lt512.true, c.at.ensures)) (rw (c.held_at-weight.ensures, held_read _ _ c.if-i-lt512.true)) (sym c.can_win.ensures ∙ c.if-not-can_win.false) ∙ c.loop-report.invariant.1)

pub loop-report-preserved : goal.loop-report-preserved
loop-report-preserved c = (c.loop-report.invariant.0, below_far _ _ _ _ _ _ _ _ _ c.next.ensures.told _ _ c.in-Some.is _ c.in-VirtReg.is (le-ltb _ _ c.if-i-lt512.false) ∙ c.loop-report.invariant.1)
