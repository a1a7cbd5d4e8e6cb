use mathlib.Core.Path.{◌∙◌}
use Rattle.job.specs.Layout.{lists_in}
use Rattle.job_parts.specs.Lent.{slices_of}
use Rattle.decisions.specs.Deciding.{decided_in}
use Rattle.decisions.proofs.DecideLaws.{hinted_read}
use Rattle.decisions.proofs.decide.Goals as goal

pub returns : goal.returns
unfolding decided_in
returns c =
    let h =
    c.new-order.ensures.hinted
    ∙ c.new-hinted.ensures
    ∙ hinted_read (lists_in (slices_of c.args.job)) c.args.last.now c.args.v _ _ _ c.hints_of.ensures.0 c.hints_of.ensures.1 (c.last_given-last_reg.ensures ∙ rw c.from.ensures) in
    c.in_order.ensures
    ∙ rw (c.search_of.ensures.lent, c.search_of.ensures.lists.0, c.search_of.ensures.lists.1, c.search_of.ensures.lists.2, h, c.new-order.ensures.class, c.class_of.ensures, c.flag_of.ensures, c.record_of.ensures, c.at.ensures, c.at-2.ensures)
