use Rattle.std.proofs.Common.{arith, ap, ◌∙◌, take, length-take, take_all}
use Rattle.thin.specs.Answers.{max_segments}
use Rattle.segment_lists.proofs.next_in_list.Goals as goal

pub returns : goal.returns
returns c =
    let few = take_all max_segments (take c.args.n c.args.list.now) (omega (arith, length-take c.args.n c.args.list.now)) in
    (λ h. absurd (omega arith), λ h. rw (ap (take max_segments) c.first.ensures ∙ few) at c.next.ensures)
