use Rattle.std.proofs.Common.{rules}
use Rattle.job.specs.Layout.{lists_in}
use Rattle.job_parts.specs.Lent.{slices_of}
use Rattle.moves.proofs.MoveLaws.{taken_back}
use Rattle.moves.proofs.take_back.Goals as goal

pub returns-clause-after : goal.returns-clause-after
returns-clause-after c =
    let range = c.range_of-range.ensures in
    taken_back _ _ (lists_in (slices_of c.args.job)) _ _ _ _ _ _ _ _ range.tos range.units c.from.ensures (rw range.v at c.evict.ensures.after) (search rules) (search rules) c.queue_at.ensures
