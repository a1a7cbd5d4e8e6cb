use mathlib.Core.Path.{◌∙◌}
use Rattle.std.proofs.Common.{rules}
use Rattle.job.specs.Layout.{lists_in}
use Rattle.job_parts.specs.Lent.{slices_of}
use Rattle.moves.proofs.MoveLaws.{taken}
use Rattle.moves.proofs.take.Goals as goal

pub returns-clause-after : goal.returns-clause-after
returns-clause-after c =
    let range = c.range_of-range.ensures in
    taken _ _ (lists_in (slices_of c.args.job)) _ _ _ _ _ _ _ _ _ _ _ _ _ range.froms range.tos range.units c.from.ensures (rw range.v at c.assign.ensures.after) (search rules) (search rules) c.remove.ensures (c.at-set.ensures ∙ rw c.from-2.ensures) c.last_word.ensures c.put.ensures
