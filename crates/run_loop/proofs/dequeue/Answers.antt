use Rattle.job_parts.specs.Lent.{slices_of}
use Rattle.run_loop.proofs.RunLaws.{dequeue_made, fails_over, others_on}
use Rattle.run_loop.proofs.dequeue.Goals as goal

pub returns-in-Fails-clause-after : goal.returns-in-Fails-clause-after
returns-in-Fails-clause-after c =
    dequeue_made _ _ (slices_of c.args.job) _ _ _ _ _ _ _ _ _ _ c.as_table.ensures.0 c.as_table.ensures.1 c.decide-decided.ensures c.carry_out.ensures.after
    (fails_over _ c.in-Fails.is)

pub returns-in_default-clause-after : goal.returns-in_default-clause-after
returns-in_default-clause-after c =
    dequeue_made _ _ (slices_of c.args.job) _ _ _ _ _ _ _ _ _ _ c.as_table.ensures.0 c.as_table.ensures.1 c.decide-decided.ensures c.carry_out.ensures.after
    (others_on _ c.in_default.not-Fails)
