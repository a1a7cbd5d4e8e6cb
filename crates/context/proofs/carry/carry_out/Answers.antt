use mathlib.Core.Path.{refl}
use Rattle.job.specs.Layout.{lists_in}
use Rattle.job_parts.specs.Lent.{slices_of}
use Rattle.context.proofs.Carried.{carried_takes, carried_evicts, carried_passed}
use Rattle.context.proofs.carry.carry_out.Goals as goal

pub returns-in-Takes-clause-after : goal.returns-in-Takes-clause-after
returns-in-Takes-clause-after c = carried_takes _ _ _ _ _ _ _ c.in-Takes.is _ _ _ c.settle.ensures.after

pub returns-in-Evicts-clause-after : goal.returns-in-Evicts-clause-after
returns-in-Evicts-clause-after c = carried_evicts _ _ _ _ _ _ _ _ _ c.in-Evicts.is _ _ c.evict_all.ensures.after _ _ _ c.settle-in-Evicts.ensures.after

pub returns-in_default-clause-after : goal.returns-in_default-clause-after
returns-in_default-clause-after c = carried_passed _ _ (lists_in (slices_of c.args.job)) _ _ _ _ refl refl c.in_default.not-Takes c.in_default.not-Evicts _ c.pass_by.ensures
