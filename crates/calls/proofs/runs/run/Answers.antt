use mathlib.Core.Path.{refl, sym, ◌∙◌}
use Rattle.job_parts.specs.Lent.{slices_of}
use Rattle.run_loop.specs.Running.{state_in}
use Rattle.calls.proofs.RunCalls.{run_short_lem, run_carried}
use Rattle.calls.proofs.runs.run.Goals as goal

pub returns-then-short_buffers-clause-called : goal.returns-then-short_buffers-clause-called
returns-then-short_buffers-clause-called c = run_short_lem (slices_of c.args.job) _ (state_in c.args.state.now c.args.last.now) _ (sym (rw (c.as_table.ensures.0, c.as_table.ensures.1) at c.short_buffers.ensures) ∙ c.if-short_buffers.true)

pub returns-clause-called : goal.returns-clause-called
returns-clause-called c = run_carried (slices_of c.args.job) _ (state_in c.args.state.now c.args.last.now) _ _ _ _ _ _ _ _ (sym (rw (c.as_table.ensures.0, c.as_table.ensures.1) at c.short_buffers.ensures) ∙ c.if-short_buffers.false) refl c.store.ensures.words_after c.store.ensures.read_back c.run_on-end.ensures.after refl c.read.ensures
