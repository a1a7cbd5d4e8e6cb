use mathlib.Core.Path.{refl, sym, ◌∙◌}
use lib.Seq.{length-take-le}
use Rattle.job_parts.specs.Lent.{slices_of}
use Rattle.run_loop.specs.Running.{state_in}
use Rattle.pezhkadu.proofs.RunLaws.{run_short_lem, run_done}
use Rattle.pezhkadu.proofs.running.pezhkadu_run.Goals as goal

pub returns-then-short_buffers-clause-called : goal.returns-then-short_buffers-clause-called
returns-then-short_buffers-clause-called c =
    run_short_lem (slices_of c.args.job) _ (state_in c.args.state.now c.args.last.now) _ _ c.if-records-lt512.false c.if-answer-lt2.false (sym (rw (c.as_table.ensures.0, c.as_table.ensures.1) at c.short_buffers.ensures) ∙ c.if-short_buffers.true)

pub slice_bounds-all-end-2 : goal.slice_bounds-all-end-2
slice_bounds-all-end-2 c = sym (length-take-le 512 c.renew.new.words (rw c.renew.auto.words c.if-records-lt512.false))

pub returns-clause-called : goal.returns-clause-called
returns-clause-called c =
    run_done (slices_of c.args.job) _ (state_in c.args.state.now c.args.last.now) _ _ c.if-records-lt512.false c.if-answer-lt2.false (sym (rw (c.as_table.ensures.0, c.as_table.ensures.1) at c.short_buffers.ensures) ∙ c.if-short_buffers.false) _ c.renew.ensures.words_after c.renew.ensures.words_unchanged _ _ _ c.run_on-end.ensures.after (c.run_on-end.auto.words ∙ length-take-le 512 c.renew.new.words (rw c.renew.auto.words c.if-records-lt512.false)) _ _ _ _ refl c.ending_number.ensures c.put.ensures c.put-2.ensures
