use mathlib.Core.Path.{refl, ap}
use Rattle.std.proofs.lemmas.Result.{err_from_is_err_and}
use Rattle.table_words.specs.Segments.{refusal_number as number_of}
use Rattle.table_words.proofs.RefusedNumber.{some_number}
use Rattle.job_parts.specs.Lent.{slices_of}
use Rattle.run_loop.specs.Running.{state_in}
use Rattle.calls.proofs.DirectLaws.{kept_record, evicting_refused, evicting_done}
use Rattle.calls.proofs.direct.Eviction.evict.Goals as goal

pub returns-in_err-reg-clause-called : goal.returns-in_err-reg-clause-called
returns-in_err-reg-clause-called c =
    let t = c.as_table.ensures in
    let p = err_from_is_err_and c.from_residual.result c.from_residual.ensures.1 in
    let lends = rw (t.0, t.1) at c.short_buffers-short.ensures in
    rw (p.1, p.2)
    (λ rs read.
    rw (kept_record rs _ _ read)
    (evicting_refused c.args.loaded.header (slices_of c.args.loaded.job) _ (state_in c.args.state.now c.args.last.now) rs _ read _ lends _ (ap number_of c.in_err-reg.ensures.refused) (some_number _)))

pub returns-clause-called : goal.returns-clause-called
returns-clause-called c =
    let t = c.as_table.ensures in
    let lends = rw (t.0, t.1) at c.short_buffers-short.ensures in
    λ rs read.
    evicting_done c.args.loaded.header (slices_of c.args.loaded.job) _ (state_in c.args.state.now c.args.last.now) rs _ read _ lends _ (ap number_of c.in_ok-reg.ensures.refused)
    refl _ _ c.in_ok-reg.ensures.held refl _ refl _ c.take_back.ensures.after _ c.waiting.ensures _ refl
