use mathlib.Core.Path.{refl, ap}
use Rattle.std.proofs.lemmas.Result.{err_from_is_err_and}
use Rattle.table_words.specs.Segments.{refusal_number as number_of}
use Rattle.table_words.proofs.RefusedNumber.{some_number}
use Rattle.job_parts.specs.Lent.{slices_of}
use Rattle.run_loop.specs.Running.{state_in}
use Rattle.calls.proofs.DirectLaws.{kept_record, place_answered, placing_refused, placing_done}
use Rattle.calls.proofs.direct.place.Goals as goal

pub returns-in_err-refusal-clause-called : goal.returns-in_err-refusal-clause-called
returns-in_err-refusal-clause-called c =
    let t = c.as_table-table.ensures in
    let p = err_from_is_err_and c.from_residual.result c.from_residual.ensures.1 in
    let B = slices_of c.args.loaded.job in
    let S = state_in c.args.state.now c.args.last.now in
    let lends = rw (t.0, t.1) at c.short_buffers-short.ensures in
    rw (p.1, p.2)
    (λ rs read.
    rw (kept_record rs _ _ read)
    (placing_refused _ B _ _ _ S rs _ read _ (place_answered _ B _ _ _ S _ _ lends _ (ap number_of (rw (t.0, t.1) at c.in_err-refusal.ensures))) (some_number _)))

pub returns-clause-called : goal.returns-clause-called
returns-clause-called c =
    let t = c.as_table-table.ensures in
    let B = slices_of c.args.loaded.job in
    let S = state_in c.args.state.now c.args.last.now in
    let lends = rw (t.0, t.1) at c.short_buffers-short.ensures in
    λ rs read.
    placing_done _ B _ _ _ S rs _ read _ (place_answered _ B _ _ _ S _ _ lends _ (ap number_of (rw (t.0, t.1) at c.in_ok-refusal.ensures)))
    refl _ refl _ _ c.take.ensures.after _ c.placed.ensures _ refl
