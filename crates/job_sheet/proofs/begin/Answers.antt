use Rattle.std.proofs.Common.{refl}
use Rattle.std.proofs.lemmas.Result.{err_from_is_err_and}
use Rattle.sheets.proofs.BeginLaws.{short_begin, refused_begin, loaded_begin}
use Rattle.job_sheet.proofs.begin.Goals as goal

pub returns-then-words-lt512-clause-begun : goal.returns-then-words-lt512-clause-begun
returns-then-words-lt512-clause-begun c = short_begin _ _ _ _ c.if-words-lt512.true

pub returns-in_err-header-clause-begun : goal.returns-in_err-header-clause-begun
returns-in_err-header-clause-begun c =
    let p = err_from_is_err_and c.from_residual.result c.from_residual.ensures.1 in
    rw (p.1, p.2) (refused_begin _ _ _ _ c.if-words-lt512.false _ _ _ _ c.in_err-header.ensures.loaded refl)

pub returns-clause-begun : goal.returns-clause-begun
returns-clause-begun c = loaded_begin _ _ _ _ c.if-words-lt512.false (λ i. (c.type_inv.s i).fits) _ _ _ _ c.in_ok-header.ensures.loaded refl _ c.as_job.ensures _ _ _ c.run_loaded-position.ensures.stored
