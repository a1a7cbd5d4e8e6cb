use mathlib.Core.Logic.{inl, inr}
use mathlib.Core.Path.{refl, ap}
use Rattle.std.proofs.Common.{rules}
use Rattle.std.proofs.lemmas.Result.{err_from_is_err_and}
use Rattle.job.specs.Layout.{JobSlices}
use Rattle.stage_loader.proofs.StageLoads.{short_load, refused_load, accepted_load, done_in}
use Rattle.stage_loader.proofs.load.Goals as goal

pub returns-then-state-lt1024-clause-loaded : goal.returns-then-state-lt1024-clause-loaded
returns-then-state-lt1024-clause-loaded c = short_load _ _ _ (inl c.if-state-lt1024.true)

pub returns-then-last-lt512-clause-loaded : goal.returns-then-last-lt512-clause-loaded
returns-then-last-lt512-clause-loaded c = short_load _ _ _ (inr c.if-last-lt512.true)

pub returns-in_err-header-clause-loaded : goal.returns-in_err-header-clause-loaded
returns-in_err-header-clause-loaded c =
    let p = err_from_is_err_and c.from_residual.result c.from_residual.ensures.1 in
    rw (p.1, p.2) (done_in (refused_load _ _ _ c.if-state-lt1024.false c.if-last-lt512.false _ _ _ _ c.in_err-header.ensures.loaded _ refl) (search rules) (search rules))

pub returns-clause-loaded : goal.returns-clause-loaded
returns-clause-loaded c =
    done_in
    (accepted_load _ _ _ c.if-state-lt1024.false c.if-last-lt512.false _ _ _ _ c.in_ok-header.ensures.loaded (λ i. (c.type_inv.s i).fits) _ refl _ _
    (rw (c.from-starts.ensures, c.from.ensures, ap (λ (B : JobSlices). B.j16) c.as_job-stored.ensures, ap (λ (B : JobSlices). B.j32) c.as_job-stored.ensures) at c.init.ensures) c.pad.ensures)
    (search rules) (search rules)
