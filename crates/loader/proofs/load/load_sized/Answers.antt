use Prim.Native.Nat.{ℕ}
use native.Mathlib.Omega.{arith}
use lib.ListN.{length-replicate}
use Rattle.std.proofs.lemmas.Result.{err_from_is_err_and}
use Rattle.loader.proofs.Loads.{still_uses, tests_done, job_done}
use Rattle.loader.proofs.load.load_sized.Goals as goal

pub slice_bounds-reserve_all-count : goal.slice_bounds-reserve_all-count
slice_bounds-reserve_all-count c =
    let o = c.in_ok-h.ensures.tested.parts in
    omega (arith, still_uses _ _ c.requires _ o.0 o.1 o.2 c.store_job.ensures.after)

pub slice_bounds-reserve_all-start : goal.slice_bounds-reserve_all-start
slice_bounds-reserve_all-start c =
    let o = c.in_ok-h.ensures.tested.parts in
    omega (arith, still_uses _ _ c.requires _ o.0 o.1 o.2 c.store_job.ensures.after)

pub returns-in_err-h-clause-loaded : goal.returns-in_err-h-clause-loaded
returns-in_err-h-clause-loaded c =
    let p = err_from_is_err_and c.from_residual.result c.from_residual.ensures.1 in
    rw (p.1, p.2) (tests_done _ _ c.requires c.in_err-h.ensures.tested.parts)

pub returns-clause-loaded : goal.returns-clause-loaded
returns-clause-loaded c =
    let o = c.in_ok-h.ensures.tested.parts in
    job_done _ _ c.requires _ _ _ _ o.0 o.1 _ (λ i. (c.type_inv.s i).fits) o.2 o.3 o.4 o.5 (omega (arith, length-replicate {A = ℕ} 512 0), omega (arith, length-replicate {A = ℕ} 512 0), omega (arith, length-replicate {A = ℕ} 512 0), omega (arith, length-replicate {A = ℕ} 512 0)) c.store_job.ensures.after (rw (c.as_list.ensures.units, c.as_list.ensures.froms, c.as_list.ensures.tos, c.as_list.ensures.uses, c.as_list.ensures.count) at c.reserve_all.ensures.after)
