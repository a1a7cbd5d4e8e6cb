use Prim.Native.Nat.{ℕ}
use native.Mathlib.Omega.{arith}
use lib.ListN.{length-replicate}
use Rattle.std.proofs.lemmas.Result.{err_from_is_err_and}
use Rattle.loader.proofs.Testing.{fields_out, tail_out, none_out, one_out}
use Rattle.loader.proofs.load.tested.Goals as goal

pub returns-in_err-h-clause-tested : goal.returns-in_err-h-clause-tested
returns-in_err-h-clause-tested c =
    let p = err_from_is_err_and c.from_residual.result c.from_residual.ensures.1 in
    rw (p.1, p.2) (fields_out _ c.in_err-h.ensures.read)

pub returns-then-at-s-clause-tested : goal.returns-then-at-s-clause-tested
returns-then-at-s-clause-tested c = tail_out _ c.in_ok-h.ensures.read c.if-at-s.true

pub returns-in_err-whole_refusal-clause-tested : goal.returns-in_err-whole_refusal-clause-tested
returns-in_err-whole_refusal-clause-tested c =
    let p = err_from_is_err_and c.from_residual-in_err-whole_refusal.result c.from_residual-in_err-whole_refusal.ensures.1 in
    rw (p.1, p.2) (one_out _ (λ i. (c.type_inv.s i).fits) _ _ c.in_ok-h.ensures.read (record { j64 = omega (arith, length-replicate {A = ℕ} 64 0); j32 = omega (arith, length-replicate {A = ℕ} 1024 0); j16 = omega (arith, length-replicate {A = ℕ} 1041 0); j8 = omega (arith, length-replicate {A = ℕ} 1536 0) }) c.requires c.if-at-s.false (rw (c.as_job.ensures, c.as_list.ensures.froms, c.as_list.ensures.tos, c.as_list.ensures.uses, c.as_list.ensures.count) at c.in_err-whole_refusal.ensures))

pub returns-clause-tested : goal.returns-clause-tested
returns-clause-tested c = none_out _ (λ i. (c.type_inv.s i).fits) _ _ c.in_ok-h.ensures.read (record { j64 = omega (arith, length-replicate {A = ℕ} 64 0); j32 = omega (arith, length-replicate {A = ℕ} 1024 0); j16 = omega (arith, length-replicate {A = ℕ} 1041 0); j8 = omega (arith, length-replicate {A = ℕ} 1536 0) }) c.requires c.if-at-s.false (rw (c.as_job.ensures, c.as_list.ensures.froms, c.as_list.ensures.tos, c.as_list.ensures.uses, c.as_list.ensures.count) at c.in_ok-whole_refusal.ensures)
