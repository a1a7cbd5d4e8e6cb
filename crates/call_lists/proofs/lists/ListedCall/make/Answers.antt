use mathlib.Core.Path.{refl, sym}
use borrow.Author.Tests.{ne_eqb}
use Rattle.std.proofs.lemmas.Result.{err_from_is_err_and}
use Rattle.table_words.proofs.RefusedNumber.{some_number}
use Rattle.call_lists.proofs.CallLaws.{placed_so, evicted_so, ran_so}
use Rattle.call_lists.proofs.lists.ListedCall.make.Goals as goal

pub returns-in_err-after-in-Place-clause-answered : goal.returns-in_err-after-in-Place-clause-answered
returns-in_err-after-in-Place-clause-answered c =
    let p = err_from_is_err_and c.from_residual.result c.from_residual.ensures.1 in
    rw (p.1, p.2, c.in-Place.is) (placed_so _ _ _ _ _ _ _ _ _ _ c.in_err-after-in-Place.ensures.called 0 (sym (rw (ne_eqb _ _ (some_number c.in_err-after-in-Place.field-0.0)))))

pub returns-in_err-after-in-Evict-clause-answered : goal.returns-in_err-after-in-Evict-clause-answered
returns-in_err-after-in-Evict-clause-answered c =
    let p = err_from_is_err_and c.from_residual-in_err-after-in-Evict.result c.from_residual-in_err-after-in-Evict.ensures.1 in
    rw (p.1, p.2, c.in-Evict.is) (evicted_so _ _ _ _ _ _ _ _ _ c.in_err-after-in-Evict.ensures.called)

pub returns-in_err-after-in-Run-clause-answered : goal.returns-in_err-after-in-Run-clause-answered
returns-in_err-after-in-Run-clause-answered c =
    let p = err_from_is_err_and c.from_residual-in_err-after-in-Run.result c.from_residual-in_err-after-in-Run.ensures.1 in
    rw (p.1, p.2, c.in-Run.is) (ran_so _ _ _ _ _ _ _ _ _ _ c.in_err-after-in-Run.ensures.called)

pub returns-in_ok-after-in-Place-clause-answered : goal.returns-in_ok-after-in-Place-clause-answered
returns-in_ok-after-in-Place-clause-answered c = rw c.in-Place.is (placed_so _ _ _ _ _ _ _ _ _ _ c.in_ok-after-in-Place.ensures.called _ refl)

pub returns-in_ok-after-in-Evict-clause-answered : goal.returns-in_ok-after-in-Evict-clause-answered
returns-in_ok-after-in-Evict-clause-answered c = rw c.in-Evict.is (evicted_so _ _ _ _ _ _ _ _ _ c.in_ok-after-in-Evict.ensures.called)

pub returns-in_ok-after-in-Run-clause-answered : goal.returns-in_ok-after-in-Run-clause-answered
returns-in_ok-after-in-Run-clause-answered c = rw c.in-Run.is (ran_so _ _ _ _ _ _ _ _ _ _ c.in_ok-after-in-Run.ensures.called)
