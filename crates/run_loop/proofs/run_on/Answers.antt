use Prim.Native.Nat.{◌-◌, ◌+◌}
use native.Mathlib.Omega.{arith}
use mathlib.Core.Path.{◌≡◌, sym, ◌∙◌}
use Rattle.run_loop.proofs.RunLaws.{run_start, run_done, run_spent, run_more, run_toomany, ended}
use Rattle.run_loop.proofs.run_on.Goals as goal

pub loop-dequeues-init : goal.loop-dequeues-init
loop-dequeues-init c =
    let e : c.args.budget - 0 ≡ c.args.budget = omega arith in
    rw e (search, run_start _ _ _ _)

pub returns-in_default-clause-after : goal.returns-in_default-clause-after
returns-in_default-clause-after c = run_done _ _ _ _ _ _ _ c.loop-dequeues.invariant.1 (sym c.first.ensures ∙ c.in_default.is) _ (ended _ _ _ (omega arith))

pub returns-then-dequeue-clause-after : goal.returns-then-dequeue-clause-after
returns-then-dequeue-clause-after c =
    run_toomany _ _ _ _ _ _ _ c.loop-dequeues.invariant.1 _ (sym c.first.ensures ∙ c.in-Some.is) (λ z. omega (arith, z)) _ _ _ c.dequeue.ensures.after c.if-dequeue.true _ (ended _ _ _ (omega arith))

pub loop-dequeues-preserved : goal.loop-dequeues-preserved
loop-dequeues-preserved c =
    let e : c.args.budget - (c.loop-dequeues.dequeues + 1) ≡ c.args.budget - c.loop-dequeues.dequeues - 1 = omega arith in
    rw e (search, run_more _ _ _ _ _ _ _ c.loop-dequeues.invariant.1 _ (sym c.first.ensures ∙ c.in-Some.is) (λ z. omega (arith, z)) _ _ _ c.dequeue.ensures.after c.if-dequeue.false)

pub returns-in-Some-first-clause-after : goal.returns-in-Some-first-clause-after
returns-in-Some-first-clause-after c =
    run_spent _ _ _ _ _ _ _ c.loop-dequeues.invariant.1 _ (sym c.first-2.ensures ∙ c.in-Some-first.is) (omega arith) _ (ended _ _ _ (omega arith))

pub returns-in-None-clause-after : goal.returns-in-None-clause-after
returns-in-None-clause-after c = run_done _ _ _ _ _ _ _ c.loop-dequeues.invariant.1 (sym c.first-2.ensures ∙ c.in-None.is) _ (ended _ _ _ (omega arith))
