use borrow.Author.Rules.{rules}
use native.Mathlib.Omega.{arith}
use mathlib.Core.Path.{sym}
use borrow.Author.Tests.{lt-ltb, le-ltb, eq-eqb, ne_eqb}
use Rattle.reader.proofs.Answers.{ones_in_lem}
use Rattle.job.specs.Load.{register}
use Rattle.reg_reader.proofs.register.Goals as goal

pub returns-then-m-gt4-clause-read : goal.returns-then-m-gt4-clause-read
unfolding register
returns-then-m-gt4-clause-read c = record { view = sym (rw (← c.in_ok-m.ensures.read.view, ← ones_in_lem 64 c.in_ok-m.m c.in_ok-m.ensures.read.small, lt-ltb _ _ c.if-m-gt4.true)); small = search rules }

pub returns-then-m-eq0-clause-read : goal.returns-then-m-eq0-clause-read
unfolding register
returns-then-m-eq0-clause-read c = record { view = sym (rw (← c.in_ok-m.ensures.read.view, ← ones_in_lem 64 c.in_ok-m.m c.in_ok-m.ensures.read.small, le-ltb _ _ c.if-m-gt4.false, eq-eqb _ _ c.if-m-eq0.true)); small = search rules }

pub returns-clause-read : goal.returns-clause-read
unfolding register
returns-clause-read c = record { view = sym (rw (← c.in_ok-m.ensures.read.view, ← ones_in_lem 64 c.in_ok-m.m c.in_ok-m.ensures.read.small, le-ltb _ _ c.if-m-gt4.false, ne_eqb _ _ c.if-m-eq0.false)); small = omega (arith, c.in_ok-m.ensures.read.small) }
