use native.Mathlib.Omega.{arith}
use mathlib.Core.Path.{sym, ◌≡◌}
use Prim.Native.Nat.{◌+◌, ◌%◌}
use mathlib.Core.Bool.{or-true}
use borrow.Author.Tests.{lt-leb, ne_eqb}
use Rattle.job.specs.Load.{fixed_tests, fixed_range}
use Rattle.fixed_reader.proofs.fixed_tests.Goals as goal

pub returns-then-f-ge4294967294 : goal.returns-then-f-ge4294967294
unfolding fixed_tests fixed_range
returns-then-f-ge4294967294 c =
    record {
      view = λ t.
          let f = c.args.f in
          let e : f.from % 4 ≡ 0 → ⊥ = λ z. omega arith in
          sym (rw (lt-leb _ _ c.if-f-ge16.false, ← c.bit-has_end.ensures, ← c.bit-has_value.ensures, c.if-has_end-has_value.false, c.if-has_end.false, lt-leb (f.from + 2) f.from (omega arith), ne_eqb _ _ e, or-true));
      unit = omega arith;
    }
