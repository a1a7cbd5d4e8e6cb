-- The bits that refusal 9 lets through are those up to infinity's, and before it for hints. Assumes nothing.
use Prim.Native.Nat.{ℕ, ◌≤◌, ◌<◌}
use native.Mathlib.Omega.{arith}
use native.Mathlib.Nat.{mod-eq_of_lt, eq-or-lt_of_le}
use mathlib.Core.Path.{◌≡◌, ap, sym, ◌∙◌}
use mathlib.Core.Bool.{true, false, or-true}
use mathlib.Core.Logic.{⊎_elim}
use lib.Dec.{ltb}
use lib.Ieee.{binary32, nan_bits}
use lib.Ieee.Bits.{nan_bits_above}
use borrow.Author.Tests.{lt-ltb, le-ltb, le-leb, lt-leb, eq-eqb, ne_eqb}
use Rattle.reg_matrix.proofs.Tests.{lt_or_le}
use Rattle.job.specs.Load.{bad_spill_bits, bad_hint_bits}

pub nan_bits_lem : (b : ℕ) → b < 2147483648 → nan_bits binary32 b ≡ ltb 2139095040 b
nan_bits_lem b h = nan_bits_above binary32 b ∙ ap (ltb 2139095040) (mod-eq_of_lt h)

pub not_nan : (b : ℕ) → b ≤ 2139095040 → nan_bits binary32 b ≡ false
not_nan b h = nan_bits_lem b (omega arith) ∙ le-ltb 2139095040 b h

pub spill_good : (b : ℕ) → b ≤ 2139095040 → bad_spill_bits b ≡ false
spill_good b h = rw (lt-leb 2147483648 b (omega arith), not_nan b h)

pub spill_bad : (b : ℕ) → 2139095040 < b → bad_spill_bits b ≡ true
spill_bad b h = ⊎_elim (λ l. rw (lt-leb 2147483648 b l, nan_bits_lem b l, lt-ltb 2139095040 b h)) (λ l. rw (le-leb 2147483648 b l)) (lt_or_le b 2147483648)

pub hint_good : (b : ℕ) → b < 2139095040 → bad_hint_bits b ≡ false
hint_good b h = rw (spill_good b (omega arith), ne_eqb b 2139095040 (λ e. omega arith))

pub hint_bad : (b : ℕ) → 2139095040 ≤ b → bad_hint_bits b ≡ true
hint_bad b h = ⊎_elim (λ e. rw (eq-eqb b 2139095040 (sym e), or-true)) (λ l. rw (spill_bad b l)) (eq-or-lt_of_le h)
