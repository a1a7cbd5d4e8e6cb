-- A refusal has a number. Assumes nothing.
use native.Mathlib.Omega.{arith}
use mathlib.Core.Path.{◌≡◌}
use Rattle.reg_matrix.specs.Refused.{number_of}
use Rattle.reg_matrix.specs.declared.Refusal.{Refusal}
use Rattle.reg_matrix.specs.declared.Refusal.TheVariants.{ShortJob}

pub some_number : (e : Refusal) → number_of e ≡ 0 → ⊥
some_number ShortJob q = omega arith
some_number _ q = omega arith
