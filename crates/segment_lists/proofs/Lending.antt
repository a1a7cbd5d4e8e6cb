-- The first n of at most 255 segments: so few are all seen by a call over a lent slice. Assumes nothing.
use Prim.Native.Nat.{ℕ, ◌≤◌}
use native.Mathlib.Omega.{arith}
use mathlib.Core.Path.{◌≡◌}
use mathlib.Core.Bool.{false}
use mathlib.Core.List.{List}
use lib.Dec.{ltb}
use lib.ListN.{length, take}
use lib.Seq.{length-take-le, take_all}
use borrow.Author.Tests.{le-ltb}
use Rattle.reg_matrix.specs.declared.ValueSegment.{ValueSegment}
use Rattle.thin.specs.Answers.{max_segments}

module _ (n : ℕ) (list : List ValueSegment) (sized : length list ≡ 255) (le : n ≤ 255) where
  pub front_long : length (take n list) ≡ n
  front_long = length-take-le n list (omega arith)

  pub front_seen : take max_segments (take n list) ≡ take n list
  front_seen = take_all max_segments (take n list) (omega (arith, front_long))

  pub front_fits : ltb max_segments (length (take n list)) ≡ false
  front_fits = le-ltb max_segments (length (take n list)) (omega (arith, front_long))
