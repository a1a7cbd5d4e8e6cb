-- One step of the walk that puts fixed uses back. Assumes nothing.
use Prim.Native.Nat.{ℕ, suc, ◌+◌, ◌-◌, ◌≤◌, ◌<◌}
use native.Mathlib.Omega.{arith}
use mathlib.Core.Path.{◌≡◌, refl}
use mathlib.Core.List.{List}
use lib.ListN.{get_or}
use Rattle.entries.specs.Moves.{Words}
use Rattle.entries.specs.Placing.{inserting_use, inserting_uses}

pub uses_more : (j last : ℕ) (uses : List ℕ) (w w' : Words) → j < last → w' ≡ inserting_use (get_or uses j 0) w → inserting_uses (last - (j + 1)) (j + 1) uses w' ≡ inserting_uses (last - j) j uses w
unfolding inserting_uses
uses_more j last uses w w' h q = let e : last - j ≡ suc (last - (j + 1)) = omega arith in rw (q, e)

pub uses_end : (j last : ℕ) (uses : List ℕ) (w : Words) → last ≤ j → inserting_uses (last - j) j uses w ≡ w
unfolding inserting_uses
uses_end j last uses w h = let e : last - j ≡ 0 = omega arith in rw e refl
