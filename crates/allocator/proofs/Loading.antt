-- A job that loads has every premise. Assumes nothing.
use Prim.Native.Nat.{ℕ}
use mathlib.Core.Path.{◌≡◌}
use mathlib.Core.List.{List}
use Rattle.job.specs.Model.{Job}
use Rattle.job.specs.Load.{Bytes, loaded}
use Rattle.job.proofs.Premises.{Premises}
use Rattle.job.proofs.Loads.{loads_premises}
use Rattle.allocator.specs.Layout.{stage_limits}
use Rattle.allocator.specs.Calls.{load}

pub stage_premises : (lent bytes : List ℕ) (j : Job) → Bytes bytes → load lent bytes ≡ loaded j → Premises j
unfolding load
stage_premises lent bytes j b e = loads_premises stage_limits lent bytes j b e
