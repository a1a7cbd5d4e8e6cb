-- Why demand 3 asks that the job's bytes are bytes: with a 256 among them a register's map can be 2^64, which is not 0 and yet has no unit.
-- Placing a number in that register changes who holds what and leaves the table as it is. Assumes nothing.
use Prim.Native.Nat.{ℕ}
use mathlib.Core.Path.{◌≡◌, refl}
use mathlib.Core.List.{List, [], ◌∷◌}
use mathlib.Core.Option.{none}
use Rattle.job.specs.Model.{Job, zero_weight}
use Rattle.job.specs.Load.{Loaded, not_loaded, loaded}
use Rattle.allocator.specs.Layout.{stage_limits}
use Rattle.allocator.specs.Calls.{load, placing}
use Rattle.allocator.specs.Demand.{TablesAreHolders}
use Rattle.allocator.proofs.Holders.{none_some}
use Rattle.allocator.proofs.Opened.{opened}

-- one register, of the map 2^64; class [0]; v 0 from 4 to 8
no_bytes : List ℕ
no_bytes = 11 ∷ 1 ∷ 0 ∷ 0 ∷ 0 ∷ 0 ∷ 0 ∷ 0 ∷ 0 ∷ 256 ∷ 1 ∷ 1 ∷ 0 ∷ 1 ∷ 0 ∷ 32 ∷ 1 ∷ 0 ∷ 4 ∷ 0 ∷ 0 ∷ 0 ∷ 8 ∷ 0 ∷ 0 ∷ 0 ∷ 1 ∷ 0 ∷ []

abbrev job_of : Loaded → Job
job_of (not_loaded n) = record { regs = []; classes = []; fixed = []; virt_regs = []; probe = none; budget = 0 }
job_of (loaded j) = j

pub bytes_needed : ((lent bytes : List ℕ) (j : Job) → load lent bytes ≡ loaded j → TablesAreHolders j) → ⊥
unfolding opened no_bytes
bytes_needed d = none_some (((d stage_limits no_bytes (job_of (load stage_limits no_bytes)) refl).decided [] (placing stage_limits 0 0 zero_weight ∷ [])).0 refl 0)
