-- Why loading tests 10 and 12: with either left out and all else tested, demand 3 is false. So an edit that drops one of them breaks the theorem
-- itself, though the edit stands in the job's crate and is refused there. Assumes nothing.
use Prim.Native.Nat.{ℕ, zero, suc}
use native.Mathlib.Omega.{arith}
use mathlib.Core.Path.{◌≡◌, refl, ap}
use mathlib.Core.List.{List, [], ◌∷◌}
use mathlib.Core.Option.{Option, none, some}
use mathlib.Core.Bool.{Bool, true, false, not, ◌&&◌, cond}
use lib.Dec.{T, ltb, eqb, ltb→lt}
use lib.ListN.{length}
use Rattle.reg_matrix.specs.Lists.{all}
use Rattle.reg_matrix.specs.Table.{Table}
use Rattle.reg_matrix.proofs.Tests.{both}
use Rattle.job.specs.Model.{Job, zero_weight}
use Rattle.job.specs.Parser.{Parsed, refused, parsed}
use Rattle.job.specs.Load.{Bytes, job_fields, twin, mixed_set, cut_use}
use Rattle.job.proofs.Hex.{hex, hex_from}
use Rattle.allocator.specs.Layout.{stage_limits}
use Rattle.allocator.specs.Calls.{placing, evicting}
use Rattle.allocator.specs.Demand.{TablesAreHolders}
use Rattle.allocator.proofs.Holders.{same_some}
use Rattle.allocator.proofs.Opened.{opened}

abbrev job_of : Parsed Job → Job
job_of (refused n) = record { regs = []; classes = []; fixed = []; virt_regs = []; probe = none; budget = 0 }
job_of (parsed j s) = j

-- the job's length, its fields and their end, as loading tests them ahead of 10, 11 and 12
abbrev Loads : List ℕ → Job → Type 0
Loads bytes j = T (not (ltb 32_768 (length bytes))) × (job_fields bytes ≡ parsed j [])

are_bytes : (s : List ℕ) → T (all (λ b. ltb b 256) s) → Bytes s
unfolding all
are_bytes [] t i = omega arith
are_bytes (b ∷ s) t zero = ltb→lt b 256 (both (ltb b 256) (all (λ b. ltb b 256) s) t).0
are_bytes (b ∷ s) t (suc i) = are_bytes s (both (ltb b 256) (all (λ b. ltb b 256) s) t).1 i

-- ---- 10: registers 0 and 1 are both unit 0, so v 0 in either leaves the same table

twins : List ℕ
twins = hex "0B 02 0100000000000000 0100000000000000 01 020001 0100 20 0100 04000000 08000000 0100"

pub twins_needed :
    ((bytes : List ℕ) (j : Job) → Bytes bytes → Loads bytes j → T (not (mixed_set j) && not (cut_use j)) → TablesAreHolders j)
    → ⊥
unfolding opened twins hex hex_from
twins_needed d =
    let two = ((d twins (job_of (job_fields twins)) (are_bytes twins tt) (tt, refl) tt).decided (placing stage_limits 0 0 zero_weight ∷ []) (placing stage_limits 0 1 zero_weight ∷ [])).0 refl 0 in
    let one : ◌≡◌ {A = ℕ} 0 1 = same_some two in
    omega (arith, one)

-- ---- 12: v 0 ends inside the second fixed use of its own value and covers the first, so evicting it puts the second back though it never left

cut : List ℕ
cut = hex "0F 01 0100000000000000 01 0100 0200 0A 04000000 0100 0A 08000000 0100 0100 20 0100 04000000 09000000 0100"

pub cut_uses_needed :
    ((bytes : List ℕ) (j : Job) → Bytes bytes → Loads bytes j → T (not (twin j) && not (mixed_set j)) → TablesAreHolders j)
    → ⊥
unfolding opened cut hex hex_from
cut_uses_needed d =
    let t = ((d cut (job_of (job_fields cut)) (are_bytes cut tt) (tt, refl) tt).decided (placing stage_limits 0 0 zero_weight ∷ evicting stage_limits 0 ∷ []) []).1 (λ v. given (eqb v 0)) in
    let l : ◌≡◌ {A = ℕ} 3 2 = ap (λ (t : Table). length t) t in
    omega (arith, l)
  where
    -- given, and lost again
    given : (b : Bool) → cond {A = Option ℕ} b none (cond b (some 0) none) ≡ none
    given true = refl
    given false = refl
