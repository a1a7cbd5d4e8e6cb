-- The spare line's loop: what is left from here is the whole. Assumes nothing.
use Prim.Native.Nat.{ℕ, suc, ◌+◌, ◌-◌, ◌≤◌, ◌<◌}
use native.Mathlib.Omega.{arith}
use native.Mathlib.Numerals.{add-one}
use mathlib.Core.Path.{◌≡◌, refl}
use mathlib.Core.List.{[], ◌++◌}
use mathlib.Core.Bool.{Bool, true, false, cond}
use Rattle.std.specs.Prelude.{Result, Ok, Err}
use Rattle.std.specs.Result.{result_unwrap_or}
use Rattle.reg_matrix.specs.declared.Refusal.{Refusal}
use Rattle.reg_matrix.specs.Refused.{numbered}
use Rattle.reg_matrix.specs.Lists.{concat_map, filter, count, keep}
use Rattle.reg_matrix.specs.Lines.{number, sp}
use Rattle.lines.specs.LineTexts.{units_text}

-- ---- the units of the line

module _ (p : ℕ → Bool) where
  pub units_step : (u : ℕ) → u < 64 → units_text p u ≡ cond (p u) (sp (number u)) [] ++ units_text p (u + 1)
  unfolding units_text concat_map filter count
  units_step u h =
      let e : 64 - u ≡ suc (64 - (u + 1)) = omega arith in
      rw (e, add-one u) (go (p u))
    where
      go : (b : Bool)
          → concat_map (λ u. sp (number u)) (keep b u (filter p (count (suc u) (64 - suc u))))
          ≡ cond b (sp (number u)) [] ++ concat_map (λ u. sp (number u)) (filter p (count (suc u) (64 - suc u)))
      go true = refl
      go false = refl

  pub units_end : (u : ℕ) → 64 ≤ u → units_text p u ≡ []
  unfolding units_text concat_map filter count
  units_end u h = let e : 64 - u ≡ 0 = omega arith in rw e

-- ---- whether a unit is spare, by the answer of the question

pub by_answer : (r : Result Bool Refusal) → result_unwrap_or r false ≡ result_unwrap_or (numbered r) false
by_answer (Ok b) = refl
by_answer (Err n) = refl
