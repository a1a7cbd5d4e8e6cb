-- One step of the walks over segments and of the units of a map from its lowest bit. Assumes nothing.
use Prim.Native.Nat.{ℕ, ◌+◌, ◌%◌, ◌^◌, ◌≤◌, ◌<◌}
use native.Mathlib.Numerals.{add-one}
use native.Mathlib.Omega.{arith}
use mathlib.Core.Path.{◌≡◌, ap, ◌∙◌}
use mathlib.Core.List.{List}
use lib.Count.{count_trailing_zeros}
use lib.ListN.{length, drop, get_or, drop_of_length-le}
use lib.Seq.{drop-cons, drop-drop, get_or-drop}
use Rattle.reg_matrix.specs.Lists.{foldl}
use Rattle.reg_matrix.specs.Table.{units_of}
use Rattle.entries.specs.Moves.{Words}
use Rattle.entries.specs.Placing.{assigning_segment, assigning_unit}
use Rattle.matrix.specs.Walk.{later_units}
use Rattle.matrix.proofs.UnitMaps.{units_lowest, no_units}

-- ---- segments

module _ (uses : List ℕ) (v u : ℕ) (froms tos : List ℕ) (i : ℕ) (w w' : Words) where
  pub unit_more :
      v < 512
      → i < length froms
      → w' ≡ assigning_segment uses (v % 512) u w (get_or froms i 0) (get_or tos i 0)
      → assigning_unit uses v u (drop (i + 1) froms) (drop (i + 1) tos) w' ≡ assigning_unit uses v u (drop i froms) (drop i tos) w
  unfolding assigning_unit
  unit_more l h q =
      let z : i + 0 ≡ i = omega arith in
      let e : get_or (drop i tos) 0 0 ≡ get_or tos i 0 = get_or-drop i tos 0 0 ∙ ap (λ (j : ℕ). get_or tos j 0) z in
      let s : v % 512 ≡ v = omega arith in
      rw (q, s, ← e, ← drop-drop 1 i tos, add-one i, drop-cons froms i 0 h)

  pub unit_end : length froms ≤ i → assigning_unit uses v u (drop i froms) (drop i tos) w ≡ w
  unfolding assigning_unit
  unit_end h = rw (drop_of_length-le froms h)

-- ---- the units of a map

-- one unit of a walk over a map's units
module _ {B : Type 0} (f : B → ℕ → B) (m : ℕ) (b b' : B) where
  pub units_more : 0 < m → m < 2 ^ 64 → b' ≡ f b (count_trailing_zeros 64 m) → foldl f b' (units_of (later_units m)) ≡ foldl f b (units_of m)
  unfolding foldl
  units_more h l q = rw (q, units_lowest m h l)

  pub units_end : m ≤ 0 → foldl f b (units_of m) ≡ b
  unfolding foldl
  units_end h = let e : m ≡ 0 = omega arith in rw (e, no_units)
