-- Placing and evicting on lent numbers, in the shape of the code: `uses` are the numbers of the fixed uses, u a unit, v a virtual register.
-- The laws in proofs/ tie these to Assign.antt. Assumes nothing.
use Rattle.std.specs.Prelude.{ℕ, zero, suc, ◌+◌, ◌-◌, ◌*◌, ◌/◌, ◌%◌, ◌^◌, ◌≡◌, List, [], ◌∷◌, Bool, Result, cond, ◌&&◌, ltb, leb, eqb, length, drop, get_or}
use Rattle.std.proofs.Math.Option.{Option, none, some}
use Rattle.reg_matrix.specs.Lists.{foldl}
use Rattle.reg_matrix.specs.Table.{units_of}
use Rattle.reg_matrix.specs.Refusals.{refusal, ◌if◌, short_buffer}
use Rattle.reg_matrix.specs.Layout.{max_entries, max_fixed}
use Rattle.table_words.specs.Search.{place_of}
use Rattle.reg_matrix.specs.declared.Refusal.{Refusal}
use Rattle.reg_matrix.specs.Refused.{refusal_in}
use Rattle.entries.specs.Moves.{Words, inserting, removing, removing_run}

-- the fixed uses of lower units have lower numbers, and so have the unit's that start before p
abbrev pub unit_key : ℕ → ℕ
unit_key u = u * 2 ^ 48

abbrev pub use_key : ℕ → ℕ → ℕ
use_key u p = unit_key u + p * 2 ^ 16

-- the place of the first fixed use that does not start before p, among those of the unit
unfoldable pub uses_before : List ℕ → ℕ → ℕ → ℕ
uses_before uses u p = place_of max_fixed uses (use_key u p) - place_of max_fixed uses (unit_key u)

-- ---- placing

-- the part of an entry's number that is its index: none if the run from lo to hi is empty
unfoldable pub index_part : List ℕ → ℕ → ℕ → ℕ → ℕ → ℕ
index_part uses u p lo hi = cond (ltb lo hi) (uses_before uses u p + 1) 0

abbrev pub held_word : ℕ → ℕ → ℕ → ℕ
held_word v from index = from * 2 ^ 32 + (v + 2) * 2 ^ 16 + index

unfoldable pub assigning_segment : List ℕ → ℕ → ℕ → Words → ℕ → ℕ → Words
assigning_segment uses v u w from to =
    let lo = place_of max_entries w.ends (u * 2 ^ 32 + from + 1) in
    let hi = place_of max_entries w.ends (u * 2 ^ 32 + to + 1) in
    inserting (u * 2 ^ 32 + to) (held_word v from (index_part uses u from lo hi)) (removing_run (hi - lo) lo w)

unfoldable pub assigning_unit : List ℕ → ℕ → ℕ → List ℕ → List ℕ → Words → Words
assigning_unit uses v u [] tos w = w
assigning_unit uses v u (from ∷ froms) tos w = assigning_unit uses v u froms (drop 1 tos) (assigning_segment uses v u w from (get_or tos 0 0))

unfoldable pub assigning : List ℕ → ℕ → ℕ → List ℕ → List ℕ → Words → Words
assigning uses v m froms tos w = foldl (λ w u. assigning_unit uses v u froms tos w) w (units_of m)

-- ---- evicting

-- the entry at `place` ends at `end` and is v's
unfoldable pub is_own : ℕ → ℕ → ℕ → Words → Bool
is_own v end place w =
    ltb place max_entries && (eqb (get_or w.ends place 0) end && eqb (get_or w.rests place 0 % 2 ^ 32 / 2 ^ 16) (v + 2))

-- the fixed use of this number goes in
unfoldable pub inserting_use : ℕ → Words → Words
inserting_use x w =
    inserting (x / 2 ^ 48 * 2 ^ 32 + (x / 2 ^ 16 % 2 ^ 32 + 2)) (x / 2 ^ 16 % 2 ^ 32 * 2 ^ 32 + (x % 2 ^ 16 + 1)) w

-- k fixed uses from number j on go in
unfoldable pub inserting_uses : ℕ → ℕ → List ℕ → Words → Words
inserting_uses zero j uses w = w
inserting_uses (suc k) j uses w = inserting_uses k (j + 1) uses (inserting_use (get_or uses j 0) w)

-- the number of the first fixed use under an entry of this index part; `last` if there is none
unfoldable pub first_under : List ℕ → ℕ → ℕ → ℕ → ℕ
first_under uses u index last = cond (eqb index 0) last (place_of max_fixed uses (unit_key u) + (index - 1))

unfoldable pub evicting_segment : List ℕ → ℕ → ℕ → Words → ℕ → Words
evicting_segment uses v u w to =
    let place = place_of max_entries w.ends (u * 2 ^ 32 + to) in
    let last = place_of max_fixed uses (use_key u to) in
    let j = first_under uses u (get_or w.rests place 0 % 2 ^ 16) last in
    cond (is_own v (u * 2 ^ 32 + to) place w) (inserting_uses (last - j) j uses (removing place w)) w

unfoldable pub evicting_unit : List ℕ → ℕ → ℕ → List ℕ → Words → Words
evicting_unit uses v u tos w = foldl (evicting_segment uses v u) w tos

unfoldable pub evicting : List ℕ → ℕ → ℕ → List ℕ → Words → Words
evicting uses v m tos w = foldl (λ w u. evicting_unit uses v u tos w) w (units_of m)

-- ---- what placing and evicting answer (document 01, "Order": direct calls test 15, then 8)

-- the sizes of the table's two buffers, of the fixed uses, and of the ends of n segments
abbrev pub move_limits : ℕ → List ℕ
move_limits n = max_entries ∷ max_entries ∷ max_fixed ∷ n ∷ []

unfoldable pub move_refusal : List ℕ → ℕ → ℕ → Option ℕ
move_refusal lent n v = refusal (15 if short_buffer (move_limits n) lent ∷ 8 if leb 512 v ∷ [])

abbrev pub sizes : Words → List ℕ → List ℕ → List ℕ
sizes w uses tos = length w.ends ∷ length w.rests ∷ length uses ∷ length tos ∷ []

-- a refusal changes nothing
abbrev pub unless_refused : Option ℕ → Words → Words → Words
unless_refused none after w = after
unless_refused (some n) after w = w

-- What `assign` promises of any numbers: its answer, and all that is in the table's two slices afterwards.
pub record Assigned (v m : ℕ) (uses froms tos : List ℕ) (w w' : Words) (r : Result (Unit {0}) Refusal) : Type 0 where
  pub answer : refusal_in r ≡ move_refusal (sizes w uses tos) (length froms) v
  pub after : w' ≡ unless_refused (move_refusal (sizes w uses tos) (length froms) v) (assigning uses v m froms tos w) w

-- the same of `evict`
pub record Evicted (v m : ℕ) (uses tos : List ℕ) (w w' : Words) (r : Result (Unit {0}) Refusal) : Type 0 where
  pub answer : refusal_in r ≡ move_refusal (sizes w uses tos) (length tos) v
  pub after : w' ≡ unless_refused (move_refusal (sizes w uses tos) (length tos) v) (evicting uses v m tos w) w
