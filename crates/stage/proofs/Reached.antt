-- On a state that calls reach (`Good`: see the allocator's proofs), the laws of the matrix have their premises: what the code finds in lent numbers
-- is what the rules say of the state. Assumes nothing.
use Prim.Native.Nat.{ℕ, ◌+◌, ◌^◌, ◌<◌, ◌≤◌}
use native.Mathlib.Omega.{arith}
use mathlib.Core.Path.{◌≡◌, refl, sym, ap, ◌∙◌, subst}
use mathlib.Core.Logic.{◌⊎◌, inl, inr}
use mathlib.Core.List.Memᴰ
use mathlib.Core.List.{List, [], ◌∷◌, ◌++◌, map}
use mathlib.Core.Option.{none}
use mathlib.Core.Bool.{Bool, false}
use lib.ListN.{length, get_or, length-map, get_or-eq_default}
use lib.Seq.{take_at}
use Rattle.reg_matrix.specs.Refusals.{ranges_refusal}
use Rattle.reg_matrix.specs.Check.{check}
use Rattle.reg_matrix.specs.Layout.{max_entries, max_fixed, greatest, end_word, rest_word, use_word, end_words, rest_words, use_words}
use Rattle.reg_matrix.specs.declared.ValueSegment.{ValueSegment}
use Rattle.reg_matrix.proofs.Tests.{less_equal_greater}
use Rattle.reg_matrix.proofs.Members.{◌∈◌, units_of_out}
use Rattle.reg_matrix.proofs.Places.{padded_length}
use Rattle.reg_matrix.proofs.Cells.{Cell}
use Rattle.reg_matrix.proofs.Laws.{table_size}
use Rattle.table_words.specs.Segments.{segments_in}
use Rattle.matrix.specs.Walk.{Lent, entered, remaining}
use Rattle.table_words.proofs.RangeLaws.{passed_ranges, segments_back}
use Rattle.placing.proofs.Reading.{Holds, Walkable}
use Rattle.placing.proofs.Lying.{AllSmall, all_uses}
use Rattle.placing.proofs.Moving.{SmallCells, SmallPoints}
use Rattle.placing.proofs.Reserved.{uses_few}
use Rattle.placing.proofs.CheckLaw.{matrix_walkable, reached_walk}
use Rattle.job.specs.Model.{Job, segments_of, unit_map}
use Rattle.job.proofs.Premises.{IsNumber}
use Rattle.allocator.specs.State.{State, check_of}
use Rattle.allocator.proofs.Holders.{cells_of, cell_out}
use Rattle.allocator.proofs.Capacity.{few_cells}
use Rattle.allocator.proofs.Good.{Good}
use Rattle.stage.specs.AllocateWalk.{reports_on}

-- ---- the premises of the matrix's laws

module _ (j : Job) (s : State) (g : Good j s) where
  -- the cells of those who hold a register
  abbrev pub held_cells : List Cell
  held_cells = cells_of j g.holding

  pub small_fixed : AllSmall j.fixed
  small_fixed = g.premises.small_fixed

  pub small_held : SmallCells held_cells
  small_held c m =
      let o = cell_out j g.holding c m in
      let b = g.premises.small_segments c.v o.known c.s o.segment in
      record { unit = (units_of_out (unit_map j o.reg) c.u o.unit).1; from = b.from; to = b.to }

  -- a holder's number and the two reserved words before it fit into 16 bits
  pub small_holders : (c : Cell) → c ∈ held_cells → c.v + 2 < 2 ^ 16
  small_holders c m = omega (arith, (cell_out j g.holding c m).known, g.premises.few_numbers)

  -- reservations and cells together are no more than the table's places
  pub cells_fit : length j.fixed + length held_cells ≤ max_entries
  cells_fit = omega (arith, few_cells j g.premises s g.holding g.agrees, g.premises.few_fixed)

  pub entries_fit : length s.table ≤ max_entries
  entries_fit = omega (arith, cells_fit, table_size j.fixed g.premises.sound held_cells s.table g.agrees.table)

  pub uses_fit : length (all_uses j.fixed) ≤ max_fixed
  uses_fit = omega (arith, uses_few j.fixed, g.premises.few_fixed)

  -- a check walks over it
  pub walkable : Walkable j.fixed s.table
  walkable =
      matrix_walkable j.fixed g.premises.sound held_cells s.table g.agrees.table g.premises.few_fixed cells_fit small_fixed small_held
      small_holders

  -- a register's map of units is one of 64 bits, and an unknown register's is empty
  pub small_map : (r : ℕ) → unit_map j r < 2 ^ 64
  small_map r = go (less_equal_greater r (length j.regs))
    where
      past : length j.regs ≤ r → unit_map j r < 2 ^ 64
      past h = rw (get_or-eq_default j.regs 0 h) (omega arith)

      go : (r < length j.regs) ⊎ ((r ≡ length j.regs) ⊎ (length j.regs < r)) → unit_map j r < 2 ^ 64
      go (inl h) = g.premises.small_maps r h
      go (inr (inl h)) = past (omega arith)
      go (inr (inr h)) = past (omega arith)

  module _ (v : ℕ) (b : IsNumber j v) where
    pub small_points : SmallPoints (segments_of j v)
    small_points x m = let k = g.premises.small_segments v b x m in (k.from, k.to)

    -- no test refuses its segments
    pub ranges_good : ranges_refusal 0 (segments_of j v) ≡ none
    ranges_good =
        passed_ranges 0 (segments_of j v)
        (record { nonempty = (g.premises.segments v b).nonempty; rising = (g.premises.segments v b).rising; behind = λ x m. omega arith })
        (g.premises.slots v b)

    pub first_small : get_or (map (λ s. s.from) (segments_of j v)) 0 0 < 2 ^ 32
    first_small = go (segments_of j v) small_points
      where
        go : (ss : List ValueSegment) → SmallPoints ss → get_or (map (λ s. s.from) ss) 0 0 < 2 ^ 32
        go [] h = omega arith
        go (x ∷ xs) h = (h x (Memᴰ.head refl)).0

-- ---- what is lent

-- What is lent to a check holds the table, the fixed uses and the segments of v; whatever is lent behind the first three.
pub record LaidOut (j : Job) (s : State) (v : ℕ) (W : Lent) : Type 0 where
  pub ends_behind : List ℕ
  pub rests_behind : List ℕ
  pub uses_behind : List ℕ
  pub ends : W.ends ≡ end_words s.table ++ ends_behind
  pub rests : W.rests ≡ rest_words s.table ++ rests_behind
  pub uses : W.uses ≡ use_words j.fixed ++ uses_behind
  pub froms : W.froms ≡ map (λ s. s.from) (segments_of j v)
  pub tos : W.tos ≡ map (λ s. s.to) (segments_of j v)
  pub values : W.values ≡ map (λ s. s.value) (segments_of j v)

module _ (j : Job) (s : State) (g : Good j s) (W : Lent) (et rt ut : List ℕ)
    (ends : W.ends ≡ end_words s.table ++ et) (rests : W.rests ≡ rest_words s.table ++ rt) (uses : W.uses ≡ use_words j.fixed ++ ut) where
  holds : Holds j.fixed s.table W
  unfolding end_words rest_words use_words
  holds =
      let ends_long = padded_length max_entries greatest (map end_word s.table) (simp length-map (entries_fit j s g)) in
      let rests_long = padded_length max_entries 0 (map rest_word s.table) (simp length-map (entries_fit j s g)) in
      let uses-long = padded_length max_fixed greatest (map use_word (all_uses j.fixed)) (simp length-map (uses_fit j s g)) in
      record {
        ends = rw ends (take_at (end_words s.table) et max_entries ends_long);
        rests = rw rests (take_at (rest_words s.table) rt max_entries rests_long);
        uses = rw uses (take_at (use_words j.fixed) ut max_fixed uses-long);
      }

  -- a check asked of any segments that no test refuses, in either form: the walk over what is lent reports what the check lists
  pub asked_reports :
      (full : Bool) (r : ℕ)
      → get_or W.froms 0 0 < 2 ^ 32
      → ranges_refusal 0 (segments_in W.froms W.tos W.values) ≡ none
      → remaining W (entered W.ends W.froms (unit_map j r) full)
      ≡ check full j.fixed s.table (unit_map j r) (segments_in W.froms W.tos W.values)
  asked_reports full r f q =
      reached_walk j.fixed g.premises.sound (held_cells j s g) s.table g.agrees.table g.premises.few_fixed (cells_fit j s g)
      (small_fixed j s g) (small_held j s g) (small_holders j s g) W holds full (unit_map j r) (small_map j s g r) f q

-- the walk over what is lent reports what the check of v's segments lists
pub reports_are :
    (j : Job) (s : State)
    → Good j s
    → (v : ℕ)
    → IsNumber j v
    → (W : Lent)
    → LaidOut j s v W
    → (r : ℕ)
    → reports_on W (unit_map j r) ≡ check_of j s v r
unfolding reports_on check_of
reports_are j s g v b W L r =
    asked_reports j s g W L.ends_behind L.rests_behind L.uses_behind L.ends L.rests L.uses false r
    (subst (λ (l : List ℕ). get_or l 0 0 < 2 ^ 32) (sym L.froms) (first_small j s g v b))
    (ap (ranges_refusal 0) same ∙ ranges_good j s g v b)
    ∙ ap (check false j.fixed s.table (unit_map j r)) same
  where
    same : segments_in W.froms W.tos W.values ≡ segments_of j v
    same = rw (L.froms, L.tos, L.values) (segments_back (segments_of j v))
