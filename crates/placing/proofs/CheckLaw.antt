-- The check's law: on a table that calls reach, laid out in what is lent, the reports of the whole walk are those that the check lists, in order.
-- Assumes nothing.
use Prim.Native.Nat.{ℕ, zero, suc, ◌+◌, ◌-◌, ◌^◌, ◌<◌, ◌≤◌}
use native.Mathlib.Omega.{arith}
use mathlib.Core.Path.{◌≡◌, refl, sym, ap, ◌∙◌, subst}
use mathlib.Core.Logic.{◌⊎◌, inl, inr}
use mathlib.Core.Option.{none}
use mathlib.Core.List.{List, [], ◌++◌}
use mathlib.Core.Bool.{Bool, true, false}
use lib.Dec.{T, eqb, eqb_refl}
use lib.ListN.{length, get_or}
use lib.Bits.{and_le_r}
use lib.Count.{count_trailing_zeros}
use borrow.Author.Tests.{eqb-true, eqb-false}
use Rattle.reg_matrix.specs.Lists.{concat_map}
use Rattle.reg_matrix.specs.Refusals.{ranges_refusal}
use Rattle.reg_matrix.specs.Table.{Table, fixed_uses, on_unit}
use Rattle.reg_matrix.specs.Check.{check_on, check}
use Rattle.reg_matrix.specs.Assign.{held_by, fixed_index}
use Rattle.reg_matrix.specs.Layout.{max_entries, max_fixed, use_value}
use Rattle.table_words.specs.Segments.{segments_in}
use Rattle.matrix.specs.Walk.{Lent, entered, later_units, step_of, emit, remaining}
use Rattle.reg_matrix.specs.declared.ValueSegment.{ValueSegment}
use Rattle.reg_matrix.specs.declared.Entry.{Entry}
use Rattle.std.specs.Prelude.{Option, Some, None}
use Rattle.reg_matrix.specs.declared.Reservation.{Reservation}
use Rattle.reg_matrix.specs.declared.Reservation.TheVariants.{Held, FixedUse, FixedDef}
use Rattle.reg_matrix.specs.declared.Interference.{Interference}
use Rattle.matrix.specs.declared.Move.TheVariants.{Ends}
use Rattle.reg_matrix.proofs.Members.{◌∈◌}
use Rattle.reg_matrix.proofs.Cells.{Cell}
use Rattle.reg_matrix.proofs.Chains.{Sound}
use Rattle.reg_matrix.proofs.Apart.{entry_nonempty}
use Rattle.reg_matrix.proofs.Capacity.{OfCell}
use Rattle.reg_matrix.proofs.Laws.{Matrix, table_size, entry_source, index_size, unit_chain}
use Rattle.table_words.proofs.RangeLaws.{Passed, ranges_passed}
use Rattle.matrix.proofs.Walks.{remaining_step}
use Rattle.matrix.proofs.UnitMaps.{no_units, first_unit, units_lowest}
use Rattle.table_words.proofs.Decode.{SmallIndex, SmallReservation, Small}
use Rattle.placing.proofs.Reading.{Holds, Walkable}
use Rattle.placing.proofs.Lying.{AllSmall, use_small}
use Rattle.placing.proofs.Moving.{SmallCells}
use Rattle.placing.proofs.Reserved.{uses_few}
use Rattle.placing.proofs.UnitWalk.{unit_start, after, after_last, after_more}

-- ---- no unit, and the lowest unit

at_none : (W : Lent) (full : Bool) → step_of W (entered W.ends W.froms 0 full) ≡ Ends
unfolding step_of entered
at_none W full = refl

no_map : (W : Lent) (full : Bool) → remaining W (entered W.ends W.froms 0 full) ≡ []
no_map W full = remaining_step W (entered W.ends W.froms 0 full) ∙ ap (λ m. emit m (λ d. remaining W d)) (at_none W full)

check_none : (full : Bool) (fixed : List Entry) (t : Table) (ss : List ValueSegment) → check full fixed t 0 ss ≡ []
unfolding check concat_map
check_none full fixed t ss = ap (concat_map (λ u. check_on full (fixed_uses fixed u) (on_unit u t) 0 [] ss)) no_units

check_lowest :
    (full : Bool) (fixed : List Entry) (t : Table) (m : ℕ) (ss : List ValueSegment)
    → 0 < m
    → m < 2 ^ 64
    → check full fixed t m ss ≡ check_on full (fixed_uses fixed (count_trailing_zeros 64 m)) (on_unit (count_trailing_zeros 64 m) t) 0 [] ss ++ check full fixed t (later_units m) ss
unfolding check concat_map
check_lowest full fixed t m ss h l = ap (concat_map (λ u. check_on full (fixed_uses fixed u) (on_unit u t) 0 [] ss)) (units_lowest m h l)

-- ---- the whole walk

module _ (fixed : List Entry) (t : Table) (W : Lent) (L : Holds fixed t W) (P : Walkable fixed t) (full : Bool) (f : get_or W.froms 0 0 < 2 ^ 32) (p : Passed 0 (segments_in W.froms W.tos W.values)) where
  ss : List ValueSegment
  ss = segments_in W.froms W.tos W.values

  walk_map : (q m : ℕ) → m ≤ q → m < 2 ^ 64 → remaining W (entered W.ends W.froms m full) ≡ check full fixed t m ss
  unfolding ss
  walk_map zero zero h l = no_map W full ∙ sym (check_none full fixed t ss)
  walk_map zero (suc m) h l = absurd (omega arith)
  walk_map (suc q) zero h l = no_map W full ∙ sym (check_none full fixed t ss)
  walk_map (suc q) (suc m) h l =
      let less : later_units (suc m) ≤ m = omega (arith, and_le_r (suc m) (suc m - 1)) in
      go (eqb (later_units (suc m)) 0) refl (walk_map q (later_units (suc m)) (omega arith) (omega arith))
    where
      z : suc m ≡ 0 → ⊥
      z e = omega arith

      low : count_trailing_zeros 64 (suc m) < 64
      low = (first_unit (suc m) (omega arith) l).small

      next : List Interference
      next = after fixed t W L P full (suc m) z low

      one : (r : List Interference) → next ≡ r → r ≡ check full fixed t (later_units (suc m)) ss → remaining W (entered W.ends W.froms (suc m) full) ≡ check full fixed t (suc m) ss
      one r a b =
          unit_start fixed t W L P full (suc m) z low f p.rising p.nonempty
          ∙ (ap (λ w. check_on full (fixed_uses fixed (count_trailing_zeros 64 (suc m))) (on_unit (count_trailing_zeros 64 (suc m)) t) 0 [] ss ++ w) (a ∙ b)
          ∙ sym (check_lowest full fixed t (suc m) ss (omega arith) l))

      go :
          (b : Bool)
          → eqb (later_units (suc m)) 0 ≡ b
          → remaining W (entered W.ends W.froms (later_units (suc m)) full) ≡ check full fixed t (later_units (suc m)) ss
          → remaining W (entered W.ends W.froms (suc m) full) ≡ check full fixed t (suc m) ss
      go true e ih =
          let v = eqb-true (later_units (suc m)) 0 e in
          one [] (after_last fixed t W L P full (suc m) z low v) (sym (ap (λ k. check full fixed t k ss) v ∙ check_none full fixed t ss))
      go false e ih = one _ (after_more fixed t W L P full (suc m) z low (eqb-false (later_units (suc m)) 0 e)) ih

-- the reports from the start of a check that no test refuses
pub check_walk :
    (fixed : List Entry) (t : Table) (W : Lent)
    → Holds fixed t W
    → Walkable fixed t
    → (full : Bool) (m : ℕ)
    → m < 2 ^ 64
    → get_or W.froms 0 0 < 2 ^ 32
    → ranges_refusal 0 (segments_in W.froms W.tos W.values) ≡ none
    → remaining W (entered W.ends W.froms m full) ≡ check full fixed t m (segments_in W.froms W.tos W.values)
unfolding ss
check_walk fixed t W L P full m l f q = walk_map fixed t W L P full f (ranges_passed 0 (segments_in W.froms W.tos W.values) q) m m (omega arith) l

-- ---- tables that calls reach

-- the fixed reservations, their uses and the cells held are small as loading tested, and a holder's number fits its field
module _
    (fixed : List Entry) (sd : Sound fixed) (cs : List Cell) (t : Table) (mx : Matrix fixed cs t)
    (a : length fixed ≤ max_fixed) (b : length fixed + length cs ≤ max_entries)
    (sf : AllSmall fixed) (sc : SmallCells cs) (sn : (c : Cell) → c ∈ cs → c.v + 2 < 2 ^ 16)
  where
    small_index : (j : Option ℕ) → ((i : ℕ) → j ≡ Some i → i < length fixed) → SmallIndex j
    small_index None h = tt
    small_index (Some i) h = omega (arith, h i refl)

    fixed_small : (r : Reservation) → ((v : ℕ) → T (held_by v r) → ⊥) → use_value r < 2 ^ 16 → SmallReservation r
    fixed_small FixedDef h k = tt
    fixed_small (FixedUse x) h k = k
    fixed_small (Held v i) h k = absurd (h v (eqb_refl v))

    entry_small : (e : Entry) → e ∈ t → Small e
    entry_small e m = go (entry_source fixed sd cs t mx e m)
      where
        go : (e ∈ fixed) ⊎ ((c : Cell) × OfCell fixed cs e c) → Small e
        go (inl f) = let s = sf e f in record { unit = s.unit; from = s.from; to = s.to; reservation = fixed_small e.reservation (sd.free e f) s.value }
        go (inr k) =
            let o = k.1 in
            let s = sc k.0 o.among in
            record {
              unit = omega (arith, o.unit_is, s.unit);
              from = omega (arith, o.from_is, s.from);
              to = omega (arith, o.to_is, s.to);
              reservation =
                  subst SmallReservation (sym o.held_is)
                  (sn k.0 o.among, small_index (fixed_index fixed k.0.u k.0.s fixed) (λ i q. (index_size fixed sd cs t mx e m k.0.v i (o.held_is ∙ ap (Held k.0.v) q)).1));
            }

    pub matrix_walkable : Walkable fixed t
    matrix_walkable =
        record {
          sorted = mx.table.sorted;
          room = omega (arith, table_size fixed sd cs t mx);
          small = entry_small;
          nonempty = entry_nonempty fixed cs t sd mx.table;
          chain = unit_chain fixed sd cs t mx;
          index = λ e m v i q. omega (arith, (index_size fixed sd cs t mx e m v i q).0);
          few_uses = omega (arith, uses_few fixed);
          small_uses = use_small fixed sd sf;
          use_chain = sd.chain;
        }

    -- so on a table that calls reach the reports of the whole walk are those that the check lists
    pub reached_walk :
        (W : Lent)
        → Holds fixed t W
        → (full : Bool) (m : ℕ)
        → m < 2 ^ 64
        → get_or W.froms 0 0 < 2 ^ 32
        → ranges_refusal 0 (segments_in W.froms W.tos W.values) ≡ none
        → remaining W (entered W.ends W.froms m full) ≡ check full fixed t m (segments_in W.froms W.tos W.values)
    reached_walk W L full m l f q = check_walk fixed t W L matrix_walkable full m l f q
