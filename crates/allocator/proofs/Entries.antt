-- The numbers in the table's entries: units below 64, points below 2^32, values below 2^16, holders and fixed indices below 512. So an entry's
-- printed numbers have at most 20 digits. Assumes nothing.
use Prim.Native.Nat.{ℕ, ◌<◌, ◌^◌}
use native.Mathlib.Omega.{arith}
use mathlib.Core.Path.{◌≡◌, refl, sym, subst}
use mathlib.Core.Logic.{◌⊎◌, inl, inr}
use Rattle.reg_matrix.specs.Layout.{use_value}
use Rattle.reg_matrix.specs.Assign.{fixed_index}
use Rattle.reg_matrix.specs.declared.Entry.{Entry}
use Rattle.reg_matrix.specs.declared.Reservation.{Reservation}
use Rattle.reg_matrix.specs.declared.Reservation.TheVariants.{Held, FixedUse, FixedDef}
use Rattle.std.specs.Prelude.{Option, Some, None}
use Rattle.reg_matrix.proofs.Members.{◌∈◌, units_of_out}
use Rattle.reg_matrix.proofs.Chains.{not_held}
use Rattle.reg_matrix.proofs.Cells.{Cell}
use Rattle.reg_matrix.proofs.Capacity.{OfCell}
use Rattle.reg_matrix.proofs.Laws.{entry_source, index_size}
use Rattle.job.specs.Model.{Job, unit_map}
use Rattle.job.proofs.Premises.{Premises}
use Rattle.allocator.specs.State.{State}
use Rattle.allocator.specs.Holding.{Holding}
use Rattle.allocator.proofs.Holders.{cells_of, cell_out}
use Rattle.allocator.proofs.Agrees.{Agrees}
use Rattle.allocator.proofs.PrintedLines.{Short, ShortIndex, ShortReservation}

abbrev pub SmallIndex : Option ℕ → Type 0
SmallIndex None = Unit {0}
SmallIndex (Some i) = i < 512

abbrev pub SmallReservation : Reservation → Type 0
SmallReservation (Held v i) = (v < 512) × SmallIndex i
SmallReservation (FixedUse x) = x < 2 ^ 16
SmallReservation FixedDef = Unit {0}

pub record Bounded (e : Entry) : Type 0 where
  pub unit : e.unit < 64
  pub from : e.from < 2 ^ 32
  pub to : e.to < 2 ^ 32
  pub reservation : SmallReservation e.reservation

module _ (j : Job) (p : Premises j) (s : State) (h : Holding) (a : Agrees j s h) where
  pub entry_bounded : (e : Entry) → e ∈ s.table → Bounded e
  entry_bounded e m = go (entry_source j.fixed p.sound (cells_of j h) s.table a.table e m)
    where
      fixed_small : e ∈ j.fixed → (r : Reservation) → e.reservation ≡ r → use_value r < 2 ^ 16 → SmallReservation r
      fixed_small f (Held v i) q b = absurd (not_held j.fixed p.sound e f v i q)
      fixed_small f (FixedUse x) q b = b
      fixed_small f FixedDef q b = tt

      index_small : (v : ℕ) (i : Option ℕ) → e.reservation ≡ Held v i → SmallIndex i
      index_small v None q = tt
      index_small v (Some i) q = omega (arith, (index_size j.fixed p.sound (cells_of j h) s.table a.table e m v i q).1, p.few_fixed)

      go : (e ∈ j.fixed) ⊎ ((c : Cell) × OfCell j.fixed (cells_of j h) e c) → Bounded e
      go (inl f) =
          let b = p.small_fixed e f in
          record { unit = b.unit; from = b.from; to = b.to; reservation = fixed_small f e.reservation refl b.value }
      go (inr k) =
          let c = k.0 in
          let o = cell_out j h c k.1.among in
          let b = p.small_segments c.v o.known c.s o.segment in
          record {
            unit = omega (arith, k.1.unit_is, (units_of_out (unit_map j o.reg) c.u o.unit).1);
            from = omega (arith, k.1.from_is, b.from);
            to = omega (arith, k.1.to_is, b.to);
            reservation =
                subst (λ (r : Reservation). SmallReservation r) (sym k.1.held_is)
                (omega (arith, o.known, p.few_numbers), index_small c.v (fixed_index j.fixed c.u c.s j.fixed) k.1.held_is);
          }

  -- the numbers of its line are printed whole
  pub entry_short : (e : Entry) → e ∈ s.table → Short e
  entry_short e m =
      let b = entry_bounded e m in
      record { unit = omega (arith, b.unit); from = omega (arith, b.from); to = omega (arith, b.to); reservation = go e.reservation b.reservation }
    where
      index : (i : Option ℕ) → SmallIndex i → ShortIndex i
      index None b = tt
      index (Some i) b = omega arith

      go : (r : Reservation) → SmallReservation r → ShortReservation r
      go (Held v i) b = (omega (arith, b.0), index i b.1)
      go (FixedUse x) b = omega arith
      go FixedDef b = tt
