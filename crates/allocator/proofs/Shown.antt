-- The table shows who holds what: two states whose tables are the same have the same holders, and the other way round. Assumes nothing.
use Prim.Native.Nat.{ℕ}
use mathlib.Core.Path.{◌≡◌, refl, sym, ap, ◌∙◌, subst, fun_ext}
use mathlib.Core.Option.{Option, none, some}
use lib.Dec.{eqb_refl}
use Rattle.reg_matrix.specs.Table.{Table, units_of}
use Rattle.reg_matrix.specs.declared.ValueSegment.{ValueSegment}
use Rattle.reg_matrix.specs.declared.Entry.{Entry}
use Rattle.reg_matrix.specs.declared.Reservation.{Reservation}
use Rattle.reg_matrix.specs.declared.Reservation.TheVariants.{Held, FixedUse, FixedDef}
use Rattle.reg_matrix.proofs.Members.{◌∈◌}
use Rattle.reg_matrix.proofs.Cells.{Cell, entry_for, Laid, reserved, cell}
use Rattle.reg_matrix.proofs.Whole.{cell_of}
use Rattle.reg_matrix.proofs.Laws.{table_decided}
use Rattle.job.specs.Model.{Job, segments_of, unit_map}
use Rattle.job.proofs.Premises.{Premises, IsNumber, UnitsWithin}
use Rattle.allocator.specs.State.{State}
use Rattle.allocator.specs.Holding.{Holding}
use Rattle.allocator.specs.Corollaries.{HasUnit}
use Rattle.allocator.proofs.Holders.{none_some, same_some, cells_of, cell_in, cell_out, TableOf}
use Rattle.allocator.proofs.Agrees.{Agrees, holder_known}
use Rattle.allocator.proofs.Rebuilt.{named_known}

-- the number in an entry that is held
abbrev number_in : Reservation → ℕ
number_in (Held v i) = v
number_in (FixedUse x) = 0
number_in FixedDef = 0

module _ (j : Job) (p : Premises j) (s t : State) (g h : Holding) (a : Agrees j s g) (b : Agrees j t h) (same : s.table ≡ t.table) where
  -- a unit that v has in the one table it has in the other
  unit_shown : (v r : ℕ) → g v ≡ some r → (u : ℕ) → u ∈ units_of (unit_map j r) → HasUnit j h v u
  unfolding entry_for
  unit_shown v r e u m =
      go (b.table.table.out (entry_for j.fixed c) (subst (λ (x : Table). entry_for j.fixed c ∈ x) same (a.table.table.into (entry_for j.fixed c) (cell c there refl))))
    where
      known : IsNumber j v
      known = (holder_known j s g a v r e).0

      x : (x : ValueSegment) × (x ∈ segments_of j v)
      x = p.a_segment v known

      c : Cell
      c = cell_of v u x.0

      there : c ∈ cells_of j g
      there = cell_in j g c (record { reg = r; holds = e; known = known; unit = m; segment = x.1 })

      go : Laid j.fixed (cells_of j h) (entry_for j.fixed c) → HasUnit j h v u
      go (reserved f w) = absurd (p.sound.free (entry_for j.fixed c) f v (eqb_refl v))
      go (cell d n q) =
          let o = cell_out j h d n in
          record {
            reg = o.reg;
            holds = ap h (ap (λ (y : Entry). number_in y.reservation) q) ∙ o.holds;
            unit = subst (λ (y : ℕ). y ∈ units_of (unit_map j o.reg)) (sym (ap (λ (y : Entry). y.unit) q)) o.unit;
          }

  -- so v holds a register there that has all these units
  reg_shown : (v r : ℕ) → g v ≡ some r → (q : ℕ) × (h v ≡ some q) × UnitsWithin (unit_map j r) (unit_map j q)
  reg_shown v r e = (k.reg, k.holds, all)
    where
      u : (u : ℕ) × (u ∈ units_of (unit_map j r))
      u = let l = holder_known j s g a v r e in p.a_unit r (named_known j p v r l.0 l.1)

      k : HasUnit j h v u.0
      k = unit_shown v r e u.0 u.1

      all : (x : ℕ) → x ∈ units_of (unit_map j r) → x ∈ units_of (unit_map j k.reg)
      all x m = let l = unit_shown v r e x m in subst (λ (y : ℕ). x ∈ units_of (unit_map j y)) (same_some (sym l.holds ∙ k.holds)) l.unit

module _ (j : Job) (p : Premises j) (s t : State) (g h : Holding) (a : Agrees j s g) (b : Agrees j t h) where
  -- the same table: the same holders, as no two registers have the same units
  pub table_shows : s.table ≡ t.table → (v : ℕ) → g v ≡ h v
  table_shows same v = go (g v) (h v) refl refl
    where
      one_reg :
          (r : ℕ)
          → g v ≡ some r
          → (k : (q : ℕ) × (h v ≡ some q) × UnitsWithin (unit_map j r) (unit_map j q))
          → (q : ℕ) × (g v ≡ some q) × UnitsWithin (unit_map j k.0) (unit_map j q)
          → h v ≡ some r
      one_reg r e k l =
          let x = holder_known j t h b v k.0 k.1 in
          let y = holder_known j s g a v r e in
          k.1
          ∙ ap (λ (q : ℕ). some q)
          (p.no_twin k.0 r (named_known j p v k.0 x.0 x.1) (named_known j p v r y.0 y.1)
          (subst (λ (q : ℕ). UnitsWithin (unit_map j k.0) (unit_map j q)) (same_some (sym l.1 ∙ e)) l.2)
          k.2)

      go : (x y : Option ℕ) → g v ≡ x → h v ≡ y → x ≡ y
      go none none d e = refl
      go none (some r) d e = absurd (none_some (sym d ∙ (reg_shown j p t s h g b a (sym same) v r e).1))
      go (some r) y d e =
          let k = reg_shown j p s t g h a b same v r d in
          sym (one_reg r d k (reg_shown j p t s h g b a (sym same) v k.0 k.1)) ∙ e

  -- the same holders: the same table
  pub holders_decide : ((v : ℕ) → g v ≡ h v) → s.table ≡ t.table
  holders_decide e =
      table_decided j.fixed (cells_of j g) (cells_of j g) s.table t.table a.table
      (subst (λ (x : Holding). TableOf j x t.table) (sym (fun_ext e)) b.table) (λ c m. m) (λ c m. m)
