-- What the box needs: after every list of calls no two virtual registers that hold registers with a common unit are live at a common point, and
-- none overlaps a fixed reservation of a unit of its register, except fixed uses of its own value. Assumes nothing.
use Prim.Native.Nat.{ℕ, ◌<◌}
use native.Mathlib.Omega.{arith}
use mathlib.Core.Path.{◌≡◌, refl, ap, ◌∙◌}
use mathlib.Core.Logic.{inl, inr}
use mathlib.Core.Option.{none, some}
use lib.Dec.{T, eqb→eq}
use Rattle.reg_matrix.specs.Check.{own_use}
use Rattle.reg_matrix.specs.declared.ValueSegment.{ValueSegment}
use Rattle.reg_matrix.specs.declared.Entry.{Entry}
use Rattle.reg_matrix.specs.declared.Reservation.{Reservation}
use Rattle.reg_matrix.specs.declared.Reservation.TheVariants.{Held, FixedUse, FixedDef}
use Rattle.reg_matrix.proofs.Members.{◌∈◌}
use Rattle.reg_matrix.proofs.Cells.{Disjoint, Free, →overlaps}
use Rattle.reg_matrix.proofs.Whole.{cell_of}
use Rattle.job.specs.Model.{Job, segments_of}
use Rattle.job.proofs.Premises.{Premises}
use Rattle.allocator.specs.State.{State}
use Rattle.allocator.specs.Calls.{after_all}
use Rattle.allocator.specs.Holding.{Holding, but, holds}
use Rattle.allocator.specs.Corollaries.{HasUnit, LiveAt, NeverShared, NeverSharedAfter}
use Rattle.allocator.proofs.Holders.{but_other, cells_of, cell_in, free_beside}
use Rattle.allocator.proofs.Agrees.{Agrees, holder_known}
use Rattle.allocator.proofs.Runs.{after_agrees}
use Rattle.allocator.proofs.Rebuilt.{named_known}
use Rattle.allocator.proofs.Loading.{stage_premises}

module _ (j : Job) (p : Premises j) (s : State) (h : Holding) (a : Agrees j s h) where
  -- a segment of a holder, on a unit that it has, is free beside what all others have
  segment_free : (v u : ℕ) → HasUnit j h v u → (x : ValueSegment) → x ∈ segments_of j v → Free j.fixed (cells_of j (but h v none)) (cell_of v u x)
  segment_free v u k x m = free_beside j p h s.table a.table v k.reg (holder_known j s h a v k.reg k.holds).0 k.holds u k.unit x m

  units_apart : (v w u : ℕ) → (v ≡ w → ⊥) → HasUnit j h v u → HasUnit j h w u → (x y : ValueSegment) → x ∈ segments_of j v → y ∈ segments_of j w → Disjoint x y
  units_apart v w u d k l x y m n =
      (segment_free w u l y n).alone (cell_of v u x)
      (cell_in j (but h w none) (cell_of v u x)
      (record {
        reg = k.reg;
        holds = but_other h w none v d ∙ k.holds;
        known = (holder_known j s h a v k.reg k.holds).0;
        unit = k.unit;
        segment = m;
      }))
      refl

  units_once : (v w u : ℕ) → (v ≡ w → ⊥) → HasUnit j h v u → HasUnit j h w u → (x : ℕ) → LiveAt j v x → LiveAt j w x → ⊥
  units_once v w u d k l x y z = go (units_apart v w u d k l y.segment z.segment y.among z.among)
    where
      go : Disjoint y.segment z.segment → ⊥
      go (inl b) = omega (arith, y.ends, z.starts)
      go (inr b) = omega (arith, z.ends, y.starts)

  registers_once : (v w r : ℕ) → (v ≡ w → ⊥) → h v ≡ some r → h w ≡ some r → (x : ℕ) → LiveAt j v x → LiveAt j w x → ⊥
  registers_once v w r d k l =
      let i = holder_known j s h a v r k in
      let u = p.a_unit r (named_known j p v r i.0 i.1) in
      units_once v w u.0 d (record { reg = r; holds = k; unit = u.1 }) (record { reg = r; holds = l; unit = u.1 })

  own_uses : (v u : ℕ) → HasUnit j h v u → (e : Entry) → e ∈ j.fixed → e.unit ≡ u → (x : ValueSegment) → x ∈ segments_of j v → e.from < x.to → x.from < e.to → e.reservation ≡ FixedUse x.value
  own_uses v u k e f q x m b c = go e.reservation ((segment_free v u k x m).owns e f q (→overlaps x e b c))
    where
      go : (r : Reservation) → T (own_use x r) → r ≡ FixedUse x.value
      go (Held w i) t = absurd t
      go (FixedUse y) t = ap (λ (n : ℕ). FixedUse n) (eqb→eq y x.value t)
      go FixedDef t = absurd t

  pub never_shared_by : NeverShared j h
  never_shared_by = record { units_apart = units_apart; units_once = units_once; registers_once = registers_once; own_uses = own_uses }

pub never_shared : NeverSharedAfter
never_shared lent bytes j b e cs =
    let p = stage_premises lent bytes j b e in
    never_shared_by j p (after_all j cs) (holds j cs) (after_agrees j p cs)
