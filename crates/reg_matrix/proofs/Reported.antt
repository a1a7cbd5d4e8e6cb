-- Whom a check reports: the holder of an entry of the table. Assumes nothing.
use Prim.Native.Nat.{ℕ, suc}
use native.Mathlib.Omega.{arith}
use mathlib.Core.Path.{◌≡◌, sym, ap}
use mathlib.Core.Logic.{◌⊎◌, inl, inr}
use mathlib.Core.List.Memᴰ
use mathlib.Core.List.{List, [], ◌∷◌}
use mathlib.Core.Bool.{Bool, true, false, not, ◌&&◌, cond}
use lib.Dec.{eqb}
use lib.ListN.{drop}
use Rattle.reg_matrix.specs.Lists.{filter, concat_map}
use Rattle.reg_matrix.specs.Table.{Table, units_of, fixed_uses, on_unit}
use Rattle.reg_matrix.specs.Check.{overlaps, own_use, shared_part, whole_use, uses_under, reports_of, counts, check_on, check}
use Rattle.reg_matrix.specs.declared.ValueSegment.{ValueSegment}
use Rattle.reg_matrix.specs.declared.Entry.{Entry}
use Rattle.std.specs.Prelude.{Option, Some, None}
use Rattle.reg_matrix.specs.declared.Reservation.{Reservation}
use Rattle.reg_matrix.specs.declared.Reservation.TheVariants.{Held, FixedUse, FixedDef}
use Rattle.reg_matrix.specs.declared.Interference.{Interference}
use Rattle.reg_matrix.specs.declared.InterferenceKind.{InterferenceKind}
use Rattle.reg_matrix.specs.declared.InterferenceKind.TheVariants.{VirtReg, Fixed}
use Rattle.reg_matrix.proofs.Members.{◌∈◌, filter_out, concat_out, on_unit_out}

-- among the entries es, w holds one
pub record HeldAmong (es : List Entry) (w : ℕ) : Type 0 where
  pub entry : Entry
  pub there : entry ∈ es
  pub index : Option ℕ
  pub held : entry.reservation ≡ Held w index

abbrev IsHeld : Reservation → ℕ → Type 0
IsHeld k w = (i : Option ℕ) × (k ≡ Held w i)

-- a report of a held entry itself, and one of a fixed use
same_number : (k : InterferenceKind) (v w : ℕ) (i : Option ℕ) → k ≡ VirtReg v → k ≡ VirtReg w → Held v i ≡ Held w i
same_number k v w i p q = let e : v ≡ w = cc in ap (λ (x : ℕ). Held x i) e

not_fixed : (k : InterferenceKind) (w : ℕ) → k ≡ Fixed → k ≡ VirtReg w → ⊥
not_fixed k w p q = let z : ◌≡◌ {A = ℕ} 0 1 = cc in omega arith

module _ (us : List Entry) (n : ℕ) (s : ValueSegment) (e : Entry) (x : Interference) (w : ℕ) (q : x.kind ≡ VirtReg w) where
  own : (v : ℕ) (i : Option ℕ) → x ≡ shared_part n s e (VirtReg v) → IsHeld (Held v i) w
  own v i p = (i, same_number x.kind v w i (ap (λ (y : Interference). y.kind) p) q)

  one_fixed : (k : Reservation) → x ∈ shared_part n s e Fixed ∷ [] → IsHeld k w
  one_fixed k m = absurd (not_fixed x.kind w (ap (λ (y : Interference). y.kind) (Memᴰ.eq_of_singleton m)) q)

  of_entry : (k : Reservation) → x ∈ reports_of us n s e k → IsHeld k w
  unfolding reports_of uses_under
  of_entry (Held v None) m = own v None (Memᴰ.eq_of_singleton m)
  of_entry (Held v (Some i)) (Memᴰ.head p) = own v (Some i) p
  of_entry (Held v (Some i)) (Memᴰ.tail m) =
      let f = Memᴰ.of_map (whole_use n) (filter (λ (f : Entry). overlaps s f && not (own_use s f.reservation)) (drop i us)) m in
      absurd (not_fixed x.kind w (ap (λ (y : Interference). y.kind) (sym f.2)) q)
  of_entry (FixedUse y) m = go (eqb y s.value) m
    where
      go : (b : Bool) → x ∈ cond b [] (shared_part n s e Fixed ∷ []) → IsHeld (FixedUse y) w
      go true l = elim l [ ]
      go false l = one_fixed (FixedUse y) l
  of_entry FixedDef m = one_fixed FixedDef m

on_unit_lem :
    (full : Bool) (us es : List Entry) (n : ℕ) (earlier ss : List ValueSegment) (x : Interference) (w : ℕ)
    → x.kind ≡ VirtReg w
    → x ∈ check_on full us es n earlier ss
    → HeldAmong es w
unfolding check_on
on_unit_lem full us es n earlier [] x w q m = elim m [ ]
on_unit_lem full us es n earlier (s ∷ ss) x w q m =
    go (Memᴰ.append_cases (concat_map reports (filter meets es)) m) (λ l. on_unit_lem full us es (suc n) (s ∷ earlier) ss x w q l)
  where
    reports : Entry → List Interference
    reports e = reports_of us n s e e.reservation

    meets : Entry → Bool
    meets e = overlaps s e && counts full earlier e

    go : (x ∈ concat_map reports (filter meets es)) ⊎ (x ∈ check_on full us es (suc n) (s ∷ earlier) ss) → (x ∈ check_on full us es (suc n) (s ∷ earlier) ss → HeldAmong es w) → HeldAmong es w
    go (inl l) ih =
        let k = concat_out reports (filter meets es) l in
        let h = of_entry us n s k.0 x w q k.0.reservation k.2 in
        record { entry = k.0; there = (filter_out meets es k.1).1; index = h.0; held = h.1 }
    go (inr l) ih = ih l

pub reported_held : (full : Bool) (fixed : List Entry) (t : Table) (m : ℕ) (ss : List ValueSegment) (x : Interference) (w : ℕ) → x.kind ≡ VirtReg w → x ∈ check full fixed t m ss → HeldAmong t w
unfolding check
reported_held full fixed t m ss x w q l =
    let k = concat_out (λ (u : ℕ). check_on full (fixed_uses fixed u) (on_unit u t) 0 [] ss) (units_of m) l in
    let h = on_unit_lem full (fixed_uses fixed k.0) (on_unit k.0 t) 0 [] ss x w q k.2 in
    record { entry = h.entry; there = (on_unit_out k.0 t h.entry h.there).0; index = h.index; held = h.held }
