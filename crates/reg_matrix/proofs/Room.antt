-- A check without a fixed report, in either form: with the reported holders away, the register's cells are free. Assumes nothing.
use Prim.Native.Nat.{ℕ, suc, ◌<◌, ◌≤◌}
use native.Mathlib.Omega.{arith}
use mathlib.Core.Path.{◌≡◌, refl, sym, ap, ◌∙◌, subst}
use mathlib.Core.Logic.{◌⊎◌, inl, inr}
use mathlib.Core.List.Memᴰ
use mathlib.Core.List.{List, [], ◌∷◌}
use mathlib.Core.Bool.{Bool, true, false, not, ◌&&◌, ◌||◌, cond}
use lib.Dec.{T, eqb, not_T}
use lib.ListN.{drop}
use Rattle.reg_matrix.specs.Lists.{filter, any, concat_map}
use Rattle.reg_matrix.specs.Table.{Table, units_of, fixed_uses, on_unit}
use Rattle.reg_matrix.specs.Check.{overlaps, indexed, own_use, shared_part, whole_use, uses_under, reports_of, counts, check_on, check}
use Rattle.reg_matrix.specs.Assign.{replaced, first_use, fixed_index}
use Rattle.reg_matrix.specs.declared.ValueSegment.{ValueSegment}
use Rattle.reg_matrix.specs.declared.Entry.{Entry}
use Rattle.std.specs.Prelude.{Option, Some, None}
use Rattle.reg_matrix.specs.declared.Reservation.{Reservation}
use Rattle.reg_matrix.specs.declared.Reservation.TheVariants.{Held, FixedUse, FixedDef}
use Rattle.reg_matrix.specs.declared.Interference.{Interference}
use Rattle.reg_matrix.specs.declared.InterferenceKind.TheVariants.{VirtReg, Fixed}
use Rattle.reg_matrix.proofs.Tests.{both_in, or_left, or_right, passes_or_not, same_test}
use Rattle.reg_matrix.proofs.Members.{◌∈◌, filter_in, any_in, concat_in, on_unit_in, fixed_uses_in}
use Rattle.reg_matrix.proofs.Cells.{Disjoint, Inside, replaced→, overlaps→, →overlaps, Cell, entry_for, cell, IsTable, Among}
use Rattle.reg_matrix.proofs.Chains.{from_first_in, Sound, not_held, uses_nonempty}
use Rattle.reg_matrix.proofs.Whole.{cells, AllFree, Joins, Rising, joins_units}
use Rattle.reg_matrix.proofs.Clear.{Segments, apart_unless, under_or_open}

-- ---- what is reported: us are the fixed uses of a unit, es its entries, and e one of them

module _ (full : Bool) (us es : List Entry) (e : Entry) (m : e ∈ es) where
  -- the list has the reports of the segment s, number n, and e
  abbrev Reported : List Interference → ℕ → ValueSegment → Type 0
  Reported rs n s = (r : Interference) → r ∈ reports_of us n s e e.reservation → r ∈ rs

  abbrev met : List ValueSegment → Bool
  met earlier = any (λ d. overlaps d e) earlier

  -- an entry that counts at a segment is reported there
  here : (n : ℕ) (earlier : List ValueSegment) (s : ValueSegment) → T (overlaps s e) → T (counts full earlier e) → (ss : List ValueSegment) → Reported (check_on full us es n earlier (s ∷ ss)) n s
  unfolding check_on
  here n earlier s o c ss r k =
      Memᴰ.append_left (check_on full us es (suc n) (s ∷ earlier) ss)
      (concat_in (λ (e : Entry). reports_of us n s e e.reservation)
      (filter_in (λ (e : Entry). overlaps s e && counts full earlier e) (both_in (overlaps s e) (counts full earlier e) o c) m)
      k)

  later : (n : ℕ) (earlier : List ValueSegment) (s : ValueSegment) (ss : List ValueSegment) (r : Interference) → r ∈ check_on full us es (suc n) (s ∷ earlier) ss → r ∈ check_on full us es n earlier (s ∷ ss)
  unfolding check_on
  later n earlier s ss r k =
      Memᴰ.append_right
      (concat_map (λ e. reports_of us n s e e.reservation) (filter (λ e. overlaps s e && counts full earlier e) es))
      k

  -- a held entry with an index, at every segment that overlaps it
  each_time : (n : ℕ) (earlier ss : List ValueSegment) → T (indexed e.reservation) → (s : ValueSegment) → s ∈ ss → T (overlaps s e) → (i : ℕ) × Reported (check_on full us es n earlier ss) i s
  each_time n earlier [] x s k o = elim k [ ]
  each_time n earlier (y ∷ ys) x s k o = go k (λ l. each_time (suc n) (y ∷ earlier) ys x s l o)
    where
      go : s ∈ y ∷ ys → (s ∈ ys → (i : ℕ) × Reported (check_on full us es (suc n) (y ∷ earlier) ys) i s) → (i : ℕ) × Reported (check_on full us es n earlier (y ∷ ys)) i s
      go (Memᴰ.head q) ih = (
        n,
        subst (λ (z : ValueSegment). Reported (check_on full us es n earlier (y ∷ ys)) n z) (sym q)
            (here n earlier y (subst (λ (z : ValueSegment). T (overlaps z e)) q o)
            (or_right full (indexed e.reservation || not (met earlier)) (or_left (indexed e.reservation) (not (met earlier)) x))
            ys),
      )
      go (Memᴰ.tail l) ih = let k = ih l in (k.0, λ r a. later n earlier y ys r (k.1 r a))

  -- any entry, at the first segment that overlaps it
  once :
      (n : ℕ) (earlier ss : List ValueSegment)
      → (T (met earlier) → ⊥)
      → (s : ValueSegment)
      → s ∈ ss
      → T (overlaps s e)
      → (y : ValueSegment) × (y ∈ ss) × T (overlaps y e) × ((i : ℕ) × Reported (check_on full us es n earlier ss) i y)
  unfolding any
  once n earlier [] w s k o = elim k [ ]
  once n earlier (y ∷ ys) w s k o = go (overlaps y e) refl k (λ z l. once (suc n) (y ∷ earlier) ys z s l o)
    where
      none_yet : overlaps y e ≡ false → T (overlaps y e || met earlier) → ⊥
      none_yet q h = w (subst (λ (b : Bool). T (b || met earlier)) q h)

      go :
          (b : Bool)
          → overlaps y e ≡ b
          → s ∈ y ∷ ys
          → ((T (met (y ∷ earlier)) → ⊥)
          → s ∈ ys
          → (x : ValueSegment) × (x ∈ ys) × T (overlaps x e) × ((i : ℕ) × Reported (check_on full us es (suc n) (y ∷ earlier) ys) i x))
          → (x : ValueSegment) × (x ∈ y ∷ ys) × T (overlaps x e) × ((i : ℕ) × Reported (check_on full us es n earlier (y ∷ ys)) i x)
      go true q l ih =
          let t : T (overlaps y e) = subst T (sym q) tt in (
            y,
            Memᴰ.head refl,
            t,
            (
              n,
              here n earlier y t
                  (or_right full (indexed e.reservation || not (met earlier)) (or_right (indexed e.reservation) (not (met earlier)) (not_T (met earlier) w)))
                  ys,
            ),
          )
      go false q (Memᴰ.head p) ih = absurd (subst T q (subst (λ (z : ValueSegment). T (overlaps z e)) p o))
      go false q (Memᴰ.tail l) ih =
          let k = ih (none_yet q) l in
          (k.0, Memᴰ.tail k.1, k.2, (k.3.0, λ r a. later n earlier y ys r (k.3.1 r a)))

held_reported : (us : List Entry) (n : ℕ) (s : ValueSegment) (e : Entry) (v : ℕ) (i : Option ℕ) → shared_part n s e (VirtReg v) ∈ reports_of us n s e (Held v i)
unfolding reports_of
held_reported us n s e v None = Memᴰ.head refl
held_reported us n s e v (Some i) = Memᴰ.head refl

use_reported :
    (us : List Entry) (n : ℕ) (s : ValueSegment) (e f : Entry) (v i : ℕ)
    → f ∈ drop i us
    → T (overlaps s f)
    → T (not (own_use s f.reservation))
    → whole_use n f ∈ reports_of us n s e (Held v (Some i))
unfolding reports_of uses_under
use_reported us n s e f v i m o w =
    Memᴰ.tail
    (Memᴰ.map (whole_use n)
    (filter_in (λ (f : Entry). overlaps s f && not (own_use s f.reservation)) (both_in (overlaps s f) (not (own_use s f.reservation)) o w) m))

own_or_fixed : (us : List Entry) (n : ℕ) (s : ValueSegment) (e : Entry) (k : Reservation) → ((v : ℕ) (i : Option ℕ) → k ≡ Held v i → ⊥) → T (own_use s k) ⊎ (shared_part n s e Fixed ∈ reports_of us n s e k)
unfolding reports_of
own_or_fixed us n s e (Held v i) w = absurd (w v i refl)
own_or_fixed us n s e (FixedUse x) w = go (eqb x s.value)
  where
    go : (b : Bool) → T b ⊎ (shared_part n s e Fixed ∈ cond b [] (shared_part n s e Fixed ∷ []))
    go true = inl tt
    go false = inr (Memᴰ.head refl)
own_or_fixed us n s e FixedDef w = inr (Memᴰ.head refl)

-- ---- segments

rising_same : (ss : List ValueSegment) → Rising ss → (y s : ValueSegment) → y ∈ ss → s ∈ ss → (y ≡ s) ⊎ Disjoint y s
rising_same [] r y s m n = elim m [ ]
rising_same (x ∷ xs) r y s m n = go (Memᴰ.cases_cons m) (Memᴰ.cases_cons n) (λ a b. rising_same xs r.1 y s a b)
  where
    go : (y ≡ x) ⊎ (y ∈ xs) → (s ≡ x) ⊎ (s ∈ xs) → (y ∈ xs → s ∈ xs → (y ≡ s) ⊎ Disjoint y s) → (y ≡ s) ⊎ Disjoint y s
    go (inl p) (inl q) ih = inl (p ∙ sym q)
    go (inl p) (inr b) ih = inr (inl (subst (λ (z : ValueSegment). z.to ≤ s.from) (sym p) (r.0 s b)))
    go (inr a) (inl q) ih = inr (inr (subst (λ (z : ValueSegment). z.to ≤ y.from) (sym q) (r.0 y a)))
    go (inr a) (inr b) ih = ih a b

-- ---- room: `left` are the cells that stay, those of no reported holder

module _
    (full : Bool) (fixed : List Entry) (cs : List Cell) (t : Table) (m : ℕ) (ss : List ValueSegment)
    (sd : Sound fixed) (it : IsTable fixed cs t) (g : Segments fixed ss)
    (evictable : (r : Interference) → r ∈ check full fixed t m ss → r.kind ≡ Fixed → ⊥)
    (left : List Cell) (sub : Among left cs)
    (away : (d : Cell) → d ∈ left → (r : Interference) → r ∈ check full fixed t m ss → r.kind ≡ VirtReg d.v → ⊥) where
  abbrev on_u : ℕ → List Interference
  on_u u = check_on full (fixed_uses fixed u) (on_unit u t) 0 [] ss

  in_check : (u : ℕ) → u ∈ units_of m → (r : Interference) → r ∈ on_u u → r ∈ check full fixed t m ss
  unfolding check
  in_check u k r n = concat_in (λ (u : ℕ). on_u u) k n

  nothing_yet : (e : Entry) → T (any (λ (d : ValueSegment). overlaps d e) []) → ⊥
  unfolding any
  nothing_yet e h = h

  entry_in : (d : Cell) → d ∈ cs → entry_for fixed d ∈ on_unit d.u t
  unfolding entry_for
  entry_in d n = on_unit_in d.u t (entry_for fixed d) (it.into (entry_for fixed d) (cell d n refl)) refl

  -- no cell that is left meets the segment
  alone : (u : ℕ) → u ∈ units_of m → (s : ValueSegment) → s ∈ ss → (d : Cell) → d ∈ left → d.u ≡ u → Disjoint d.s s
  unfolding entry_for
  alone u k s l d n q = apart_unless fixed cs t it d s hit
    where
      x : Entry
      x = entry_for fixed d

      hit : T (overlaps s x) → ⊥
      hit o =
          let f = once full (fixed_uses fixed d.u) (on_unit d.u t) x (entry_in d (sub d n)) 0 [] ss (nothing_yet x) s l o in
          away d n (shared_part f.3.0 f.0 x (VirtReg d.v))
          (in_check d.u (subst (λ (z : ℕ). z ∈ units_of m) (sym q) k) _
          (f.3.1 _ (held_reported (fixed_uses fixed d.u) f.3.0 f.0 x d.v (fixed_index fixed d.u d.s fixed))))
          refl

  -- a use under a cell: the cell has an index, and the walk from there meets the use
  under : (u : ℕ) → u ∈ units_of m → (s : ValueSegment) → s ∈ ss → (e : Entry) → e ∈ fixed → e.unit ≡ u → T (overlaps s e) → (d : Cell) → d ∈ cs → T (replaced d.u d.s e) → T (own_use s e.reservation)
  unfolding entry_for fixed_index
  under u k s l e n q o d c r = go (passes_or_not (own_use s e.reservation))
    where
      a : (e.unit ≡ d.u) × Inside d.s e
      a = replaced→ d.u d.s e r

      b : (e.from < s.to) × (s.from < e.to)
      b = overlaps→ s e o

      us : List Entry
      us = fixed_uses fixed d.u

      x : Entry
      x = record { unit = d.u; from = d.s.from; to = d.s.to; reservation = Held d.v (Some (first_use us d.s)) }

      x_is : entry_for fixed d ≡ x
      x_is =
          ap (λ (z : Bool). record { unit = d.u; from = d.s.from; to = d.s.to; reservation = Held d.v (cond z (Some (first_use us d.s)) None) })
          (same_test (any (replaced d.u d.s) fixed) true (λ h. tt) (λ h. any_in (replaced d.u d.s) r n))

      x_in : x ∈ on_unit d.u t
      x_in = subst (λ (z : Entry). z ∈ on_unit d.u t) x_is (entry_in d c)

      x_meets : T (overlaps s x)
      x_meets = →overlaps s x (omega (arith, a.1.after, b.0)) (omega (arith, a.1.ahead, b.1))

      behind : e ∈ drop (first_use us d.s) us
      behind = from_first_in d.s us (uses_nonempty fixed sd d.u) (sd.chain d.u) e (fixed_uses_in fixed d.u e n a.0 a.1.isuse) a.1.after

      go : T (own_use s e.reservation) ⊎ T (not (own_use s e.reservation)) → T (own_use s e.reservation)
      go (inl h) = h
      go (inr h) =
          let f = each_time full us (on_unit d.u t) x x_in 0 [] ss tt s l x_meets in
          absurd
          (evictable (whole_use f.0 e)
          (in_check d.u (subst (λ (z : ℕ). z ∈ units_of m) (sym q ∙ a.0) k) (whole_use f.0 e)
          (f.1 (whole_use f.0 e) (use_reported us f.0 s x e d.v (first_use us d.s) behind o h)))
          refl)

  -- an entry of the table that is no cell's: its first segment owns it, and that is this one
  open_use : (u : ℕ) → u ∈ units_of m → (s : ValueSegment) → s ∈ ss → (e : Entry) → e ∈ fixed → e ∈ on_unit u t → T (overlaps s e) → T (own_use s e.reservation)
  open_use u k s l e n w o = own (own_or_fixed (fixed_uses fixed u) f.3.0 y e e.reservation (not_held fixed sd e n))
    where
      f : (y : ValueSegment) × (y ∈ ss) × T (overlaps y e) × ((i : ℕ) × Reported full (fixed_uses fixed u) (on_unit u t) e w (on_u u) i y)
      f = once full (fixed_uses fixed u) (on_unit u t) e w 0 [] ss (nothing_yet e) s l o

      y : ValueSegment
      y = f.0

      b : (e.from < s.to) × (s.from < e.to)
      b = overlaps→ s e o

      this : T (own_use y e.reservation) → Inside y e → (y ≡ s) ⊎ Disjoint y s → T (own_use s e.reservation)
      this h i (inl q) = subst (λ (z : ValueSegment). T (own_use z e.reservation)) q h
      this w i (inr (inl h)) = absurd (omega (arith, i.ahead, b.1))
      this w i (inr (inr h)) = absurd (omega (arith, i.after, b.0))

      own : T (own_use y e.reservation) ⊎ (shared_part f.3.0 y e Fixed ∈ reports_of (fixed_uses fixed u) f.3.0 y e e.reservation) → T (own_use s e.reservation)
      own (inl h) = this h (g.uncut y f.1 e n h f.2) (rising_same ss g.rising y s f.1 l)
      own (inr h) =
          absurd (evictable (shared_part f.3.0 y e Fixed) (in_check u k (shared_part f.3.0 y e Fixed) (f.3.1 (shared_part f.3.0 y e Fixed) h)) refl)

  owns : (u : ℕ) → u ∈ units_of m → (s : ValueSegment) → s ∈ ss → (e : Entry) → e ∈ fixed → e.unit ≡ u → T (overlaps s e) → T (own_use s e.reservation)
  owns u k s l e n q o =
      under_or_open fixed cs t it (T (own_use s e.reservation)) e n (λ d c r. under u k s l e n q o d c r) (λ f. open_use u k s l e n (on_unit_in u t e f q) o)

  -- with the reported holders away, the cells of the register are free
  pub room : (v : ℕ) → AllFree fixed left v m ss
  room v u k s l =
      record {
        nonempty = g.nonempty s l;
        alone = λ d n q. alone u k s l d n q;
        covers = λ e n q o. g.uncut s l e n (owns u k s l e n q o) o;
        owns = λ e n q o. owns u k s l e n q o;
      }

  pub room_joins : (v : ℕ) → Joins fixed left (cells v m ss)
  room_joins v = joins_units fixed left v m ss g.rising (room v)
