-- A check that reports nothing, in either form: the register's cells are free; and the other way round. Assumes nothing.
use Prim.Native.Nat.{ℕ, suc, ◌<◌, ◌≤◌}
use native.Mathlib.Omega.{arith}
use mathlib.Core.Path.{◌≡◌, refl, sym, ap, ◌∙◌, subst}
use mathlib.Core.Logic.{◌⊎◌, inl, inr}
use mathlib.Core.List.Memᴰ
use mathlib.Core.List.{List, [], ◌∷◌, ◌++◌}
use mathlib.Core.Bool.{Bool, true, false, not, ◌&&◌, ◌||◌, cond}
use lib.Dec.{T, eqb, T_not, not_T}
use Rattle.reg_matrix.specs.Lists.{filter, any, concat_map}
use Rattle.reg_matrix.specs.Table.{Table, units_of, fixed_uses, on_unit}
use Rattle.reg_matrix.specs.Check.{overlaps, indexed, own_use, shared_part, reports_of, counts, check_on, check}
use Rattle.reg_matrix.specs.Assign.{replaced, assign}
use Rattle.reg_matrix.specs.declared.ValueSegment.{ValueSegment}
use Rattle.reg_matrix.specs.declared.Entry.{Entry}
use Rattle.std.specs.Prelude.{Some, None}
use Rattle.reg_matrix.specs.declared.Reservation.{Reservation}
use Rattle.reg_matrix.specs.declared.Reservation.TheVariants.{Held, FixedUse, FixedDef}
use Rattle.reg_matrix.specs.declared.Interference.{Interference}
use Rattle.reg_matrix.specs.declared.InterferenceKind.TheVariants.{Fixed}
use Rattle.reg_matrix.proofs.Tests.{both, both_in, or_right, passes_or_not}
use Rattle.reg_matrix.proofs.Members.{◌∈◌, filter_out, filter_in, any_in, any_out, not_nothing, append_nothing, concat_nothing, concat_none, on_unit_out, on_unit_in}
use Rattle.reg_matrix.proofs.Cells.{Disjoint, Inside, replaced→, overlaps→, overlaps_or_not, Cell, entry_for, Laid, reserved, cell, IsTable, Free}
use Rattle.reg_matrix.proofs.Chains.{Sound}
use Rattle.reg_matrix.proofs.Whole.{cell_of, cells, AllFree, Joins, Rising, joins_units, assign_law}

-- ---- what segments and entries say of one another

-- the segment cuts no use of its own value among the entries
abbrev pub Uncut : List Entry → ValueSegment → Type 0
Uncut es s = (e : Entry) → e ∈ es → T (own_use s e.reservation) → T (overlaps s e) → Inside s e

-- every entry that the segment overlaps is a use of its value
abbrev pub OwnOnly : List Entry → ValueSegment → Type 0
OwnOnly es s = (e : Entry) → e ∈ es → T (overlaps s e) → T (own_use s e.reservation)

-- what loading tested of a virtual register's segments: 5, 7 and 12
pub record Segments (fixed : List Entry) (ss : List ValueSegment) : Type 0 where
  pub nonempty : (s : ValueSegment) → s ∈ ss → s.from < s.to
  pub rising : Rising ss
  pub uncut : (s : ValueSegment) → s ∈ ss → Uncut fixed s

-- ---- one segment and one entry: no report exactly if the entry is a use of the segment's value

own_only : (us : List Entry) (n : ℕ) (s : ValueSegment) (e : Entry) (k : Reservation) → reports_of us n s e k ≡ [] → T (own_use s k)
unfolding reports_of
own_only us n s e (Held v None) h = absurd (not_nothing h)
own_only us n s e (Held v (Some i)) h = absurd (not_nothing h)
own_only us n s e (FixedUse x) h = go (eqb x s.value) h
  where
    go : (b : Bool) → ◌≡◌ {A = List Interference} (cond b [] (shared_part n s e Fixed ∷ [])) [] → T b
    go true q = tt
    go false q = absurd (not_nothing q)
own_only us n s e FixedDef h = absurd (not_nothing h)

own_nothing : (us : List Entry) (n : ℕ) (s : ValueSegment) (e : Entry) (k : Reservation) → T (own_use s k) → reports_of us n s e k ≡ []
unfolding reports_of
own_nothing us n s e (Held v i) h = absurd h
own_nothing us n s e (FixedUse x) h = go (eqb x s.value) h
  where
    go : (b : Bool) → T b → ◌≡◌ {A = List Interference} (cond b [] (shared_part n s e Fixed ∷ [])) []
    go true t = refl
    go false t = absurd t
own_nothing us n s e FixedDef h = absurd h

-- ---- one unit: us are its fixed uses, es its entries

module _ (full : Bool) (us es : List Entry) where
  counted : List ValueSegment → ValueSegment → Entry → Bool
  counted earlier s e = overlaps s e && counts full earlier e

  abbrev reported : ℕ → ValueSegment → Entry → List Interference
  reported n s e = reports_of us n s e e.reservation

  -- an entry that an earlier segment overlaps lies inside that one, so this one does not overlap it
  not_twice :
      (earlier : List ValueSegment) (s : ValueSegment)
      → ((d : ValueSegment) → d ∈ earlier → OwnOnly es d × Uncut es d × (d.to ≤ s.from))
      → (e : Entry)
      → e ∈ es
      → T (overlaps s e)
      → T (any (λ d. overlaps d e) earlier)
      → ⊥
  not_twice earlier s h e m o a =
      let k = any_out (λ (d : ValueSegment). overlaps d e) earlier a in
      let f = h k.0 k.1 in
      let i = f.1 e m (f.0 e m k.2) k.2 in
      omega (arith, i.ahead, f.2, (overlaps→ s e o).1)

  now_own :
      (n : ℕ) (earlier : List ValueSegment) (s : ValueSegment)
      → ((d : ValueSegment) → d ∈ earlier → OwnOnly es d × Uncut es d × (d.to ≤ s.from))
      → concat_map (reported n s) (filter (counted earlier s) es) ≡ []
      → OwnOnly es s
  unfolding counted
  now_own n earlier s h z e m o =
      own_only us n s e e.reservation
      (concat_nothing (reported n s) (filter (counted earlier s) es) z e
      (filter_in (counted earlier s) (both_in (overlaps s e) (counts full earlier e) o new) m))
    where
      new : T (counts full earlier e)
      new =
          or_right full (indexed e.reservation || not (any (λ d. overlaps d e) earlier))
          (or_right (indexed e.reservation) (not (any (λ d. overlaps d e) earlier))
          (not_T (any (λ d. overlaps d e) earlier) (not_twice earlier s h e m o)))

  clear_own :
      (n : ℕ) (earlier ss : List ValueSegment)
      → ((d : ValueSegment) → d ∈ earlier → OwnOnly es d × Uncut es d × ((s : ValueSegment) → s ∈ ss → d.to ≤ s.from))
      → Rising ss
      → ((s : ValueSegment) → s ∈ ss → Uncut es s)
      → check_on full us es n earlier ss ≡ []
      → (s : ValueSegment)
      → s ∈ ss
      → OwnOnly es s
  unfolding check_on counted
  clear_own n earlier [] h r c z s m = elim m [ ]
  clear_own n earlier (x ∷ xs) h r c z s m =
      go m (λ k. clear_own (suc n) (x ∷ earlier) xs hx r.1 (λ y l. c y (Memᴰ.tail l)) zz.1 s k)
    where
      zz : (concat_map (reported n x) (filter (counted earlier x) es) ≡ []) × (check_on full us es (suc n) (x ∷ earlier) xs ≡ [])
      zz = append_nothing (concat_map (reported n x) (filter (counted earlier x) es)) (check_on full us es (suc n) (x ∷ earlier) xs) z

      first_own : OwnOnly es x
      first_own = now_own n earlier x (λ d k. ((h d k).0, (h d k).1, (h d k).2 x (Memᴰ.head refl))) zz.0

      hx : (d : ValueSegment) → d ∈ x ∷ earlier → OwnOnly es d × Uncut es d × ((s : ValueSegment) → s ∈ xs → d.to ≤ s.from)
      hx d (Memᴰ.head q) =
          subst (λ (z : ValueSegment). OwnOnly es z × Uncut es z × ((s : ValueSegment) → s ∈ xs → z.to ≤ s.from)) (sym q)
          (first_own, c x (Memᴰ.head refl), r.0)
      hx d (Memᴰ.tail k) = ((h d k).0, (h d k).1, λ s l. (h d k).2 s (Memᴰ.tail l))

      go : s ∈ x ∷ xs → (s ∈ xs → OwnOnly es s) → OwnOnly es s
      go (Memᴰ.head q) ih = subst (λ (z : ValueSegment). OwnOnly es z) (sym q) first_own
      go (Memᴰ.tail k) ih = ih k

  own_clear : (n : ℕ) (earlier ss : List ValueSegment) → ((s : ValueSegment) → s ∈ ss → OwnOnly es s) → check_on full us es n earlier ss ≡ []
  unfolding check_on counted
  own_clear n earlier [] h = refl
  own_clear n earlier (s ∷ ss) h =
      ap (λ (l : List Interference). l ++ check_on full us es (suc n) (s ∷ earlier) ss)
      (concat_none (reported n s) (filter (counted earlier s) es)
      (λ e m.
      let k = filter_out (counted earlier s) es m in
      own_nothing us n s e e.reservation (h s (Memᴰ.head refl) e k.1 (both (overlaps s e) (counts full earlier e) k.0).0)))
      ∙ own_clear (suc n) (s ∷ earlier) ss (λ r m. h r (Memᴰ.tail m))

-- ---- one cell: free exactly if its segment overlaps only uses of its value among the entries of its unit

module _ (fixed : List Entry) (cs : List Cell) (t : Table) (it : IsTable fixed cs t) where
  -- a use in the table is one of the job's
  use_fixed : (s : ValueSegment) (e : Entry) → e ∈ t → T (own_use s e.reservation) → e ∈ fixed
  unfolding entry_for
  use_fixed s e m h = go (it.out e m)
    where
      go : Laid fixed cs e → e ∈ fixed
      go (reserved f w) = f
      go (cell d n q) = absurd (subst (λ (x : Entry). T (own_use s x.reservation)) q h)

  uncut_on : (u : ℕ) (s : ValueSegment) → Uncut fixed s → Uncut (on_unit u t) s
  uncut_on u s c e m h o = c e (use_fixed s e (on_unit_out u t e m).0 h) h o

  -- a cell whose entry does not overlap a segment lies apart from it
  pub apart_unless : (d : Cell) (s : ValueSegment) → (T (overlaps s (entry_for fixed d)) → ⊥) → Disjoint d.s s
  unfolding entry_for
  apart_unless d s hit = go (overlaps_or_not s (entry_for fixed d))
    where
      go : T (overlaps s (entry_for fixed d)) ⊎ ((s.to ≤ d.s.from) ⊎ (d.s.to ≤ s.from)) → Disjoint d.s s
      go (inl o) = absurd (hit o)
      go (inr (inl h)) = inr h
      go (inr (inr h)) = inl h

  -- a fixed reservation is under a cell, or stands in the table
  pub under_or_open : (A : Type 0) (e : Entry) → e ∈ fixed → ((d : Cell) → d ∈ cs → T (replaced d.u d.s e) → A) → (e ∈ t → A) → A
  under_or_open A e m under stands = go (passes_or_not (any p cs))
    where
      p : Cell → Bool
      p d = replaced d.u d.s e

      go : T (any p cs) ⊎ T (not (any p cs)) → A
      go (inl h) = let k = any_out p cs h in under k.0 k.1 k.2
      go (inr h) = stands (it.into e (reserved m (λ d n r. T_not (any p cs) h (any_in p r n))))

  own_free : (v u : ℕ) (s : ValueSegment) → s.from < s.to → Uncut fixed s → OwnOnly (on_unit u t) s → Free fixed cs (cell_of v u s)
  unfolding entry_for
  own_free v u s n c own = record { nonempty = n; alone = alone; covers = λ e m q o. c e m (owns e m q o) o; owns = owns }
    where
      alone : (d : Cell) → d ∈ cs → d.u ≡ u → Disjoint d.s s
      alone d m q = apart_unless d s (λ o. own (entry_for fixed d) (on_unit_in u t (entry_for fixed d) (it.into (entry_for fixed d) (cell d m refl)) q) o)

      owns : (e : Entry) → e ∈ fixed → e.unit ≡ u → T (overlaps s e) → T (own_use s e.reservation)
      owns e m q o =
          under_or_open (T (own_use s e.reservation)) e m
          (λ d n r. let a = replaced→ d.u d.s e r in absurd (under d a.1 (alone d n (sym a.0 ∙ q))))
          (λ f. own e (on_unit_in u t e f q) o)
        where
          under : (d : Cell) → Inside d.s e → Disjoint d.s s → ⊥
          under d i (inl h) = omega (arith, i.ahead, (overlaps→ s e o).1)
          under d i (inr h) = omega (arith, i.after, (overlaps→ s e o).0)

  free_own : (v u : ℕ) (s : ValueSegment) → Free fixed cs (cell_of v u s) → OwnOnly (on_unit u t) s
  unfolding entry_for
  free_own v u s f e m o = go (it.out e k.0)
    where
      k : (e ∈ t) × (e.unit ≡ u)
      k = on_unit_out u t e m

      b : (e.from < s.to) × (s.from < e.to)
      b = overlaps→ s e o

      apart : (d : Cell) → e ≡ entry_for fixed d → Disjoint d.s s → ⊥
      apart d q (inl h) = omega (arith, b.1, ap (λ (x : Entry). x.to) q)
      apart d q (inr h) = omega (arith, b.0, ap (λ (x : Entry). x.from) q)

      go : Laid fixed cs e → T (own_use s e.reservation)
      go (reserved n w) = f.owns e n k.1 o
      go (cell d n q) = absurd (apart d q (f.alone d n (sym (ap (λ (x : Entry). x.unit) q) ∙ k.1)))

  -- ---- the check

  -- a check that reports nothing: every cell is free
  pub clear_cells : (full : Bool) (v m : ℕ) (ss : List ValueSegment) → Segments fixed ss → check full fixed t m ss ≡ [] → AllFree fixed cs v m ss
  unfolding check
  clear_cells full v m ss g z u k s l =
      own_free v u s (g.nonempty s l) (g.uncut s l)
      (clear_own full (fixed_uses fixed u) (on_unit u t) 0 [] ss (λ d z. elim z [ ]) g.rising (λ r z. uncut_on u r (g.uncut r z))
      (concat_nothing (λ (u : ℕ). check_on full (fixed_uses fixed u) (on_unit u t) 0 [] ss) (units_of m) z u k)
      s l)

  -- every cell is free: the check reports nothing
  pub free_clear : (full : Bool) (v m : ℕ) (ss : List ValueSegment) → AllFree fixed cs v m ss → check full fixed t m ss ≡ []
  unfolding check
  free_clear full v m ss h =
      concat_none (λ (u : ℕ). check_on full (fixed_uses fixed u) (on_unit u t) 0 [] ss) (units_of m)
      (λ u k. own_clear full (fixed_uses fixed u) (on_unit u t) 0 [] ss (λ s l. free_own v u s (h u k s l)))

  -- ---- a clear check, then placing

  pub clear_joins : (full : Bool) (v m : ℕ) (ss : List ValueSegment) → Segments fixed ss → check full fixed t m ss ≡ [] → Joins fixed cs (cells v m ss)
  clear_joins full v m ss g z = joins_units fixed cs v m ss g.rising (clear_cells full v m ss g z)

  pub assign_clear :
      Sound fixed
      → (full : Bool) (v m : ℕ) (ss : List ValueSegment)
      → Segments fixed ss
      → check full fixed t m ss ≡ []
      → IsTable fixed (cells v m ss ++ cs) (assign fixed v m ss t)
  assign_clear sd full v m ss g z = assign_law fixed sd v m ss cs t it (clear_joins full v m ss g z)
