-- The table as the set of its cells. A cell says that a virtual register has one of its segments on a unit. The table of a list of cells is
-- the fixed reservations that no cell replaces, and one entry for each cell (`IsTable`). Here: placing one free cell adds it, and the
-- table is decided by its reservations and cells. Assumes nothing.
use Prim.Native.Nat.{ℕ, ◌<◌, ◌≤◌}
use native.Mathlib.Omega.{arith}
use mathlib.Core.Path.{◌≡◌, refl, sym, ap, ◌∙◌, subst}
use mathlib.Core.Logic.{◌⊎◌, inl, inr}
use mathlib.Core.List.Memᴰ
use mathlib.Core.List.{List, ◌∷◌}
use mathlib.Core.Bool.{Bool, not, ◌&&◌, cond}
use lib.Dec.{T, ltb, leb, eqb, ltb→lt, lt→ltb, leb→le, le→leb, nltb→le, eqb→eq, T_not, not_T}
use Rattle.reg_matrix.specs.Lists.{filter, any}
use Rattle.reg_matrix.specs.Table.{Table, is_use, fixed_uses, insert}
use Rattle.reg_matrix.specs.Check.{overlaps, own_use}
use Rattle.reg_matrix.specs.Assign.{replaced, first_use, fixed_index, assign_segment}
use Rattle.reg_matrix.specs.declared.ValueSegment.{ValueSegment}
use Rattle.reg_matrix.specs.declared.Entry.{Entry}
use Rattle.std.specs.Prelude.{Option, Some, None}
use Rattle.reg_matrix.specs.declared.Reservation.TheVariants.{Held}
use Rattle.reg_matrix.proofs.Tests.{both, both_in, passes_or_not, same_test, eqb_in}
use Rattle.reg_matrix.proofs.Members.{◌∈◌, filter_out, filter_in, any_in, any_out}
use Rattle.reg_matrix.proofs.Sorted.{Sorted, sorted_filter, sorted_insert, sorted_same, ordered_by_ends, insert_out, insert_here, insert_there}

-- ---- ranges

-- one ends before the other starts
abbrev pub Disjoint : ValueSegment → ValueSegment → Type 0
Disjoint a b = (a.to ≤ b.from) ⊎ (b.to ≤ a.from)

-- a fixed use that lies inside the segment
pub record Inside (s : ValueSegment) (e : Entry) : Type 0 where
  pub isuse : T (is_use e.reservation)
  pub after : s.from ≤ e.from
  pub ahead : e.to ≤ s.to

pub replaced→ : (u : ℕ) (s : ValueSegment) (e : Entry) → T (replaced u s e) → (e.unit ≡ u) × Inside s e
replaced→ u s e r =
    let k = both (eqb e.unit u) (is_use e.reservation && (leb s.from e.from && leb e.to s.to)) r in
    let l = both (is_use e.reservation) (leb s.from e.from && leb e.to s.to) k.1 in
    let m = both (leb s.from e.from) (leb e.to s.to) l.1 in
    (eqb→eq _ _ k.0, record { isuse = l.0; after = leb→le _ _ m.0; ahead = leb→le _ _ m.1 })

pub →replaced : (u : ℕ) (s : ValueSegment) (e : Entry) → e.unit ≡ u → Inside s e → T (replaced u s e)
→replaced u s e q i =
    both_in (eqb e.unit u) (is_use e.reservation && (leb s.from e.from && leb e.to s.to)) (eqb_in q)
    (both_in (is_use e.reservation) (leb s.from e.from && leb e.to s.to) i.isuse
    (both_in (leb s.from e.from) (leb e.to s.to) (le→leb _ _ i.after) (le→leb _ _ i.ahead)))

pub overlaps→ : (s : ValueSegment) (e : Entry) → T (overlaps s e) → (e.from < s.to) × (s.from < e.to)
overlaps→ s e o = let k = both (ltb e.from s.to) (ltb s.from e.to) o in (ltb→lt _ _ k.0, ltb→lt _ _ k.1)

pub →overlaps : (s : ValueSegment) (e : Entry) → e.from < s.to → s.from < e.to → T (overlaps s e)
→overlaps s e a b = both_in (ltb e.from s.to) (ltb s.from e.to) (lt→ltb _ _ a) (lt→ltb _ _ b)

-- the entry overlaps the segment, starts behind it or ends ahead of it
pub overlaps_or_not : (s : ValueSegment) (e : Entry) → T (overlaps s e) ⊎ ((s.to ≤ e.from) ⊎ (e.to ≤ s.from))
overlaps_or_not s e = go (passes_or_not (ltb e.from s.to)) (passes_or_not (ltb s.from e.to))
  where
    go :
        T (ltb e.from s.to) ⊎ T (not (ltb e.from s.to))
        → T (ltb s.from e.to) ⊎ T (not (ltb s.from e.to))
        → T (overlaps s e) ⊎ ((s.to ≤ e.from) ⊎ (e.to ≤ s.from))
    go (inl a) (inl b) = inl (both_in (ltb e.from s.to) (ltb s.from e.to) a b)
    go (inl a) (inr b) = inr (inr (nltb→le _ _ b))
    go (inr a) b = inr (inl (nltb→le _ _ a))

-- ---- cells

-- the virtual register v has the segment s on the unit u
pub record Cell : Type 0 where
  pub v : ℕ
  pub u : ℕ
  pub s : ValueSegment

-- the entry of a cell: its index is decided by the fixed reservations
unfoldable pub entry_for : List Entry → Cell → Entry
entry_for fixed c = record { unit = c.u; from = c.s.from; to = c.s.to; reservation = Held c.v (fixed_index fixed c.u c.s fixed) }

-- what a table of these cells has: the reservations that no cell replaces, and the cells' entries
pub data Laid (fixed : List Entry) (cs : List Cell) (e : Entry) : Type 0 where
  reserved : e ∈ fixed → ((c : Cell) → c ∈ cs → T (replaced c.u c.s e) → ⊥) → Laid fixed cs e
  cell : (c : Cell) → c ∈ cs → e ≡ entry_for fixed c → Laid fixed cs e

pub record IsTable (fixed : List Entry) (cs : List Cell) (t : Table) : Type 0 where
  pub sorted : Sorted t
  pub out : (e : Entry) → e ∈ t → Laid fixed cs e
  pub into : (e : Entry) → Laid fixed cs e → e ∈ t
  pub nonempty : (d : Cell) → d ∈ cs → d.s.from < d.s.to

-- A cell that goes with the others: its segment is no empty one, it meets no cell of its unit, and of the fixed reservations only uses of
-- its own value, which lie inside it.
pub record Free (fixed : List Entry) (cs : List Cell) (c : Cell) : Type 0 where
  pub nonempty : c.s.from < c.s.to
  pub alone : (d : Cell) → d ∈ cs → d.u ≡ c.u → Disjoint d.s c.s
  pub covers : (e : Entry) → e ∈ fixed → e.unit ≡ c.u → T (overlaps c.s e) → Inside c.s e
  pub owns : (e : Entry) → e ∈ fixed → e.unit ≡ c.u → T (overlaps c.s e) → T (own_use c.s e.reservation)

-- what loading tested: no reservation is empty
abbrev pub Nonempty : List Entry → Type 0
Nonempty fixed = (e : Entry) → e ∈ fixed → e.from < e.to

pub held_no_use : (fixed : List Entry) (e : Entry) (d : Cell) → e ≡ entry_for fixed d → T (is_use e.reservation) → ⊥
unfolding entry_for
held_no_use fixed e d q h = subst (λ (x : Entry). T (is_use x.reservation)) q h

module _ (fixed : List Entry) (cs : List Cell) (c : Cell) (ne : Nonempty fixed) (fr : Free fixed cs c) where
  -- a reservation that c replaces is one that no other cell replaces
  pub only_here : (e : Entry) → e ∈ fixed → T (replaced c.u c.s e) → (d : Cell) → d ∈ cs → T (replaced d.u d.s e) → ⊥
  only_here e m r d n q = go (fr.alone d n (sym b.0 ∙ a.0))
    where
      a : (e.unit ≡ c.u) × Inside c.s e
      a = replaced→ c.u c.s e r

      b : (e.unit ≡ d.u) × Inside d.s e
      b = replaced→ d.u d.s e q

      go : Disjoint d.s c.s → ⊥
      go (inl h) = omega (arith, ne e m, a.1.after, a.1.ahead, b.1.after, b.1.ahead)
      go (inr h) = omega (arith, ne e m, a.1.after, a.1.ahead, b.1.after, b.1.ahead)

-- ---- placing one cell

module _ (fixed : List Entry) (cs : List Cell) (t : Table) (c : Cell) (ne : Nonempty fixed) (it : IsTable fixed cs t) (fr : Free fixed cs c) where
  abbrev covered : Entry → Bool
  covered = replaced c.u c.s

  -- what the table has inside c is what the job has there
  inside_table : (e : Entry) → e ∈ t → T (covered e) → e ∈ fixed
  inside_table e m r = go (it.out e m)
    where
      go : Laid fixed cs e → e ∈ fixed
      go (reserved f h) = f
      go (cell d n q) = absurd (held_no_use fixed e d q (replaced→ c.u c.s e r).1.isuse)

  inside_fixed : (e : Entry) → e ∈ fixed → T (covered e) → e ∈ t
  inside_fixed e m r = it.into e (reserved m (only_here fixed cs c ne fr e m r))

  -- so the index hangs on the fixed reservations alone
  pub fixed_index_same : fixed_index fixed c.u c.s t ≡ fixed_index fixed c.u c.s fixed
  unfolding fixed_index
  fixed_index_same =
      ap (λ (b : Bool). cond b (Some (first_use (fixed_uses fixed c.u) c.s)) None)
      (same_test (any covered t) (any covered fixed)
      (λ h. let k = any_out covered t h in any_in covered k.2 (inside_table k.0 k.1 k.2))
      (λ h. let k = any_out covered fixed h in any_in covered k.2 (inside_fixed k.0 k.1 k.2)))

  left : Entry → Bool
  left e = not (covered e)

  new : Entry
  new = entry_for fixed c

  assign_is : assign_segment fixed c.v c.u t c.s ≡ insert new (filter left t)
  unfolding assign_segment new left entry_for
  assign_is =
      ap
      (λ (i : Option ℕ).
      insert (record { unit = c.u; from = c.s.from; to = c.s.to; reservation = Held c.v i }) (filter (λ e. not (covered e)) t))
      fixed_index_same

  -- ---- the new entry's end is no end of those left on its unit

  ends : (e : Entry) → Laid fixed cs e → T (left e) → c.u ≡ e.unit → (c.s.to < e.to) ⊎ (e.to < c.s.to)
  unfolding left entry_for
  ends e (reserved f h) l q = go (overlaps_or_not c.s e)
    where
      hit : T (overlaps c.s e) → ⊥
      hit o = T_not (covered e) l (→replaced c.u c.s e (sym q) (fr.covers e f (sym q) o))

      go : T (overlaps c.s e) ⊎ ((c.s.to ≤ e.from) ⊎ (e.to ≤ c.s.from)) → (c.s.to < e.to) ⊎ (e.to < c.s.to)
      go (inl o) = absurd (hit o)
      go (inr (inl k)) = inl (omega (arith, ne e f))
      go (inr (inr k)) = inr (omega (arith, fr.nonempty))
  ends e (cell d n p) l q = go (fr.alone d n (sym (q ∙ ap (λ (x : Entry). x.unit) p)))
    where
      to_is : e.to ≡ d.s.to
      to_is = ap (λ (x : Entry). x.to) p

      go : Disjoint d.s c.s → (c.s.to < e.to) ⊎ (e.to < c.s.to)
      go (inl k) = inr (omega (arith, fr.nonempty, to_is))
      go (inr k) = inl (omega (arith, it.nonempty d n, to_is))

  assign_sorted : Sorted (insert new (filter left t))
  unfolding new entry_for
  assign_sorted =
      sorted_insert new (filter left t)
      (λ e m. let k = filter_out left t m in ordered_by_ends new e (λ q. ends e (it.out e k.1) k.0 q))
      (sorted_filter left t it.sorted)

  -- ---- what the new table has

  assign_out : (e : Entry) → e ∈ insert new (filter left t) → Laid fixed (c ∷ cs) e
  unfolding new left
  assign_out e m = go (insert_out (filter left t) m)
    where
      old : T (left e) → Laid fixed cs e → Laid fixed (c ∷ cs) e
      old l (reserved f h) = reserved f by_none
        where
          by_none : (d : Cell) → d ∈ c ∷ cs → T (replaced d.u d.s e) → ⊥
          by_none d (Memᴰ.head q) r = T_not (covered e) l (subst (λ (x : Cell). T (replaced x.u x.s e)) q r)
          by_none d (Memᴰ.tail n) r = h d n r
      old l (cell d n q) = cell d (Memᴰ.tail n) q

      go : (e ≡ new) ⊎ (e ∈ filter left t) → Laid fixed (c ∷ cs) e
      go (inl q) = cell c (Memᴰ.head refl) q
      go (inr k) = let f = filter_out left t k in old f.0 (it.out e f.1)

  assign_in : (e : Entry) → Laid fixed (c ∷ cs) e → e ∈ insert new (filter left t)
  unfolding new left
  assign_in e (reserved f h) =
      insert_there new
      (filter_in left (not_T (covered e) (h c (Memᴰ.head refl))) (it.into e (reserved f (λ d n. h d (Memᴰ.tail n)))))
  assign_in e (cell d n q) = go n
    where
      go : d ∈ c ∷ cs → e ∈ insert new (filter left t)
      go (Memᴰ.head p) = subst (λ (x : Entry). x ∈ insert new (filter left t)) (sym (q ∙ ap (entry_for fixed) p)) (insert_here new (filter left t))
      go (Memᴰ.tail m) =
          insert_there new
          (filter_in left (not_T (covered e) (λ r. held_no_use fixed e d q (replaced→ c.u c.s e r).1.isuse)) (it.into e (cell d m q)))

  assign_nonempty : (d : Cell) → d ∈ c ∷ cs → d.s.from < d.s.to
  assign_nonempty d (Memᴰ.head q) = subst (λ (x : Cell). x.s.from < x.s.to) (sym q) fr.nonempty
  assign_nonempty d (Memᴰ.tail m) = it.nonempty d m

  -- placing a free cell adds it
  pub assign_cell : IsTable fixed (c ∷ cs) (assign_segment fixed c.v c.u t c.s)
  assign_cell =
      subst (λ (x : Table). IsTable fixed (c ∷ cs) x) (sym assign_is)
      (record { sorted = assign_sorted; out = assign_out; into = assign_in; nonempty = assign_nonempty })

-- ---- two tables of the same cells are the same, in whatever order the cells came

abbrev pub Among : List Cell → List Cell → Type 0
Among cs ds = (c : Cell) → c ∈ cs → c ∈ ds

pub laid_among : (fixed : List Entry) (cs ds : List Cell) → Among cs ds → Among ds cs → (e : Entry) → Laid fixed cs e → Laid fixed ds e
laid_among fixed cs ds p q e (reserved f h) = reserved f (λ c m. h c (q c m))
laid_among fixed cs ds p q e (cell c m r) = cell c (p c m) r

pub is_among : (fixed : List Entry) (cs ds : List Cell) (t : Table) → Among cs ds → Among ds cs → IsTable fixed cs t → IsTable fixed ds t
is_among fixed cs ds t p q it =
    record {
      sorted = it.sorted;
      out = λ e m. laid_among fixed cs ds p q e (it.out e m);
      into = λ e l. it.into e (laid_among fixed ds cs q p e l);
      nonempty = λ d m. it.nonempty d (q d m);
    }

pub free_among : (fixed : List Entry) (cs ds : List Cell) (k : Cell) → Among cs ds → Free fixed ds k → Free fixed cs k
free_among fixed cs ds k p f = record { nonempty = f.nonempty; alone = λ d m q. f.alone d (p d m) q; covers = f.covers; owns = f.owns }

pub decided_by_cells : (fixed : List Entry) (cs ds : List Cell) (s t : Table) → Among cs ds → Among ds cs → IsTable fixed cs s → IsTable fixed ds t → s ≡ t
decided_by_cells fixed cs ds s t p q a b =
    let c = is_among fixed cs ds s p q a in
    sorted_same s t a.sorted b.sorted (λ e m. b.into e (c.out e m)) (λ e m. c.into e (b.out e m))
