-- Entries of one unit never overlap, if the table's cells go together (`Together`). So a unit's entries, which stand by end, stand by start
-- too. Assumes nothing.
use Prim.Native.Nat.{ℕ, ◌<◌, ◌≤◌}
use native.Mathlib.Omega.{arith}
use mathlib.Core.Path.{◌≡◌, refl, sym, ap, ◌∙◌, subst}
use mathlib.Core.Logic.{◌⊎◌, inl, inr, ⊎_swap}
use mathlib.Core.List.Memᴰ
use mathlib.Core.List.{List, [], ◌∷◌}
use lib.Dec.{T}
use Rattle.reg_matrix.specs.Table.{Table, before, on_unit}
use Rattle.reg_matrix.specs.Check.{overlaps}
use Rattle.reg_matrix.specs.Assign.{replaced}
use Rattle.std.specs.Prelude.{Option}
use Rattle.reg_matrix.specs.declared.Entry.{Entry}
use Rattle.reg_matrix.specs.declared.Reservation.TheVariants.{Held}
use Rattle.reg_matrix.proofs.Members.{◌∈◌, on_unit_out}
use Rattle.reg_matrix.proofs.Sorted.{Before, before→, below_out, Sorted, on_unit_sorted}
use Rattle.reg_matrix.proofs.Cells.{Disjoint, Inside, →replaced, overlaps_or_not, Cell, entry_for, Laid, reserved, cell, IsTable}
use Rattle.reg_matrix.proofs.Chains.{Chain, Sound}
use Rattle.reg_matrix.proofs.Whole.{Joins}

-- The cells go together, in whatever order they are listed: two of one unit are one and the same or lie apart, and a cell that overlaps a
-- fixed reservation of its unit replaces it.
pub record Together (fixed : List Entry) (cs : List Cell) : Type 0 where
  pub apart : (c d : Cell) → c ∈ cs → d ∈ cs → c.u ≡ d.u → (c ≡ d) ⊎ Disjoint c.s d.s
  pub covers : (c : Cell) → c ∈ cs → (e : Entry) → e ∈ fixed → e.unit ≡ c.u → T (overlaps c.s e) → Inside c.s e

-- cells of which each is free beside the later ones go together
pub joins_together : (fixed : List Entry) (cs ks : List Cell) → Joins fixed cs ks → Together fixed ks
joins_together fixed cs [] j = record { apart = λ c d m n q. elim m [ ]; covers = λ c m e f q o. elim m [ ] }
joins_together fixed cs (k ∷ ks) j = more (joins_together fixed cs ks j.1)
  where
    beside : (c d : Cell) → c ≡ k → d ∈ ks → c.u ≡ d.u → Disjoint d.s c.s
    beside c d p n q =
        subst (λ (x : Cell). Disjoint d.s x.s) (sym p) (j.0.alone d (Memᴰ.append_left cs n) (sym q ∙ ap (λ (x : Cell). x.u) p))

    two : Together fixed ks → (c d : Cell) → (c ≡ k) ⊎ (c ∈ ks) → (d ≡ k) ⊎ (d ∈ ks) → c.u ≡ d.u → (c ≡ d) ⊎ Disjoint c.s d.s
    two ih c d (inl p) (inl r) q = inl (p ∙ sym r)
    two ih c d (inl p) (inr n) q = inr (⊎_swap (beside c d p n q))
    two ih c d (inr m) (inl r) q = inr (beside d c r m (sym q))
    two ih c d (inr m) (inr n) q = ih.apart c d m n q

    one : Together fixed ks → (c : Cell) → (c ≡ k) ⊎ (c ∈ ks) → (e : Entry) → e ∈ fixed → e.unit ≡ c.u → T (overlaps c.s e) → Inside c.s e
    one ih c (inl p) e f q o =
        subst (λ (x : Cell). Inside x.s e) (sym p)
        (j.0.covers e f (q ∙ ap (λ (x : Cell). x.u) p) (subst (λ (x : Cell). T (overlaps x.s e)) p o))
    one ih c (inr m) e f q o = ih.covers c m e f q o

    more : Together fixed ks → Together fixed (k ∷ ks)
    more ih =
        record {
          apart = λ c d m n q. two ih c d (Memᴰ.cases_cons m) (Memᴰ.cases_cons n) q;
          covers = λ c m e f q o. one ih c (Memᴰ.cases_cons m) e f q o;
        }

module _ (fixed : List Entry) (cs : List Cell) (t : Table) (sd : Sound fixed) (it : IsTable fixed cs t) where
  -- no entry is empty
  pub entry_nonempty : (e : Entry) → e ∈ t → e.from < e.to
  unfolding entry_for
  entry_nonempty e m = go (it.out e m)
    where
      go : Laid fixed cs e → e.from < e.to
      go (reserved f w) = sd.nonempty e f
      go (cell c n q) = omega (arith, it.nonempty c n, ap (λ (x : Entry). x.from) q, ap (λ (x : Entry). x.to) q)

  module _ (tg : Together fixed cs) where
    -- a cell and a reservation that it does not replace
    cell_reserved : (c : Cell) → c ∈ cs → (e : Entry) → e ∈ fixed → (T (replaced c.u c.s e) → ⊥) → e.unit ≡ c.u → (c.s.to ≤ e.from) ⊎ (e.to ≤ c.s.from)
    cell_reserved c m e f w q = go (overlaps_or_not c.s e)
      where
        go : T (overlaps c.s e) ⊎ ((c.s.to ≤ e.from) ⊎ (e.to ≤ c.s.from)) → (c.s.to ≤ e.from) ⊎ (e.to ≤ c.s.from)
        go (inl o) = absurd (w (→replaced c.u c.s e q (tg.covers c m e f q o)))
        go (inr h) = h

    -- two entries of one unit are one and the same or lie apart
    pub entries_apart : (e f : Entry) → e ∈ t → f ∈ t → e.unit ≡ f.unit → (e ≡ f) ⊎ ((e.to ≤ f.from) ⊎ (f.to ≤ e.from))
    unfolding entry_for
    entries_apart e f m n q = go (it.out e m) (it.out f n)
      where
        cells : (c d : Cell) → e ≡ entry_for fixed c → f ≡ entry_for fixed d → (c ≡ d) ⊎ Disjoint c.s d.s → (e ≡ f) ⊎ ((e.to ≤ f.from) ⊎ (f.to ≤ e.from))
        cells c d p r (inl h) = inl (p ∙ ap (entry_for fixed) h ∙ sym r)
        cells c d p r (inr (inl h)) = inr (inl (omega (arith, h, ap (λ (x : Entry). x.to) p, ap (λ (x : Entry). x.from) r)))
        cells c d p r (inr (inr h)) = inr (inr (omega (arith, h, ap (λ (x : Entry). x.from) p, ap (λ (x : Entry). x.to) r)))

        mixed : (c : Cell) (x y : Entry) → x ≡ entry_for fixed c → (c.s.to ≤ y.from) ⊎ (y.to ≤ c.s.from) → (x.to ≤ y.from) ⊎ (y.to ≤ x.from)
        mixed c x y p (inl h) = inl (omega (arith, h, ap (λ (x : Entry). x.to) p))
        mixed c x y p (inr h) = inr (omega (arith, h, ap (λ (x : Entry). x.from) p))

        go : Laid fixed cs e → Laid fixed cs f → (e ≡ f) ⊎ ((e.to ≤ f.from) ⊎ (f.to ≤ e.from))
        go (reserved a w) (reserved b z) = sd.apart e f a b q
        go (reserved a w) (cell d k r) = inr (⊎_swap (mixed d f e r (cell_reserved d k e a (w d k) (q ∙ ap (λ (x : Entry). x.unit) r))))
        go (cell c l p) (reserved b z) = inr (mixed c e f p (cell_reserved c l f b (z c l) (sym q ∙ ap (λ (x : Entry). x.unit) p)))
        go (cell c l p) (cell d k r) =
            cells c d p r (tg.apart c d l k (sym (ap (λ (x : Entry). x.unit) p) ∙ q ∙ ap (λ (x : Entry). x.unit) r))

    -- entries of different holders never overlap on a unit
    pub holders_apart :
        (e f : Entry)
        → e ∈ t
        → f ∈ t
        → e.unit ≡ f.unit
        → (v w : ℕ) (i j : Option ℕ)
        → e.reservation ≡ Held v i
        → f.reservation ≡ Held w j
        → (v ≡ w → ⊥)
        → (e.to ≤ f.from) ⊎ (f.to ≤ e.from)
    holders_apart e f m n q v w i j p r x = go (entries_apart e f m n q)
      where
        go : (e ≡ f) ⊎ ((e.to ≤ f.from) ⊎ (f.to ≤ e.from)) → (e.to ≤ f.from) ⊎ (f.to ≤ e.from)
        go (inl h) = let k : v ≡ w = same_holder (sym p ∙ ap (λ (x : Entry). x.reservation) h ∙ r) in absurd (x k)
          where
            same_holder : Held v i ≡ Held w j → v ≡ w
            same_holder z = cc
        go (inr h) = h

    -- of two entries of one unit, the one that comes first ends before the other starts
    pub first_ends : (x y : Entry) → x ∈ t → y ∈ t → x.unit ≡ y.unit → T (before x y) → x.to ≤ y.from
    unfolding Before
    first_ends x y m n q b = go (before→ x y b) (entries_apart x y m n q)
      where
        go : Before x y → (x ≡ y) ⊎ ((x.to ≤ y.from) ⊎ (y.to ≤ x.from)) → x.to ≤ y.from
        go (inl h) k = absurd (omega (arith, h, q))
        go (inr h) (inl r) = absurd (omega (arith, h.1, ap (λ (e : Entry). e.to) r))
        go (inr h) (inr (inl k)) = k
        go (inr h) (inr (inr k)) = absurd (omega (arith, h.1, k, entry_nonempty x m))

    -- a unit's entries follow one another
    pub unit_chain : (u : ℕ) → Chain (on_unit u t)
    unit_chain u = chain (on_unit u t) (λ e m. on_unit_out u t e m) sorted
      where
        sorted : Sorted (on_unit u t)
        sorted = on_unit_sorted u t it.sorted

        chain : (l : List Entry) → ((e : Entry) → e ∈ l → (e ∈ t) × (e.unit ≡ u)) → Sorted l → Chain l
        chain [] h s = tt
        chain (x ∷ xs) h s = (follow, chain xs (λ e m. h e (Memᴰ.tail m)) s.1)
          where
            follow : (y : Entry) → y ∈ xs → x.to ≤ y.from
            follow y m =
                let a = h x (Memᴰ.head refl) in
                let b = h y (Memᴰ.tail m) in
                first_ends x y a.0 b.0 (a.1 ∙ sym b.1) (below_out x s.0 m)
