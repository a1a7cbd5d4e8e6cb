-- How large a table gets: no more entries than fixed reservations and cells together; its units and points are those of a reservation or of
-- a cell; and a fixed index is the place of a fixed use of its unit. Assumes nothing.
use Prim.Native.Nat.{ℕ, suc, ◌+◌, ◌<◌, ◌≤◌}
use native.Mathlib.Omega.{arith}
use mathlib.Core.Path.{◌≡◌, refl, sym, ap, ◌∙◌, subst}
use mathlib.Core.Logic.{◌⊎◌, inl, inr}
use mathlib.Core.List.Memᴰ
use mathlib.Core.List.{List, [], ◌∷◌, ◌++◌, map}
use mathlib.Core.Bool.{Bool, true, false, not, ◌&&◌, cond}
use lib.Dec.{T, ltb, eqb, not_T, ltb→lt}
use lib.ListN.{length, length-append, length-map}
use Rattle.reg_matrix.specs.Lists.{keep, filter, any}
use Rattle.reg_matrix.specs.Table.{Table, is_use, before, fixed_uses}
use Rattle.reg_matrix.specs.Assign.{replaced, first_use, fixed_index}
use Rattle.reg_matrix.specs.declared.ValueSegment.{ValueSegment}
use Rattle.reg_matrix.specs.declared.Entry.{Entry}
use Rattle.std.specs.Prelude.{Option, Some, None}
use Rattle.reg_matrix.specs.declared.Reservation.TheVariants.{Held}
use Rattle.reg_matrix.proofs.Members.{◌∈◌, any_out, fixed_uses_in}
use Rattle.reg_matrix.proofs.Sorted.{Sorted, Within, below_out, before_irrefl}
use Rattle.reg_matrix.proofs.Cells.{replaced→, Cell, entry_for, Laid, reserved, cell, IsTable}
use Rattle.reg_matrix.proofs.Chains.{Sound, not_held}

-- ---- lists

module _ {A : Type 0} where
  -- a list without one of its elements
  take_out : {x : A} {t : List A} → x ∈ t → (r : List A) × (length t ≡ suc (length r)) × ((e : A) → e ∈ t → (e ≡ x) ⊎ (e ∈ r))
  take_out {x} (Memᴰ.head {x = y} {xs = ys} q) = (ys, refl, λ e m. go e (Memᴰ.cases_cons m))
    where
      go : (e : A) → (e ≡ y) ⊎ (e ∈ ys) → (e ≡ x) ⊎ (e ∈ ys)
      go e (inl p) = inl (p ∙ sym q)
      go e (inr m) = inr m
  take_out {x} (Memᴰ.tail {x = y} {xs = ys} n) = more (take_out n)
    where
      more :
          (r : List A) × (length ys ≡ suc (length r)) × ((e : A) → e ∈ ys → (e ≡ x) ⊎ (e ∈ r))
          → (r : List A) × (suc (length ys) ≡ suc (length r)) × ((e : A) → e ∈ y ∷ ys → (e ≡ x) ⊎ (e ∈ r))
      more k = (y ∷ k.0, ap suc k.1, λ e m. go e (Memᴰ.cases_cons m))
        where
          past : (e : A) → (e ≡ x) ⊎ (e ∈ k.0) → (e ≡ x) ⊎ (e ∈ y ∷ k.0)
          past e (inl p) = inl p
          past e (inr m) = inr (Memᴰ.tail m)

          go : (e : A) → (e ≡ y) ⊎ (e ∈ ys) → (e ≡ x) ⊎ (e ∈ y ∷ k.0)
          go e (inl p) = inr (Memᴰ.head p)
          go e (inr m) = past e (k.2 e m)

  module _ (p : A → Bool) where
    pub filter_length : (xs : List A) → length (filter p xs) ≤ length xs
    unfolding filter
    filter_length [] = omega arith
    filter_length (x ∷ xs) = go (p x) (filter_length xs)
      where
        go : (b : Bool) → length (filter p xs) ≤ length xs → length (keep b x (filter p xs)) ≤ suc (length xs)
        go true h = omega arith
        go false h = omega arith

    -- an element that fails the test makes it shorter
    pub filter_shorter : {e : A} {xs : List A} → e ∈ xs → T (not (p e)) → length (filter p xs) < length xs
    unfolding filter
    filter_shorter {e} (Memᴰ.head {x = x} {xs = xs} q) f = go (p x) (subst (λ (a : A). T (not (p a))) q f) (filter_length xs)
      where
        go : (b : Bool) → T (not b) → length (filter p xs) ≤ length xs → length (keep b x (filter p xs)) < suc (length xs)
        go true h k = absurd h
        go false h k = omega arith
    filter_shorter (Memᴰ.tail {x = x} {xs = xs} m) f = go (p x) (filter_shorter m f)
      where
        go : (b : Bool) → length (filter p xs) < length xs → length (keep b x (filter p xs)) < suc (length xs)
        go true h = omega arith
        go false h = omega arith

-- a sorted table has no entry twice, so it is no longer than a list that has its entries
sorted_within : (s t : List Entry) → Sorted s → Within s t → length s ≤ length t
sorted_within [] t h w = omega arith
sorted_within (x ∷ xs) t h w =
    let k = take_out (w x (Memᴰ.head refl)) in
    omega (arith, k.1, sorted_within xs k.0 h.1 (λ e m. other k.0 e m (k.2 e (w e (Memᴰ.tail m)))))
  where
    other : (r : List Entry) (e : Entry) → e ∈ xs → (e ≡ x) ⊎ (e ∈ r) → e ∈ r
    other r e m (inl q) = absurd (before_irrefl x (subst (λ (a : Entry). T (before x a)) q (below_out x h.0 m)))
    other r e m (inr n) = n

-- ---- the table

-- the entry's unit, points and holder are those of the cell
pub record OfCell (fixed : List Entry) (cs : List Cell) (e : Entry) (c : Cell) : Type 0 where
  pub among : c ∈ cs
  pub unit_is : e.unit ≡ c.u
  pub from_is : e.from ≡ c.s.from
  pub to_is : e.to ≡ c.s.to
  pub held_is : e.reservation ≡ Held c.v (fixed_index fixed c.u c.s fixed)

module _ (fixed : List Entry) (cs : List Cell) (t : Table) (it : IsTable fixed cs t) where
  -- one entry for each cell, and at most all reservations
  pub capacity : length t ≤ length fixed + length cs
  capacity =
      subst (λ (n : ℕ). length t ≤ n) (length-append fixed (map (entry_for fixed) cs) ∙ ap (λ (n : ℕ). length fixed + n) (length-map cs (entry_for fixed)))
      (sorted_within t (fixed ++ map (entry_for fixed) cs) it.sorted (λ e m. go e (it.out e m)))
    where
      go : (e : Entry) → Laid fixed cs e → e ∈ fixed ++ map (entry_for fixed) cs
      go e (reserved f w) = Memᴰ.append_left (map (entry_for fixed) cs) f
      go e (cell c n q) = Memᴰ.append_right fixed (subst (λ (x : Entry). x ∈ map (entry_for fixed) cs) (sym q) (Memᴰ.map (entry_for fixed) n))

  -- an entry is one of the reservations or a cell's
  pub entry_source : (e : Entry) → e ∈ t → (e ∈ fixed) ⊎ ((c : Cell) × OfCell fixed cs e c)
  unfolding entry_for
  entry_source e m = go (it.out e m)
    where
      go : Laid fixed cs e → (e ∈ fixed) ⊎ ((c : Cell) × OfCell fixed cs e c)
      go (reserved f w) = inl f
      go (cell c n q) =
          inr (
            c,
            record {
              among = n;
              unit_is = ap (λ (x : Entry). x.unit) q;
              from_is = ap (λ (x : Entry). x.from) q;
              to_is = ap (λ (x : Entry). x.to) q;
              held_is = ap (λ (x : Entry). x.reservation) q;
            },
          )

  -- so what holds of the units and points of reservations and cells holds of those of all entries
  pub every_entry : (P : ℕ → ℕ → ℕ → Type 0) → ((e : Entry) → e ∈ fixed → P e.unit e.from e.to) → ((c : Cell) → c ∈ cs → P c.u c.s.from c.s.to) → (e : Entry) → e ∈ t → P e.unit e.from e.to
  every_entry P a b e m = go (entry_source e m)
    where
      go : (e ∈ fixed) ⊎ ((c : Cell) × OfCell fixed cs e c) → P e.unit e.from e.to
      go (inl f) = a e f
      go (inr k) =
          let h = k.1 in
          subst (λ (n : ℕ). P n e.from e.to) (sym h.unit_is)
          (subst (λ (n : ℕ). P k.0.u n e.to) (sym h.from_is)
          (subst (λ (n : ℕ). P k.0.u k.0.s.from n) (sym h.to_is) (b k.0 h.among)))

-- the index of a cell is the place of a fixed use: one of those that it replaces
index_below : (fixed : List Entry) (u : ℕ) (s : ValueSegment) (i : ℕ) → fixed_index fixed u s fixed ≡ Some i → i < length (fixed_uses fixed u)
unfolding fixed_index first_use
index_below fixed u s i q = go (any (replaced u s) fixed) refl q
  where
    us : List Entry
    us = fixed_uses fixed u

    p : Entry → Bool
    p f = ltb f.from s.from

    same : Some (first_use us s) ≡ Some i → first_use us s ≡ i
    same e = cc

    never : None ≡ Some i → ⊥
    never e = let z : ◌≡◌ {A = ℕ} 0 1 = cc in omega arith

    go : (b : Bool) → any (replaced u s) fixed ≡ b → cond b (Some (first_use us s)) None ≡ Some i → i < length us
    go true a e =
        let k = any_out (replaced u s) fixed (subst T (sym a) tt) in
        let r = replaced→ u s k.0 k.2 in
        let f : T (not (p k.0)) = not_T (p k.0) (λ h. omega (arith, r.1.after, ltb→lt k.0.from s.from h)) in
        subst (λ (n : ℕ). n < length us) (same e) (filter_shorter p (fixed_uses_in fixed u k.0 k.1 r.0 r.1.isuse) f)
    go false a e = absurd (never e)

module _ (fixed : List Entry) (cs : List Cell) (t : Table) (sd : Sound fixed) (it : IsTable fixed cs t) where
  pub held_index : (e : Entry) → e ∈ t → (v i : ℕ) → e.reservation ≡ Held v (Some i) → i < length (fixed_uses fixed e.unit)
  held_index e m v i q = go (entry_source fixed cs t it e m)
    where
      same : (w : ℕ) (j : Option ℕ) → Held w j ≡ Held v (Some i) → j ≡ Some i
      same w j z = cc

      go : (e ∈ fixed) ⊎ ((c : Cell) × OfCell fixed cs e c) → i < length (fixed_uses fixed e.unit)
      go (inl f) = absurd (not_held fixed sd e f v (Some i) q)
      go (inr k) =
          subst (λ (u : ℕ). i < length (fixed_uses fixed u)) (sym k.1.unit_is)
          (index_below fixed k.0.u k.0.s i (same k.0.v (fixed_index fixed k.0.u k.0.s fixed) (sym k.1.held_is ∙ q)))

  pub held_index_fixed : (e : Entry) → e ∈ t → (v i : ℕ) → e.reservation ≡ Held v (Some i) → i < length fixed
  unfolding fixed_uses
  held_index_fixed e m v i q =
      let h : i < length (fixed_uses fixed e.unit) = held_index e m v i q in
      omega (arith, h, filter_length (λ (f : Entry). eqb f.unit e.unit && is_use f.reservation) fixed)
