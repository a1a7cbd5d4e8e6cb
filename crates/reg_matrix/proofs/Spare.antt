-- A unit is spare over a range exactly if every entry of the unit ends at or before the range's start, or starts past its end (the end
-- closed). Assumes nothing.
use Prim.Native.Nat.{ℕ, ◌<◌, ◌≤◌}
use native.Mathlib.Omega.{arith}
use mathlib.Core.Path.{◌≡◌, refl, sym, subst}
use mathlib.Core.Logic.{◌⊎◌, inl, inr, ◌↔◌}
use mathlib.Core.List.Memᴰ
use mathlib.Core.List.{List, [], ◌∷◌}
use mathlib.Core.Bool.{Bool, true, false, not}
use lib.Dec.{T, ltb, ltb→lt, lt→ltb, nltb→le}
use Rattle.reg_matrix.specs.Lists.{first, or_else}
use Rattle.reg_matrix.specs.Table.{Table, on_unit}
use Rattle.reg_matrix.specs.Questions.{starts_past, is_unit_free}
use Rattle.reg_matrix.specs.declared.ValueSegment.{ValueSegment}
use Rattle.reg_matrix.specs.declared.Entry.{Entry}
use Rattle.reg_matrix.proofs.Members.{◌∈◌, on_unit_out, on_unit_in}
use Rattle.reg_matrix.proofs.Cells.{Nonempty, Cell, IsTable}
use Rattle.reg_matrix.proofs.Chains.{Chain, Sound}
use Rattle.reg_matrix.proofs.Apart.{Together, entry_nonempty, unit_chain}

module _ (s : ValueSegment) where
  -- the entry leaves the range alone
  abbrev pub Clears : Entry → Type 0
  Clears e = (e.to ≤ s.from) ⊎ (s.to < e.from)

  ends_past : Entry → Bool
  ends_past e = ltb s.from e.to

  -- of entries that follow one another, the first that ends past the range's start decides
  spare_out : (l : List Entry) → Nonempty l → Chain l → T (starts_past s (first ends_past l)) → (e : Entry) → e ∈ l → Clears e
  unfolding first ends_past
  spare_out [] ne ch t e m = elim m [ ]
  spare_out (x ∷ xs) ne ch t e m = go (ends_past x) refl t (Memᴰ.cases_cons m) (λ h n. spare_out xs (λ y k. ne y (Memᴰ.tail k)) ch.1 h e n)
    where
      go :
          (b : Bool)
          → ends_past x ≡ b
          → T (starts_past s (or_else b x (first ends_past xs)))
          → (e ≡ x) ⊎ (e ∈ xs)
          → (T (starts_past s (first ends_past xs)) → e ∈ xs → Clears e)
          → Clears e
      go true q h (inl p) ih = subst Clears (sym p) (inr (ltb→lt _ _ h))
      go true q h (inr n) ih = inr (omega (arith, ltb→lt s.to x.from h, ch.0 e n, ne x (Memᴰ.head refl)))
      go false q h (inl p) ih = subst Clears (sym p) (inl (nltb→le s.from x.to (subst (λ (z : Bool). T (not z)) (sym q) tt)))
      go false q h (inr n) ih = ih h n

  spare_in : (l : List Entry) → ((e : Entry) → e ∈ l → Clears e) → T (starts_past s (first ends_past l))
  unfolding first ends_past
  spare_in [] h = tt
  spare_in (x ∷ xs) h = go (ends_past x) refl (h x (Memᴰ.head refl)) (spare_in xs (λ e m. h e (Memᴰ.tail m)))
    where
      go : (b : Bool) → ends_past x ≡ b → Clears x → T (starts_past s (first ends_past xs)) → T (starts_past s (or_else b x (first ends_past xs)))
      go true q (inl k) ih = absurd (omega (arith, k, ltb→lt s.from x.to (subst T (sym q) tt)))
      go true q (inr k) ih = lt→ltb _ _ k
      go false q k ih = ih

module _ (fixed : List Entry) (cs : List Cell) (t : Table) (sd : Sound fixed) (it : IsTable fixed cs t) (tg : Together fixed cs) where
  pub spare_law : (u : ℕ) (s : ValueSegment) → T (is_unit_free t u s) ↔ ((e : Entry) → e ∈ t → e.unit ≡ u → Clears s e)
  unfolding is_unit_free ends_past
  spare_law u s = (
    (λ h e m q.
        spare_out s (on_unit u t) (λ x n. entry_nonempty fixed cs t sd it x (on_unit_out u t x n).0) (unit_chain fixed cs t sd it tg u) h e (on_unit_in u t e m q)),
    λ h. spare_in s (on_unit u t) (λ e n. let k = on_unit_out u t e n in h e k.0 k.1),
  )
