-- The fixed reservations as loading leaves them (`Sound`): on a unit they follow one another, so the fixed uses from a held entry's index on
-- are those that do not start before its segment. Assumes nothing.
use Prim.Native.Nat.{ℕ, zero, suc, ◌<◌, ◌≤◌}
use native.Mathlib.Omega.{arith}
use mathlib.Core.Path.{◌≡◌, refl, sym, ◌∙◌, subst}
use mathlib.Core.Logic.{◌⊎◌, inl, inr}
use mathlib.Core.List.Memᴰ
use mathlib.Core.List.{List, [], ◌∷◌}
use mathlib.Core.Bool.{Bool, true, false, not, cond}
use lib.ListN.{length, drop}
use lib.Dec.{T, ltb, ltb→lt, nltb→le, eqb_refl}
use Rattle.reg_matrix.specs.Lists.{keep, filter}
use Rattle.reg_matrix.specs.Table.{fixed_uses}
use Rattle.reg_matrix.specs.Assign.{first_use, held_by}
use Rattle.std.specs.Prelude.{Option}
use Rattle.reg_matrix.specs.declared.ValueSegment.{ValueSegment}
use Rattle.reg_matrix.specs.declared.Entry.{Entry}
use Rattle.reg_matrix.specs.declared.Reservation.{Reservation}
use Rattle.reg_matrix.specs.declared.Reservation.TheVariants.{Held}
use Rattle.reg_matrix.proofs.Members.{◌∈◌, filter_out, filter_none, fixed_uses_out}
use Rattle.reg_matrix.proofs.Sorted.{Parted, ordered_by_ends}
use Rattle.reg_matrix.proofs.Cells.{Nonempty}

-- ---- chains

-- each entry ends before the later ones start
abbrev pub Chain : List Entry → Type 0
Chain [] = Unit {0}
Chain (x ∷ xs) = ((y : Entry) → y ∈ xs → x.to ≤ y.from) × Chain xs

pub chain_filter : (p : Entry → Bool) (xs : List Entry) → Chain xs → Chain (filter p xs)
unfolding filter
chain_filter p [] h = tt
chain_filter p (x ∷ xs) h = go (p x) (chain_filter p xs h.1)
  where
    go : (b : Bool) → Chain (filter p xs) → Chain (keep b x (filter p xs))
    go true ih = ((λ y m. h.0 y (filter_out p xs m).1), ih)
    go false ih = ih

pub chain_drop : (n : ℕ) (xs : List Entry) → Chain xs → Chain (drop n xs)
chain_drop zero xs h = h
chain_drop (suc n) [] h = h
chain_drop (suc n) (x ∷ xs) h = chain_drop n xs h.1

pub chain_parted : (xs : List Entry) → Nonempty xs → Chain xs → Parted xs
chain_parted [] ne ch = tt
chain_parted (x ∷ xs) ne ch = (
  (λ y m. ordered_by_ends x y (λ u. inl (omega (arith, ch.0 y m, ne y (Memᴰ.tail m))))),
  chain_parted xs (λ y m. ne y (Memᴰ.tail m)) ch.1,
)

-- ---- of a chain, what is left from the segment's first use on: those that do not start before the segment

module _ (s : ValueSegment) where
  earlier : Entry → Bool
  earlier f = ltb f.from s.from

  rest : List Entry → List Entry
  rest us = drop (length (filter earlier us)) us

  rest_cons : (x : Entry) (xs : List Entry) (b : Bool) → earlier x ≡ b → (b ≡ false → filter earlier xs ≡ []) → rest (x ∷ xs) ≡ cond b (rest xs) (x ∷ xs)
  unfolding rest filter
  rest_cons x xs true q h = rw q refl
  rest_cons x xs false q h = rw (q, h refl) refl

  none_earlier : (x : Entry) (xs : List Entry) → x.from < x.to → Chain (x ∷ xs) → earlier x ≡ false → filter earlier xs ≡ []
  unfolding earlier
  none_earlier x xs n ch q =
      filter_none earlier xs
      (λ y m t. omega (arith, n, ch.0 y m, nltb→le x.from s.from (subst (λ (z : Bool). T (not z)) (sym q) tt), ltb→lt y.from s.from t))

  rest_in : (us : List Entry) → Nonempty us → Chain us → (e : Entry) → e ∈ us → s.from ≤ e.from → e ∈ rest us
  unfolding earlier
  rest_in [] ne ch e m h = elim m [ ]
  rest_in (x ∷ xs) ne ch e m h = go (earlier x) refl (Memᴰ.cases_cons m) (λ n. rest_in xs (λ y k. ne y (Memᴰ.tail k)) ch.1 e n h)
    where
      go : (b : Bool) → earlier x ≡ b → (e ≡ x) ⊎ (e ∈ xs) → (e ∈ xs → e ∈ rest xs) → e ∈ rest (x ∷ xs)
      go true q (inl r) ih = absurd (omega (arith, ltb→lt x.from s.from (subst T (sym q) tt), subst (λ (z : Entry). s.from ≤ z.from) r h))
      go true q (inr n) ih =
          subst (λ (l : List Entry). e ∈ l) (sym (rest_cons x xs true q (λ z. none_earlier x xs (ne x (Memᴰ.head refl)) ch (q ∙ z)))) (ih n)
      go false q k ih =
          subst (λ (l : List Entry). e ∈ l) (sym (rest_cons x xs false q (λ z. none_earlier x xs (ne x (Memᴰ.head refl)) ch q))) m

  rest_out : (us : List Entry) → Nonempty us → Chain us → (e : Entry) → e ∈ rest us → s.from ≤ e.from
  unfolding earlier rest filter
  rest_out [] ne ch e m = elim m [ ]
  rest_out (x ∷ xs) ne ch e m = go (earlier x) refl (λ n. rest_out xs (λ y k. ne y (Memᴰ.tail k)) ch.1 e n)
    where
      bound : s.from ≤ x.from → (e ≡ x) ⊎ (e ∈ xs) → s.from ≤ e.from
      bound h (inl r) = subst (λ (z : Entry). s.from ≤ z.from) (sym r) h
      bound h (inr n) = omega (arith, ne x (Memᴰ.head refl), ch.0 e n, h)

      go : (b : Bool) → earlier x ≡ b → (e ∈ rest xs → s.from ≤ e.from) → s.from ≤ e.from
      go true q ih = ih (subst (λ (l : List Entry). e ∈ l) (rest_cons x xs true q (λ z. none_earlier x xs (ne x (Memᴰ.head refl)) ch (q ∙ z))) m)
      go false q ih =
          bound (nltb→le x.from s.from (subst (λ (z : Bool). T (not z)) (sym q) tt))
          (Memᴰ.cases_cons
          (subst (λ (l : List Entry). e ∈ l) (rest_cons x xs false q (λ z. none_earlier x xs (ne x (Memᴰ.head refl)) ch q)) m))

  pub from_first_in : (us : List Entry) → Nonempty us → Chain us → (e : Entry) → e ∈ us → s.from ≤ e.from → e ∈ drop (first_use us s) us
  unfolding first_use rest earlier
  from_first_in us ne ch e m h = rest_in us ne ch e m h

  pub from_first_out : (us : List Entry) → Nonempty us → Chain us → (e : Entry) → e ∈ drop (first_use us s) us → s.from ≤ e.from
  unfolding first_use rest earlier
  from_first_out us ne ch e m = rest_out us ne ch e m

-- ---- what loading tested of the fixed reservations

pub record Sound (fixed : List Entry) : Type 0 where
  pub nonempty : Nonempty fixed
  pub free : (e : Entry) → e ∈ fixed → (v : ℕ) → T (held_by v e.reservation) → ⊥
  pub apart : (e f : Entry) → e ∈ fixed → f ∈ fixed → e.unit ≡ f.unit → (e ≡ f) ⊎ ((e.to ≤ f.from) ⊎ (f.to ≤ e.from))
  pub chain : (u : ℕ) → Chain (fixed_uses fixed u)

module _ (fixed : List Entry) (sd : Sound fixed) where
  pub not_held : (e : Entry) → e ∈ fixed → (v : ℕ) (i : Option ℕ) → e.reservation ≡ Held v i → ⊥
  not_held e n v i q = sd.free e n v (subst (λ (k : Reservation). T (held_by v k)) (sym q) (eqb_refl v))

  pub uses_nonempty : (u : ℕ) → Nonempty (fixed_uses fixed u)
  uses_nonempty u e m = sd.nonempty e (fixed_uses_out fixed u e m).0
