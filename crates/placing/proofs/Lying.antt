-- The fixed uses in their lent slice (`UsesLie`): what a search finds there. Assumes nothing.
use Prim.Native.Nat.{ℕ, zero, suc, ◌+◌, ◌-◌, ◌^◌, ◌≤◌, ◌<◌}
use native.Mathlib.Omega.{arith}
use native.Mathlib.Decide.{dec_lt}
use mathlib.Core.Path.{◌≡◌, refl, sym, ap, ◌∙◌, subst}
use mathlib.Core.Logic.{◌⊎◌, inl, inr}
use mathlib.Core.List.Memᴰ
use mathlib.Core.List.{List, [], ◌∷◌, ◌++◌, map, map-append}
use mathlib.Core.Bool.{Bool, true, false}
use lib.Dec.{T, ltb, ltb→lt}
use lib.ListN.{length, length-append, length-map}
use borrow.Author.Tests.{ltb-true, ltb-false}
use Rattle.reg_matrix.specs.Lists.{keep, filter, concat_map, count}
use Rattle.reg_matrix.specs.Table.{is_use, fixed_uses}
use Rattle.reg_matrix.specs.Assign.{first_use}
use Rattle.reg_matrix.specs.Layout.{max_fixed, greatest, use_value, use_word, use_words}
use Rattle.table_words.specs.Search.{place_of, Rises, below}
use Rattle.entries.specs.Placing.{unit_key, use_key, uses_before}
use Rattle.reg_matrix.specs.declared.ValueSegment.{ValueSegment}
use Rattle.reg_matrix.specs.declared.Entry.{Entry}
use Rattle.reg_matrix.specs.declared.Reservation.{Reservation}
use Rattle.reg_matrix.specs.declared.Reservation.TheVariants.{Held, FixedUse, FixedDef}
use Rattle.reg_matrix.proofs.Members.{◌∈◌, filter_none, fixed_uses_out, concat_out}
use Rattle.reg_matrix.proofs.Small.{SmallEntry}
use Rattle.reg_matrix.proofs.Chains.{Sound}
use Rattle.table_words.proofs.Decode.{SmallUse}
use Rattle.table_words.proofs.UseWords.{units_rise}
use Rattle.placing.proofs.Standing.{below_step, below_past, below_none, below_all, below_append, found_padded}

abbrev pub AllSmall : List Entry → Type 0
AllSmall fixed = (e : Entry) → e ∈ fixed → SmallEntry e

-- the fixed uses of all units, as they are laid out
abbrev pub all_uses : List Entry → List Entry
all_uses fixed = concat_map (fixed_uses fixed) (count 0 64)

-- the fixed uses lie in the slice, and ut behind them
pub record UsesLie (fixed : List Entry) (ut uses : List ℕ) : Type 0 where
  pub few : length (all_uses fixed) ≤ max_fixed
  pub are : uses ≡ use_words fixed ++ ut

module _ (fixed : List Entry) (sd : Sound fixed) (sm : AllSmall fixed) where
  -- a use of the unit has its number between the unit's key and the next unit's
  pub record UseOf (u x : ℕ) : Type 0 where
    pub low : unit_key u ≤ x
    pub high : x < unit_key (suc u)

  use_of_unit : (u x : ℕ) → x ∈ map use_word (fixed_uses fixed u) → UseOf u x
  use_of_unit u x m =
      let k = Memᴰ.of_map use_word (fixed_uses fixed u) m in
      let l = fixed_uses_out fixed u k.0 k.1 in
      let s = sm k.0 l.0 in
      subst (UseOf u) k.2
      (record { low = omega (arith, l.1); high = omega (arith, l.1, s.from, s.value) })

  -- those of later units
  use_of_later : (k n x : ℕ) → x ∈ map use_word (concat_map (fixed_uses fixed) (count k n)) → unit_key k ≤ x
  unfolding concat_map count
  use_of_later k zero x m = elim m [ ]
  use_of_later k (suc n) x m =
      go (Memᴰ.append_cases (map use_word (fixed_uses fixed k)) (subst (λ (l : List ℕ). x ∈ l) (map-append use_word (fixed_uses fixed k) (concat_map (fixed_uses fixed) (count (suc k) n))) m))
      (λ h. use_of_later (suc k) n x h)
    where
      go : (x ∈ map use_word (fixed_uses fixed k)) ⊎ (x ∈ map use_word (concat_map (fixed_uses fixed) (count (suc k) n))) → (x ∈ map use_word (concat_map (fixed_uses fixed) (count (suc k) n)) → unit_key (suc k) ≤ x) → unit_key k ≤ x
      go (inl h) ih = (use_of_unit k x h).low
      go (inr h) ih = omega (arith, ih h)

  use_is : (r : Reservation) → T (is_use r) → r ≡ FixedUse (use_value r)
  use_is (FixedUse x) h = refl
  use_is FixedDef h = absurd h
  use_is (Held v i) h = absurd h

  pub use_small : (u : ℕ) (f : Entry) → f ∈ fixed_uses fixed u → SmallUse f
  use_small u f m =
      let k = fixed_uses_out fixed u f m in
      let s = sm f k.0 in
      record { unit = s.unit; to = s.to; two = s.two k.2; value = s.value; isuse = use_is f.reservation k.2 }

  all_rise : Rises (map use_word (all_uses fixed))
  all_rise = units_rise fixed use_small sd.chain 0 64

  all_small : (x : ℕ) → x ∈ map use_word (all_uses fixed) → x < greatest
  all_small x m =
      let k = Memᴰ.of_map use_word (all_uses fixed) m in
      let l = concat_out (fixed_uses fixed) (count 0 64) k.1 in
      let s = sm k.0 (fixed_uses_out fixed l.0 k.0 l.2).0 in
      subst (λ (z : ℕ). z < greatest) k.2 (omega (arith, s.unit, s.from, s.value))

  -- ---- how many are below a key

  abbrev earlier : ℕ → Entry → Bool
  earlier p e = ltb e.from p

  unit_below : (u p : ℕ) (us : List Entry) → ((e : Entry) → e ∈ us → (e.unit ≡ u) × SmallEntry e) → below (use_key u p) (map use_word us) ≡ length (filter (earlier p) us)
  unfolding below filter
  unit_below u p [] h = refl
  unit_below u p (x ∷ us) h = go (ltb x.from p) refl (unit_below u p us (λ e m. h e (Memᴰ.tail m)))
    where
      k : (x.unit ≡ u) × SmallEntry x
      k = h x (Memᴰ.head refl)

      go :
          (b : Bool)
          → ltb x.from p ≡ b
          → below (use_key u p) (map use_word us) ≡ length (filter (earlier p) us)
          → below (use_key u p) (map use_word (x ∷ us)) ≡ length (keep (ltb x.from p) x (filter (earlier p) us))
      go true q ih =
          below_step (use_key u p) (use_word x) (map use_word us) (omega (arith, ltb-true x.from p q, k.0, k.1.value)) ∙ ap suc ih ∙ sym (rw q refl)
      go false q ih = below_past (use_key u p) (use_word x) (map use_word us) (omega (arith, ltb-false x.from p q, k.0)) ∙ ih ∙ sym (rw q refl)

  units_below :
      (k n u p : ℕ)
      → k ≤ u
      → u < k + n
      → p ≤ 2 ^ 32
      → below (use_key u p) (map use_word (concat_map (fixed_uses fixed) (count k n))) ≡ length (concat_map (fixed_uses fixed) (count k (u - k))) + length (filter (earlier p) (fixed_uses fixed u))
  unfolding concat_map count
  units_below k zero u p a b h = absurd (omega arith)
  units_below k (suc n) u p a b h = ap (below (use_key u p)) parts ∙ below_append (use_key u p) (map use_word us) (map use_word later) ∙ go (dec_lt k u) (λ c. units_below (suc k) n u p c (omega arith) h)
    where
      us : List Entry
      us = fixed_uses fixed k

      later : List Entry
      later = concat_map (fixed_uses fixed) (count (suc k) n)

      parts : map use_word (us ++ later) ≡ map use_word us ++ map use_word later
      parts = map-append use_word us later

      go :
          Dec (k < u)
          → (suc k ≤ u → below (use_key u p) (map use_word later) ≡ length (concat_map (fixed_uses fixed) (count (suc k) (u - suc k))) + length (filter (earlier p) (fixed_uses fixed u)))
          → below (use_key u p) (map use_word us) + below (use_key u p) (map use_word later)
          ≡ length (concat_map (fixed_uses fixed) (count k (u - k))) + length (filter (earlier p) (fixed_uses fixed u))
      go (yes c) ih =
          let e : u - k ≡ suc (u - suc k) = omega arith in
          let d : below (use_key u p) (map use_word us) ≡ length us =
          below_all (use_key u p) (map use_word us) (λ y m. omega (arith, (use_of_unit k y m).high)) ∙ length-map us use_word in
          rw e (omega (arith, d, ih c, length-append us (concat_map (fixed_uses fixed) (count (suc k) (u - suc k)))))
      go (no c) ih =
          let q : k ≡ u = omega arith in
          let e : u - k ≡ 0 = omega arith in
          let d : below (use_key u p) (map use_word later) ≡ 0 =
          below_none (use_key u p) (map use_word later) (λ y m. omega (arith, use_of_later (suc k) n y m)) in
          let f : below (use_key u p) (map use_word us) ≡ length (filter (earlier p) (fixed_uses fixed u)) =
          subst (λ (j : ℕ). below (use_key u p) (map use_word (fixed_uses fixed j)) ≡ length (filter (earlier p) (fixed_uses fixed u))) (sym q)
          (unit_below u p (fixed_uses fixed u) (λ x m. let l = fixed_uses_out fixed u x m in (l.1, sm x l.0))) in
          rw e (omega (arith, d, f))

  -- how many there are
  pub use_count : (ut uses : List ℕ) → UsesLie fixed ut uses → place_of max_fixed uses greatest ≡ length (all_uses fixed)
  unfolding use_words
  use_count ut uses lie =
      ap (λ (l : List ℕ). place_of max_fixed l greatest) lie.are
      ∙ found_padded max_fixed (map use_word (all_uses fixed)) greatest ut greatest (simp length-map lie.few) all_rise all_small (omega arith)
      ∙ below_all greatest (map use_word (all_uses fixed)) all_small
      ∙ length-map (all_uses fixed) use_word

  module _ (ut uses : List ℕ) (lie : UsesLie fixed ut uses) (u : ℕ) (small : u < 64) where
    -- the number of uses of lower units
    unfoldable pub first_use_lem : ℕ
    first_use_lem = length (concat_map (fixed_uses fixed) (count 0 u))

    pub use_place : (p : ℕ) → p ≤ 2 ^ 32 → place_of max_fixed uses (use_key u p) ≡ first_use_lem + length (filter (earlier p) (fixed_uses fixed u))
    unfolding use_words first_use_lem
    use_place p h =
        let z : u - 0 ≡ u = omega arith in
        ap (λ (l : List ℕ). place_of max_fixed l (use_key u p)) lie.are
        ∙ found_padded max_fixed (map use_word (all_uses fixed)) greatest ut (use_key u p) (simp length-map lie.few) all_rise all_small (omega (arith, small, h))
        ∙ units_below 0 64 u p (omega arith) (omega arith) h
        ∙ ap (λ (n : ℕ). length (concat_map (fixed_uses fixed) (count 0 n)) + length (filter (earlier p) (fixed_uses fixed u))) z

    pub unit_place : place_of max_fixed uses (unit_key u) ≡ first_use_lem
    unit_place =
        let z : unit_key u ≡ use_key u 0 = omega arith in
        let e : filter (earlier 0) (fixed_uses fixed u) ≡ [] = filter_none (earlier 0) (fixed_uses fixed u) (λ x m t. absurd (omega (arith, ltb→lt x.from 0 t))) in
        ap (place_of max_fixed uses) z ∙ use_place 0 (omega arith) ∙ omega (arith, ap length e)

    pub uses_before_lem : (s : ValueSegment) → s.from ≤ 2 ^ 32 → uses_before uses u s.from ≡ first_use (fixed_uses fixed u) s
    unfolding uses_before first_use
    uses_before_lem s h = let a = use_place s.from h in let b = unit_place in omega (arith, a, b)
