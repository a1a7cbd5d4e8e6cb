-- The tests of ranges in the order of the code: 5, 6, 7 range by range, and the segments as they stand in what is lent. Assumes nothing.
use Prim.Native.Nat.{ℕ, zero, suc, ◌+◌, ◌-◌, ◌≤◌, ◌<◌}
use native.Mathlib.Numerals.{add-one}
use native.Mathlib.Omega.{arith}
use mathlib.Core.Path.{◌≡◌, refl, sym, ap, ◌∙◌, subst}
use mathlib.Core.Logic.{◌⊎◌, inl, inr}
use mathlib.Core.List.Memᴰ
use mathlib.Core.List.{List, [], ◌∷◌, map}
use mathlib.Core.Option.{Option, none, some}
use mathlib.Core.Bool.{Bool, true, false, not, ◌||◌, cond}
use lib.Dec.{T, ltb, leb, eqb}
use lib.Ieee.Bits.{is_false}
use lib.ListN.{length, get_or}
use borrow.Author.Tests.{lt-leb, le-ltb, ne_eqb, leb-false, ltb-false}
use Rattle.reg_matrix.specs.Lists.{is_nil}
use Rattle.reg_matrix.specs.Refusals.{refusal, or_then, bad_slot, range_refusal, ranges_refusal}
use Rattle.table_words.specs.Segments.{segment_at, segments_from, segments_in}
use Rattle.reg_matrix.specs.declared.ValueSegment.{ValueSegment}
use Rattle.reg_matrix.proofs.Members.{◌∈◌}
use Rattle.reg_matrix.proofs.Whole.{Rising}

-- ---- a range

chosen : Bool → Bool → Bool → Option ℕ
chosen a b c = cond a (some 5) (cond b (some 6) (cond c (some 7) none))

-- ---- ranges one after another

-- ranges that no test refuses are nonempty and rise

passed : (a b c : Bool) → chosen a b c ≡ none → (a ≡ false) × (c ≡ false)
unfolding chosen
passed true b c q = let z : ◌≡◌ {A = ℕ} 0 1 = cc in absurd (omega arith)
passed false true c q = let z : ◌≡◌ {A = ℕ} 0 1 = cc in absurd (omega arith)
passed false false true q = let z : ◌≡◌ {A = ℕ} 0 1 = cc in absurd (omega arith)
passed false false false q = (refl, refl)

range_passed : (past : ℕ) (s : ValueSegment) → range_refusal past s ≡ none → (s.from < s.to) × (past ≤ s.from)
unfolding range_refusal refusal chosen
range_passed past s q =
    let p = passed (leb s.to s.from) (bad_slot s.from || bad_slot s.to) (ltb s.from past) q in
    (leb-false s.to s.from p.0, ltb-false s.from past p.1)

pub record Passed (past : ℕ) (ss : List ValueSegment) : Type 0 where
  pub nonempty : (s : ValueSegment) → s ∈ ss → s.from < s.to
  pub rising : Rising ss
  pub behind : (s : ValueSegment) → s ∈ ss → past ≤ s.from

pub ranges_passed : (past : ℕ) (ss : List ValueSegment) → ranges_refusal past ss ≡ none → Passed past ss
unfolding ranges_refusal
ranges_passed past [] q = record { nonempty = λ s m. elim m [ ]; rising = tt; behind = λ s m. elim m [ ] }
ranges_passed past (s ∷ ss) q = go (range_refusal past s) refl q (λ p. ranges_passed s.to ss p)
  where
    both : (s.from < s.to) × (past ≤ s.from) → Passed s.to ss → Passed past (s ∷ ss)
    both h r = record { nonempty = λ x m. fit x (Memᴰ.cases_cons m); rising = (r.behind, r.rising); behind = λ x m. after x (Memᴰ.cases_cons m) }
      where
        fit : (x : ValueSegment) → (x ≡ s) ⊎ (x ∈ ss) → x.from < x.to
        fit x (inl e) = subst (λ (w : ValueSegment). w.from < w.to) (sym e) h.0
        fit x (inr m) = r.nonempty x m

        after : (x : ValueSegment) → (x ≡ s) ⊎ (x ∈ ss) → past ≤ x.from
        after x (inl e) = subst (λ (w : ValueSegment). past ≤ w.from) (sym e) h.1
        after x (inr m) = omega (arith, h.0, h.1, r.behind x m)

    go : (o : Option ℕ) → range_refusal past s ≡ o → or_then o (ranges_refusal s.to ss) ≡ none → (ranges_refusal s.to ss ≡ none → Passed s.to ss) → Passed past (s ∷ ss)
    go none e p ih = both (range_passed past s e) (ih p)
    go (some n) e p ih = let z : ◌≡◌ {A = ℕ} 0 1 = cc in absurd (omega arith)

-- and such ranges, with no point in slot 3, no test refuses
pub passed_ranges : (past : ℕ) (ss : List ValueSegment) → Passed past ss → ((s : ValueSegment) → s ∈ ss → T (not (bad_slot s.from || bad_slot s.to))) → ranges_refusal past ss ≡ none
unfolding ranges_refusal range_refusal refusal
passed_ranges past [] p h = refl
passed_ranges past (s ∷ ss) p h =
    let a : leb s.to s.from ≡ false = lt-leb s.to s.from (p.nonempty s (Memᴰ.head refl)) in
    let c : ltb s.from past ≡ false = le-ltb s.from past (p.behind s (Memᴰ.head refl)) in
    let b : (bad_slot s.from || bad_slot s.to) ≡ false = is_false (bad_slot s.from || bad_slot s.to) (h s (Memᴰ.head refl)) in
    let later : Passed s.to ss = record { nonempty = λ x m. p.nonempty x (Memᴰ.tail m); rising = p.rising.1; behind = p.rising.0 } in
    rw (a, b, c) (passed_ranges s.to ss later (λ x m. h x (Memᴰ.tail m)))

-- ---- segments as three lists of numbers

later_segments : (f t v : ℕ) (fs ts vs : List ℕ) (n k : ℕ) → segments_from (f ∷ fs) (t ∷ ts) (v ∷ vs) (suc n) k ≡ segments_from fs ts vs n k
unfolding segments_from
later_segments f t v fs ts vs n zero = refl
later_segments f t v fs ts vs n (suc k) = ap (λ (l : List ValueSegment). segment_at fs ts vs n ∷ l) (later_segments f t v fs ts vs (suc n) k)

-- their points and values stand for the segments
pub segments_back : (ss : List ValueSegment) → segments_in (map (λ s. s.from) ss) (map (λ s. s.to) ss) (map (λ s. s.value) ss) ≡ ss
unfolding segments_from
segments_back [] = refl
segments_back (s ∷ ss) =
    ap (λ (l : List ValueSegment). s ∷ l)
    (later_segments s.from s.to s.value (map (λ s. s.from) ss) (map (λ s. s.to) ss) (map (λ s. s.value) ss) 0 (length (map (λ s. s.from) ss)) ∙ segments_back ss)

module _ (fs ts vs : List ℕ) where
  pub segments_length : (n k : ℕ) → length (segments_from fs ts vs n k) ≡ k
  unfolding segments_from
  segments_length n zero = refl
  segments_length n (suc k) = ap suc (segments_length (suc n) k)

  pub segments_nil : (n k : ℕ) → is_nil (segments_from fs ts vs n k) ≡ eqb k 0
  unfolding segments_from
  segments_nil n zero = refl
  segments_nil n (suc k) = sym (ne_eqb (suc k) 0 (λ q. omega arith))

  -- the values do not matter
  pub ranges_values : (past n k : ℕ) → ranges_refusal past (segments_from fs ts vs n k) ≡ ranges_refusal past (segments_from fs ts [] n k)
  unfolding segments_from ranges_refusal range_refusal
  ranges_values past n zero = refl
  ranges_values past n (suc k) = ap (or_then (range_refusal past (segment_at fs ts vs n))) (ranges_values (get_or ts n 0) (suc n) k)

  pub ranges_start : (past : ℕ) → ranges_refusal past (segments_in fs ts vs) ≡ ranges_refusal past (segments_from fs ts vs 0 (length fs - 0))
  ranges_start past =
      let e : length fs - 0 ≡ length fs = omega arith in
      rw e

  ranges_at :
      (past i : ℕ)
      → i < length fs
      → ranges_refusal past (segments_from fs ts vs i (length fs - i))
      ≡ or_then (range_refusal past (segment_at fs ts vs i)) (ranges_refusal (get_or ts i 0) (segments_from fs ts vs (i + 1) (length fs - (i + 1))))
  unfolding segments_from ranges_refusal
  ranges_at past i h =
      let e : length fs - i ≡ suc (length fs - (i + 1)) = omega arith in
      rw (e, add-one i)

  -- the loop: a range that refuses, one that does not, and the end
  module _ (past i f t : ℕ) (h : i < length fs) (a : f ≡ get_or fs i 0) (b : t ≡ get_or ts i 0) where
    pub ranges_stop :
        (n : ℕ)
        → some n ≡ range_refusal past (record { from = f; to = t; value = 0 })
        → some n ≡ ranges_refusal past (segments_from fs ts vs i (length fs - i))
    unfolding range_refusal
    ranges_stop n q = rw (ranges_at past i h, ← a, ← b, ← q)

    pub ranges_go :
        none ≡ range_refusal past (record { from = f; to = t; value = 0 })
        → ranges_refusal past (segments_from fs ts vs i (length fs - i)) ≡ ranges_refusal t (segments_from fs ts vs (i + 1) (length fs - (i + 1)))
    unfolding range_refusal
    ranges_go q = rw (ranges_at past i h, ← a, ← b, ← q)

  pub ranges_end : (past i : ℕ) → length fs ≤ i → ranges_refusal past (segments_from fs ts vs i (length fs - i)) ≡ none
  unfolding segments_from ranges_refusal
  ranges_end past i h =
      let e : length fs - i ≡ zero = omega arith in
      rw e
