-- The walk over one unit of a table that is laid out: it reports what the check lists there, and goes on to the next unit. Assumes nothing.
use Prim.Native.Nat.{ℕ, zero, suc, ◌+◌, ◌*◌, ◌%◌, ◌^◌, ◌<◌, ◌≤◌}
use native.Mathlib.Numerals.{add-one}
use native.Mathlib.Decide.{dec_lt, dec_le}
use native.Mathlib.Omega.{arith}
use mathlib.Core.Path.{◌≡◌, refl, sym, ap, ◌∙◌, subst}
use mathlib.Core.Logic.{◌⊎◌, inl, inr}
use mathlib.Core.List.Memᴰ
use mathlib.Core.List.{List, [], ◌∷◌, ◌++◌, map, append_assoc}
use mathlib.Core.Bool.{Bool, true, false, not, ◌&&◌, ◌||◌, cond, or-false, or-true}
use lib.Dec.{ltb, eqb, eqb→eq}
use lib.ListN.{length, drop, get_or, length-map, take-append-drop}
use lib.Seq.{drop-nil}
use lib.Count.{count_trailing_zeros, trailing_le}
use borrow.Author.Tests.{lt-ltb, le-ltb, le-leb, lt-leb, eq-eqb, ne_eqb, ltb-true, ltb-false, eqb-true, eqb-false}
use Rattle.reg_matrix.specs.Lists.{keep, filter, any, padded}
use Rattle.reg_matrix.specs.Table.{Table, fixed_uses, on_unit}
use Rattle.reg_matrix.specs.Check.{overlaps, indexed, own_use, shared_part, whole_use, uses_under, reports_of, counts, check_on}
use Rattle.reg_matrix.specs.Layout.{max_entries, max_fixed, greatest, end_word, use_value, end_words, use_of}
use Rattle.table_words.specs.Search.{below, place_of}
use Rattle.table_words.specs.Segments.{segment_at, segments_from}
use Rattle.matrix.specs.Walk.{Lent, entry_at, onward, under_entry, entered, meeting, entry_step, use_meeting, use_step, later_units, leave_unit, step_of, emit, remaining}
use Rattle.reg_matrix.specs.declared.ValueSegment.{ValueSegment}
use Rattle.reg_matrix.specs.declared.Entry.{Entry}
use Rattle.std.specs.Prelude.{Some, None}
use Rattle.reg_matrix.specs.declared.Reservation.{Reservation}
use Rattle.reg_matrix.specs.declared.Reservation.TheVariants.{Held, FixedUse, FixedDef}
use Rattle.reg_matrix.specs.declared.Interference.{Interference}
use Rattle.reg_matrix.specs.declared.InterferenceKind.TheVariants.{Fixed, VirtReg}
use Rattle.matrix.specs.declared.Cursor.{Cursor}
use Rattle.matrix.specs.declared.Move.{Move}
use Rattle.matrix.specs.declared.Move.TheVariants.{Meets, Goes}
use Rattle.reg_matrix.proofs.Members.{◌∈◌, filter_none, drop_out, fixed_uses_out}
use Rattle.reg_matrix.proofs.Sorted.{Before, Sorted, before→, below_out}
use Rattle.reg_matrix.proofs.Chains.{Chain, chain_drop}
use Rattle.reg_matrix.proofs.Whole.{Rising}
use Rattle.table_words.proofs.Halves.{none_below, below_cons}
use Rattle.matrix.proofs.Walks.{remaining_step}
use Rattle.matrix.proofs.Passing.{ahead, behind, meets, counts_same, counts_stay, counts_once, check_end, check_empty, pass_entry, pass_segment, pass_stay, pass_on}
use Rattle.table_words.proofs.UseWords.{uses_at, back_other}
use Rattle.table_words.proofs.Decode.{Small, SmallUse, use_back, use_value_lem, drop_next, drop_inside}
use Rattle.placing.proofs.Standing.{SmallEnds, words_small, words_rise, found_padded}
use Rattle.placing.proofs.Lying.{all_uses}
use Rattle.placing.proofs.Reading.{Holds, Walkable, entry_here, entry_past, use_here, use_past, step_no_segment, step_no_entry, step_other, step_entry, step_use}

small_ends : (t : Table) → ((e : Entry) → e ∈ t → Small e) → SmallEnds t
small_ends t h e m = record { unit = (h e m).unit; to = (h e m).to }

-- ---- the fixed uses under an entry

module _ (fixed : List Entry) (t : Table) (W : Lent) (L : Holds fixed t W) (P : Walkable fixed t) (full : Bool) (m n e : ℕ) where
  -- the position at this entry and segment
  before_uses : Cursor
  before_uses = record { units = m; segment = n; entry = e; inner = None; full = full }

  -- at a fixed use under the entry
  at_use : ℕ → Cursor
  at_use i = record { units = m; segment = n; entry = e; inner = Some i; full = full }

  module _ (z : m ≡ 0 → ⊥) (a : n < length W.froms) (b : e < max_entries) (x : Entry) (q : entry_at W e ≡ x) (o : x.unit ≡ count_trailing_zeros 64 m) where
    s : ValueSegment
    s = segment_at W.froms W.tos W.values n

    -- the uses that are reported
    told : List Entry → List Interference
    told us = map (whole_use n) (filter (λ f. overlaps s f && not (own_use s f.reservation)) us)

    use_step_lem : (p : ℕ) → p < max_fixed → step_of W (at_use p) ≡ use_meeting (at_use p) p x s (use_of (get_or W.uses p 0)) (get_or W.uses p 0 % 2 ^ 16)
    unfolding use_step at_use s
    use_step_lem p h = step_use W (at_use p) z a b x q o p refl ∙ rw (lt-leb max_fixed p h)

    use_end : (p : ℕ) → max_fixed ≤ p → step_of W (at_use p) ≡ Goes (onward true (at_use p) x s)
    unfolding use_step at_use s
    use_end p h = step_use W (at_use p) z a b x q o p refl ∙ rw (le-leb max_fixed p h)

    -- the same position, whatever use was looked at
    onward_same : (p : ℕ) → onward true (at_use p) x s ≡ onward true before_uses x s
    unfolding onward at_use before_uses
    onward_same p = refl

    goes_on_lem : (p : ℕ) → step_of W (at_use p) ≡ Goes (onward true (at_use p) x s) → remaining W (at_use p) ≡ remaining W (onward true before_uses x s)
    goes_on_lem p r = remaining_step W (at_use p) ∙ (ap (λ k. emit k (λ d. remaining W d)) r ∙ ap (remaining W) (onward_same p))

    -- no use of the unit any more
    use_other : (p : ℕ) (f : Entry) → p < max_fixed → use_of (get_or W.uses p 0) ≡ f → (f.unit ≡ x.unit → ⊥) → step_of W (at_use p) ≡ Goes (onward true (at_use p) x s)
    unfolding use_meeting
    use_other p f h r k = use_step_lem p h ∙ rw (r, ne_eqb _ _ k)

    unit_known : x.unit ≤ 64
    unit_known = omega (arith, o, trailing_le 64 m)

    past_unit : (use_of greatest).unit ≡ 255
    unfolding use_of
    past_unit = refl

    uses_done : (later : List Entry) (p : ℕ) → drop p (all_uses fixed) ≡ later → ((f : Entry) → f ∈ later → SmallUse f × (f.unit ≡ x.unit → ⊥)) → remaining W (at_use p) ≡ remaining W (onward true before_uses x s)
    uses_done [] p r h =
        elim (dec_lt p max_fixed) as (λ _. remaining W (at_use p) ≡ remaining W (onward true before_uses x s)) [
          | yes l ↦
              goes_on_lem p
              (use_other p (use_of greatest) l (ap use_of (use_past fixed t W L P p r l)) (λ k. omega (arith, past_unit, unit_known, k)))
          | no l ↦ goes_on_lem p (use_end p (omega arith))
        ]
    uses_done (f ∷ fs) p r h =
        let k = h f (Memᴰ.head refl) in
        goes_on_lem p
        (use_other p f (omega (arith, drop_inside p (all_uses fixed) f fs r, P.few_uses)) (ap use_of (use_here fixed t W L P p f fs r) ∙ use_back f k.0) k.1)

    module _ (p : ℕ) (f : Entry) (fs : List Entry) (r : drop p (all_uses fixed) ≡ f ∷ fs) (k : SmallUse f) (y : f.unit ≡ x.unit) where
      at_this : step_of W (at_use p) ≡ use_meeting (at_use p) p x s f (use_value f.reservation)
      at_this =
          use_step_lem p (omega (arith, drop_inside p (all_uses fixed) f fs r, P.few_uses))
          ∙ rw (use_here fixed t W L P p f fs r, use_back f k, use_value_lem f k)

      use_stops : s.to ≤ f.from → step_of W (at_use p) ≡ Goes (onward true (at_use p) x s)
      unfolding use_meeting
      use_stops h = at_this ∙ rw (eq-eqb _ _ y, le-leb _ _ h)

      use_early : f.from < s.to → f.to ≤ s.from → step_of W (at_use p) ≡ Goes (at_use (p + 1))
      unfolding use_meeting at_use
      use_early g h = at_this ∙ rw (eq-eqb _ _ y, lt-leb _ _ g, le-leb _ _ h)

      use_own : f.from < s.to → s.from < f.to → use_value f.reservation ≡ s.value → step_of W (at_use p) ≡ Goes (at_use (p + 1))
      unfolding use_meeting at_use
      use_own g h v = at_this ∙ rw (eq-eqb _ _ y, lt-leb _ _ g, lt-leb _ _ h, eq-eqb _ _ v)

      use_met : f.from < s.to → s.from < f.to → (use_value f.reservation ≡ s.value → ⊥) → step_of W (at_use p) ≡ Meets (whole_use n f) (at_use (p + 1))
      unfolding use_meeting at_use
      use_met g h v = at_this ∙ rw (eq-eqb _ _ y, lt-leb _ _ g, lt-leb _ _ h, ne_eqb _ _ v)

    -- ---- which uses are reported

    told_out : (f : Entry) (fs : List Entry) → (overlaps s f && not (own_use s f.reservation)) ≡ false → told (f ∷ fs) ≡ told fs
    unfolding told filter
    told_out f fs r = ap (λ k. map (whole_use n) (keep k f (filter (λ f. overlaps s f && not (own_use s f.reservation)) fs))) r

    told_in : (f : Entry) (fs : List Entry) → (overlaps s f && not (own_use s f.reservation)) ≡ true → told (f ∷ fs) ≡ whole_use n f ∷ told fs
    unfolding told filter
    told_in f fs r = ap (λ k. map (whole_use n) (keep k f (filter (λ f. overlaps s f && not (own_use s f.reservation)) fs))) r

    told_none : (fs : List Entry) → ((f : Entry) → f ∈ fs → s.to ≤ f.from) → told fs ≡ []
    unfolding told filter
    told_none [] h = refl
    told_none (f ∷ fs) h =
        told_out f fs (ap (λ k. k && not (own_use s f.reservation)) (behind s f (h f (Memᴰ.head refl))))
        ∙ told_none fs (λ g k. h g (Memᴰ.tail k))

    -- whether a use has the segment's own value
    own_is : (f : Entry) → SmallUse f → own_use s f.reservation ≡ eqb (use_value f.reservation) s.value
    own_is f k = ap (own_use s) k.isuse

    use_walk :
        (us later : List Entry) (p : ℕ)
        → drop p (all_uses fixed) ≡ us ++ later
        → ((f : Entry) → f ∈ us → SmallUse f × (f.unit ≡ x.unit))
        → ((f : Entry) → f ∈ later → SmallUse f × (f.unit ≡ x.unit → ⊥))
        → Chain us
        → remaining W (at_use p) ≡ told us ++ remaining W (onward true before_uses x s)
    use_walk [] later p r h l c = uses_done later p r l ∙ ap (λ k. k ++ remaining W (onward true before_uses x s)) (sym (told_none [] (λ f k. elim k [ ])))
    use_walk (f ∷ fs) later p r h l c =
        go (dec_le s.to f.from) (dec_le f.to s.from) (eqb (use_value f.reservation) s.value) refl
        (use_walk fs later (p + 1) (drop_next p (all_uses fixed) f (fs ++ later) r) (λ g k. h g (Memᴰ.tail k)) l c.1)
      where
        rest : List Interference
        rest = remaining W (onward true before_uses x s)

        k : SmallUse f
        k = (h f (Memᴰ.head refl)).0

        y : f.unit ≡ x.unit
        y = (h f (Memᴰ.head refl)).1

        one : (v : Move) → step_of W (at_use p) ≡ v → remaining W (at_use p) ≡ emit v (λ d. remaining W d)
        one v q = remaining_step W (at_use p) ∙ ap (λ j. emit j (λ d. remaining W d)) q

        go :
            Dec (s.to ≤ f.from)
            → Dec (f.to ≤ s.from)
            → (b : Bool)
            → eqb (use_value f.reservation) s.value ≡ b
            → remaining W (at_use (p + 1)) ≡ told fs ++ remaining W (onward true before_uses x s)
            → remaining W (at_use p) ≡ told (f ∷ fs) ++ remaining W (onward true before_uses x s)
        go (yes a) d b w ih =
            goes_on_lem p (use_stops p f (fs ++ later) r k y a)
            ∙ ap (λ j. j ++ rest) (sym (told_out f fs (ap (λ j. j && not (own_use s f.reservation)) (behind s f a)) ∙ told_none fs (λ g i. omega (arith, a, c.0 g i, k.two))))
        go (no a) (yes d) b w ih =
            one _ (use_early p f (fs ++ later) r k y (omega arith) d)
            ∙ (ih ∙ ap (λ j. j ++ rest) (sym (told_out f fs (ap (λ j. j && not (own_use s f.reservation)) (ahead s f d)))))
        go (no a) (no d) true w ih =
            one _ (use_own p f (fs ++ later) r k y (omega arith) (omega arith) (eqb-true _ _ w))
            ∙ (ih
            ∙ ap (λ j. j ++ rest) (sym (told_out f fs (ap (λ j. j && not (own_use s f.reservation)) (meets s f (omega arith) (omega arith)) ∙ ap not (own_is f k ∙ w)))))
        go (no a) (no d) false w ih =
            one _ (use_met p f (fs ++ later) r k y (omega arith) (omega arith) (eqb-false _ _ w))
            ∙ (ap (λ j. whole_use n f ∷ j) ih
            ∙ ap (λ j. j ++ rest) (sym (told_in f fs (ap (λ j. j && not (own_use s f.reservation)) (meets s f (omega arith) (omega arith)) ∙ ap not (own_is f k ∙ w)))))

-- the first segment starts first
first_least :
    (fs ts vs : List ℕ) (k : ℕ)
    → Rising (segments_from fs ts vs 0 k)
    → ((s : ValueSegment) → s ∈ segments_from fs ts vs 0 k → s.from < s.to)
    → (s : ValueSegment)
    → s ∈ segments_from fs ts vs 0 k
    → get_or fs 0 0 ≤ s.from
unfolding segments_from
first_least fs ts vs zero S N s m = elim m [ ]
first_least fs ts vs (suc k) S N s m = go (Memᴰ.cases_cons m)
  where
    go : (s ≡ segment_at fs ts vs 0) ⊎ (s ∈ segments_from fs ts vs 1 k) → get_or fs 0 0 ≤ s.from
    go (inl q) = omega (arith, ap (λ (w : ValueSegment). w.from) q)
    go (inr j) = omega (arith, S.0 s j, N (segment_at fs ts vs 0) (Memᴰ.head refl))

-- ---- the entries of a unit

module _ (fixed : List Entry) (t : Table) (W : Lent) (L : Holds fixed t W) (P : Walkable fixed t) (full : Bool) (m : ℕ) (z : m ≡ 0 → ⊥) (low : count_trailing_zeros 64 m < 64) where
  u : ℕ
  u = count_trailing_zeros 64 m

  uses : List Entry
  uses = fixed_uses fixed u

  segs : ℕ → ℕ → List ValueSegment
  segs n k = segments_from W.froms W.tos W.values n k

  seg : ℕ → ValueSegment
  seg n = segment_at W.froms W.tos W.values n

  at : ℕ → ℕ → Cursor
  at n e = record { units = m; segment = n; entry = e; inner = None; full = full }

  -- what comes after this unit
  pub after : List Interference
  after = emit (leave_unit W.ends W.froms (at 0 0)) (λ d. remaining W d)

  leaves : (n e : ℕ) → step_of W (at n e) ≡ leave_unit W.ends W.froms (at n e) → remaining W (at n e) ≡ after
  unfolding after leave_unit at
  leaves n e q = remaining_step W (at n e) ∙ ap (λ k. emit k (λ d. remaining W d)) q

  one : (n e : ℕ) (v : Move) → step_of W (at n e) ≡ v → remaining W (at n e) ≡ emit v (λ d. remaining W d)
  one n e v q = remaining_step W (at n e) ∙ ap (λ j. emit j (λ d. remaining W d)) q

  module _ (n e : ℕ) (a : n < length W.froms) (b : e < max_entries) (x : Entry) (q : entry_at W e ≡ x) (o : x.unit ≡ u) where
    -- the fixed uses from an index on
    underneath :
        (i : ℕ)
        → i ≤ length (fixed_uses fixed x.unit)
        → remaining W (under_entry W.uses (at n e) x.unit i) ≡ uses_under uses n (seg n) i ++ remaining W (onward true (at n e) x (seg n))
    unfolding u uses seg at under_entry uses_under told s at_use before_uses
    underneath i h =
        let d = uses_at fixed P.small_uses P.use_chain x.unit (omega (arith, o, low)) W.uses L.uses P.few_uses i h in
        use_walk fixed t W L P full m n e z a b x q o (drop i (fixed_uses fixed x.unit)) _ _ d
        (λ f k.
        let g = drop_out i (fixed_uses fixed x.unit) k in
        (P.small_uses x.unit f g, (fixed_uses_out fixed x.unit f g).1))
        (λ f k. back_other fixed P.small_uses P.use_chain x.unit (omega (arith, o, low)) f k)
        (chain_drop i (fixed_uses fixed x.unit) (P.use_chain x.unit))
        ∙ ap
        (λ w. map (whole_use n) (filter (λ f. overlaps (segment_at W.froms W.tos W.values n) f && not (own_use (segment_at W.froms W.tos W.values n) f.reservation)) (drop i (fixed_uses fixed w))) ++ remaining W (onward true (at n e) x (seg n)))
        o

    -- the reports of an overlap
    met :
        (r : Reservation)
        → ((v i : ℕ) → r ≡ Held v (Some i) → i ≤ length (fixed_uses fixed x.unit))
        → emit (meeting W.uses (at n e) x (seg n) r) (λ d. remaining W d)
        ≡ reports_of uses n (seg n) x r ++ remaining W (onward (full || indexed r) (at n e) x (seg n))
    unfolding meeting reports_of at
    met FixedDef h = rw (or-false full)
    met (FixedUse y) h =
        cond_own (eqb y (seg n).value)
      where
        cond_own :
            (k : Bool)
            → emit (cond k (Goes (onward full (at n e) x (seg n))) (Meets (shared_part n (seg n) x Fixed) (onward full (at n e) x (seg n)))) (λ d. remaining W d)
            ≡ cond k [] (shared_part n (seg n) x Fixed ∷ []) ++ remaining W (onward (full || false) (at n e) x (seg n))
        cond_own true = rw (or-false full)
        cond_own false = rw (or-false full)
    met (Held v None) h = rw (or-false full)
    met (Held v (Some i)) h =
        ap (λ l. shared_part n (seg n) x (VirtReg v) ∷ l)
        (underneath i (h v i refl) ∙ ap (λ k. uses_under uses n (seg n) i ++ remaining W (onward k (at n e) x (seg n))) (sym (or-true full)))

  -- ---- the entries that are left, from the place e on

  record Rest (e : ℕ) (rest : List Entry) : Type 0 where
    pub here : drop e t ≡ rest
    pub within : (x : Entry) → x ∈ rest → x ∈ t
    pub sorted : Sorted rest
    pub past : (x : Entry) → x ∈ rest → u ≤ x.unit
    pub chain : Chain (on_unit u rest)

  on_nil : on_unit u [] ≡ []
  unfolding on_unit filter
  on_nil = refl

  on_here : (x : Entry) (xs : List Entry) → x.unit ≡ u → on_unit u (x ∷ xs) ≡ x ∷ on_unit u xs
  unfolding on_unit filter
  on_here x xs o = ap (λ b. keep b x (filter (λ e. eqb e.unit u) xs)) (eq-eqb x.unit u o)

  on_past : (e : ℕ) (x : Entry) (xs : List Entry) → Rest e (x ∷ xs) → (x.unit ≡ u → ⊥) → on_unit u (x ∷ xs) ≡ []
  unfolding on_unit Before
  on_past e x xs r h = filter_none (λ y. eqb y.unit u) (x ∷ xs) (λ y m k. none y (Memᴰ.cases_cons m) (eqb→eq y.unit u k))
    where
      above : (y : Entry) → Before x y → x.unit ≤ y.unit
      above y (inl p) = omega arith
      above y (inr p) = omega arith

      none : (y : Entry) → (y ≡ x) ⊎ (y ∈ xs) → y.unit ≡ u → ⊥
      none y (inl p) q = h (sym (ap (λ (f : Entry). f.unit) p) ∙ q)
      none y (inr p) q =
          let a = above y (before→ x y (below_out x r.sorted.0 p)) in
          let b = r.past x (Memᴰ.head refl) in
          h (omega arith)

  rest_next : (e : ℕ) (x : Entry) (xs : List Entry) → Rest e (x ∷ xs) → x.unit ≡ u → Rest (e + 1) xs
  rest_next e x xs r o =
      record {
        here = drop_next e t x xs r.here;
        within = λ y m. r.within y (Memᴰ.tail m);
        sorted = r.sorted.1;
        past = λ y m. r.past y (Memᴰ.tail m);
        chain = (subst Chain (on_here x xs o) r.chain).1;
      }

  -- every entry that is left still counts
  abbrev Counted : List ValueSegment → List Entry → Type 0
  Counted earlier es = (y : Entry) → y ∈ es → counts full earlier y ≡ true

  abbrev NonemptyAll : List ValueSegment → Type 0
  NonemptyAll ss = (s : ValueSegment) → s ∈ ss → s.from < s.to

  -- ---- one entry of the unit and one segment

  module _
      (n e k : ℕ) (earlier : List ValueSegment) (x : Entry) (xs : List Entry)
      (a : n < length W.froms) (r : Rest e (x ∷ xs)) (o : x.unit ≡ u) (c : Counted earlier (on_unit u (x ∷ xs)))
      (S : Rising (seg n ∷ segs (suc n) k)) (N : NonemptyAll (seg n ∷ segs (suc n) k))
      (ih_e : remaining W (at n (e + 1)) ≡ check_on full uses (on_unit u xs) n earlier (seg n ∷ segs (suc n) k) ++ after)
      (ih_s : Counted (seg n ∷ earlier) (on_unit u (x ∷ xs)) → remaining W (at (suc n) e) ≡ check_on full uses (on_unit u (x ∷ xs)) (suc n) (seg n ∷ earlier) (segs (suc n) k) ++ after)
    where
      goal : Type 0
      goal = remaining W (at n e) ≡ check_on full uses (on_unit u (x ∷ xs)) n earlier (seg n ∷ segs (suc n) k) ++ after

      inside : x ∈ t
      inside = r.within x (Memᴰ.head refl)

      room : e < max_entries
      room = omega (arith, drop_inside e t x xs r.here, P.room)

      read : entry_at W e ≡ x
      read = entry_here fixed t W L P e x xs r.here inside

      full_entry : x.from < x.to
      full_entry = P.nonempty x inside

      full_segment : (seg n).from < (seg n).to
      full_segment = N (seg n) (Memᴰ.head refl)

      follow : (y : Entry) → y ∈ on_unit u xs → x.to ≤ y.from
      follow = (subst Chain (on_here x xs o) r.chain).0

      step_here : step_of W (at n e) ≡ entry_step W.uses (at n e) x (seg n)
      unfolding at seg u
      step_here = step_entry W (at n e) z a room x read o refl

      on_head : (P : List Entry → Type 0) → P (x ∷ on_unit u xs) → P (on_unit u (x ∷ xs))
      on_head P = subst P (sym (on_here x xs o))

      -- the entry ends ahead of the segment
      case_ahead : x.to ≤ (seg n).from → goal
      unfolding goal entry_step at
      case_ahead h =
          one n e (Goes (at n (e + 1))) (step_here ∙ rw (le-leb x.to (seg n).from h))
          ∙ (ih_e
          ∙ ap (λ l. l ++ after)
          (sym (on_head (λ l. check_on full uses l n earlier (seg n ∷ segs (suc n) k) ≡ check_on full uses (on_unit u xs) n earlier (seg n ∷ segs (suc n) k)) (pass_entry full uses x (on_unit u xs) n earlier (seg n ∷ segs (suc n) k) (λ s j. all_ahead s (Memᴰ.cases_cons j))))))
        where
          all_ahead : (s : ValueSegment) → (s ≡ seg n) ⊎ (s ∈ segs (suc n) k) → x.to ≤ s.from
          all_ahead s (inl q) = subst (λ (w : ValueSegment). x.to ≤ w.from) (sym q) h
          all_ahead s (inr j) = omega (arith, S.0 s j, full_segment, h)

      -- all entries that are left start behind the segment, but for one that stays
      still : ((seg n).to ≤ x.from) ⊎ (((full || indexed x.reservation) ≡ true) × ((seg n).to ≤ x.to)) → Counted (seg n ∷ earlier) (on_unit u (x ∷ xs))
      still h = on_head (λ l. Counted (seg n ∷ earlier) l) (λ y j. go h y (Memᴰ.cases_cons j))
        where
          old : (y : Entry) → y ∈ x ∷ on_unit u xs → counts full earlier y ≡ true
          old y j = c y (on_head (λ l. y ∈ l) j)

          go :
              ((seg n).to ≤ x.from) ⊎ (((full || indexed x.reservation) ≡ true) × ((seg n).to ≤ x.to))
              → (y : Entry)
              → (y ≡ x) ⊎ (y ∈ on_unit u xs)
              → counts full (seg n ∷ earlier) y ≡ true
          go (inl g) y (inl q) =
              subst (λ (w : Entry). counts full (seg n ∷ earlier) w ≡ true) (sym q) (counts_same full x (seg n) earlier (behind (seg n) x g) ∙ old x (Memᴰ.head refl))
          go (inl g) y (inr j) = counts_same full y (seg n) earlier (behind (seg n) y (omega (arith, follow y j, full_entry, g))) ∙ old y (Memᴰ.tail j)
          go (inr g) y (inl q) = subst (λ (w : Entry). counts full (seg n ∷ earlier) w ≡ true) (sym q) (counts_stay full x (seg n ∷ earlier) g.0)
          go (inr g) y (inr j) = counts_same full y (seg n) earlier (behind (seg n) y (omega (arith, follow y j, g.1))) ∙ old y (Memᴰ.tail j)

      to_next : Counted (seg n ∷ earlier) (on_unit u (x ∷ xs)) → remaining W (at (n + 1) e) ≡ check_on full uses (on_unit u (x ∷ xs)) (suc n) (seg n ∷ earlier) (segs (suc n) k) ++ after
      to_next h = rw (add-one n) (ih_s h)

      -- the entry starts behind the segment
      case_behind : (seg n).from < x.to → (seg n).to ≤ x.from → goal
      unfolding goal entry_step at
      case_behind g h =
          one n e (Goes (at (n + 1) e)) (step_here ∙ rw (lt-leb x.to (seg n).from g, le-leb (seg n).to x.from h))
          ∙ (to_next (still (inl h))
          ∙ ap (λ l. l ++ after)
          (sym (on_head (λ l. check_on full uses l n earlier (seg n ∷ segs (suc n) k) ≡ check_on full uses l (suc n) (seg n ∷ earlier) (segs (suc n) k)) (pass_segment full uses (x ∷ on_unit u xs) n earlier (seg n) (segs (suc n) k) (λ y j. all_behind y (Memᴰ.cases_cons j))))))
        where
          all_behind : (y : Entry) → (y ≡ x) ⊎ (y ∈ on_unit u xs) → (seg n).to ≤ y.from
          all_behind y (inl q) = subst (λ (w : Entry). (seg n).to ≤ w.from) (sym q) h
          all_behind y (inr j) = omega (arith, follow y j, full_entry, h)

      -- they overlap
      on_segment : (seg n).to < x.to → onward true (at n e) x (seg n) ≡ at (n + 1) e
      unfolding onward at
      on_segment h = rw (lt-ltb (seg n).to x.to h)

      on_entry : (b : Bool) → (b ≡ false) ⊎ (x.to ≤ (seg n).to) → onward b (at n e) x (seg n) ≡ at n (e + 1)
      unfolding onward at
      on_entry false h = refl
      on_entry true (inl q) = let w : ◌≡◌ {A = ℕ} 0 1 = cc in absurd (omega arith)
      on_entry true (inr h) = rw (le-ltb (seg n).to x.to h)

      case_meets : (seg n).from < x.to → x.from < (seg n).to → goal
      unfolding goal entry_step
      case_meets g h =
          one n e (meeting W.uses (at n e) x (seg n) x.reservation) (step_here ∙ rw (lt-leb x.to (seg n).from g, lt-leb (seg n).to x.from h))
          ∙ (met n e a room x read o x.reservation (λ v i q. P.index x inside v i q) ∙ on (full || indexed x.reservation) refl (dec_lt (seg n).to x.to))
        where
          meet : overlaps (seg n) x ≡ true
          meet = meets (seg n) x h g

          now_counts : counts full earlier x ≡ true
          now_counts = c x (on_head (λ l. x ∈ l) (Memᴰ.head refl))

          stays :
              (full || indexed x.reservation) ≡ true
              → (seg n).to < x.to
              → reports_of uses n (seg n) x x.reservation ++ remaining W (at (n + 1) e)
              ≡ check_on full uses (on_unit u (x ∷ xs)) n earlier (seg n ∷ segs (suc n) k) ++ after
          stays b l =
              ap (λ w. reports_of uses n (seg n) x x.reservation ++ w) (to_next (still (inr (b, omega arith))))
              ∙ (sym (append_assoc (reports_of uses n (seg n) x x.reservation) (check_on full uses (on_unit u (x ∷ xs)) (suc n) (seg n ∷ earlier) (segs (suc n) k)) after)
              ∙ ap (λ l. l ++ after)
              (sym
              (on_head
              (λ l. check_on full uses l n earlier (seg n ∷ segs (suc n) k) ≡ reports_of uses n (seg n) x x.reservation ++ check_on full uses l (suc n) (seg n ∷ earlier) (segs (suc n) k))
              (pass_stay full uses x (on_unit u xs) n earlier (seg n) (segs (suc n) k) meet now_counts (λ y j. omega (arith, follow y j, l))))))

          goes :
              ((s : ValueSegment) → s ∈ segs (suc n) k → x.to ≤ s.from) ⊎ (counts full (seg n ∷ earlier) x ≡ false)
              → reports_of uses n (seg n) x x.reservation ++ remaining W (at n (e + 1))
              ≡ check_on full uses (on_unit u (x ∷ xs)) n earlier (seg n ∷ segs (suc n) k) ++ after
          goes d =
              ap (λ w. reports_of uses n (seg n) x x.reservation ++ w) ih_e
              ∙ (sym (append_assoc (reports_of uses n (seg n) x x.reservation) (check_on full uses (on_unit u xs) n earlier (seg n ∷ segs (suc n) k)) after)
              ∙ ap (λ l. l ++ after)
              (sym
              (on_head
              (λ l. check_on full uses l n earlier (seg n ∷ segs (suc n) k) ≡ reports_of uses n (seg n) x x.reservation ++ check_on full uses (on_unit u xs) n earlier (seg n ∷ segs (suc n) k))
              (pass_on full uses x (on_unit u xs) n earlier (seg n) (segs (suc n) k) meet now_counts d))))

          on :
              (b : Bool)
              → (full || indexed x.reservation) ≡ b
              → Dec ((seg n).to < x.to)
              → reports_of uses n (seg n) x x.reservation ++ remaining W (onward (full || indexed x.reservation) (at n e) x (seg n))
              ≡ check_on full uses (on_unit u (x ∷ xs)) n earlier (seg n ∷ segs (suc n) k) ++ after
          on true b (yes l) =
              ap (λ w. reports_of uses n (seg n) x x.reservation ++ remaining W w) (ap (λ w. onward w (at n e) x (seg n)) b ∙ on_segment l) ∙ stays b l
          on true b (no l) =
              ap (λ w. reports_of uses n (seg n) x x.reservation ++ remaining W w) (on_entry (full || indexed x.reservation) (inr (omega arith)))
              ∙ goes (inl (λ s j. omega (arith, S.0 s j)))
          on false b l =
              ap (λ w. reports_of uses n (seg n) x x.reservation ++ remaining W w) (on_entry (full || indexed x.reservation) (inl b))
              ∙ goes (inr (counts_once full x (seg n) earlier b meet))

      at_entry : goal
      at_entry = go (dec_le x.to (seg n).from) (dec_le (seg n).to x.from)
        where
          go : Dec (x.to ≤ (seg n).from) → Dec ((seg n).to ≤ x.from) → goal
          go (yes p) d = case_ahead p
          go (no p) (yes d) = case_behind (omega arith) d
          go (no p) (no d) = case_meets (omega arith) (omega arith)

  -- ---- the whole unit

  unit_walk :
      (q k n e : ℕ) (earlier : List ValueSegment) (rest : List Entry)
      → k + length rest ≤ q
      → n + k ≡ length W.froms
      → Rest e rest
      → Counted earlier (on_unit u rest)
      → Rising (segs n k)
      → NonemptyAll (segs n k)
      → remaining W (at n e) ≡ check_on full uses (on_unit u rest) n earlier (segs n k) ++ after
  unfolding segs segments_from seg at goal u
  unit_walk q zero n e earlier rest h l r c S N =
      leaves n e (step_no_segment W (at n e) z (omega arith)) ∙ ap (λ w. w ++ after) (sym (check_end full uses (on_unit u rest) n earlier))
  unit_walk q (suc k) n e earlier [] h l r c S N =
      leaves n e (out (dec_lt e max_entries)) ∙ ap (λ w. w ++ after) (sym (ap (λ w. check_on full uses w n earlier (segs n (suc k))) on_nil ∙ check_empty full uses n earlier (segs n (suc k))))
    where
      out : Dec (e < max_entries) → step_of W (at n e) ≡ leave_unit W.ends W.froms (at n e)
      out (yes b) =
          step_other W (at n e) z (omega arith) b (entry_at W e) refl (λ w. omega (arith, entry_past fixed t W L P e r.here b, w, low))
      out (no b) = step_no_entry W (at n e) z (omega arith)
  unit_walk zero (suc k) n e earlier (x ∷ xs) h l r c S N = absurd (omega arith)
  unit_walk (suc q) (suc k) n e earlier (x ∷ xs) h l r c S N =
      go (eqb x.unit u) refl
      (λ o. unit_walk q (suc k) n (e + 1) earlier xs (omega arith) l (rest_next e x xs r o) (λ y j. c y (subst (λ w. y ∈ w) (sym (on_here x xs o)) (Memᴰ.tail j))) S N)
      (λ d. unit_walk q k (suc n) e (seg n ∷ earlier) (x ∷ xs) (omega arith) (omega arith) r d S.1 (λ s j. N s (Memᴰ.tail j)))
    where
      go :
          (b : Bool)
          → eqb x.unit u ≡ b
          → (x.unit ≡ u → remaining W (at n (e + 1)) ≡ check_on full uses (on_unit u xs) n earlier (segs n (suc k)) ++ after)
          → (Counted (seg n ∷ earlier) (on_unit u (x ∷ xs)) → remaining W (at (suc n) e) ≡ check_on full uses (on_unit u (x ∷ xs)) (suc n) (seg n ∷ earlier) (segs (suc n) k) ++ after)
          → remaining W (at n e) ≡ check_on full uses (on_unit u (x ∷ xs)) n earlier (segs n (suc k)) ++ after
      go true o ih_e ih_s = at_entry n e k earlier x xs (omega arith) r (eqb-true x.unit u o) c S N (ih_e (eqb-true x.unit u o)) ih_s
      go false o ih_e ih_s =
          let d = eqb-false x.unit u o in
          leaves n e
          (step_other W (at n e) z (omega arith) (omega (arith, drop_inside e t x xs r.here, P.room)) x (entry_here fixed t W L P e x xs r.here (r.within x (Memᴰ.head refl))) d)
          ∙ ap (λ w. w ++ after) (sym (ap (λ w. check_on full uses w n earlier (segs n (suc k))) (on_past e x xs r d) ∙ check_empty full uses n earlier (segs n (suc k))))

  -- ---- from the place that the search finds

  sorted_drop : (i : ℕ) (l : List Entry) → Sorted l → Sorted (drop i l)
  sorted_drop zero l h = h
  sorted_drop (suc i) [] h = h
  sorted_drop (suc i) (x ∷ xs) h = sorted_drop i xs h.1

  chain_tail : (b : Bool) (x : Entry) (l : List Entry) → Chain (keep b x l) → Chain l
  chain_tail true x l h = h.1
  chain_tail false x l h = h

  on_chain : (i : ℕ) (l : List Entry) → Chain (on_unit u l) → Chain (on_unit u (drop i l))
  unfolding on_unit filter
  on_chain zero l h = h
  on_chain (suc i) [] h = h
  on_chain (suc i) (x ∷ xs) h = on_chain i xs (chain_tail (eqb x.unit u) x (filter (λ e. eqb e.unit u) xs) h)

  on_other : (x : Entry) (xs : List Entry) → (x.unit ≡ u → ⊥) → on_unit u (x ∷ xs) ≡ on_unit u xs
  unfolding on_unit filter
  on_other x xs o = ap (λ b. keep b x (filter (λ e. eqb e.unit u) xs)) (ne_eqb x.unit u o)

  module _ (from : ℕ) (ss : List ValueSegment) (h : (s : ValueSegment) → s ∈ ss → from ≤ s.from) where
    key : ℕ
    key = u * 2 ^ 32 + from + 1

    -- the entries before the place bring nothing, and those from it on are of this unit or later ones
    front :
        (l : List Entry)
        → Sorted l
        → ((e : Entry) → e ∈ l → Small e)
        → (check_on full uses (on_unit u (drop (below key (map end_word l)) l)) 0 [] ss ≡ check_on full uses (on_unit u l) 0 [] ss)
        × ((x : Entry) → x ∈ drop (below key (map end_word l)) l → u ≤ x.unit)
    unfolding key
    front [] so sm = (ap (λ w. check_on full uses (on_unit u w) 0 [] ss) (drop-nil (below key [])), λ x m. none x (subst (λ w. x ∈ w) (drop-nil (below key [])) m))
      where
        none : (x : Entry) → x ∈ [] → u ≤ x.unit
        none x m = elim m [ ]
    front (x ∷ xs) so sm = go (ltb (end_word x) key) refl (front xs so.1 (λ e m. sm e (Memᴰ.tail m)))
      where
        Told : ℕ → Type 0
        Told i = (check_on full uses (on_unit u (drop i (x ∷ xs))) 0 [] ss ≡ check_on full uses (on_unit u (x ∷ xs)) 0 [] ss) × ((y : Entry) → y ∈ drop i (x ∷ xs) → u ≤ y.unit)

        passed : end_word x < key → check_on full uses (on_unit u xs) 0 [] ss ≡ check_on full uses (on_unit u (x ∷ xs)) 0 [] ss
        passed l = which (eqb x.unit u) refl
          where
            which : (b : Bool) → eqb x.unit u ≡ b → check_on full uses (on_unit u xs) 0 [] ss ≡ check_on full uses (on_unit u (x ∷ xs)) 0 [] ss
            which true o =
                let p = eqb-true x.unit u o in
                let r : end_word x < u * 2 ^ 32 + from + 1 = l in
                sym (ap (λ w. check_on full uses w 0 [] ss) (on_here x xs p) ∙ pass_entry full uses x (on_unit u xs) 0 [] ss (λ s m. omega (arith, h s m, p, r)))
            which false o = ap (λ w. check_on full uses w 0 [] ss) (sym (on_other x xs (eqb-false x.unit u o)))

        go :
            (b : Bool)
            → ltb (end_word x) key ≡ b
            → (check_on full uses (on_unit u (drop (below key (map end_word xs)) xs)) 0 [] ss ≡ check_on full uses (on_unit u xs) 0 [] ss)
            × ((y : Entry) → y ∈ drop (below key (map end_word xs)) xs → u ≤ y.unit)
            → Told (below key (map end_word (x ∷ xs)))
        go true q ih =
            subst Told (sym (below_cons key (end_word x) (map end_word xs) true q)) (ih.0 ∙ passed (ltb-true (end_word x) key q), ih.1)
        go false q ih =
            subst Told (sym (none_below key (map end_word (x ∷ xs)) least)) (
              refl,
              λ y m.
                  let a : u * 2 ^ 32 + from + 1 ≤ end_word y = least (end_word y) (Memᴰ.map end_word m) in
                  omega (arith, a, (sm y m).to),
            )
          where
            least : (y : ℕ) → y ∈ map end_word (x ∷ xs) → key ≤ y
            least y m = first (Memᴰ.cases_cons m)
              where
                first : (y ≡ end_word x) ⊎ (y ∈ map end_word xs) → key ≤ y
                first (inl p) = omega (arith, p, ltb-false (end_word x) key q)
                first (inr n) = omega (arith, ltb-false (end_word x) key q, (words_rise (x ∷ xs) so (small_ends (x ∷ xs) sm)).0 y n)

  -- a search in the table's ends as they are lent
  place_is : (from : ℕ) → from < 2 ^ 32 → place_of max_entries W.ends (u * 2 ^ 32 + from + 1) ≡ below (u * 2 ^ 32 + from + 1) (map end_word t)
  unfolding u end_words
  place_is from f =
      let parted : W.ends ≡ padded max_entries greatest (map end_word t) ++ drop max_entries W.ends = sym (take-append-drop max_entries W.ends) ∙ ap (λ (l : List ℕ). l ++ drop max_entries W.ends) L.ends in
      ap (λ (l : List ℕ). place_of max_entries l (u * 2 ^ 32 + from + 1)) parted
      ∙ found_padded max_entries (map end_word t) greatest (drop max_entries W.ends) (u * 2 ^ 32 + from + 1) (simp length-map P.room) (words_rise t P.sorted (small_ends t P.small))
      (words_small t (small_ends t P.small)) (omega (arith, low, f))

  counts_first : (y : Entry) → counts full [] y ≡ true
  unfolding any
  counts_first y = go full (indexed y.reservation)
    where
      go : (f i : Bool) → (f || (i || true)) ≡ true
      go true i = refl
      go false true = refl
      go false false = refl

  pub unit_start :
      get_or W.froms 0 0 < 2 ^ 32
      → Rising (segments_from W.froms W.tos W.values 0 (length W.froms))
      → ((s : ValueSegment) → s ∈ segments_from W.froms W.tos W.values 0 (length W.froms) → s.from < s.to)
      → remaining W (entered W.ends W.froms m full)
      ≡ check_on full (fixed_uses fixed (count_trailing_zeros 64 m)) (on_unit (count_trailing_zeros 64 m) t) 0 [] (segments_from W.froms W.tos W.values 0 (length W.froms)) ++ after
  unfolding entered at u uses segs key
  unit_start f S N =
      ap (λ p. remaining W (record { units = m; segment = 0; entry = p; inner = None; full = full })) (place_is from f)
      ∙ (unit_walk (length W.froms + length (drop place t)) (length W.froms) 0 place [] (drop place t) (omega arith) (omega arith) rest (λ y j. counts_first y) S N
      ∙ ap (λ l. l ++ after) told.0)
    where
      from : ℕ
      from = get_or W.froms 0 0

      place : ℕ
      place = below (u * 2 ^ 32 + get_or W.froms 0 0 + 1) (map end_word t)

      told :
          (check_on full uses (on_unit u (drop place t)) 0 [] (segments_from W.froms W.tos W.values 0 (length W.froms)) ≡ check_on full uses (on_unit u t) 0 [] (segments_from W.froms W.tos W.values 0 (length W.froms)))
          × ((x : Entry) → x ∈ drop place t → u ≤ x.unit)
      told = front (get_or W.froms 0 0) (segments_from W.froms W.tos W.values 0 (length W.froms)) (first_least W.froms W.tos W.values (length W.froms) S N) t P.sorted P.small

      rest : Rest place (drop place t)
      rest =
          record {
            here = refl;
            within = λ x j. drop_out place t j;
            sorted = sorted_drop place t P.sorted;
            past = told.1;
            chain = on_chain place t (P.chain u);
          }

  -- ---- what comes after

  pub after_last : later_units m ≡ 0 → after ≡ []
  unfolding after leave_unit at
  after_last q = rw (eq-eqb (later_units m) 0 q)

  pub after_more : (later_units m ≡ 0 → ⊥) → after ≡ remaining W (entered W.ends W.froms (later_units m) full)
  unfolding after leave_unit at
  after_more q = rw (ne_eqb (later_units m) 0 q)
