-- The walk of a check on any content: each step lessens what is left, so the reports to come are those of one step and the reports after it,
-- and an answer tells the first of them. Assumes nothing.
use Prim.Native.Nat.{ℕ, zero, suc, ◌+◌, ◌-◌, ◌<◌}
use native.Mathlib.Omega.{arith}
use native.Mathlib.Nat.{mul-le-mul_right}
use mathlib.Core.Path.{◌≡◌, refl, sym, ap, ◌∙◌, subst}
use mathlib.Core.List.{List, ◌∷◌}
use mathlib.Core.Bool.{Bool, true, false, cond}
use lib.Dec.{ltb, leb, eqb}
use lib.ListN.{length}
use lib.Bits.{and_le_r}
use lib.Count.{count_trailing_zeros}
use borrow.Author.Tests.{leb-false, eqb-false}
use Rattle.reg_matrix.specs.Layout.{max_entries, max_fixed}
use Rattle.matrix.specs.Walk.{Lent, next_entry, next_segment, next_use, onward, under_entry, entered, meeting, entry_step, use_meeting, use_step, meeting_step, later_units, leave_unit, unit_step, step_of, uses_left, left, emit, walk, remaining, answer, first_report, next_of, heard, Answered}
use Rattle.reg_matrix.specs.declared.ValueSegment.{ValueSegment}
use Rattle.reg_matrix.specs.declared.Entry.{Entry}
use Rattle.std.specs.Prelude.{Option, Some, None}
use Rattle.reg_matrix.specs.declared.Reservation.{Reservation}
use Rattle.reg_matrix.specs.declared.Reservation.TheVariants.{Held, FixedUse, FixedDef}
use Rattle.reg_matrix.specs.declared.Interference.{Interference}
use Rattle.matrix.specs.declared.Cursor.{Cursor}
use Rattle.matrix.specs.declared.Move.{Move}
use Rattle.matrix.specs.declared.Move.TheVariants.{Meets, Goes, Ends}

pub cond_by : {A : Type 0} (P : A → Type 0) (b : Bool) (x y : A) → (b ≡ true → P x) → (b ≡ false → P y) → P (cond b x y)
cond_by P true x y f g = f refl
cond_by P false x y f g = g refl

-- ---- each step lessens what is left

module _ (W : Lent) where
  -- what a step leaves is less than what was left
  abbrev pub After : Cursor → Move → Type 0
  After c (Meets x d) = left W d < left W c
  After c (Goes d) = left W d < left W c
  After c Ends = Unit {0}

  entry_less : (c : Cursor) → c.entry < max_entries → left W (next_entry c) < left W c
  unfolding left uses_left
  entry_less c h = omega arith

  segment_less : (c : Cursor) → c.segment < length W.froms → left W (next_segment c) < left W c
  unfolding left uses_left
  segment_less c h = omega arith

  use_less : (c : Cursor) (p : ℕ) → c.inner ≡ Some p → p < max_fixed → left W (next_use c p) < left W c
  unfolding left uses_left
  use_less c p q h = omega (arith, ap uses_left q)

  under_less : (c : Cursor) (us : List ℕ) (u i : ℕ) → c.inner ≡ None → left W (under_entry us c u i) < left W c
  unfolding left uses_left under_entry
  under_less c us u i h = omega (arith, ap uses_left h)

  unit_less : (c : Cursor) (m : ℕ) (f : Bool) → m < c.units → left W (entered W.ends W.froms m f) < left W c
  unfolding left uses_left entered
  unit_less c m f h = omega (arith, mul-le-mul_right (max_entries + length W.froms + 1) h)

  onward_less :
      (c : Cursor) (stays : Bool) (e : Entry) (s : ValueSegment)
      → c.segment < length W.froms
      → c.entry < max_entries
      → left W (onward stays c e s) < left W c
  unfolding onward
  onward_less c true e s h k =
      cond_by (λ d. left W d < left W c) (ltb s.to e.to) (next_segment c) (next_entry c) (λ q. segment_less c h) (λ q. entry_less c k)
  onward_less c false e s h k = entry_less c k

  module _ (c : Cursor) (h : c.segment < length W.froms) (k : c.entry < max_entries) where
    meeting_after : (us : List ℕ) (e : Entry) (s : ValueSegment) (r : Reservation) → c.inner ≡ None → After c (meeting us c e s r)
    unfolding meeting
    meeting_after us e s FixedDef z = onward_less c c.full e s h k
    meeting_after us e s (FixedUse x) z =
        cond_by (After c) (eqb x s.value) _ _ (λ q. onward_less c c.full e s h k) (λ q. onward_less c c.full e s h k)
    meeting_after us e s (Held v None) z = onward_less c c.full e s h k
    meeting_after us e s (Held v (Some i)) z = under_less c us e.unit i z

    entry_after : (us : List ℕ) (e : Entry) (s : ValueSegment) → c.inner ≡ None → After c (entry_step us c e s)
    unfolding entry_step
    entry_after us e s z =
        cond_by (After c) (leb e.to s.from) _ _ (λ q. entry_less c k)
        (λ q. cond_by (After c) (leb s.to e.from) _ _ (λ p. segment_less c h) (λ p. meeting_after us e s e.reservation z))

    use_meeting_after : (p : ℕ) (e : Entry) (s : ValueSegment) (f : Entry) (x : ℕ) → c.inner ≡ Some p → p < max_fixed → After c (use_meeting c p e s f x)
    unfolding use_meeting
    use_meeting_after p e s f x y z =
        cond_by (After c) (eqb f.unit e.unit) _ _
        (λ q.
        cond_by (After c) (leb s.to f.from) _ _ (λ r. onward_less c true e s h k)
        (λ r.
        cond_by (After c) (leb f.to s.from) _ _ (λ o. use_less c p y z)
        (λ o. cond_by (After c) (eqb x s.value) _ _ (λ n. use_less c p y z) (λ n. use_less c p y z))))
        (λ q. onward_less c true e s h k)

    use_after : (us : List ℕ) (p : ℕ) (e : Entry) (s : ValueSegment) → c.inner ≡ Some p → After c (use_step us c p e s)
    unfolding use_step
    use_after us p e s y =
        cond_by (After c) (leb max_fixed p) _ _ (λ q. onward_less c true e s h k)
        (λ q. use_meeting_after p e s _ _ y (leb-false max_fixed p q))

    meeting_step_after : (us : List ℕ) (e : Entry) (s : ValueSegment) (o : Option ℕ) → c.inner ≡ o → After c (meeting_step us c e s o)
    unfolding meeting_step
    meeting_step_after us e s None y = entry_after us e s y
    meeting_step_after us e s (Some p) y = use_after us p e s y

  leave_after : (c : Cursor) → (c.units ≡ 0 → ⊥) → After c (leave_unit W.ends W.froms c)
  unfolding leave_unit
  leave_after c z =
      cond_by (After c) (eqb (later_units c.units) 0) _ _ (λ q. tt)
      (λ q. unit_less c (later_units c.units) c.full (omega (arith, z, and_le_r c.units (c.units - 1))))

  pub step_after : (c : Cursor) → After c (step_of W c)
  unfolding step_of unit_step
  step_after c =
      cond_by (After c) (eqb c.units 0) _ _ (λ q. tt)
      (λ q.
      let z = eqb-false c.units 0 q in
      cond_by (After c) (leb (length W.froms) c.segment) _ _ (λ p. leave_after c z)
      (λ p.
      let h = leb-false (length W.froms) c.segment p in
      cond_by (After c) (leb max_entries c.entry) _ _ (λ o. leave_after c z)
      (λ o.
      let k = leb-false max_entries c.entry o in
      cond_by (After c) (eqb _ (count_trailing_zeros 64 c.units)) _ _
      (λ n. meeting_step_after c h k W.uses _ _ c.inner refl)
      (λ n. leave_after c z))))

  -- ---- how many steps are allowed changes nothing, where these are enough

  walk_same : (f g : ℕ) (c : Cursor) → left W c < f → left W c < g → walk f W c ≡ walk g W c
  unfolding walk
  walk_same zero g c a b = absurd (omega arith)
  walk_same (suc f) zero c a b = absurd (omega arith)
  walk_same (suc f) (suc g) c a b = go (step_of W c) (step_after c) (λ d p q. walk_same f g d p q)
    where
      go : (m : Move) → After c m → ((d : Cursor) → left W d < f → left W d < g → walk f W d ≡ walk g W d) → emit m (λ d. walk f W d) ≡ emit m (λ d. walk g W d)
      go (Meets x d) h ih = ap (λ l. x ∷ l) (ih d (omega arith) (omega arith))
      go (Goes d) h ih = ih d (omega arith) (omega arith)
      go Ends h ih = refl

  first_same : (f g : ℕ) (c : Cursor) → left W c < f → left W c < g → first_report f W c ≡ first_report g W c
  unfolding first_report
  first_same zero g c a b = absurd (omega arith)
  first_same (suc f) zero c a b = absurd (omega arith)
  first_same (suc f) (suc g) c a b = go (step_of W c) (step_after c) (λ d p q. first_same f g d p q)
    where
      go :
          (m : Move)
          → After c m
          → ((d : Cursor) → left W d < f → left W d < g → first_report f W d ≡ first_report g W d)
          → answer m (λ d. first_report f W d) ≡ answer m (λ d. first_report g W d)
      go (Meets x d) h ih = refl
      go (Goes d) h ih = ih d (omega arith) (omega arith)
      go Ends h ih = refl

  -- ---- one step, and what comes after it

  pub remaining_step : (c : Cursor) → remaining W c ≡ emit (step_of W c) (λ d. remaining W d)
  unfolding remaining walk
  remaining_step c = go (step_of W c) (step_after c)
    where
      go : (m : Move) → After c m → emit m (λ d. walk (left W c) W d) ≡ emit m (λ d. walk (suc (left W d)) W d)
      go (Meets x d) h = ap (λ l. x ∷ l) (walk_same (left W c) (suc (left W d)) d h (omega arith))
      go (Goes d) h = walk_same (left W c) (suc (left W d)) d h (omega arith)
      go Ends h = refl

  pub next_step : (c : Cursor) → next_of W c ≡ answer (step_of W c) (λ d. next_of W d)
  unfolding next_of first_report
  next_step c = go (step_of W c) (step_after c)
    where
      go : (m : Move) → After c m → answer m (λ d. first_report (left W c) W d) ≡ answer m (λ d. first_report (suc (left W d)) W d)
      go (Meets x d) h = refl
      go (Goes d) h = first_same (left W c) (suc (left W d)) d h (omega arith)
      go Ends h = refl

  next_told : (f : ℕ) (c : Cursor) → left W c < f → remaining W c ≡ heard W (next_of W c)
  next_told zero c h = absurd (omega arith)
  next_told (suc f) c h = remaining_step c ∙ (go (step_of W c) (step_after c) (λ d k. next_told f d k) ∙ ap (heard W) (sym (next_step c)))
    where
      go :
          (m : Move)
          → After c m
          → ((d : Cursor) → left W d < f → remaining W d ≡ heard W (next_of W d))
          → emit m (λ d. remaining W d) ≡ heard W (answer m (λ d. next_of W d))
      go (Meets x d) k ih = refl
      go (Goes d) k ih = ih d (omega arith)
      go Ends k ih = refl

  -- ---- for the loop

  pub answered : (c : Cursor) (r : Option (Interference × Cursor)) → r ≡ next_of W c → Answered W c r
  answered c r q = record { decided = q; told = next_told (suc (left W c)) c (omega arith) ∙ ap (heard W) (sym q) }

  pub next_goes : (c d : Cursor) → step_of W c ≡ Goes d → next_of W c ≡ next_of W d
  next_goes c d q = next_step c ∙ ap (λ m. answer m (λ d. next_of W d)) q

  pub goes_less : (c d : Cursor) → step_of W c ≡ Goes d → left W d < left W c
  goes_less c d q = subst (After c) q (step_after c)

  pub next_meets : (c d : Cursor) (x : Interference) → step_of W c ≡ Meets x d → next_of W c ≡ Some (x, d)
  next_meets c d x q = next_step c ∙ ap (λ m. answer m (λ d. next_of W d)) q

  pub next_ends : (c : Cursor) → step_of W c ≡ Ends → next_of W c ≡ None
  next_ends c q = next_step c ∙ ap (λ m. answer m (λ d. next_of W d)) q
