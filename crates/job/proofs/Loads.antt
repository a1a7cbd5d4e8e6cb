-- What loading tested of a job gives every premise of demand 3 and every bound that the stage relies on. Assumes nothing.
use Prim.Native.Nat.{ℕ, ◌<◌, ◌≤◌}
use native.Mathlib.Omega.{arith}
use native.Mathlib.Decide.{dec_lt}
use mathlib.Core.Path.{◌≡◌, refl, sym, ap, ◌∙◌, subst}
use mathlib.Core.Logic.{◌⊎◌, inl, inr}
use mathlib.Core.List.Memᴰ
use mathlib.Core.List.{List, [], ◌∷◌}
use mathlib.Core.Bool.{Bool, true, false, not, ◌&&◌, ◌||◌}
use lib.Dec.{T, ltb, eqb, T_not, not_T, lt→ltb, nltb→le, eqb→eq}
use lib.ListN.{length, get_or}
use Rattle.reg_matrix.specs.Lists.{keep, filter, any, any_pair, same}
use Rattle.reg_matrix.specs.Table.{units_of, is_use, fixed_uses}
use Rattle.reg_matrix.specs.Check.{overlaps, own_use}
use Rattle.reg_matrix.specs.declared.ValueSegment.{ValueSegment}
use Rattle.reg_matrix.specs.declared.Entry.{Entry}
use Rattle.reg_matrix.specs.declared.Reservation.{Reservation}
use Rattle.reg_matrix.specs.declared.Reservation.TheVariants.{Held, FixedUse, FixedDef}
use Rattle.reg_matrix.proofs.Tests.{both, both_in, or_left, or_right, passes_or_not, eqb_in, less_equal_greater}
use Rattle.reg_matrix.proofs.Members.{◌∈◌, filter_out, any_in, get_d_in}
use Rattle.reg_matrix.proofs.Sorted.{Parted, ordered_by_ends}
use Rattle.reg_matrix.proofs.Cells.{Inside, overlaps→}
use Rattle.reg_matrix.proofs.Chains.{Sound, Chain}
use Rattle.reg_matrix.proofs.Whole.{Rising}
use Rattle.reg_matrix.proofs.Clear.{Uncut}
use Rattle.job.specs.Model.{VirtReg, Job, no_virt_reg, virt_reg, segments_of, unit_map}
use Rattle.job.specs.Layout.{all_hints, all_segments}
use Rattle.job.specs.Load.{Bytes, hints_in, segments_in, strictly_inside, use_of_value, cuts, twin, mixed_set, cut_use, loaded, load_with}
use Rattle.job.proofs.Premises.{Premises, IsNumber, IsReg, UnitsWithin}
use Rattle.job.proofs.Lists.{Each, Pairs, sum_length, a_member, pair_in}
use Rattle.job.proofs.Units.{units_length, a_unit, same_units, same_self}
use Rattle.job.proofs.Weights.{neither}
use Rattle.job.proofs.Fields.{GoodMap, GoodEntry, Follows, GoodFixed, Ahead, GoodVirtReg, Tested, loads_tested}

-- ---- the fixed reservations

-- one of the two ends where the other starts, or before
abbrev Apart : Entry → Entry → Type 0
Apart e f = (e ≡ f) ⊎ ((e.to ≤ f.from) ⊎ (f.to ≤ e.from))

order_apart : (xs : List Entry) → Pairs Follows xs → (e f : Entry) → e ∈ xs → f ∈ xs → e.unit ≡ f.unit → Apart e f
order_apart [] o e f m n q = elim m [ ]
order_apart (x ∷ xs) o e f m n q = go (Memᴰ.cases_cons m) (Memᴰ.cases_cons n) (λ a b. order_apart xs o.1 e f a b q)
  where
    go : (e ≡ x) ⊎ (e ∈ xs) → (f ≡ x) ⊎ (f ∈ xs) → (e ∈ xs → f ∈ xs → Apart e f) → Apart e f
    go (inl a) (inl b) ih = inl (a ∙ sym b)
    go (inl a) (inr b) ih = inr (inl (subst (λ (z : Entry). Follows z f) (sym a) (o.0 f b) q))
    go (inr a) (inl b) ih = inr (inr (subst (λ (z : Entry). Follows z e) (sym b) (o.0 e a) (sym q)))
    go (inr a) (inr b) ih = ih a b

order_chain : (p : Entry → Bool) (u : ℕ) → ((e : Entry) → T (p e) → e.unit ≡ u) → (xs : List Entry) → Pairs Follows xs → Chain (filter p xs)
unfolding filter
order_chain p u h [] o = tt
order_chain p u h (x ∷ xs) o = go (p x) refl (order_chain p u h xs o.1)
  where
    go : (b : Bool) → p x ≡ b → Chain (filter p xs) → Chain (keep b x (filter p xs))
    go true q ih = ((λ y m. let k = filter_out p xs m in o.0 y k.1 (h x (subst T (sym q) tt) ∙ sym (h y k.0))), ih)
    go false q ih = ih

good_sound : (es : List Entry) → GoodFixed es → Sound es
unfolding fixed_uses
good_sound es g =
    record {
      nonempty = λ e m. (g.each e m).nonempty;
      free = λ e m. (g.each e m).not_held;
      apart = order_apart es g.order;
      chain = λ u. order_chain (λ (e : Entry). eqb e.unit u && is_use e.reservation) u (λ e t. eqb→eq e.unit u (both (eqb e.unit u) (is_use e.reservation) t).0) es g.order;
    }

good_parted : (es : List Entry) → Each GoodEntry es → Pairs Follows es → Parted es
good_parted [] g o = tt
good_parted (x ∷ xs) g o = (
  (λ y m. ordered_by_ends x y (λ q. inl (omega (arith, o.0 y m q, (g y (Memᴰ.tail m)).nonempty)))),
  good_parted xs (λ e m. g e (Memᴰ.tail m)) o.1,
)

-- ---- the segments

good_rising : (ss : List ValueSegment) → Pairs Ahead ss → Rising ss
good_rising [] o = tt
good_rising (s ∷ ss) o = (o.0, good_rising ss o.1)

not_any : {A : Type 0} (p : A → Bool) (xs : List A) → T (not (any p xs)) → (x : A) → x ∈ xs → T (p x) → ⊥
not_any p xs t x m h = T_not (any p xs) t (any_in p h m)

own_use_lem : (s : ValueSegment) (r : Reservation) → T (own_use s r) → T (use_of_value s.value r) × T (is_use r)
own_use_lem s (Held v i) t = absurd t
own_use_lem s (FixedUse x) t = (eqb_in (sym (eqb→eq x s.value t)), tt)
own_use_lem s FixedDef t = absurd t

-- p is not strictly inside e
not_inside : (e : Entry) (p : ℕ) → (T (strictly_inside e p) → ⊥) → (e.from < p → e.to ≤ p)
not_inside e p h l = go (passes_or_not (ltb p e.to))
  where
    go : T (ltb p e.to) ⊎ T (not (ltb p e.to)) → e.to ≤ p
    go (inl t) = absurd (h (both_in (ltb e.from p) (ltb p e.to) (lt→ltb e.from p l) t))
    go (inr t) = nltb→le p e.to t

uncut : (s : ValueSegment) (e : Entry) → (T (cuts s e) → ⊥) → T (own_use s e.reservation) → T (overlaps s e) → Inside s e
uncut s e bad w o = record { isuse = own.1; after = starts (dec_lt e.from s.from); ahead = not_inside e s.to (λ t. no_cut (or_right (strictly_inside e s.from) (strictly_inside e s.to) t)) over.0 }
  where
    own : T (use_of_value s.value e.reservation) × T (is_use e.reservation)
    own = own_use_lem s e.reservation w

    over : (e.from < s.to) × (s.from < e.to)
    over = overlaps→ s e o

    no_cut : T (strictly_inside e s.from || strictly_inside e s.to) → ⊥
    no_cut t = bad (both_in (use_of_value s.value e.reservation) (strictly_inside e s.from || strictly_inside e s.to) own.0 t)

    starts : Dec (e.from < s.from) → s.from ≤ e.from
    starts (yes l) = absurd (omega (arith, not_inside e s.from (λ t. no_cut (or_left (strictly_inside e s.from) (strictly_inside e s.to) t)) l, over.1))
    starts (no h) = omega arith

not_cut : (j : Job) → T (not (cut_use j)) → (v : VirtReg) → v ∈ j.virt_regs → (s : ValueSegment) → s ∈ v.segments → Uncut j.fixed s
unfolding cut_use
not_cut j t v m s n e k =
    uncut s e
    (λ h. not_any (λ (v : VirtReg). any (λ s. any (cuts s) j.fixed) v.segments) j.virt_regs t v m (any_in (λ (s : ValueSegment). any (cuts s) j.fixed) (any_in (cuts s) h k) n))

-- ---- no pair

-- no two places pass the test, so they are one
module _ {A : Type 0} (p : A → A → Bool) (xs : List A) (d : A) (h : T (not (any_pair p xs))) where
  abbrev Passes : ℕ → ℕ → Type 0
  Passes i k = T (p (get_or xs i d) (get_or xs k d))

  one_place : (i k : ℕ) → i < length xs → k < length xs → Passes i k → Passes k i → i ≡ k
  one_place i k a b s t = go (less_equal_greater i k)
    where
      no_pair : (i k : ℕ) → i < k → k < length xs → Passes i k → ⊥
      no_pair i k l b s = T_not (any_pair p xs) h (pair_in p xs d i k l b s)

      go : (i < k) ⊎ ((i ≡ k) ⊎ (k < i)) → i ≡ k
      go (inl l) = absurd (no_pair i k l b s)
      go (inr (inl q)) = q
      go (inr (inr l)) = absurd (no_pair k i l a t)

-- ---- the premises

module _ (j : Job) (t : Tested j) where
  good_map : (r : ℕ) → IsReg j r → GoodMap (unit_map j r)
  good_map r h = t.fields.regs.each (unit_map j r) (get_d_in j.regs r 0 h)

  virt_reg_in : (v : ℕ) → IsNumber j v → virt_reg j v ∈ j.virt_regs
  unfolding virt_reg
  virt_reg_in v h = get_d_in j.virt_regs v no_virt_reg h

  good_virt_reg : (v : ℕ) → IsNumber j v → GoodVirtReg (length j.regs) (length j.classes) (virt_reg j v)
  good_virt_reg v h = t.fields.virt_regs.each (virt_reg j v) (virt_reg_in v h)

  no_twin : (q r : ℕ) → IsReg j q → IsReg j r → UnitsWithin (unit_map j q) (unit_map j r) → UnitsWithin (unit_map j r) (unit_map j q) → q ≡ r
  unfolding twin
  no_twin q r a b f g =
      one_place alike j.regs 0 (neither (any_pair alike j.regs) (any (any_pair eqb) j.classes) t.no_twin).0 q r a b (by_units q r f g) (by_units r q g f)
    where
      alike : ℕ → ℕ → Bool
      alike m n = same (units_of m) (units_of n)

      by_units : (q r : ℕ) → UnitsWithin (unit_map j q) (unit_map j r) → UnitsWithin (unit_map j r) (unit_map j q) → T (alike (unit_map j q) (unit_map j r))
      by_units q r f g = subst (λ (us : List ℕ). T (same (units_of (unit_map j q)) us)) (same_units (unit_map j q) (unit_map j r) f g) (same_self (units_of (unit_map j q)))

  one_class : (v w : ℕ) → IsNumber j v → IsNumber j w → (virt_reg j v).value_set ≡ (virt_reg j w).value_set → (virt_reg j v).class ≡ (virt_reg j w).class
  unfolding mixed_set virt_reg
  one_class v w a b e = go (passes_or_not (eqb (virt_reg j v).class (virt_reg j w).class))
    where
      mixed : VirtReg → VirtReg → Bool
      mixed v w = eqb v.value_set w.value_set && not (eqb v.class w.class)

      is_mixed : (v w : VirtReg) → v.value_set ≡ w.value_set → (v.class ≡ w.class → ⊥) → T (mixed v w)
      is_mixed v w e d = both_in (eqb v.value_set w.value_set) (not (eqb v.class w.class)) (eqb_in e) (not_T (eqb v.class w.class) (λ h. d (eqb→eq v.class w.class h)))

      go : T (eqb (virt_reg j v).class (virt_reg j w).class) ⊎ T (not (eqb (virt_reg j v).class (virt_reg j w).class)) → (virt_reg j v).class ≡ (virt_reg j w).class
      go (inl s) = eqb→eq (virt_reg j v).class (virt_reg j w).class s
      go (inr s) =
          let d : (virt_reg j v).class ≡ (virt_reg j w).class → ⊥ = λ q. T_not (eqb (virt_reg j v).class (virt_reg j w).class) s (eqb_in q) in
          ap (λ (x : ℕ). (virt_reg j x).class)
          (one_place mixed j.virt_regs no_virt_reg t.one_class v w a b (is_mixed (virt_reg j v) (virt_reg j w) e d) (is_mixed (virt_reg j w) (virt_reg j v) (sym e) (λ q. d (sym q))))

  few_hints : length (all_hints j) ≤ 1024
  unfolding hints_in
  few_hints = omega (arith, sum_length (λ (v : VirtReg). v.hints) 0 j.virt_regs, t.fields.virt_regs.few_hints)

  few_segments : length (all_segments j) ≤ 512
  unfolding segments_in
  few_segments = omega (arith, sum_length (λ (v : VirtReg). v.segments) 0 j.virt_regs, t.fields.virt_regs.few_segments)

  pub tested_premises : Premises j
  tested_premises =
      record {
        few_regs = t.fields.regs.few;
        few_classes = t.fields.classes.few;
        few_numbers = t.fields.few_numbers;
        few_fixed = t.fields.few_fixed;
        few_hints = few_hints;
        few_segments = few_segments;
        few_own_hints = λ v h. (good_virt_reg v h).hints.few;
        small_classes = λ c m. (t.fields.classes.each c m).few;
        small_maps = λ r h. (good_map r h).small;
        few_units = λ r h. omega (arith, units_length (unit_map j r), (good_map r h).few);
        small_fixed = λ e m. (t.fields.fixed.each e m).small;
        small_segments = λ v h s m. ((good_virt_reg v h).segments.each s m).small;
        small_sets = λ v h. (good_virt_reg v h).value_set;
        small_sizes = λ v h. (good_virt_reg v h).size;
        small_budget = t.fields.budget;
        probe = t.fields.probe;
        sound = good_sound j.fixed t.fields.fixed;
        parted = good_parted j.fixed t.fields.fixed.each t.fields.fixed.order;
        segments = λ v h. record {
          nonempty = λ s m. ((good_virt_reg v h).segments.each s m).nonempty;
          rising = good_rising (segments_of j v) (good_virt_reg v h).segments.order;
          uncut = not_cut j t.uncut (virt_reg j v) (virt_reg_in v h);
        };
        slots = λ v h s m. ((good_virt_reg v h).segments.each s m).slots;
        a_segment = λ v h. a_member (segments_of j v) (good_virt_reg v h).some;
        a_unit = λ r h. a_unit (unit_map j r) (good_map r h).small (good_map r h).some;
        no_twin = no_twin;
        class_known = λ c m. (t.fields.classes.each c m).each;
        hint_known = λ v m h n. ((t.fields.virt_regs.each v m).hints.each h n).known;
        a_class = λ v h. (good_virt_reg v h).class;
        plain_spill = λ v h. (good_virt_reg v h).spill_weight;
        finite_hints = λ v m h n. ((t.fields.virt_regs.each v m).hints.each h n).finite;
        one_class = one_class;
      }

pub loads_premises : (limits lent bytes : List ℕ) (j : Job) → Bytes bytes → load_with limits lent bytes ≡ loaded j → Premises j
loads_premises limits lent bytes j h e = tested_premises j (loads_tested limits lent bytes j h e)
