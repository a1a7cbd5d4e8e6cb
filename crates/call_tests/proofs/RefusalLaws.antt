-- The tests of direct calls: what each is of what is lent, and that together, on a state that calls reach, they are those of the rules.
-- Assumes nothing.
use Prim.Native.Nat.{ℕ, zero, suc, ◌+◌, ◌/◌, ◌%◌, ◌≤◌, ◌<◌}
use native.Mathlib.Omega.{arith}
use mathlib.Core.Path.{◌≡◌, refl, sym, ap, ap₂, ◌∙◌, subst}
use mathlib.Core.Logic.{⊎_elim}
use mathlib.Core.List.{List, [], ◌∷◌, map}
use mathlib.Core.Option.{Option, none, some}
use mathlib.Core.Bool.{Bool, true, false, not, ◌&&◌, ◌||◌, cond}
use native.Mathlib.Nat.{eq-or-lt_of_le}
use lib.Dec.{T, leb, eqb, leb→le, nleb→lt, eqb→eq}
use lib.Ieee.{Float, nan, inf, fin, prec, top, hid, ones, low, binary32, of_bits, of_fields, odd, is_nan}
use lib.Ieee.Bits.{is_true, nan_bits_is}
use lib.ListN.{length, get_or}
use borrow.Author.Tests.{lt-ltb}
use Rattle.std.specs.List.{list_any}
use Rattle.reg_matrix.specs.Lists.{any, has, count, is_nil, is_some}
use Rattle.reg_matrix.specs.Refusals.{Test, refusal, ◌if◌, short_buffer}
use Rattle.reg_matrix.proofs.Places.{any_at}
use Rattle.reg_matrix.proofs.Tests.{same_test, eqb_in, passes_or_not}
use Rattle.reg_matrix.specs.declared.Interference.{Interference}
use Rattle.table_words.specs.Segments.{refusal_number as number_of}
use Rattle.job.specs.declared.Hint.{Hint}
use Rattle.job.specs.Model as model
use Rattle.job.specs.Model.{Job, no_virt_reg, virt_reg}
use Rattle.job.specs.Layout.{JobBuffers, job_buffers}
use Rattle.job.proofs.Premises.{Finite, IsNumber}
use Rattle.job.proofs.Weights.{finite_hint, neither}
use Rattle.job.proofs.WeightBits.{nan_bits_lem, hint_good}
use Rattle.allocator.specs.declared.Assignment.{Assignment}
use Rattle.allocator.specs.declared.CandidateReg.{CandidateReg}
use Rattle.allocator.specs.State.{State, held_by, is_left_over, flag, is_unassigned, check_of, assignment, record_of}
use Rattle.allocator.specs.Layout.{stage_limits}
use Rattle.allocator.specs.Calls.{placing, evicting, unknown_number, named, bad_weight, refusal_of, reg_of}
use Rattle.allocator.proofs.Good.{Good}
use Rattle.allocator.proofs.Records.{held_record}
use Rattle.stage.specs.AllocateWalk.{reports_on}
use Rattle.stage.proofs.Reached.{reports_are}
use Rattle.stage.proofs.ReachedSearch.{map_read}
use Rattle.job_parts.specs.Shares.{share_of, class_in}
use Rattle.decisions.specs.Deciding.{lent_to}
use Rattle.records.specs.Fields.{is_held, reg_in}
use Rattle.moves.specs.Standing.{JobReads, TableStands}
use Rattle.moves.proofs.Shares.{hint_regs_share}
use Rattle.context.proofs.Decision.{field_read, laid_out, search_lent, class_is}
use Rattle.call_tests.specs.Testing.{is_free, hinted_at, named_in, unknown_in, clear_at, place_tests, evict_tests}

-- ---- lists of tests

-- a test more on either side
pub then_same : (n : ℕ) (a b : Bool) (ts us : List Test) → a ≡ b → (T (not a) → refusal ts ≡ refusal us) → refusal (n if a ∷ ts) ≡ refusal (n if b ∷ us)
unfolding refusal
then_same n true b ts us e f = rw (← e)
then_same n false b ts us e f = rw (← e) (f tt)

pub or_same : (a c b d : Bool) → a ≡ c → (T (not a) → b ≡ d) → (a || b) ≡ (c || d)
or_same true c b d e f = rw (← e)
or_same false c b d e f = rw (← e) (f tt)

-- the first test refuses
pub refused_first : (n : ℕ) (b : Bool) (ts : List Test) → b ≡ true → number_of (refusal (n if b ∷ ts)) ≡ n
unfolding refusal
refused_first n b ts e = rw e

-- no test's number is 0, and so 0 says that no test refused
pub none_more :
    (n : ℕ) (b : Bool) (ts : List Test)
    → (number_of (refusal ts) ≡ 0 → refusal ts ≡ none)
    → number_of (refusal (suc n if b ∷ ts)) ≡ 0 → refusal (suc n if b ∷ ts) ≡ none
unfolding refusal
none_more n true ts f e = absurd (omega arith)
none_more n false ts f e = f e

no_tests : number_of (refusal []) ≡ 0 → refusal [] ≡ none
unfolding refusal
no_tests e = refl

pub none_placing :
    (short unknown : Bool) (bits : ℕ) (a : Assignment) (clear : Bool)
    → number_of (refusal (place_tests short unknown bits a clear)) ≡ 0 → refusal (place_tests short unknown bits a clear) ≡ none
none_placing short unknown bits a clear =
    none_more 14 short _ (none_more 7 unknown _ (none_more 8 (leb 0x7F80_0000 bits) _ (none_more 12 (not (is_free a)) _ (none_more 13 (not clear) [] no_tests))))

pub none_evicting : (short unknown : Bool) (a : Assignment) → number_of (refusal (evict_tests short unknown a)) ≡ 0 → refusal (evict_tests short unknown a) ≡ none
none_evicting short unknown a = none_more 14 short _ (none_more 7 unknown _ (none_more 12 (not (is_held a)) [] no_tests))

-- ---- 9: the weight by its bits

bad_odd : (d q k l : ℕ) → T (bad_weight (odd d true q k l))
unfolding odd
bad_odd d zero k l = tt
bad_odd d (suc q) k l = tt

bad_nan : (w : Float) → is_nan w ≡ true → bad_weight w ≡ true
unfolding is_nan
bad_nan nan e = refl
bad_nan (inf n) e = refl
bad_nan (fin n m k) e = absurd (let z : ◌≡◌ {A = ℕ} 0 1 = cc in omega arith)

good_finite : (w : Float) → Finite w → bad_weight w ≡ false
good_finite nan h = absurd h
good_finite (inf n) h = absurd h
good_finite (fin n m e) h = h

-- a value that carries the sign
bad_signed : (x t : ℕ) → T (bad_weight (of_fields binary32 true x t))
unfolding of_fields
bad_signed zero t = bad_odd (prec binary32) t 0 (low binary32)
bad_signed (suc x) t = go (eqb (suc x) (ones binary32)) (eqb t 0)
  where
    go : (a b : Bool) → T (bad_weight (cond a (cond b (inf true) nan) (odd (prec binary32) true (hid binary32 + t) x (low binary32))))
    go true true = tt
    go true false = tt
    go false b = bad_odd (prec binary32) (hid binary32 + t) x (low binary32)

bad_above : (b : ℕ) → 0x7F80_0000 ≤ b → T (bad_weight (of_bits binary32 b))
unfolding of_bits of_fields
bad_above b h = ⊎_elim (λ e. subst (λ (n : ℕ). T (bad_weight (of_bits binary32 n))) e infinite) past (eq-or-lt_of_le h)
  where
    infinite : T (bad_weight (of_bits binary32 0x7F80_0000))
    infinite = tt

    past : 0x7F80_0000 < b → T (bad_weight (of_bits binary32 b))
    past l = ⊎_elim sign not_number (passes_or_not (leb 2147483648 b))
      where
        sign : T (leb 2147483648 b) → T (bad_weight (of_bits binary32 b))
        sign t = rw (is_true (leb 2147483648 b) t) (bad_signed (b % top binary32 / hid binary32) (b % hid binary32))

        not_number : T (not (leb 2147483648 b)) → T (bad_weight (of_bits binary32 b))
        not_number t =
            rw (bad_nan (of_bits binary32 b) (sym (nan_bits_is binary32 b) ∙ nan_bits_lem b (nleb→lt 2147483648 b t) ∙ lt-ltb 0x7F80_0000 b l)) tt

-- refusal 9 by the bits: infinity's and all above
pub bad_bits : (b : ℕ) → leb 0x7F80_0000 b ≡ bad_weight (of_bits binary32 b)
bad_bits b = go (leb 0x7F80_0000 b) refl
  where
    go : (t : Bool) → leb 0x7F80_0000 b ≡ t → t ≡ bad_weight (of_bits binary32 b)
    go true e = sym (is_true _ (bad_above b (leb→le 0x7F80_0000 b (subst T (sym e) tt))))
    go false e = sym (good_finite (of_bits binary32 b) (finite_hint b (rw (hint_good b (nleb→lt 0x7F80_0000 b (subst (λ (z : Bool). T (not z)) (sym e) tt))) tt)))

-- ---- 8: who may have a register

-- among the registers that are read
pub has_read : (r : ℕ) (rs : List ℕ) → list_any (λ (x : ℕ). eqb x r) rs ≡ has r rs
unfolding has
has_read r [] = refl
has_read r (x ∷ rs) = ap₂ ◌||◌ (same_test (eqb x r) (eqb r x) (λ t. eqb_in (sym (eqb→eq x r t))) (λ t. eqb_in (sym (eqb→eq r x t)))) (has_read r rs)

-- by what the code finds
module _ (B : JobBuffers) (n v r : ℕ) (class : List ℕ) (h : Bool) (pc : class ≡ class_in B v) (ph : h ≡ has r class) where
  class_names : h ≡ has r (class_in B v)
  class_names = ph ∙ ap (has r) pc

  pub named_class : h ≡ true → true ≡ named_in B.class_starts B.class_regs B.classes B.value_sets B.hint_starts B.hint_regs n v r
  unfolding named_in
  named_class e = rw (← class_names, e)

  pub named_sets :
      h ≡ false → (t : ℕ) (x : Bool) → t ≡ get_or B.value_sets v 0 → x ≡ any (hinted_at B.value_sets B.hint_starts B.hint_regs t r) (count 0 n)
      → x ≡ named_in B.class_starts B.class_regs B.classes B.value_sets B.hint_starts B.hint_regs n v r
  unfolding named_in
  named_sets e t x pt px = rw (← class_names, e) (px ∙ ap (λ (t : ℕ). any (hinted_at B.value_sets B.hint_starts B.hint_regs t r) (count 0 n)) pt)

has_any : (r : ℕ) (hs : List Hint) → has r (map (λ (h : Hint). h.reg) hs) ≡ any (λ h. eqb h.reg r) hs
unfolding has any
has_any r [] = refl
has_any r (h ∷ hs) = ap₂ ◌||◌ (same_test (eqb r h.reg) (eqb h.reg r) (λ t. eqb_in (sym (eqb→eq r h.reg t))) (λ t. eqb_in (sym (eqb→eq h.reg r t)))) (has_any r hs)

module _ (j : Job) (s : State) (g : Good j s) (B : JobBuffers) (R : JobReads j B) where
  set_read : (k : ℕ) → IsNumber j k → get_or B.value_sets k 0 ≡ (virt_reg j k).value_set
  unfolding job_buffers
  set_read k l = rw R.value_sets.1 (field_read (λ (x : model.VirtReg). x.value_set) j k R.value_sets.0 g.premises.few_numbers (omega (arith, l, g.premises.few_numbers)))

  hints_read : (k : ℕ) → IsNumber j k → share_of B.hint_starts k B.hint_regs ≡ map (λ (h : Hint). h.reg) (virt_reg j k).hints
  hints_read k l = rw (R.hint_starts.1, R.hint_regs.1) (hint_regs_share j k l R.hint_starts.0 R.hint_regs.0)

  module _ (v : ℕ) (b : IsNumber j v) where
    pub named_read :
        (r : ℕ)
        → named_in B.class_starts B.class_regs B.classes B.value_sets B.hint_starts B.hint_regs (length j.virt_regs) v r ≡ named j v r
    unfolding named_in named virt_reg
    named_read r =
        ap₂ ◌||◌ (ap (has r) (class_is j s g B R v b))
        (any_at no_virt_reg (λ x. eqb x.value_set (virt_reg j v).value_set && any (λ h. eqb h.reg r) x.hints)
        (hinted_at B.value_sets B.hint_starts B.hint_regs (get_or B.value_sets v 0) r) j.virt_regs 0
        (λ k l. ap (hinted_at B.value_sets B.hint_starts B.hint_regs (get_or B.value_sets v 0) r) (omega arith) ∙ at k l))
      where
        at : (k : ℕ) → k < length j.virt_regs
            → hinted_at B.value_sets B.hint_starts B.hint_regs (get_or B.value_sets v 0) r k ≡ (eqb (virt_reg j k).value_set (virt_reg j v).value_set && any (λ h. eqb h.reg r) (virt_reg j k).hints)
        at k l = rw (set_read k l, set_read v b, hints_read k l) (ap (λ (z : Bool). eqb (virt_reg j k).value_set (virt_reg j v).value_set && z) (has_any r (virt_reg j k).hints))

    -- 14
    pub clear_read : (et rt ends rests : List ℕ) → TableStands s et rt ends rests → (r : ℕ) → r < 64
        → clear_at B.regs B.fixed_uses B.segment_starts B.froms B.tos B.values ends rests v r ≡ is_nil (check_of j s v r)
    unfolding clear_at
    clear_read et rt ends rests S r h =
        ap (λ (l : List Interference). is_nil l)
        (ap (reports_on (lent_to B ends rests v)) (map_read j s g B.regs _ B.spill_weights (search_lent j s g B R v b) r h)
        ∙ reports_are j s g v b (lent_to B ends rests v) (laid_out j s g B R v b et rt ends rests S) r)

-- ---- 13: by the record

empty_record : (s : State) (v : ℕ) → held_by s v ≡ none → record_of s v ≡ assignment (is_left_over s v) (flag s v) none
unfolding record_of
empty_record s v e = rw e

pub free_record : (s : State) (v : ℕ) → is_free (record_of s v) ≡ is_unassigned s v
unfolding record_of
free_record s v = go (is_left_over s v) (held_by s v)
  where
    go : (l : Bool) (o : Option CandidateReg) → is_free (assignment l (flag s v) o) ≡ (not (is_some o) && not l)
    go true none = refl
    go true (some c) = refl
    go false none = refl
    go false (some c) = refl

module _ (j : Job) (s : State) (g : Good j s) (v : ℕ) where
  pub held_is : (is_held (record_of s v) ≡ is_some (held_by s v)) × (reg_in (record_of s v) ≡ reg_of (held_by s v))
  held_is = go (held_by s v) refl
    where
      nothing : (l : Bool) → (is_held (assignment l (flag s v) none) ≡ false) × (reg_in (assignment l (flag s v) none) ≡ 0)
      nothing true = (refl, refl)
      nothing false = (refl, refl)

      go : (o : Option CandidateReg) → held_by s v ≡ o → (is_held (record_of s v) ≡ is_some o) × (reg_in (record_of s v) ≡ reg_of o)
      go none e = subst (λ (a : Assignment). (is_held a ≡ false) × (reg_in a ≡ 0)) (sym (empty_record s v e)) (nothing (is_left_over s v))
      go (some c) e = rw (held_record j s g v c e) (refl, refl)

-- ---- the tests together

module _ (j : Job) (s : State) (g : Good j s) (sizes : List ℕ) (v : ℕ) (short : Bool)
    (lends : short ≡ short_buffer stage_limits sizes) (a : Assignment) (is : IsNumber j v → a ≡ record_of s v) where
  known : T (not (leb (length j.virt_regs) v)) → IsNumber j v
  known t = nleb→lt (length j.virt_regs) v t

  pub placing_tests :
      (r bits : ℕ) (names clear : Bool)
      → (IsNumber j v → names ≡ named j v r)
      → (IsNumber j v → r < 64 → clear ≡ is_nil (check_of j s v r))
      → refusal (place_tests short (unknown_in (length j.virt_regs) (length j.regs) v r names) bits a clear)
      ≡ refusal_of j s (placing sizes v r (of_bits binary32 bits))
  unfolding refusal_of
  placing_tests r bits names clear pn pc =
      then_same 15 short _ _ _ lends λ _.
      then_same 8 (unknown_in (length j.virt_regs) (length j.regs) v r names) _ _ _
      (or_same (unknown_number j v) _ _ _ refl λ t. ap (λ (z : Bool). leb (length j.regs) r || not z) (pn (known t))) λ t.
      let k = neither (unknown_number j v) _ t in
      let b = known k.0 in
      let r-is : r < length j.regs = nleb→lt _ r (neither (leb (length j.regs) r) _ k.1).0 in
      then_same 9 (leb 0x7F80_0000 bits) _ _ _ (bad_bits bits) λ _.
      then_same 13 (not (is_free a)) _ _ _ (ap (λ (z : Assignment). not (is_free z)) (is b) ∙ ap not (free_record s v)) λ _.
      then_same 14 (not clear) _ [] [] (ap not (pc b (omega (arith, g.premises.few_regs)))) λ _. refl

  pub evicting_tests : refusal (evict_tests short (leb (length j.virt_regs) v) a) ≡ refusal_of j s (evicting sizes v)
  unfolding refusal_of
  evicting_tests =
      then_same 15 short _ _ _ lends λ _.
      then_same 8 (unknown_number j v) _ _ _ refl λ t.
      then_same 13 (not (is_held a)) _ [] [] (ap (λ (z : Assignment). not (is_held z)) (is (known t)) ∙ ap not (held_is j s g v).0) λ _. refl
