-- On a state that calls reach, over what is lent, the code's decision of a dequeue is the rules' decision. Assumes nothing.
use Prim.Native.Nat.{ℕ, ◌+◌, ◌-◌, ◌≤◌, ◌<◌}
use native.Mathlib.Omega.{arith}
use mathlib.Core.Path.{◌≡◌, refl, sym, ap, ◌∙◌}
use mathlib.Core.List.{List, [], ◌++◌, map}
use mathlib.Core.Option.{Option, none, some}
use mathlib.Core.Bool.{Bool, true, false, not, ◌&&◌, cond}
use lib.Dec.{T, eqb}
use lib.Ieee.{Float, nan, inf, fin, of_bits, lt, eq}
use lib.ListN.{length, get_or, length-map, get_or-append, get_or-map}
use borrow.Author.Tests.{ne_eqb}
use Rattle.reg_matrix.proofs.Members.{get_d_in}
use Rattle.reg_matrix.specs.Lists.{first, count, padded}
use Rattle.reg_matrix.proofs.Places.{padded_read, from_zero, count_length}
use Rattle.job.specs.Model as model
use Rattle.job.specs.Model.{Job, virt_reg, no_virt_reg, class_of}
use Rattle.job.specs.Layout.{JobBuffers, job_buffers}
use Rattle.job.proofs.Premises.{IsNumber, Plain}
use Rattle.allocator.specs.State.{State, held_by, is_left_over, flag, last_given, assignment, record_of, records}
use Rattle.allocator.specs.declared.Assignment.TheVariants.{Dead}
use Rattle.allocator.specs.declared.CandidateReg.{CandidateReg}
use Rattle.allocator.specs.declared.Stage.{Stage}
use Rattle.allocator.specs.declared.Stage.TheVariants.{Evict, Split}
use Rattle.allocator.specs.Order.{hinted_order, order, highest_preference}
use Rattle.allocator.specs.Evict.{spill_weight, Eviction, try_evict, preferred, infinite}
use Rattle.allocator.specs.Dequeue.{fails, splits, is_infinite, by_eviction, or_preferred, decide}
use Rattle.allocator.specs.Layout.{last_word, last_words}
use Rattle.allocator.specs.Reached.{Reached}
use Rattle.allocator.proofs.Agrees.{queued_at}
use Rattle.allocator.proofs.Good.{Good, Idle, good_reached, queued_idle}
use Rattle.order.specs.OrderWalk.{last_of}
use Rattle.stage.specs.AllocateWalk.{available_in, cost_so_far, prefer_in}
use Rattle.stage.specs.declared.allocate.Best.{Best}
use Rattle.stage.specs.declared.allocate.Available.{Available}
use Rattle.stage.specs.declared.allocate.Available.TheVariants.{Clear, NoneClear, NoCandidates}
use Rattle.order.proofs.OrderLaws.{all_hints_lem, hinted_is, offers_all}
use Rattle.stage.proofs.Reached.{LaidOut}
use Rattle.stage.proofs.ReachedSearch.{own_hinted, hinted_small, order_small, SearchLent, spill_read, record_read, by_available, decide_found, BestIs, eviction_found, PreferredIs, preferred_found}
use Rattle.decisions.specs.declared.Decided.TheVariants.{Takes, Splits, Fails}
use Rattle.std.proofs.Common.{Option as Maybe, Some, None}
use Rattle.job_parts.specs.Shares.{class_in}
use Rattle.decisions.specs.Deciding.{members, decision_of, last_in, preferred_or, clear_in, evicted_or, none_clear_in, found_in, in_order, lent_to, hinted_in, decided_in}
use Rattle.records.specs.Fields.{flag_in, record_weight}
use Rattle.moves.specs.Standing.{JobReads, TableStands}
use Rattle.record_words.specs.Words.{record_in, held_in, WordsOf}
use Rattle.record_words.proofs.WordLaws.{word_read, held_are}
use Rattle.moves.proofs.Shares.{froms_share, tos_share, values_share, hint_regs_share, hint_weights_share, class_share}

-- ---- words and weights

-- the word of a register last given, read back
last_back : (o : Option ℕ) → last_of (cond (eqb (last_word o) 0) None (Some (last_word o - 1))) ≡ o
last_back none = refl
last_back (some r) =
    let e : eqb (r + 1) 0 ≡ false = ne_eqb (r + 1) 0 (λ q. omega arith) in
    let n : r + 1 - 1 ≡ r = omega arith in
    rw (e, n)

infinite_is : infinite ≡ inf false
unfolding of_bits
infinite_is = refl

-- of weights that loading lets through
plain_infinite : (w : Float) → Plain w → eq w infinite ≡ is_infinite w
unfolding eq
plain_infinite nan p = absurd p
plain_infinite (inf n) p = rw (infinite_is, p)
plain_infinite (fin n m e) p = rw infinite_is

-- a field of a virtual register, by number
pub field_read : {C : Type 0} (f : model.VirtReg → C) (j : Job) (v : ℕ) (t : List C) → length j.virt_regs ≤ 512 → v < 512 → get_or (padded 512 (f no_virt_reg) (map f j.virt_regs) ++ t) v (f no_virt_reg) ≡ f (virt_reg j v)
unfolding virt_reg
field_read f j v t l h = padded_read 512 (f no_virt_reg) (map f j.virt_regs) t v (simp length-map l) h ∙ get_or-map f j.virt_regs v no_virt_reg

-- ---- what is read of the job and the state

-- the weight with which each number holds its register
abbrev pub held_of : State → List Float
held_of s = map record_weight (records s)

module _ (j : Job) (s : State) (g : Good j s) (B : JobBuffers) (R : JobReads j B) (v : ℕ) (b : IsNumber j v) where
  below : v < 512
  below = omega (arith, b, g.premises.few_numbers)

  pub laid_out : (et rt ends rests : List ℕ) → TableStands s et rt ends rests → LaidOut j s v (lent_to B ends rests v)
  unfolding job_buffers
  laid_out et rt ends rests S =
      record {
        ends_behind = et;
        rests_behind = rt;
        uses_behind = R.fixed_uses.0;
        ends = S.ends_are;
        rests = S.rests_are;
        uses = R.fixed_uses.1;
        froms = rw (R.segment_starts.1, R.froms.1) (froms_share j v b R.segment_starts.0 R.froms.0);
        tos = rw (R.segment_starts.1, R.tos.1) (tos_share j v b R.segment_starts.0 R.tos.0);
        values = rw (R.segment_starts.1, R.values.1) (values_share j v b R.segment_starts.0 R.values.0);
      }

  pub search_lent : SearchLent j s B.regs (held_of s) B.spill_weights
  search_lent =
      record { maps_behind = R.regs.0; spills_behind = R.spill_weights.0; maps_are = R.regs.1; held_are = refl; spills_are = R.spill_weights.1 }

  pub class_is : class_in B v ≡ class_of j v
  unfolding job_buffers
  class_is =
      let k : get_or B.classes v 0 ≡ (virt_reg j v).class = rw R.classes.1 (field_read (λ (x : model.VirtReg). x.class) j v R.classes.0 g.premises.few_numbers below) in
      rw (k, R.class_starts.1, R.class_regs.1) (class_share j (virt_reg j v).class (g.premises.a_class v b) R.class_starts.0 R.class_regs.0)

  pub class_few : length (class_in B v) ≤ 64
  class_few = rw class_is (g.premises.small_classes (class_of j v) (get_d_in j.classes (virt_reg j v).class [] (g.premises.a_class v b)))

  pub last_is : (lb : List ℕ) → last_of (last_in (last_words s ++ lb) B.value_sets v) ≡ last_given j s v
  unfolding job_buffers last_words last_in
  last_is lb =
      let k : get_or B.value_sets v 0 ≡ (virt_reg j v).value_set = rw R.value_sets.1 (field_read (λ (x : model.VirtReg). x.value_set) j v R.value_sets.0 g.premises.few_numbers below) in
      let words : List ℕ = map (λ t. last_word (get_or s.last t none)) (count 0 512) in
      let i = (virt_reg j v).value_set in
      let n : length words ≡ 512 = length-map (count 0 512) (λ t. last_word (get_or s.last t none)) ∙ count_length 0 512 in
      let w : get_or (words ++ lb) i 0 ≡ last_word (last_given j s v) =
      get_or-append words lb 0 i (omega (arith, n, g.premises.small_sets v b)) ∙ from_zero (λ t. last_word (get_or s.last t none)) 0 512 i (g.premises.small_sets v b) in
      rw (k, w) (last_back (last_given j s v))

  pub hinted_read : (lb : List ℕ) → hinted_in B (last_words s ++ lb) v ≡ hinted_order (virt_reg j v) (last_given j s v)
  unfolding hinted_in
  hinted_read lb =
      rw (R.hint_starts.1, R.hint_regs.1, R.hint_weights.1, hint_regs_share j v b R.hint_starts.0 R.hint_regs.0, hint_weights_share j v b R.hint_starts.0 R.hint_weights.0, all_hints_lem (virt_reg j v).hints (g.premises.few_own_hints v b), last_is lb)
      (hinted_is (virt_reg j v) (last_given j s v))

  -- who is not left over has its flag
  pub flag_is : T (not (is_left_over s v)) → flag_in (get_or (records s) v Dead) ≡ flag s v
  unfolding record_of
  flag_is h = ap flag_in (record_read s Dead v below) ∙ go (is_left_over s v) (held_by s v) h
    where
      go : (l : Bool) (o : Option CandidateReg) → T (not l) → flag_in (assignment l (flag s v) o) ≡ flag s v
      go true o t = absurd t
      go false none t = refl
      go false (some c) t = refl

  -- ---- the decision

  module _ (et rt lb ends rests : List ℕ) (S : TableStands s et rt ends rests) where
    abbrev hinted : List CandidateReg
    hinted = own_hinted j s g v b

    abbrev lent_now : LaidOut j s v (lent_to B ends rests v)
    lent_now = laid_out et rt ends rests S

    -- a clear candidate, or a preferred one
    prefers_is : (c : CandidateReg) (best : Maybe Best) (o : Option CandidateReg)
        → PreferredIs j s g v b (lent_to B ends rests v) lent_now B.regs (held_of s) B.spill_weights search_lent best o → decision_of (preferred_or c best) ≡ or_preferred j s v c o
    unfolding members
    prefers_is c best none e = rw e
    prefers_is c best (some d) f = rw (f.found, f.to, f.evicts)

    -- an eviction, or none
    evicts_is : (best : Maybe Best) (o : Option Eviction)
        → BestIs j s g v b (lent_to B ends rests v) lent_now B.regs (held_of s) B.spill_weights search_lent best o → decision_of (evicted_or (spill_weight j v) best) ≡ by_eviction j s v o
    unfolding members
    evicts_is best none e = rw (e, plain_infinite (spill_weight j v) (g.premises.plain_spill v b)) (go (is_infinite (spill_weight j v)))
      where
        go : (t : Bool) → decision_of (cond t Fails Splits) ≡ cond t fails splits
        go true = refl
        go false = refl
    evicts_is best (some e) f =
        let k : f.0.it.cost ≡ e.cost = sym (ap cost_so_far f.0.found) ∙ f.1 in
        rw (f.0.found, f.0.to, f.0.evicts, k)

    found_is : (q : Stage) (a : Available)
        → decision_of (found_in (lent_to B ends rests v) B.regs (held_of s) B.spill_weights hinted (flag s v) (spill_weight j v) (order j v hinted) q a)
        ≡ by_available j s g v b (lent_to B ends rests v) lent_now B.regs (held_of s) B.spill_weights search_lent hinted (order j v hinted) q a
    unfolding found_in clear_in none_clear_in
    found_is q NoCandidates = refl
    found_is q (Clear c) = go (lt c.preference_weight (highest_preference hinted) && not (flag s v))
      where
        go : (t : Bool)
            → decision_of (cond t (preferred_or c (prefer_in (lent_to B ends rests v) B.regs (held_of s) B.spill_weights c hinted)) (Takes c))
            ≡ or_preferred j s v c (cond t (first (preferred j s v c) hinted) none)
        go true =
            prefers_is c _ (first (preferred j s v c) hinted)
            (preferred_found j s g v b (lent_to B ends rests v) lent_now B.regs (held_of s) B.spill_weights search_lent c hinted (hinted_small j s g v b))
        go false = refl
    found_is Evict NoneClear =
        evicts_is _ (try_evict j s v (order j v hinted))
        (eviction_found j s g v b (lent_to B ends rests v) lent_now B.regs (held_of s) B.spill_weights search_lent (order j v hinted) (order_small j s g v b))
    found_is Split NoneClear = refl

    in_order_is : (q : Stage) → decision_of (in_order (lent_to B ends rests v) B.regs (held_of s) B.spill_weights hinted (class_of j v) (flag s v) (spill_weight j v) q) ≡ decide j s v q
    unfolding in_order
    in_order_is q =
        rw (offers_all j v hinted)
        (found_is q (available_in (lent_to B ends rests v) B.regs false (order j v hinted))
        ∙ sym (decide_found j s g v b (lent_to B ends rests v) lent_now B.regs (held_of s) B.spill_weights search_lent q))

    pub decision_read : (q : Stage) → decision_of (decided_in B ends rests (last_words s ++ lb) (held_of s) (flag s v) v q) ≡ decide j s v q
    unfolding decided_in
    decision_read q = rw (hinted_read lb, class_is, spill_read j s g B.regs (held_of s) B.spill_weights search_lent v below) (in_order_is q)

-- of a number that neither holds a register nor is left over
pub decision_good :
    (j : Job) (s : State) → Good j s → (B : JobBuffers) → JobReads j B
    → (v : ℕ) → Idle j s v → (q : Stage)
    → (et rt lb ends rests last W : List ℕ) → TableStands s et rt ends rests → last ≡ last_words s ++ lb → WordsOf (records s) W
    → (length (class_in B v) ≤ 64) × (decision_of (decided_in B ends rests last (held_in W) (flag_in (record_in (get_or W v 0))) v q) ≡ decide j s v q)
decision_good j s g B R v i q et rt lb ends rests last W S l w =
    let o : flag_in (record_in (get_or W v 0)) ≡ flag s v =
    ap flag_in (word_read w v (omega (arith, i.known, g.premises.few_numbers))) ∙ flag_is j s g B R v i.known i.stays in
    (class_few j s g B R v i.known, rw (l, held_are w, o) (decision_read j s g B R v i.known et rt lb ends rests S q))

-- of a number that is queued, on a state that calls reach
pub decision_is :
    (j : Job) (s : State) → Reached j s → (B : JobBuffers) → JobReads j B
    → (v : ℕ) (q : Stage) → queued_at s v ≡ some q
    → (et rt lb ends rests last W : List ℕ) → TableStands s et rt ends rests → last ≡ last_words s ++ lb → WordsOf (records s) W
    → (length (class_in B v) ≤ 64) × (decision_of (decided_in B ends rests last (held_in W) (flag_in (record_in (get_or W v 0))) v q) ≡ decide j s v q)
decision_is j s r B R v q e = let g = good_reached j s r in decision_good j s g B R v (queued_idle j s g v q e) q
