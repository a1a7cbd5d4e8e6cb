-- The records and the last registers beside the state: what a record says of its number, and which one each change of the state stores. Assumes
-- nothing.
use Prim.Native.Nat.{ℕ, ◌+◌, ◌<◌}
use native.Mathlib.Omega.{arith}
use native.Mathlib.Decide.{ℕ_discrete}
use mathlib.Core.Path.{◌≡◌, refl, sym, ap, ap₂, ◌∙◌, subst}
use mathlib.Core.List.{List, map}
use mathlib.Core.Option.{Option, none, some}
use mathlib.Core.Bool.{Bool, true, false, not, ◌||◌}
use lib.Dec.{T}
use lib.Ieee.{Float}
use lib.Ieee.Bits.{is_false}
use lib.ListN.{get_or, set, length-map, length-set}
use lib.Seq.{get_or-set_same, get_or-set_other, ext_get_or}
use Rattle.reg_matrix.specs.Lists.{count}
use Rattle.reg_matrix.proofs.Places.{from_zero, count_length}
use Rattle.job.specs.Model.{Job, virt_reg}
use Rattle.job.proofs.Premises.{IsNumber}
use Rattle.allocator.specs.State.{State, CandidateReg, Stage, Assignment, Assigned, Unassigned, Dead, held_by, is_left_over, flag, assignment, record_of, records, give, lose, requeue, leave}
use Rattle.allocator.specs.Order.{candidate}
use Rattle.allocator.specs.Layout.{last_word, last_words}
use Rattle.allocator.proofs.Holders.{none_some}
use Rattle.allocator.proofs.Agrees.{reg_held}
use Rattle.allocator.proofs.Good.{Good, Idle}

-- a list by number, where one number's place changes
pub set_numbers :
    {A : Type 0} (f g : ℕ → A) (d : A) (n v : ℕ)
    → v < n
    → ((w : ℕ) → (w ≡ v → ⊥) → g w ≡ f w)
    → map g (count 0 n) ≡ set (map f (count 0 n)) v (g v)
set_numbers {A} f g d n v b h =
    ext_get_or d (map g (count 0 n)) (set fs v (g v)) (length-map (count 0 n) g ∙ sym (length-map (count 0 n) f) ∙ sym (length-set fs v (g v)))
    (λ i l. at_place i (omega (arith, length-map (count 0 n) g, count_length 0 n)) (ℕ_discrete i v))
  where
    fs : List A
    fs = map f (count 0 n)

    at_place : (i : ℕ) → i < n → Dec (i ≡ v) → get_or (map g (count 0 n)) i d ≡ get_or (set fs v (g v)) i d
    at_place i l (yes e) =
        from_zero g d n i l
        ∙ ap g e
        ∙ sym (get_or-set_same fs v (g v) d (omega (arith, length-map (count 0 n) f, count_length 0 n)))
        ∙ ap (λ (k : ℕ). get_or (set fs v (g v)) k d) (sym e)
    at_place i l (no e) = from_zero g d n i l ∙ h i e ∙ sym (from_zero f d n i l) ∙ sym (get_or-set_other fs v i (g v) d e)

module _ (j : Job) (s : State) (g : Good j s) where
  -- ---- what a record says

  -- who holds a register is not left over
  pub holder_stays : (v : ℕ) (c : CandidateReg) → held_by s v ≡ some c → is_left_over s v ≡ false
  holder_stays v c e = go (is_left_over s v) refl
    where
      go : (z : Bool) → is_left_over s v ≡ z → z ≡ false
      go true q = absurd (none_some (sym (g.agrees.left v (subst T (sym q) tt)) ∙ sym (g.agrees.regs v) ∙ ap reg_held e))
      go false q = refl

  pub held_record : (v : ℕ) (c : CandidateReg) → held_by s v ≡ some c → record_of s v ≡ Assigned (flag s v) c.reg c.preference_weight
  unfolding record_of
  held_record v c e = rw (holder_stays v c e, e)

  pub idle_record : (v : ℕ) → Idle j s v → record_of s v ≡ Unassigned (flag s v)
  unfolding record_of
  idle_record v i = rw (is_false (is_left_over s v) i.stays, i.holds_nothing)

  -- a record stands as assigned exactly where its number holds that
  pub assigned_held : (v : ℕ) (f : Bool) (r : ℕ) (w : Float) → record_of s v ≡ Assigned f r w → (held_by s v ≡ some (candidate r w)) × (flag s v ≡ f)
  unfolding record_of
  assigned_held v f r w e = go (is_left_over s v) (held_by s v) e
    where
      go : (l : Bool) (o : Option CandidateReg) → assignment l (flag s v) o ≡ Assigned f r w → (o ≡ some (candidate r w)) × (flag s v ≡ f)
      go true o q = absurd (let z : ◌≡◌ {A = ℕ} 0 1 = cc in omega arith)
      go false none q = absurd (let z : ◌≡◌ {A = ℕ} 0 1 = cc in omega arith)
      go false (some c) q =
          let a : c.reg ≡ r = cc in
          let b : c.preference_weight ≡ w = cc in
          let d : flag s v ≡ f = cc in
          (ap some (ap₂ candidate a b), d)

  -- any other record stands where its number holds nothing
  pub not_assigned : (v : ℕ) → ((f : Bool) (r : ℕ) (w : Float) → record_of s v ≡ Assigned f r w → ⊥) → held_by s v ≡ none
  not_assigned v h = go (held_by s v) refl
    where
      go : (o : Option CandidateReg) → held_by s v ≡ o → held_by s v ≡ none
      go none e = e
      go (some c) e = absurd (h (flag s v) c.reg c.preference_weight (held_record v c e))

  -- ---- what each change stores

  changed_record :
      (t : State) (v : ℕ) (a : Assignment)
      → IsNumber j v
      → ((w : ℕ) → (w ≡ v → ⊥) → record_of t w ≡ record_of s w)
      → record_of t v ≡ a
      → records t ≡ set (records s) v a
  unfolding records
  changed_record t v a b h e = set_numbers (record_of s) (record_of t) Dead 512 v (omega (arith, b, g.premises.few_numbers)) h ∙ ap (set (records s) v) e

  module _ (v : ℕ) (b : IsNumber j v) where
    place : (n : ℕ) → n ≡ 512 → v < n
    place n q = omega (arith, b, g.premises.few_numbers)

    pub give_records :
        (c : CandidateReg) (f : Bool)
        → T (not (is_left_over s v))
        → records (give j v c f s) ≡ set (records s) v (Assigned (f || flag s v) c.reg c.preference_weight)
    unfolding record_of give
    give_records c f k =
        changed_record (give j v c f s) v (Assigned (f || flag s v) c.reg c.preference_weight) b
        (λ w n. rw (get_or-set_other s.held v w (some c) none n, get_or-set_other s.flags v w (f || flag s v) false n))
        (rw (
          is_false (is_left_over s v) k,
          get_or-set_same s.held v (some c) none (place _ g.agrees.sizes.held),
          get_or-set_same s.flags v (f || flag s v) false (place _ g.agrees.sizes.flags),
        ))

    pub lose_records : (r : ℕ) → T (not (is_left_over s v)) → records (lose j v r s) ≡ set (records s) v (Unassigned (flag s v))
    unfolding record_of lose
    lose_records r k =
        changed_record (lose j v r s) v (Unassigned (flag s v)) b
        (λ w n. rw (get_or-set_other s.held v w none none n))
        (rw (is_false (is_left_over s v) k, get_or-set_same s.held v none none (place _ g.agrees.sizes.held)))

    pub leave_records : records (leave v s) ≡ set (records s) v Dead
    unfolding record_of leave
    leave_records =
        changed_record (leave v s) v Dead b
        (λ w n. rw (get_or-set_other s.left_over v w true false n))
        (rw (get_or-set_same s.left_over v true false (place _ g.agrees.sizes.left_over)))

    pub requeue_records : (q : Option Stage) → records (requeue v q s) ≡ records s
    unfolding records record_of requeue
    requeue_records q = refl

    -- ---- the last registers: a placement stores its set's, nothing else changes one

    pub give_last : (c : CandidateReg) (f : Bool) → last_words (give j v c f s) ≡ set (last_words s) (virt_reg j v).value_set (c.reg + 1)
    unfolding last_words give
    give_last c f =
        set_numbers (λ t. last_word (get_or s.last t none)) (λ t. last_word (get_or (set s.last (virt_reg j v).value_set (some c.reg)) t none)) 0 512
        (virt_reg j v).value_set (g.premises.small_sets v b)
        (λ t n. ap last_word (get_or-set_other s.last (virt_reg j v).value_set t (some c.reg) none n))
        ∙ ap (λ (o : Option ℕ). set (last_words s) (virt_reg j v).value_set (last_word o))
        (get_or-set_same s.last (virt_reg j v).value_set (some c.reg) none (omega (arith, g.premises.small_sets v b, g.agrees.sizes.last)))

    pub leave_last : last_words (leave v s) ≡ last_words s
    unfolding last_words leave
    leave_last = refl

    pub requeue_last : (q : Option Stage) → last_words (requeue v q s) ≡ last_words s
    unfolding last_words requeue
    requeue_last q = refl

-- an eviction leaves the last registers
pub lose_last : (j : Job) (v r : ℕ) (s : State) → last_words (lose j v r s) ≡ last_words s
unfolding last_words lose
lose_last j v r s = refl
