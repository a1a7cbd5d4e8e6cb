-- The state after a dequeue does not depend on the order in which its evictions are carried out: two lists with the same members give the same
-- state. Assumes nothing.
use Prim.Native.Nat.{ℕ, ◌<◌}
use native.Mathlib.Omega.{arith}
use mathlib.Core.Path.{◌≡◌, refl, sym, ap, ap₂, ◌∙◌, subst}
use mathlib.Core.Logic.{◌⊎◌, inl, inr}
use mathlib.Core.List.{List, [], ◌∷◌}
use mathlib.Core.Option.{Option, none, some}
use mathlib.Core.Bool.{Bool, true, false, ◌&&◌, ◌||◌, cond}
use lib.Dec.{T, eqb, eqb→eq}
use lib.ListN.{length, get_or, set}
use lib.Seq.{ext_get_or}
use Rattle.reg_matrix.specs.Lists.{foldl, has, is_some}
use Rattle.reg_matrix.proofs.Tests.{eqb_in, same_test}
use Rattle.reg_matrix.proofs.Members.{◌∈◌}
use Rattle.job.specs.Model.{Job}
use Rattle.job.proofs.Premises.{Premises}
use Rattle.allocator.specs.declared.CandidateReg.{CandidateReg}
use Rattle.allocator.specs.declared.Stage.{Stage}
use Rattle.allocator.specs.declared.Stage.TheVariants.{Evict}
use Rattle.allocator.specs.State.{State, held_by, lose, lose_held, evict_number, give}
use Rattle.allocator.specs.Dequeue.{goes_on, evict_all, carry_out}
use Rattle.allocator.specs.Run.{run}
use Rattle.allocator.specs.Calls.{after_all}
use Rattle.allocator.specs.Holding.{Holding, but, holds}
use Rattle.allocator.specs.Corollaries.{SameMembers, EvictOrder}
use Rattle.allocator.proofs.Holders.{none_some}
use Rattle.allocator.proofs.Agrees.{Agrees, queued_at, set_cases, evict_agrees}
use Rattle.allocator.proofs.Decisions.{has_in, has_out}
use Rattle.allocator.proofs.Runs.{without, without_cases, evict_all_keeps, evict_all_agrees, run_agrees, after_agrees}
use Rattle.allocator.proofs.Shown.{holders_decide}
use Rattle.allocator.proofs.Loading.{stage_premises}

-- ---- what evictions leave in the records and in the queue

set_is : {A : Type 0} (l : List A) (i k : ℕ) (a d : A) → i < length l → get_or (set l i a) k d ≡ cond (eqb k i) a (get_or l k d)
set_is l i k a d b = go (eqb k i) refl (set_cases l i k a d b)
  where
    go : (z : Bool) → eqb k i ≡ z → ((k ≡ i) × (get_or (set l i a) k d ≡ a)) ⊎ ((k ≡ i → ⊥) × (get_or (set l i a) k d ≡ get_or l k d)) → get_or (set l i a) k d ≡ cond z a (get_or l k d)
    go true q (inl h) = h.1
    go true q (inr h) = absurd (h.0 (eqb→eq k i (subst T (sym q) tt)))
    go false q (inl h) = absurd (subst T q (eqb_in h.0))
    go false q (inr h) = h.1

module _ (j : Job) (p : Premises j) where
  module _ (s : State) (h : Holding) (a : Agrees j s h) (v x : ℕ) where
    -- v has its place in the lists, if it holds something
    placed : (c : CandidateReg) → held_by s v ≡ some c → (n : ℕ) → n ≡ 512 → v < n
    placed c q n e = omega (arith, (a.holder v c q).0, p.few_numbers)

    here : T (eqb x v) → held_by s x ≡ held_by s v
    here t = ap (held_by s) (eqb→eq x v t)

    one_held : held_by (evict_number j s v) x ≡ cond (eqb x v) none (held_by s x)
    unfolding evict_number lose
    one_held = go (held_by s v) refl
      where
        nothing : (z : Bool) → (T z → held_by s x ≡ none) → held_by s x ≡ cond z none (held_by s x)
        nothing true f = f tt
        nothing false f = refl

        go : (o : Option CandidateReg) → held_by s v ≡ o → held_by (lose_held j v s o) x ≡ cond (eqb x v) none (held_by s x)
        go none q = nothing (eqb x v) (λ t. here t ∙ q)
        go (some c) q = set_is s.held v x none none (placed c q (length s.held) a.sizes.held)

    one_queued : queued_at (evict_number j s v) x ≡ cond (eqb x v && is_some (held_by s x)) (some Evict) (queued_at s x)
    unfolding evict_number lose
    one_queued = go (held_by s v) refl
      where
        nothing : (z : Bool) (o : Option CandidateReg) → (T z → o ≡ none) → queued_at s x ≡ cond (z && is_some o) (some Evict) (queued_at s x)
        nothing true none f = refl
        nothing true (some c) f = absurd (none_some (sym (f tt)))
        nothing false o f = refl

        something : (z : Bool) (o : Option CandidateReg) (c : CandidateReg) → (T z → o ≡ some c) → cond z (some Evict) (queued_at s x) ≡ cond (z && is_some o) (some Evict) (queued_at s x)
        something true none c f = absurd (none_some (f tt))
        something true (some d) c f = refl
        something false o c f = refl

        go : (o : Option CandidateReg) → held_by s v ≡ o → queued_at (lose_held j v s o) x ≡ cond (eqb x v && is_some (held_by s x)) (some Evict) (queued_at s x)
        go none q = nothing (eqb x v) (held_by s x) (λ t. here t ∙ q)
        go (some c) q = set_is s.queued v x (some Evict) none (placed c q (length s.queued) a.sizes.queued) ∙ something (eqb x v) (held_by s x) c (λ t. here t ∙ q)

  -- a number of the list holds nothing afterwards
  all_held : (vs : List ℕ) (s : State) (h : Holding) → Agrees j s h → (x : ℕ) → held_by (evict_all j vs s) x ≡ cond (has x vs) none (held_by s x)
  unfolding evict_all foldl has
  all_held [] s h a x = refl
  all_held (v ∷ vs) s h a x =
      all_held vs (evict_number j s v) (but h v none) (evict_agrees j p s h a v) x
      ∙ ap (cond (has x vs) none) (one_held s h a v x)
      ∙ go (eqb x v) (has x vs)
    where
      go : (y z : Bool) → cond z none (cond y none (held_by s x)) ≡ cond (y || z) none (held_by s x)
      go true true = refl
      go true false = refl
      go false z = refl

  -- and is queued at stage Evict, if it held something
  all_queued : (vs : List ℕ) (s : State) (h : Holding) → Agrees j s h → (x : ℕ) → queued_at (evict_all j vs s) x ≡ cond (has x vs && is_some (held_by s x)) (some Evict) (queued_at s x)
  unfolding evict_all foldl has
  all_queued [] s h a x = refl
  all_queued (v ∷ vs) s h a x =
      all_queued vs (evict_number j s v) (but h v none) (evict_agrees j p s h a v) x
      ∙ ap₂ (λ (o : Option CandidateReg) (q : Option Stage). cond (has x vs && is_some o) (some Evict) q) (one_held s h a v x) (one_queued s h a v x)
      ∙ go (eqb x v) (has x vs) (held_by s x)
    where
      go : (y z : Bool) (o : Option CandidateReg) → cond (z && is_some (cond y none o)) (some Evict) (cond (y && is_some o) (some Evict) (queued_at s x)) ≡ cond ((y || z) && is_some o) (some Evict) (queued_at s x)
      go true true o = refl
      go true false o = refl
      go false z o = refl

-- ---- two lists with the same members

same_has : (vs ws : List ℕ) → SameMembers vs ws → (x : ℕ) → has x vs ≡ has x ws
same_has vs ws e x = same_test (has x vs) (has x ws) (λ t. has_in x ((e x).0 (has_out x vs t))) (λ t. has_in x ((e x).1 (has_out x ws t)))

same_without : (vs ws : List ℕ) → SameMembers vs ws → (h : Holding) (x : ℕ) → without h vs x ≡ without h ws x
same_without vs ws e h x = go (without_cases vs h x) (without_cases ws h x)
  where
    go :
        ((x ∈ vs) × (without h vs x ≡ none)) ⊎ ((x ∈ vs → ⊥) × (without h vs x ≡ h x))
        → ((x ∈ ws) × (without h ws x ≡ none)) ⊎ ((x ∈ ws → ⊥) × (without h ws x ≡ h x))
        → without h vs x ≡ without h ws x
    go (inl k) (inl l) = k.1 ∙ sym l.1
    go (inl k) (inr l) = absurd (l.0 ((e x).0 k.0))
    go (inr k) (inl l) = absurd (k.0 ((e x).1 l.0))
    go (inr k) (inr l) = k.1 ∙ sym l.1

module _ (j : Job) (p : Premises j) (s : State) (h : Holding) (a : Agrees j s h) (vs ws : List ℕ) (e : SameMembers vs ws) where
  -- the states after the one and after the other
  abbrev one : State
  one = evict_all j vs s

  abbrev other : State
  other = evict_all j ws s

  one_agrees : Agrees j one (without h vs)
  one_agrees = evict_all_agrees j p vs s h a

  other_agrees : Agrees j other (without h ws)
  other_agrees = evict_all_agrees j p ws s h a

  same_tables : one.table ≡ other.table
  same_tables = holders_decide j p one other (without h vs) (without h ws) one_agrees other_agrees (same_without vs ws e h)

  same_held : one.held ≡ other.held
  same_held =
      ext_get_or none one.held other.held (one_agrees.sizes.held ∙ sym other_agrees.sizes.held)
      (λ x b. all_held j p vs s h a x ∙ ap (λ (z : Bool). cond z none (held_by s x)) (same_has vs ws e x) ∙ sym (all_held j p ws s h a x))

  same_queued : one.queued ≡ other.queued
  same_queued =
      ext_get_or none one.queued other.queued (one_agrees.sizes.queued ∙ sym other_agrees.sizes.queued)
      (λ x b.
      all_queued j p vs s h a x
      ∙ ap (λ (z : Bool). cond (z && is_some (held_by s x)) (some Evict) (queued_at s x)) (same_has vs ws e x)
      ∙ sym (all_queued j p ws s h a x))

  unchanged : {A : Type 0} (f : State → A) → ((v r : ℕ) (s : State) → f (lose j v r s) ≡ f s) → f one ≡ f other
  unchanged f k = evict_all_keeps f j k vs s ∙ sym (evict_all_keeps f j k ws s)

  pub same_state : evict_all j vs s ≡ evict_all j ws s
  unfolding lose
  same_state = λ i. record {
    table = same_tables i;
    held = same_held i;
    left_over = unchanged (λ (s : State). s.left_over) (λ v r s. refl) i;
    flags = unchanged (λ (s : State). s.flags) (λ v r s. refl) i;
    queued = same_queued i;
    last = unchanged (λ (s : State). s.last) (λ v r s. refl) i;
  }

pub evict_order : EvictOrder
unfolding carry_out
evict_order lent bytes j t e cs b v c f vs ws m =
    let p = stage_premises lent bytes j t e in
    ap (λ (s : State). goes_on (give j v c f s)) (same_state j p (run j b (after_all j cs)).state _ (run_agrees j p b (after_all j cs) (holds j cs) (after_agrees j p cs)) vs ws m)
