-- After every list of calls the state agrees with Holding: evictions, a dequeue, a run, a call, a list of calls. Assumes nothing.
use Prim.Native.Nat.{ℕ, zero, suc, ◌+◌}
use native.Mathlib.Omega.{arith}
use native.Mathlib.Nat.{zero-add}
use mathlib.Core.Path.{◌≡◌, refl, sym, ap, ◌∙◌, subst}
use mathlib.Core.Logic.{◌⊎◌, inl, inr}
use mathlib.Core.List.Memᴰ
use mathlib.Core.List.{List, [], ◌∷◌, ◌++◌, map}
use mathlib.Core.Option.{Option, none, some}
use mathlib.Core.Bool.{Bool, true, false, not, cond}
use lib.Dec.{T, ltb}
use lib.Ieee.{Float}
use lib.ListN.{get_or}
use Rattle.reg_matrix.specs.Lists.{foldl, is_some}
use Rattle.reg_matrix.proofs.Members.{◌∈◌}
use Rattle.reg_matrix.proofs.Tests.{both}
use Rattle.reg_matrix.proofs.Cells.{Cell}
use Rattle.reg_matrix.proofs.Laws.{clear_free, reports_cover}
use Rattle.job.specs.Model.{Job, segments_of, unit_map}
use Rattle.job.proofs.Premises.{Premises}
use Rattle.allocator.specs.State.{State, CandidateReg, Stage, Split, fresh_state, held_by, is_left_over, check_of, give, lose, lose_held, evict_number}
use Rattle.allocator.specs.Order.{candidate}
use Rattle.allocator.specs.Queue.{Queued, encode, or_ahead, next_from}
use Rattle.allocator.specs.Dequeue.{Decision, leaves, takes, splits, fails, decide, Step, goes_on, too_many, evict_all, carry_out, dequeue, state_of}
use Rattle.allocator.specs.Run.{Ran, ran, Done, next_of, run_from, run}
use Rattle.allocator.specs.Calls.{Call, placing, evicting, running, refusal_of, carried_out, unless_refused, after, after_all}
use Rattle.allocator.specs.Holding.{Event, gets, loses, Holding, nothing_held, but, changed, by_decision, by_run, by_accepted, by_call, by_calls, holds}
use Rattle.allocator.proofs.Holders.{none_some, but_cases, cells_of, cell_in, cell_out}
use Rattle.allocator.proofs.Weights.{not_bad_plain}
use Rattle.allocator.proofs.Agrees.{reg_held, queued_at, Waiting, Agrees, last_named, fresh_agrees, give_agrees, requeue_agrees, leave_agrees, evict_agrees}
use Rattle.allocator.proofs.Decisions.{Takes, Fits, decide_fits}
use Rattle.allocator.proofs.Accepted.{Placeable, placing_accepted}

pub fold_append : {A B : Type 0} (f : B → A → B) (b : B) (xs ys : List A) → foldl f b (xs ++ ys) ≡ foldl f (foldl f b xs) ys
unfolding foldl
fold_append f b [] ys = refl
fold_append f b (x ∷ xs) ys = fold_append f (f b x) xs ys

-- ---- evictions

-- what is held once the numbers vs are evicted
abbrev pub without : Holding → List ℕ → Holding
without h vs = foldl changed h (map loses vs)

pub without_cases : (vs : List ℕ) (h : Holding) (x : ℕ) → ((x ∈ vs) × (without h vs x ≡ none)) ⊎ ((x ∈ vs → ⊥) × (without h vs x ≡ h x))
unfolding foldl
without_cases [] h x = inr ((λ m. elim m [ ]), refl)
without_cases (v ∷ vs) h x = go (without_cases vs (but h v none) x) (but_cases h v none x)
  where
    go :
        ((x ∈ vs) × (without (but h v none) vs x ≡ none)) ⊎ ((x ∈ vs → ⊥) × (without (but h v none) vs x ≡ but h v none x))
        → ((x ≡ v) × (but h v none x ≡ none)) ⊎ ((x ≡ v → ⊥) × (but h v none x ≡ h x))
        → ((x ∈ v ∷ vs) × (without (but h v none) vs x ≡ none)) ⊎ ((x ∈ v ∷ vs → ⊥) × (without (but h v none) vs x ≡ h x))
    go (inl k) l = inl (Memᴰ.tail k.0, k.1)
    go (inr k) (inl l) = inl (Memᴰ.head l.0, k.1 ∙ l.1)
    go (inr k) (inr l) = inr ((λ m. neither (Memᴰ.cases_cons m)), k.1 ∙ l.1)
      where
        neither : (x ≡ v) ⊎ (x ∈ vs) → ⊥
        neither (inl e) = l.0 e
        neither (inr m) = k.0 m

-- evictions change table, records and queue alone
pub evict_all_keeps : {A : Type 0} (f : State → A) (j : Job) → ((v r : ℕ) (s : State) → f (lose j v r s) ≡ f s) → (vs : List ℕ) (s : State) → f (evict_all j vs s) ≡ f s
unfolding evict_all foldl evict_number
evict_all_keeps f j k [] s = refl
evict_all_keeps f j k (v ∷ vs) s = evict_all_keeps f j k vs (evict_number j s v) ∙ go (held_by s v)
  where
    go : (o : Option CandidateReg) → f (lose_held j v s o) ≡ f s
    go none = refl
    go (some c) = k v c.reg s

pub evict_all_left : (j : Job) (vs : List ℕ) (s : State) → (evict_all j vs s).left_over ≡ s.left_over
unfolding lose
evict_all_left j vs s = evict_all_keeps (λ (s : State). s.left_over) j (λ v r s. refl) vs s

module _ (j : Job) (p : Premises j) where
  pub evict_all_agrees : (vs : List ℕ) (s : State) (h : Holding) → Agrees j s h → Agrees j (evict_all j vs s) (without h vs)
  unfolding evict_all foldl
  evict_all_agrees [] s h a = a
  evict_all_agrees (v ∷ vs) s h a = evict_all_agrees vs (evict_number j s v) (but h v none) (evict_agrees j p s h a v)

  -- ---- a dequeue

  module _ (s : State) (h : Holding) (a : Agrees j s h) (v : ℕ) (w : Waiting j s h v) where
    -- once they are evicted, the check is clear
    pub evicted_clear : (c : CandidateReg) (vs : List ℕ) → Takes j s v c vs → check_of j (evict_all j vs s) v c.reg ≡ []
    unfolding check_of
    evicted_clear c vs t =
        (clear_free j.fixed p.sound (cells_of j (without h vs)) (evict_all j vs s).table (evict_all_agrees vs s h a).table false v (unit_map j c.reg)
        (segments_of j v) (p.segments v w.known)).1
        (reports_cover j.fixed p.sound (cells_of j h) s.table a.table false (unit_map j c.reg) (segments_of j v) (p.segments v w.known)
        t.evictable (cells_of j (without h vs)) (λ d m. (still d m).0)
        (λ d m x n e. (still d m).1 (t.away x d.v (cell_out j (without h vs) d m).known n e)) v)
      where
        still : (d : Cell) → d ∈ cells_of j (without h vs) → (d ∈ cells_of j h) × (d.v ∈ vs → ⊥)
        still d m = go (without_cases vs h d.v)
          where
            go : ((d.v ∈ vs) × (without h vs d.v ≡ none)) ⊎ ((d.v ∈ vs → ⊥) × (without h vs d.v ≡ h d.v)) → (d ∈ cells_of j h) × (d.v ∈ vs → ⊥)
            go (inl k) = absurd (none_some (sym k.1 ∙ (cell_out j (without h vs) d m).holds))
            go (inr k) =
                let o = cell_out j (without h vs) d m in
                (cell_in j h d (record { reg = o.reg; holds = sym k.1 ∙ o.holds; known = o.known; unit = o.unit; segment = o.segment }), k.0)

    -- and v waits still
    pub evicted_waiting : (vs : List ℕ) → Waiting j (evict_all j vs s) (without h vs) v
    evicted_waiting vs =
        record {
          known = w.known;
          idle = idle (without_cases vs h v);
          stays = subst (λ (l : List Bool). T (not (get_or l v false))) (sym (evict_all_left j vs s)) w.stays;
        }
      where
        idle : ((v ∈ vs) × (without h vs v ≡ none)) ⊎ ((v ∈ vs → ⊥) × (without h vs v ≡ h v)) → without h vs v ≡ none
        idle (inl k) = k.1
        idle (inr k) = k.1 ∙ w.idle

    take_agrees : (c : CandidateReg) (f : Bool) (vs : List ℕ) → Takes j s v c vs → Agrees j (give j v c f (evict_all j vs s)) (foldl changed h (map loses vs ++ (gets v c.reg ∷ [])))
    unfolding foldl
    take_agrees c f vs t =
        subst (λ (g : Holding). Agrees j (give j v c f (evict_all j vs s)) g) (sym (fold_append changed h (map loses vs) (gets v c.reg ∷ [])))
        (give_agrees j p (evict_all j vs s) (without h vs) (evict_all_agrees vs s h a) v w.known c f (evicted_waiting vs) t.good (evicted_clear c vs t))

    pub carried_agrees : (d : Decision) → Fits j s v d → Agrees j (state_of (carry_out j s v d)) (foldl changed h (by_decision v d))
    unfolding carry_out foldl
    carried_agrees leaves t = leave_agrees j p s h a v w.known w
    carried_agrees (takes c f vs) t = take_agrees c f vs t
    carried_agrees splits t = requeue_agrees j p s h a v w.known w (some Split)
    carried_agrees fails t = requeue_agrees j p s h a v w.known w none

    pub dequeue_agrees : (q : Stage) → Agrees j (state_of (dequeue j s v q)) (foldl changed h (by_decision v (decide j s v q)))
    unfolding dequeue
    dequeue_agrees q = carried_agrees (decide j s v q) (decide_fits j p s v w.known (λ r e. last_named j p s h a v r w.known e) q)

-- ---- who is dequeued

-- the number is queued at that stage, in a list that begins at the number a
record QueuedFrom (a : ℕ) (qs : List (Option Stage)) (q : Queued) : Type 0 where
  place : ℕ
  sum : q.number ≡ a + place
  there : get_or qs place none ≡ some q.stage

abbrev NextFrom : ℕ → List (Option Stage) → Option Queued → Type 0
NextFrom a qs none = Unit {0}
NextFrom a qs (some q) = QueuedFrom a qs q

next_from_lem : (j : Job) (a : ℕ) (qs : List (Option Stage)) → NextFrom a qs (next_from j a qs)
unfolding next_from
next_from_lem j a [] = tt
next_from_lem j a (x ∷ qs) = go x (next_from j (suc a) qs) (next_from_lem j (suc a) qs)
  where
    later : (x : Option Stage) (q : Queued) → QueuedFrom (suc a) qs q → QueuedFrom a (x ∷ qs) q
    later x q f = record { place = suc f.place; sum = omega (arith, f.sum); there = f.there }

    move : (x : Option Stage) (o : Option Queued) → NextFrom (suc a) qs o → NextFrom a (x ∷ qs) o
    move x none f = tt
    move x (some q) f = later x q f

    here : (y : Stage) → QueuedFrom a (some y ∷ qs) (record { number = a; stage = y; key = encode j a y })
    here y = record { place = 0; sum = omega arith; there = refl }

    go : (x : Option Stage) (o : Option Queued) → NextFrom (suc a) qs o → NextFrom a (x ∷ qs) (or_ahead j a x o)
    go none o f = move none o f
    go (some y) none f = here y
    go (some y) (some q) f = test (ltb q.key (encode j a y))
      where
        test : (z : Bool) → NextFrom a (some y ∷ qs) (cond z (some (record { number = a; stage = y; key = encode j a y })) (some q))
        test true = here y
        test false = later (some y) q f

-- who is next is queued
pub next_queued : (j : Job) (s : State) (q : Queued) → next_of j s ≡ some q → queued_at s q.number ≡ some q.stage
next_queued j s q e =
    let k : QueuedFrom 0 s.queued q = subst (λ (o : Option Queued). NextFrom 0 s.queued o) e (next_from_lem j 0 s.queued) in
    ap (λ (v : ℕ). queued_at s v) (k.sum ∙ zero-add k.place) ∙ k.there

module _ (j : Job) (p : Premises j) where
  -- ---- a run

  run_from_agrees : (b n : ℕ) (x : Step) (h : Holding) → Agrees j (state_of x) h → Agrees j (run_from b j n x).state (foldl changed h (by_run b j x))
  unfolding run_from by_run foldl
  run_from_agrees zero n (too_many s) h a = a
  run_from_agrees zero n (goes_on s) h a = a
  run_from_agrees (suc b) n (too_many s) h a = a
  run_from_agrees (suc b) n (goes_on s) h a = go (next_of j s) refl (λ x g k. run_from_agrees b (suc n) x g k)
    where
      go :
          (o : Option Queued)
          → next_of j s ≡ o
          → ((x : Step) (g : Holding) → Agrees j (state_of x) g → Agrees j (run_from b j (suc n) x).state (foldl changed g (by_run b j x)))
          → Agrees j
          (elim o as (λ z. Ran) [
            | none ↦ ran Done n s
            | some q ↦ run_from b j (suc n) (dequeue j s q.number q.stage)
          ]).state
          (foldl changed h (elim o as (λ z. List Event) [
            | none ↦ []
            | some q ↦ by_decision q.number (decide j s q.number q.stage) ++ by_run b j (dequeue j s q.number q.stage)
          ]))
      go none e ih = a
      go (some q) e ih =
          let d = by_decision q.number (decide j s q.number q.stage) in
          let x = dequeue j s q.number q.stage in
          subst (λ (g : Holding). Agrees j (run_from b j (suc n) x).state g) (sym (fold_append changed h d (by_run b j x)))
          (ih x (foldl changed h d) (dequeue_agrees j p s h a q.number (a.queue q.number q.stage (next_queued j s q e)) q.stage))

  pub run_agrees : (b : ℕ) (s : State) (h : Holding) → Agrees j s h → Agrees j (run j b s).state (foldl changed h (by_run b j (goes_on s)))
  unfolding run
  run_agrees b s h a = run_from_agrees b 0 (goes_on s) h a

  -- ---- calls

  place_agrees : (s : State) (h : Holding) → Agrees j s h → (lent : List ℕ) (v r : ℕ) (w : Float) → Placeable j s lent v r w → Agrees j (give j v (candidate r w) false s) (but h v (some r))
  place_agrees s h a lent v r w k =
      give_agrees j p s h a v k.known (candidate r w) false waiting (record { names = k.names; plain = not_bad_plain w k.weight }) k.clear
    where
      held_none : (o : Option CandidateReg) → T (not (is_some o)) → reg_held o ≡ none
      held_none none t = refl
      held_none (some c) t = absurd t

      waiting : Waiting j s h v
      waiting =
          let u = both (not (is_some (held_by s v))) (not (is_left_over s v)) k.unassigned in
          record { known = k.known; idle = sym (a.regs v) ∙ held_none (held_by s v) u.0; stays = u.1 }

  pub accepted_agrees : (s : State) (h : Holding) → Agrees j s h → (c : Call) → refusal_of j s c ≡ none → Agrees j (carried_out j s c) (foldl changed h (by_accepted j s c))
  unfolding carried_out foldl
  accepted_agrees s h a (placing lent v r w) q = place_agrees s h a lent v r w ((placing_accepted j s lent v r w).0 q)
  accepted_agrees s h a (evicting lent v) q = evict_agrees j p s h a v
  accepted_agrees s h a (running lent b) q = run_agrees b s h a

  pub call_agrees : (s : State) (h : Holding) → Agrees j s h → (c : Call) → Agrees j (after j s c) (foldl changed h (by_call j s c))
  unfolding after by_call foldl
  call_agrees s h a c = go (refusal_of j s c) refl
    where
      go : (o : Option ℕ) → refusal_of j s c ≡ o → Agrees j (unless_refused o s (carried_out j s c)) (foldl changed h (unless_refused o [] (by_accepted j s c)))
      go none q = accepted_agrees s h a c q
      go (some n) q = a

  calls_agree : (cs : List Call) (s : State) (h : Holding) → Agrees j s h → Agrees j (foldl (after j) s cs) (foldl changed h (by_calls j s cs))
  unfolding foldl by_calls
  calls_agree [] s h a = a
  calls_agree (c ∷ cs) s h a =
      subst (λ (g : Holding). Agrees j (foldl (after j) (after j s c) cs) g) (sym (fold_append changed h (by_call j s c) (by_calls j (after j s c) cs)))
      (calls_agree cs (after j s c) (foldl changed h (by_call j s c)) (call_agrees s h a c))

  -- after any list of calls
  pub after_agrees : (cs : List Call) → Agrees j (after_all j cs) (holds j cs)
  unfolding after_all holds
  after_agrees cs = calls_agree cs (fresh_state j) nothing_held (fresh_agrees j p)
