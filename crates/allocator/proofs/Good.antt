-- The one invariant of states (`Good`): loading tested the job, and the state agrees with some Holding. Every state that calls reach has it, every
-- change that a call makes keeps it, and so do the states in between, after evictions and before the placement. Assumes nothing.
use Prim.Native.Nat.{ℕ}
use mathlib.Core.Path.{◌≡◌, refl, sym, ap, ◌∙◌, subst}
use mathlib.Core.List.{List, [], ◌∷◌, ◌++◌}
use mathlib.Core.Option.{Option, none, some}
use mathlib.Core.Bool.{Bool, not}
use lib.Dec.{T}
use lib.Ieee.{Float}
use Rattle.reg_matrix.specs.Lists.{foldl, is_some}
use Rattle.reg_matrix.proofs.Tests.{both, not_some}
use Rattle.job.specs.Model.{Job}
use Rattle.job.specs.Load.{Bytes, loaded}
use Rattle.job.proofs.Premises.{Premises, IsNumber, IsReg}
use Rattle.allocator.specs.State.{State, CandidateReg, Stage, fresh_state, held_by, is_left_over, check_of, give, lose, lose_held, evict_number, requeue, leave}
use Rattle.allocator.specs.Queue.{Queued}
use Rattle.allocator.specs.Dequeue.{Decision, takes, decide, Step, goes_on, too_many, evict_all, dequeue, state_of}
use Rattle.allocator.specs.Run.{Ran, ran, Done, next_of, run_from, run}
use Rattle.allocator.specs.Layout.{stage_limits}
use Rattle.allocator.specs.Calls.{load, Call, evicting, running, refusal_of, carried_out, unless_refused, after, after_all}
use Rattle.allocator.specs.Holding.{Holding, nothing_held, but, holds}
use Rattle.allocator.specs.Reached.{Reached}
use Rattle.allocator.proofs.Holders.{none_some}
use Rattle.allocator.proofs.Agrees.{reg_held, queued_at, Candidate, Waiting, Agrees, last_named, fresh_agrees, give_agrees, lose_agrees, requeue_agrees, leave_agrees, evict_agrees}
use Rattle.allocator.proofs.Decisions.{Takes, Fits, decide_fits}
use Rattle.allocator.proofs.Accepted.{Placeable, evicting_accepted, running_accepted}
use Rattle.allocator.proofs.Runs.{fold_append, without, evict_all_agrees, evicted_clear, evicted_waiting, carried_agrees, next_queued, run_agrees, accepted_agrees, call_agrees, after_agrees}
use Rattle.allocator.proofs.Rebuilt.{named_known, limits_suffice}
use Rattle.allocator.proofs.Loading.{stage_premises}

pub record Good (j : Job) (s : State) : Type 0 where
  pub premises : Premises j
  pub holding : Holding
  pub agrees : Agrees j s holding

-- v is a number that holds nothing and is not left over
pub record Idle (j : Job) (s : State) (v : ℕ) : Type 0 where
  pub known : IsNumber j v
  pub holds_nothing : held_by s v ≡ none
  pub stays : T (not (is_left_over s v))

nothing_held_lem : (o : Option CandidateReg) → reg_held o ≡ none → o ≡ none
nothing_held_lem none q = refl
nothing_held_lem (some c) q = absurd (none_some (sym q))

-- ---- of jobs that load

-- as loading leaves it
pub good_fresh : (j : Job) → Premises j → Good j (fresh_state j)
good_fresh j p = record { premises = p; holding = nothing_held; agrees = fresh_agrees j p }

pub good_reached : (j : Job) (s : State) → Reached j s → Good j s
good_reached j s r =
    let p = stage_premises r.lent r.bytes j r.are_bytes r.loads in
    record {
      premises = p;
      holding = holds j r.calls;
      agrees = subst (λ (s : State). Agrees j s (holds j r.calls)) (sym r.made) (after_agrees j p r.calls);
    }

module _ (j : Job) (s : State) (g : Good j s) where
  -- ---- who is idle

  pub idle_waiting : (v : ℕ) → Idle j s v → Waiting j s g.holding v
  idle_waiting v i = record { known = i.known; idle = sym (g.agrees.regs v) ∙ ap reg_held i.holds_nothing; stays = i.stays }

  waiting_idle : (v : ℕ) → Waiting j s g.holding v → Idle j s v
  waiting_idle v w = record { known = w.known; holds_nothing = nothing_held_lem (held_by s v) (g.agrees.regs v ∙ w.idle); stays = w.stays }

  -- who is queued is idle
  pub queued_idle : (v : ℕ) (q : Stage) → queued_at s v ≡ some q → Idle j s v
  queued_idle v q e = waiting_idle v (g.agrees.queue v q e)

  -- who is next in the queue is idle
  pub next_idle : (q : Queued) → next_of j s ≡ some q → Idle j s q.number
  next_idle q e = queued_idle q.number q.stage (next_queued j s q e)

  -- a number whose direct placement no test refuses is idle
  pub placeable_idle : (lent : List ℕ) (v r : ℕ) (w : Float) → Placeable j s lent v r w → Idle j s v
  placeable_idle lent v r w k =
      let u = both (not (is_some (held_by s v))) (not (is_left_over s v)) k.unassigned in
      record { known = k.known; holds_nothing = not_some (held_by s v) u.0; stays = u.1 }

  -- who holds a register is a number that may have it, and the register is one of the job's
  pub holder_good : (v : ℕ) (c : CandidateReg) → held_by s v ≡ some c → IsNumber j v × Candidate j v c × IsReg j c.reg
  holder_good v c e =
      let k = g.agrees.holder v c e in
      (k.0, k.1, named_known j g.premises v c.reg k.0 k.1.names)

  -- ---- one change

  keeps : (t : State) (h : Holding) → Agrees j t h → Good j t
  keeps t h a = record { premises = g.premises; holding = h; agrees = a }

  -- v is evicted, if it holds a register
  pub good_evict : (v : ℕ) → Good j (evict_number j s v)
  good_evict v = keeps (evict_number j s v) (but g.holding v none) (evict_agrees j g.premises s g.holding g.agrees v)

  -- v loses the register that it holds
  pub good_lose : (v : ℕ) (c : CandidateReg) → held_by s v ≡ some c → Good j (lose j v c.reg s)
  good_lose v c e =
      keeps (lose j v c.reg s) (but g.holding v none) (lose_agrees j g.premises s g.holding g.agrees v (g.agrees.holder v c e).0 c e)

  -- these numbers are evicted
  pub good_evict_all : (vs : List ℕ) → Good j (evict_all j vs s)
  good_evict_all vs = keeps (evict_all j vs s) (without g.holding vs) (evict_all_agrees j g.premises vs s g.holding g.agrees)

  module _ (v : ℕ) (i : Idle j s v) where
    -- v takes the register of a candidate that is clear
    pub good_give : (c : CandidateReg) (f : Bool) → Candidate j v c → check_of j s v c.reg ≡ [] → Good j (give j v c f s)
    good_give c f k z =
        keeps (give j v c f s) (but g.holding v (some c.reg))
        (give_agrees j g.premises s g.holding g.agrees v i.known c f (idle_waiting v i) k z)

    -- v is left over
    pub good_leave : Good j (leave v s)
    good_leave = keeps (leave v s) g.holding (leave_agrees j g.premises s g.holding g.agrees v i.known (idle_waiting v i))

    -- v is queued again, or taken off the queue
    pub good_requeue : (q : Option Stage) → Good j (requeue v q s)
    good_requeue q = keeps (requeue v q s) g.holding (requeue_agrees j g.premises s g.holding g.agrees v i.known (idle_waiting v i) q)

    -- ---- a dequeue

    fits : (q : Stage) → Fits j s v (decide j s v q)
    fits q = decide_fits j g.premises s v i.known (λ r e. last_named j g.premises s g.holding g.agrees v r i.known e) q

    -- whatever it decides and carries out
    pub good_dequeue : (q : Stage) → Good j (state_of (dequeue j s v q))
    unfolding dequeue
    good_dequeue q =
        keeps (state_of (dequeue j s v q)) _
        (carried_agrees j g.premises s g.holding g.agrees v (idle_waiting v i) (decide j s v q) (fits q))

    -- what a decision to take a register says: once the others are evicted, the number is still idle and its check is clear
    pub record Taking (c : CandidateReg) (vs : List ℕ) : Type 0 where
      pub candidate : Candidate j v c
      pub reg : IsReg j c.reg
      pub evicted : Good j (evict_all j vs s)
      pub idle : Idle j (evict_all j vs s) v
      pub clear : check_of j (evict_all j vs s) v c.reg ≡ []

    pub takes_good : (q : Stage) (c : CandidateReg) (f : Bool) (vs : List ℕ) → decide j s v q ≡ takes c f vs → Taking c vs
    takes_good q c f vs e =
        let t : Takes j s v c vs = subst (λ (d : Decision). Fits j s v d) e (fits q) in
        let w = evicted_waiting j g.premises s g.holding g.agrees v (idle_waiting v i) vs in
        record {
          candidate = t.good;
          reg = named_known j g.premises v c.reg i.known t.good.names;
          evicted = good_evict_all vs;
          idle =
              record {
                known = w.known;
                holds_nothing = nothing_held_lem (held_by (evict_all j vs s) v) ((evict_all_agrees j g.premises vs s g.holding g.agrees).regs v ∙ w.idle);
                stays = w.stays;
              };
          clear = evicted_clear j g.premises s g.holding g.agrees v (idle_waiting v i) c vs t;
        }

  -- ---- calls

  -- a run
  pub good_run : (b : ℕ) → Good j (run j b s).state
  good_run b = keeps (run j b s).state _ (run_agrees j g.premises b s g.holding g.agrees)

  -- a call that no test refuses
  pub good_accepted : (c : Call) → refusal_of j s c ≡ none → Good j (carried_out j s c)
  good_accepted c q = keeps (carried_out j s c) _ (accepted_agrees j g.premises s g.holding g.agrees c q)

  -- any call
  pub good_after : (c : Call) → Good j (after j s c)
  good_after c = keeps (after j s c) _ (call_agrees j g.premises s g.holding g.agrees c)

-- ---- states that calls reach

-- as loading leaves it
pub reached_fresh : (lent bytes : List ℕ) (j : Job) → Bytes bytes → load lent bytes ≡ loaded j → Reached j (fresh_state j)
unfolding after_all foldl
reached_fresh lent bytes j b e = record { lent = lent; bytes = bytes; are_bytes = b; loads = e; calls = []; made = refl }

module _ (j : Job) (s : State) (r : Reached j s) where
  -- after one more call
  pub reached_after : (c : Call) → Reached j (after j s c)
  unfolding after_all foldl
  reached_after c =
      record {
        lent = r.lent;
        bytes = r.bytes;
        are_bytes = r.are_bytes;
        loads = r.loads;
        calls = r.calls ++ (c ∷ []);
        made = ap (λ (s : State). after j s c) r.made ∙ sym (fold_append (after j) (fresh_state j) r.calls (c ∷ []));
      }

  -- after a call that no test refuses
  pub reached_accepted : (c : Call) → refusal_of j s c ≡ none → Reached j (carried_out j s c)
  unfolding after
  reached_accepted c q =
      subst (λ (s : State). Reached j s) (ap (λ (o : Option ℕ). unless_refused o s (carried_out j s c)) q) (reached_after c)

  -- after a run
  pub reached_run : (b : ℕ) → Reached j (run j b s).state
  unfolding carried_out
  reached_run b = reached_accepted (running stage_limits b) (running_accepted j s stage_limits b limits_suffice)

  -- a dequeue is a run of budget 1
  pub reached_dequeue : (q : Queued) → next_of j s ≡ some q → Reached j (state_of (dequeue j s q.number q.stage))
  unfolding run run_from
  reached_dequeue q e = subst (λ (s : State). Reached j s) (one (next_of j s) e ∙ last (dequeue j s q.number q.stage)) (reached_run 1)
    where
      last : (x : Step) → (run_from 0 j 1 x).state ≡ state_of x
      last (goes_on t) = refl
      last (too_many t) = refl

      one : (o : Option Queued) → o ≡ some q →
          (elim o as (λ z. Ran) [
            | none ↦ ran Done 0 s
            | some q ↦ run_from 0 j 1 (dequeue j s q.number q.stage)
          ]).state ≡ (run_from 0 j 1 (dequeue j s q.number q.stage)).state
      one o p = rw p

  -- after an eviction, which changes nothing where nothing is held
  pub reached_evict : (v : ℕ) → Reached j (evict_number j s v)
  unfolding evict_number carried_out
  reached_evict v = go (held_by s v) refl
    where
      go : (o : Option CandidateReg) → held_by s v ≡ o → Reached j (lose_held j v s o)
      go none q = r
      go (some c) q =
          subst (λ (o : Option CandidateReg). Reached j (lose_held j v s o)) q
          (reached_accepted (evicting stage_limits v)
          ((evicting_accepted j s stage_limits v).1
          (record {
            lends = limits_suffice;
            known = ((good_reached j s r).agrees.holder v c q).0;
            assigned = subst (λ (o : Option CandidateReg). T (is_some o)) (sym q) tt;
          })))

-- after evictions one after another
pub reached_evict_all : (j : Job) (vs : List ℕ) (s : State) → Reached j s → Reached j (evict_all j vs s)
unfolding evict_all foldl
reached_evict_all j [] s r = r
reached_evict_all j (v ∷ vs) s r = reached_evict_all j vs (evict_number j s v) (reached_evict j s r v)
