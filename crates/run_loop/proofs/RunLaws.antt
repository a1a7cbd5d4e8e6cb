-- A dequeue and a run in code on a state that calls reach: after each dequeue the rest of the run from there is the rest of the whole.
-- Assumes nothing.
use Prim.Native.Nat.{ℕ, zero, suc, ◌-◌, ◌≤◌}
use native.Mathlib.Omega.{arith}
use mathlib.Core.Path.{◌≡◌, refl, sym, ap, ◌∙◌, subst}
use mathlib.Core.List.{List, ◌++◌}
use mathlib.Core.Option.{Option, none, some}
use mathlib.Core.Bool.{Bool, true, false, not}
use lib.Dec.{T}
use lib.ListN.{get_or, take}
use lib.Seq.{take_at}
use Rattle.table_words.specs.declared.buffers.LentState.{LentState}
use Rattle.job.specs.Model.{Job}
use Rattle.job.specs.Layout.{JobBuffers, JobSlices, lists_in}
use Rattle.allocator.specs.declared.Stage.{Stage}
use Rattle.allocator.specs.declared.Ending.{Ending}
use Rattle.allocator.specs.declared.Ending.TheVariants.{Done, Spent, TooMany}
use Rattle.allocator.specs.State.{State, records}
use Rattle.allocator.specs.Queue.{Queued}
use Rattle.allocator.specs.Layout.{StateBuffers, queue_words}
use Rattle.allocator.specs.Dequeue.{decide, Step, goes_on, too_many, state_of, carry_out, dequeue}
use Rattle.allocator.specs.Run.{Ran, ran, next_of, run_from, run}
use Rattle.allocator.specs.Reached.{Reached}
use Rattle.allocator.proofs.Agrees.{queued_at}
use Rattle.allocator.proofs.Runs.{next_queued}
use Rattle.allocator.proofs.Good.{good_reached, reached_dequeue}
use Rattle.queue.specs.declared.Queued.{Queued as Next}
use Rattle.queue.specs.QueueWalk.{decoded, next_number}
use Rattle.stage.proofs.QueueLaws.{tournament_length, greatest_next}
use Rattle.records.specs.Fields.{flag_in}
use Rattle.record_words.specs.Words.{record_in, held_in, WordsOf}
use Rattle.decisions.specs.declared.Decided.{Decided}
use Rattle.decisions.specs.declared.Decided.TheVariants.{Leaves, Takes, Evicts, Splits, Fails}
use Rattle.std.proofs.Common.{Some, None}
use Rattle.decisions.specs.Deciding.{decision_of, decided_in}
use Rattle.moves.specs.Standing.{Stands}
use Rattle.context.specs.Carrying.{CarriedOut}
use Rattle.moves.proofs.MoveLaws.{evict_reads, take_reads}
use Rattle.context.proofs.Decision.{decision_is}
use Rattle.run_loop.specs.declared.RunEnd.{RunEnd}
use Rattle.run_loop.specs.Running.{state_in, is_fails, is_over, LentTo, DequeueMade, RunMade}

-- ---- a dequeue

-- whether a step ends the run, by what is decided
over_by : (j : Job) (s : State) (v : ℕ) (d : Decided) → is_fails d ≡ is_over (carry_out j s v (decision_of d))
unfolding carry_out
over_by j s v Leaves = refl
over_by j s v (Takes c) = refl
over_by j s v (Evicts c f gone) = refl
over_by j s v Splits = refl
over_by j s v Fails = refl

pub fails_over : (d : Decided) → d ≡ Fails → true ≡ is_fails d
fails_over d e = rw e

pub others_on : (d : Decided) → (d ≡ Fails → ⊥) → false ≡ is_fails d
others_on Leaves n = refl
others_on (Takes c) n = refl
others_on (Evicts c f gone) n = refl
others_on Splits n = refl
others_on Fails n = absurd (n refl)

pub dequeue_made :
    (v : ℕ) (q : Stage) (B : JobSlices) (S : LentState) (last W : List ℕ) (S' : LentState) (last' W' : List ℕ) (d : Decided) (over : Bool) (ends rests : List ℕ)
    → ends ≡ S.ends.now
    → rests ≡ S.rests.now
    → d ≡ decided_in (lists_in B) ends rests last (held_in W) (flag_in (record_in (get_or W v 0))) v q
    → CarriedOut d v (lists_in B) S last W S' last' W'
    → over ≡ is_fails d
    → DequeueMade v q (lists_in B) (state_in S last) W (state_in S' last') W' over
unfolding dequeue
dequeue_made v q B S last W S' last' W' d over ends rests pe pr says carried e =
    record {
      made =
          λ j s t l queued.
          let dec =
          decision_is j s l.reached (lists_in B) l.job_stands.reads v q queued t.ends t.rests t.last S.ends.now S.rests.now last W
          l.stands.moves.table l.stands.last_is l.records_are in
          let reads : d ≡ decided_in (lists_in B) S.ends.now S.rests.now last (held_in W) (flag_in (record_in (get_or W v 0))) v q = rw (← pe, ← pr) says in
          let is-it : decision_of d ≡ decide j s v q = ap decision_of reads ∙ dec.1 in
          let after = carried.reached j s t q l.reached (evict_reads j B l.job_stands) (take_reads j B l.job_stands) l.stands l.records_are queued is-it in
          (after.0, after.1, e ∙ over_by j s v d ∙ ap (λ z. is_over (carry_out j s v z)) is-it);
    }

-- ---- the rules' run, one dequeue at a time

module _ (j : Job) (x : State) where
  from_nobody : (b n : ℕ) → next_of j x ≡ none → run_from b j n (goes_on x) ≡ ran Done n x
  unfolding run_from
  from_nobody zero n e = rw e
  from_nobody (suc b) n e = rw (e, run_from)

  from_spent : (n : ℕ) (k : Queued) → next_of j x ≡ some k → run_from 0 j n (goes_on x) ≡ ran Spent n x
  unfolding run_from
  from_spent n k e = rw e

  from_step : (b n : ℕ) (k : Queued) → next_of j x ≡ some k → run_from (suc b) j n (goes_on x) ≡ run_from b j (suc n) (dequeue j x k.number k.stage)
  unfolding run_from
  from_step b n k e = rw (e, run_from)

  from_over : (b n : ℕ) → run_from b j n (too_many x) ≡ ran TooMany n x
  unfolding run_from
  from_over zero n = refl
  from_over (suc b) n = refl

-- a step by whether the run ends with it
goes_on_lem : (y : Step) → is_over y ≡ false → y ≡ goes_on (state_of y)
goes_on_lem (goes_on x) e = refl
goes_on_lem (too_many x) e = absurd (subst (λ (b : Bool). T b) e tt)

is_over_lem : (y : Step) → is_over y ≡ true → y ≡ too_many (state_of y)
is_over_lem (goes_on x) e = absurd (subst (λ (b : Bool). T (not b)) e tt)
is_over_lem (too_many x) e = refl

-- ---- who is next, by the queue's words

module _ (j : Job) (x : State) (reach : Reached j x) (t queue : List ℕ) (is : queue ≡ queue_words j x ++ t) where
  named_next : decoded (get_or queue 1 0) ≡ next_number (next_of j x)
  named_next =
      greatest_next j x queue (good_reached j x reach).agrees.sizes.queued
      (ap (take 1024) is ∙ take_at (queue_words j x) t 1024 (tournament_length j x))

  nobody_next : decoded (get_or queue 1 0) ≡ None → next_of j x ≡ none
  nobody_next e = go (next_of j x) (sym named_next ∙ e)
    where
      go : (o : Option Queued) → next_number o ≡ None → o ≡ none
      go none q = refl
      go (some k) q = cc

  some_next : (n : Next) → decoded (get_or queue 1 0) ≡ Some n → (k : Queued) × (next_of j x ≡ some k) × (k.number ≡ n.number) × (k.stage ≡ n.stage)
  some_next n e = go (next_of j x) refl (sym named_next ∙ e)
    where
      go : (o : Option Queued) → next_of j x ≡ o → next_number o ≡ Some n → (k : Queued) × (next_of j x ≡ some k) × (k.number ≡ n.number) × (k.stage ≡ n.stage)
      go none p r = cc
      go (some k) p r =
          let e : (let m : Next = record { number = k.number; stage = k.stage } in m) ≡ n = cc in
          (k, p, ap (λ (y : Next). y.number) e, ap (λ (y : Next). y.stage) e)

-- ---- the loop

-- an end after as many dequeues, however they are counted
pub ended : (e : Ending) (m n : ℕ) → m ≡ n → (let r : RunEnd = record { ending = e; dequeues = m } in r) ≡ record { ending = e; dequeues = n }
ended e m n p = rw p

-- after some dequeues the state is x, and `left` more may be made
pub record Going (j : Job) (s : State) (t : StateBuffers) (budget left : ℕ) (B : JobBuffers) (S' : StateBuffers) (W' : List ℕ) : Type 0 where
  pub x : State
  pub lent_so : LentTo j x t B S' W'
  pub whole : run_from left j (budget - left) (goes_on x) ≡ run j budget s

pub record RunTo (budget left : ℕ) (B : JobBuffers) (S : StateBuffers) (W : List ℕ) (S' : StateBuffers) (W' : List ℕ) : Type 0 where
  pub within : left ≤ budget
  pub onward : (j : Job) (s : State) (t : StateBuffers) → LentTo j s t B S W → Going j s t budget left B S' W'

module _ (budget : ℕ) (B : JobBuffers) (S : StateBuffers) (W : List ℕ) where
  pub run_start : RunTo budget budget B S W S W
  unfolding run
  run_start =
      record {
        within = omega arith;
        onward = λ j s t l. let z : budget - budget ≡ 0 = omega arith in record { x = s; lent_so = l; whole = ap (λ (n : ℕ). run_from budget j n (goes_on s)) z };
      }

  module _ (S' : StateBuffers) (W' : List ℕ) where
    -- the run is over, with the word e after n dequeues, in a state that stands there
    ends_with : (e : Ending) (n : ℕ)
        → ((j : Job) (s : State) (t : StateBuffers) → LentTo j s t B S W
        → (x : State) × (ran e n x ≡ run j budget s) × Stands j x t S'.ends S'.rests S'.queue S'.last × WordsOf (records x) W')
        → (r : RunEnd) → r ≡ record { ending = e; dequeues = n } → RunMade budget B S W S' W' r
    ends_with e n f r is =
        record {
          made =
              λ j s t l.
              let o = f j s t l in (
                subst (λ (a : Ran). Stands j a.state t S'.ends S'.rests S'.queue S'.last) o.1 o.2,
                subst (λ (a : Ran). WordsOf (records a.state) W') o.1 o.3,
                ap (λ (a : RunEnd). a.ending) is ∙ ap (λ (a : Ran). a.ending) o.1,
                ap (λ (a : RunEnd). a.dequeues) is ∙ ap (λ (a : Ran). a.dequeues) o.1,
              );
        }

    module _ (left : ℕ) (so_far : RunTo budget left B S W S' W') where
      -- nobody waits
      pub run_done : decoded (get_or S'.queue 1 0) ≡ None → (r : RunEnd) → r ≡ record { ending = Done; dequeues = budget - left } → RunMade budget B S W S' W' r
      run_done nobody =
          ends_with Done (budget - left)
          (λ j s t l.
          let o = so_far.onward j s t l in
          let z = nobody_next j o.x o.lent_so.reached t.queue S'.queue o.lent_so.stands.moves.queue_is nobody in
          (o.x, sym (from_nobody j o.x left (budget - left) z) ∙ o.whole, o.lent_so.stands, o.lent_so.records_are))

      module _ (n : Next) (next : decoded (get_or S'.queue 1 0) ≡ Some n) where
        -- the budget is spent
        pub run_spent : left ≡ 0 → (r : RunEnd) → r ≡ record { ending = Spent; dequeues = budget } → RunMade budget B S W S' W' r
        run_spent none_left =
            ends_with Spent budget
            (λ j s t l.
            let o = so_far.onward j s t l in
            let k = some_next j o.x o.lent_so.reached t.queue S'.queue o.lent_so.stands.moves.queue_is n next in
            let b : budget ≡ budget - left = omega (arith, none_left) in (
              o.x,
              ap (λ (m : ℕ). ran Spent m o.x) b ∙ sym (from_spent j o.x (budget - left) k.0 k.1) ∙ ap (λ (m : ℕ). run_from m j (budget - left) (goes_on o.x)) (sym none_left) ∙ o.whole,
              o.lent_so.stands,
              o.lent_so.records_are,
            ))

-- one more dequeue is made
module _ (budget : ℕ) (B : JobBuffers) (S : StateBuffers) (W : List ℕ) (S' : StateBuffers) (W' : List ℕ) (left : ℕ) (so_far : RunTo budget left B S W S' W')
    (n : Next) (next : decoded (get_or S'.queue 1 0) ≡ Some n)
    (more : left ≡ 0 → ⊥) (S'' : StateBuffers) (W'' : List ℕ) (over : Bool) (step : DequeueMade n.number n.stage B S' W' S'' W'' over) where
  -- what it leaves
  record Left (j : Job) (s : State) (t : StateBuffers) : Type 0 where
    pub before : State
    pub lent_so : LentTo j (state_of (dequeue j before n.number n.stage)) t B S'' W''
    pub ends_so : over ≡ is_over (dequeue j before n.number n.stage)
    pub whole : (y : Step) → dequeue j before n.number n.stage ≡ y → run_from (left - 1) j (budget - (left - 1)) y ≡ run j budget s

  left_by : (j : Job) (s : State) (t : StateBuffers) → LentTo j s t B S W → Left j s t
  left_by j s t l =
      let o = so_far.onward j s t l in
      let k = some_next j o.x o.lent_so.reached t.queue S'.queue o.lent_so.stands.moves.queue_is n next in
      let queued : queued_at o.x n.number ≡ some n.stage = subst (λ (v : ℕ). queued_at o.x v ≡ some n.stage) k.2 (next_queued j o.x k.0 k.1 ∙ ap some k.3) in
      let alike : dequeue j o.x k.0.number k.0.stage ≡ dequeue j o.x n.number n.stage = ap (λ (v : ℕ). dequeue j o.x v k.0.stage) k.2 ∙ ap (dequeue j o.x n.number) k.3 in
      let after = step.made j o.x t o.lent_so queued in
      let a : left ≡ suc (left - 1) = omega (arith, more) in
      let b : budget - (left - 1) ≡ suc (budget - left) = omega (arith, more, so_far.within) in
      record {
        before = o.x;
        lent_so =
            record {
              reached = subst (λ (y : Step). Reached j (state_of y)) alike (reached_dequeue j o.x o.lent_so.reached k.0 k.1);
              job_stands = l.job_stands;
              stands = after.0;
              records_are = after.1;
            };
        ends_so = after.2;
        whole =
            λ y e.
            ap (λ (m : ℕ). run_from (left - 1) j m y) b
            ∙ ap (run_from (left - 1) j (suc (budget - left))) (sym (alike ∙ e))
            ∙ sym (from_step j o.x (left - 1) (budget - left) k.0 k.1)
            ∙ ap (λ (m : ℕ). run_from m j (budget - left) (goes_on o.x)) (sym a)
            ∙ o.whole;
      }

  pub run_more : over ≡ false → RunTo budget (left - 1) B S W S'' W''
  run_more e =
      record {
        within = omega (arith, so_far.within);
        onward =
            λ j s t l.
            let o = left_by j s t l in
            record { x = state_of (dequeue j o.before n.number n.stage); lent_so = o.lent_so; whole = o.whole _ (goes_on_lem _ (sym o.ends_so ∙ e)) };
      }

  pub run_toomany : over ≡ true → (r : RunEnd) → r ≡ record { ending = TooMany; dequeues = budget - (left - 1) } → RunMade budget B S W S'' W'' r
  run_toomany e =
      ends_with budget B S W S'' W'' TooMany (budget - (left - 1))
      (λ j s t l.
      let o = left_by j s t l in
      let x = state_of (dequeue j o.before n.number n.stage) in
      (x, sym (from_over j x (left - 1) (budget - (left - 1))) ∙ o.whole _ (is_over_lem _ (sym o.ends_so ∙ e)), o.lent_so.stands, o.lent_so.records_are))
