-- A decision carried out on a state that calls reach: each fate leaves what is lent with the state that the rules give. Assumes nothing.
use Prim.Native.Nat.{ℕ, ◌+◌, ◌<◌}
use native.Mathlib.Omega.{arith}
use mathlib.Core.Path.{◌≡◌, refl, sym, ap, ◌∙◌, subst}
use mathlib.Core.List.{List, [], ◌++◌}
use mathlib.Core.Option.{Option, none, some}
use mathlib.Core.Bool.{Bool, true, false, not, ◌&&◌, ◌||◌}
use lib.Dec.{T}
use lib.ListN.{get_or, set}
use Rattle.reg_matrix.specs.Lists.{is_some, foldl}
use Rattle.table_words.specs.declared.buffers.LentState.{LentState}
use Rattle.job.specs.Model.{Job}
use Rattle.job.specs.Layout.{JobBuffers}
use Rattle.allocator.specs.declared.Assignment.{Assignment}
use Rattle.allocator.specs.declared.Assignment.TheVariants.{Assigned as Holds, Dead}
use Rattle.allocator.specs.declared.CandidateReg.{CandidateReg}
use Rattle.allocator.specs.declared.Stage.{Stage}
use Rattle.allocator.specs.declared.Stage.TheVariants.{Split}
use Rattle.allocator.specs.State.{State, held_by, is_left_over, flag, is_unassigned, assignment, record_of, records, give, requeue, leave}
use Rattle.allocator.specs.Layout.{StateBuffers, queue_words, last_words}
use Rattle.job.proofs.Premises.{IsNumber}
use Rattle.reg_matrix.proofs.Tests.{both}
use Rattle.allocator.specs.Dequeue.{Decision, takes, decide, state_of, evict_all, carry_out, dequeue}
use Rattle.allocator.proofs.Runs.{evict_all_keeps}
use Rattle.allocator.proofs.Good.{Good, Idle, good_reached, queued_idle, takes_good, reached_evict_all}
use Rattle.allocator.proofs.Records.{give_records, leave_records, requeue_records, lose_last, leave_last, requeue_last}
use Rattle.stage.proofs.ReachedSearch.{record_read}
use Rattle.queue.specs.QueueWalk.{set_word}
use Rattle.moves.specs.Standing.{Stands}
use Rattle.moves.specs.Moving.{EvictReads, key_in, Taken, PassedParts, PassedBy}
use Rattle.moves.proofs.MoveLaws.{unqueued, queued_at_lem}
use Rattle.record_words.specs.Words.{record_word, record_in, PlainRecord, WordsOf}
use Rattle.record_words.proofs.WordLaws.{word_read, word_set, dead_word}
use Rattle.record_words.proofs.PlainRecords.{records_length}
use Rattle.decisions.specs.declared.Decided.{Decided}
use Rattle.decisions.specs.declared.Decided.TheVariants.{Leaves, Takes, Evicts, Splits, Fails}
use Rattle.decisions.specs.Deciding.{members, decision_of}
use Rattle.records.specs.Fields.{flag_in}
use Rattle.context.specs.Carrying.{EvictedAll, given_record, Settled, CarriedOut}

-- carrying out what was decided
as_decided : (d e : Decided) → d ≡ e → (j : Job) (s : State) (v : ℕ) (q : Stage) → decision_of d ≡ decide j s v q → state_of (dequeue j s v q) ≡ state_of (carry_out j s v (decision_of e))
unfolding dequeue
as_decided d e p j s v q is = ap (λ (z : Decision). state_of (carry_out j s v z)) (sym is ∙ ap decision_of p)

idle_unassigned : (j : Job) (s : State) (v : ℕ) → Idle j s v → T (is_unassigned s v)
idle_unassigned j s v i = go (held_by s v) (is_left_over s v) i.holds_nothing i.stays
  where
    go : (o : Option CandidateReg) (b : Bool) → o ≡ none → T (not b) → T (not (is_some o) && not b)
    go o b p t = rw p t

-- the flag of a record
flag_read : (j : Job) (s : State) (g : Good j s) (v : ℕ) → IsNumber j v → T (not (is_left_over s v)) → (W : List ℕ) → WordsOf (records s) W → flag_in (record_in (get_or W v 0)) ≡ flag s v
unfolding record_of
flag_read j s g v known t W is =
    let h : v < 512 = omega (arith, known, g.premises.few_numbers) in
    ap flag_in (word_read is v h ∙ record_read s Dead v h) ∙ go (is_left_over s v) t (held_by s v)
  where
    go : (b : Bool) → T (not b) → (o : Option CandidateReg) → flag_in (assignment b (flag s v) o) ≡ flag s v
    go true t o = absurd t
    go false t none = refl
    go false t (some c) = refl

took : (j : Job) (s : State) (v : ℕ) (c : CandidateReg) (f : Bool) (vs : List ℕ) → state_of (carry_out j s v (takes c f vs)) ≡ give j v c f (evict_all j vs s)
unfolding carry_out
took j s v c f vs = refl

-- ---- a register is taken and recorded

module _ (v : ℕ) (c : CandidateReg) (f : Bool) (B : JobBuffers) (S : LentState) (last W : List ℕ) where
  pub settled :
      (S' : LentState) (last' : List ℕ)
      → Taken v c.reg B S last S' last'
      → (b : Assignment)
      → b ≡ record_in (get_or W v 0)
      → (a : Assignment)
      → a ≡ given_record f b c
      → (x : ℕ)
      → (x ≡ record_word a) × (PlainRecord a → record_in x ≡ a)
      → (W' : List ℕ)
      → W' ≡ set W v x
      → Settled v c f B S last W S' last' W'
  settled S' last' tk b pb a pa x px W' st' =
      record {
        reached =
            λ j s t reach k st is known free names clear plain.
            let g = good_reached j s reach in
            let stays = (both (not (is_some (held_by s v))) (not (is_left_over s v)) free).1 in
            let now-is : a ≡ Holds (f || flag s v) c.reg c.preference_weight =
            pa ∙ ap (λ (y : Bool). Holds (f || y) c.reg c.preference_weight) (ap flag_in pb ∙ flag_read j s g v known stays W is) in
            let after : set (records s) v a ≡ records (give j v c f s) = ap (set (records s) v) now-is ∙ sym (give_records j s g v known c f stays) in (
              tk.reached j s t reach k st known free names clear c f refl,
              rw st' (subst (λ (rs : List Assignment). WordsOf rs (set W v x)) after (word_set is (records_length s) v x a px.0 (px.1 (subst PlainRecord (sym now-is) plain)))),
            );
      }

-- ---- a decision

module _ (d : Decided) (v : ℕ) (B : JobBuffers) (S : LentState) (last W : List ℕ) where
  abbrev Out : LentState → List ℕ → List ℕ → Type 0
  Out S' last' W' = CarriedOut d v B S last W S' last' W'

  -- what stands in the place of a step
  outcome : (S' : LentState) (last' W' : List ℕ)
      → ((j : Job) (s : State) (t : StateBuffers) (q : Stage) → Good j s → Idle j s v → EvictReads j B → Stands j s t S.ends.now S.rests.now S.queue.now last → decision_of d ≡ decide j s v q
      → (x : State) × (state_of (dequeue j s v q) ≡ x) × Stands j x t S'.ends.now S'.rests.now S'.queue.now last' × (WordsOf (records s) W → WordsOf (records x) W'))
      → Out S' last' W'
  outcome S' last' W' f =
      record {
        reached =
            λ j s t q reach e k st is queued dec.
            let g = good_reached j s reach in
            let o = f j s t q g (queued_idle j s g v q queued) e st dec in (
              subst (λ (x : State). Stands j x t S'.ends.now S'.rests.now S'.queue.now last') (sym o.1) o.2,
              subst (λ (x : State). WordsOf (records x) W') (sym o.1) (o.3 is),
            );
      }

  same_records : (j : Job) (s : State) (g : Good j s) → Idle j s v → (q : Option Stage) → WordsOf (records s) W → WordsOf (records (requeue v q s)) W
  same_records j s g i q is = subst (λ (rs : List Assignment). WordsOf rs W) (sym (requeue_records j s g v i.known q)) is

  -- the table stays
  module _ (S' : LentState) (ends-stay : S'.ends.now ≡ S.ends.now) (rests-stay : S'.rests.now ≡ S.rests.now) where
    -- left over
    carried_leaves : d ≡ Leaves → S'.queue.now ≡ set_word v 0 S.queue.now → (W' : List ℕ) → W' ≡ set W v (record_word Dead) → Out S' last W'
    unfolding leave carry_out
    carried_leaves x pq W' pw =
        outcome S' last W'
        (λ j s t q g i e st dec. (
          leave v s,
          as_decided d Leaves x j s v q dec,
          record {
            moves =
                record {
                  table = record { ends_are = ends-stay ∙ st.moves.table.ends_are; rests_are = rests-stay ∙ st.moves.table.rests_are };
                  queue_is = pq ∙ unqueued j s g (leave v s) v i.known t.queue S.queue.now st.moves.queue_is refl;
                };
            last_is = st.last_is ∙ ap (λ (l : List ℕ). l ++ t.last) (sym (leave_last j s g v i.known));
          },
          λ is.
              rw pw
              (subst (λ (rs : List Assignment). WordsOf rs (set W v (record_word Dead))) (sym (leave_records j s g v i.known))
              (word_set is (records_length s) v (record_word Dead) Dead refl dead_word)),
        ))

    -- queued otherwise: the last registers and the records stay too
    requeued : (j : Job) (s : State) (t : StateBuffers) (g : Good j s) → Idle j s v → (q : Option Stage) → S'.queue.now ≡ queue_words j (requeue v q s) ++ t.queue → Stands j s t S.ends.now S.rests.now S.queue.now last → Stands j (requeue v q s) t S'.ends.now S'.rests.now S'.queue.now last
    unfolding requeue
    requeued j s t g i q p st =
        record {
          moves =
              record {
                table = record { ends_are = ends-stay ∙ st.moves.table.ends_are; rests_are = rests-stay ∙ st.moves.table.rests_are };
                queue_is = p;
              };
          last_is = st.last_is ∙ ap (λ (l : List ℕ). l ++ t.last) (sym (requeue_last j s g v i.known q));
        }

    -- back to the queue at stage Split
    carried_splits : d ≡ Splits → S'.queue.now ≡ set_word v (key_in B v Split + 1) S.queue.now → Out S' last W
    unfolding requeue carry_out
    carried_splits x pq =
        outcome S' last W
        (λ j s t q g i e st dec.
        let word : S'.queue.now ≡ queue_words j (requeue v (some Split) s) ++ t.queue =
        pq ∙ queued_at_lem j s g (requeue v (some Split) s) v i.known t.queue S.queue.now st.moves.queue_is Split refl B e.hint_starts e.sizes_are in (
          requeue v (some Split) s,
          as_decided d Splits x j s v q dec,
          requeued j s t g i (some Split) word st,
          same_records j s g i (some Split),
        ))

    -- off the queue, and the run ends
    carried_fails : d ≡ Fails → S'.queue.now ≡ set_word v 0 S.queue.now → Out S' last W
    unfolding requeue carry_out
    carried_fails x pq =
        outcome S' last W
        (λ j s t q g i e st dec. (
          requeue v none s,
          as_decided d Fails x j s v q dec,
          requeued j s t g i none (pq ∙ unqueued j s g (requeue v none s) v i.known t.queue S.queue.now st.moves.queue_is refl) st,
          same_records j s g i none,
        ))

    -- no register is taken
    pub carried_passed :
        ((c : CandidateReg) → d ≡ Takes c → ⊥)
        → ((c : CandidateReg) (f : Bool) (gone : List Bool) → d ≡ Evicts c f gone → ⊥)
        → (W' : List ℕ)
        → PassedBy d v (key_in B v Split) S.queue.now W S'.queue.now W'
        → Out S' last W'
    carried_passed not-takes not-evicts W' pb = go d refl pb.parts
      where
        go : (x : Decided) → d ≡ x → PassedParts x v (key_in B v Split) S.queue.now W S'.queue.now W' → Out S' last W'
        go Leaves f p = carried_leaves f p.0 W' p.1
        go (Takes c) f p = absurd (not-takes c f)
        go (Evicts c b gone) f p = absurd (not-evicts c b gone f)
        go Splits f p = rw p.1 (carried_splits f p.0)
        go Fails f p = rw p.1 (carried_fails f p.0)

  -- what stands where a register is taken on the state x, on which others may have been evicted
  took_there :
      (S' : LentState) (last' W' : List ℕ) (j : Job) (t : StateBuffers) (x y : State)
      → y ≡ x
      → Stands j x t S'.ends.now S'.rests.now S'.queue.now last' × WordsOf (records x) W'
      → Stands j y t S'.ends.now S'.rests.now S'.queue.now last' × WordsOf (records y) W'
  took_there S' last' W' j t x y e o = rw e o

  -- a clear register is taken
  pub carried_takes :
      (c : CandidateReg)
      → d ≡ Takes c
      → (S' : LentState) (last' W' : List ℕ)
      → Settled v c false B S last W S' last' W'
      → Out S' last' W'
  unfolding evict_all foldl
  carried_takes c x S' last' W' se =
      record {
        reached =
            λ j s t q reach e k st is queued dec.
            let g = good_reached j s reach in
            let i = queued_idle j s g v q queued in
            let a = takes_good j s g v i q c false [] (sym dec ∙ ap decision_of x) in
            took_there S' last' W' j t (give j v c false s) (state_of (dequeue j s v q))
            (as_decided d (Takes c) x j s v q dec ∙ took j s v c false [])
            (se.reached j s t reach k st is i.known (idle_unassigned j s v i) a.candidate.names a.clear a.candidate.plain);
      }

  -- a register is taken from its holders
  pub carried_evicts :
      (c : CandidateReg) (f : Bool) (gone : List Bool)
      → d ≡ Evicts c f gone
      → (S₁ : LentState) (W₁ : List ℕ)
      → EvictedAll gone B S W S₁ W₁
      → (S' : LentState) (last' W' : List ℕ)
      → Settled v c f B S₁ last W₁ S' last' W'
      → Out S' last' W'
  carried_evicts c f gone x S₁ W₁ ea S' last' W' se =
      record {
        reached =
            λ j s t q reach e k st is queued dec.
            let g = good_reached j s reach in
            let i = queued_idle j s g v q queued in
            let vs = members gone in
            let a = takes_good j s g v i q c f vs (sym dec ∙ ap decision_of x) in
            let y = evict_all j vs s in
            let m = ea.reached j s t reach e st.moves is in
            let lasts : last ≡ last_words y ++ t.last = st.last_is ∙ ap (λ (l : List ℕ). l ++ t.last) (sym (evict_all_keeps last_words j (lose_last j) vs s)) in
            took_there S' last' W' j t (give j v c f y) (state_of (dequeue j s v q))
            (as_decided d (Evicts c f gone) x j s v q dec ∙ took j s v c f vs)
            (se.reached j y t (reached_evict_all j vs s reach) k (record { moves = m.0; last_is = lasts }) m.1 a.idle.known (idle_unassigned j y v a.idle) a.candidate.names a.clear a.candidate.plain);
      }
