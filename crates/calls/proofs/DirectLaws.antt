-- Direct calls: what is refused leaves all as it was, and on a state that calls reach what is carried out leaves the state of the rules.
-- Assumes nothing.
use Prim.Native.Nat.{ℕ, ◌≤◌, ◌<◌}
use native.Mathlib.Omega.{arith}
use mathlib.Core.Path.{◌≡◌, refl, sym, ap, ◌∙◌, subst}
use mathlib.Core.List.{List, ◌++◌}
use mathlib.Core.Option.{Option, none, some}
use mathlib.Core.Bool.{Bool, true, false, not}
use lib.Dec.{T, leb, nleb→lt}
use lib.Ieee.{binary32, of_bits}
use lib.ListN.{length, get_or, set, get_or-eq_default}
use lib.Seq.{set-get_or}
use Rattle.std.specs.Prelude.{Result, Ok, Err}
use Rattle.reg_matrix.specs.Lists.{is_some}
use Rattle.reg_matrix.specs.Refused.{number_in, refusal_in}
use Rattle.reg_matrix.specs.declared.Refusal.{Refusal}
use Rattle.reg_matrix.specs.Refusals.{refusal, short_buffer}
use Rattle.lent.proofs.Laws.{any_default}
use Rattle.reg_matrix.proofs.Places.{from_zero}
use Rattle.table_words.specs.Segments.{refusal_number as number_of}
use Rattle.job.specs.Model.{Job}
use Rattle.job.specs.Layout.{JobSlices, lists_in, header_of}
use Rattle.job.specs.declared.JobHeader.{JobHeader}
use Rattle.job.proofs.Premises.{IsNumber}
use Rattle.allocator.specs.declared.Assignment.{Assignment}
use Rattle.allocator.specs.declared.Assignment.TheVariants.{Assigned, Unassigned, Dead}
use Rattle.allocator.specs.declared.CandidateReg.{CandidateReg}
use Rattle.allocator.specs.State.{State, held_by, is_left_over, flag, record_of, records, give, lose}
use Rattle.allocator.specs.Order.{candidate}
use Rattle.allocator.specs.Layout.{StateBuffers, stage_limits}
use Rattle.allocator.specs.Calls.{Call, placing, evicting, running, refusal_of, carried_out, unless_refused, after, accepted, or_refused, answer_of}
use Rattle.allocator.specs.Reached.{Reached}
use Rattle.allocator.proofs.Accepted.{all_pass, Placeable, placing_accepted, evicting_accepted}
use Rattle.allocator.proofs.Good.{Good, good_reached, placeable_idle}
use Rattle.allocator.proofs.Records.{holder_stays, held_record, idle_record, give_records, lose_records, lose_last}
use Rattle.stage.proofs.ReachedMoves.{evict_held}
use Rattle.records.specs.Fields.{flag_in, reg_in}
use Rattle.table_words.specs.declared.buffers.LentState.{LentState}
use Rattle.moves.specs.Standing.{JobStands, Moves, Stands}
use Rattle.moves.specs.Moving.{Taken, TakenBack}
use Rattle.moves.proofs.MoveLaws.{evict_reads, take_reads}
use Rattle.call_tests.specs.Testing.{clear_to, place_tests, evict_tests}
use Rattle.run_loop.specs.Running.{state_in}
use Rattle.calls.specs.Calling.{refusal_number, value_number, sizes_of, StateStands, unknown_to, place_answer, evict_answer, Placed, Evicted}
use Rattle.call_tests.proofs.RefusalLaws.{none_placing, none_evicting, named_read, clear_read, held_is, placing_tests, evicting_tests, refused_first}

-- ---- an answer's number

module _ {A : Type 0} where
  -- the number in an answer is that of its refusal
  pub number_is : (r : Result A Refusal) → number_in r ≡ number_of (refusal_in r)
  number_is (Ok a) = refl
  number_is (Err e) = refl

-- ---- any call

module _ (j : Job) (s : State) (c : Call) where
  -- its answer's number is the refusal's
  pub answer_number : number_of (refusal_of j s c) ≡ refusal_number (answer_of j s c)
  unfolding answer_of
  answer_number = go (refusal_of j s c) c
    where
      go : (o : Option ℕ) (c : Call) → number_of o ≡ refusal_number (or_refused o (accepted j s c))
      go (some n) c = refl
      go none (placing l v r w) = refl
      go none (evicting l v) = refl
      go none (running l b) = refl

  -- refused, it changes nothing
  pub after_refused : (number_of (refusal_of j s c) ≡ 0 → ⊥) → after j s c ≡ s
  unfolding after
  after_refused f = go (refusal_of j s c) f
    where
      go : (o : Option ℕ) → (number_of o ≡ 0 → ⊥) → unless_refused o s (carried_out j s c) ≡ s
      go (some n) f = refl
      go none f = absurd (f refl)

  pub after_accepted : refusal_of j s c ≡ none → after j s c ≡ carried_out j s c
  unfolding after
  after_accepted e = rw e

  -- the register of a refusal is 0
  pub value_refused : (number_of (refusal_of j s c) ≡ 0 → ⊥) → value_number (answer_of j s c) ≡ 0
  unfolding answer_of
  value_refused f = go (refusal_of j s c) f
    where
      go : (o : Option ℕ) → (number_of o ≡ 0 → ⊥) → value_number (or_refused o (accepted j s c)) ≡ 0
      go (some n) f = refl
      go none f = absurd (f refl)

-- ---- the record of v

-- a place past the records, and one inside
pub record_past : (rs : List Assignment) (v : ℕ) → length rs ≡ 512 → 512 ≤ v → Dead ≡ get_or rs v Dead
record_past rs v l h = let m : length rs ≤ v = omega (arith, l, h) in sym (get_or-eq_default rs Dead {n = v} m)

pub record_inside : (rs : List Assignment) (v : ℕ) (d : Assignment) → length rs ≡ 512 → v < 512 → get_or rs v d ≡ get_or rs v Dead
record_inside rs v d l h = any_default rs v d Dead (omega (arith, l, h))

-- stored as it was read
pub kept_record : (rs : List Assignment) (v : ℕ) (a : Assignment) → a ≡ get_or rs v Dead → set rs v a ≡ rs
kept_record rs v a read = rw read (set-get_or rs v Dead)

-- it was read on a state that calls reach
module _ (B : JobSlices) (v : ℕ) (S : StateBuffers) (rs : List Assignment) (a : Assignment) (read : a ≡ get_or rs v Dead) where
  read_record : (j : Job) (s : State) (t : StateBuffers) → Good j s → JobStands j (lists_in B) → StateStands j s t S rs → IsNumber j v → a ≡ record_of s v
  unfolding records
  read_record j s t g jb st b =
      read ∙ ap (λ (l : List Assignment). get_or l v Dead) st.records_are ∙ from_zero (record_of s) Dead 512 v (omega (arith, b, g.premises.few_numbers))

-- ---- placing

-- the answer by what the code found of the buffers
pub place_answered :
    (header : JobHeader) (B : JobSlices) (v reg bits : ℕ) (S : StateBuffers) (a : Assignment) (lends : Bool)
    → lends ≡ short_buffer stage_limits (sizes_of B S)
    → (n : ℕ)
    → n ≡ number_of (refusal (place_tests lends (unknown_to header B v reg) bits a (clear_to B S.ends S.rests v reg)))
    → n ≡ place_answer header B v reg bits S a
unfolding place_answer
place_answered header B v reg bits S a lends pl n pn = rw (← pl) pn

module _ (header : JobHeader) (B : JobSlices) (v reg bits : ℕ) (S : StateBuffers) (rs : List Assignment) (a : Assignment) (read : a ≡ get_or rs v Dead)
    (n : ℕ) (is : n ≡ place_answer header B v reg bits S a) where
  abbrev place_call : Call
  place_call = placing (sizes_of B S) v reg (of_bits binary32 bits)

  no_refusal : n ≡ 0 → refusal (place_tests (short_buffer stage_limits (sizes_of B S)) (unknown_to header B v reg) bits a (clear_to B S.ends S.rests v reg)) ≡ none
  unfolding place_answer
  no_refusal z = none_placing (short_buffer stage_limits (sizes_of B S)) (unknown_to header B v reg) bits a (clear_to B S.ends S.rests v reg) (sym is ∙ z)

  short_placing : short_buffer stage_limits (sizes_of B S) ≡ true → n ≡ 15
  unfolding place_answer
  short_placing e = is ∙ refused_first 15 _ _ e

  module _ (j : Job) (s : State) (t : StateBuffers) (r : Reached j s) (jb : JobStands j (lists_in B)) (h : header ≡ header_of j) (st : StateStands j s t S rs) where
    -- the tests are those of the rules
    place_tests_are :
        refusal (place_tests (short_buffer stage_limits (sizes_of B S)) (unknown_to header B v reg) bits a (clear_to B S.ends S.rests v reg)) ≡ refusal_of j s place_call
    unfolding header_of
    place_tests_are =
        let g = good_reached j s r in
        rw h
        (placing_tests j s g (sizes_of B S) v (short_buffer stage_limits (sizes_of B S)) refl a (read_record B v S rs a read j s t g jb st) reg bits _ _
        (λ b. named_read j s g (lists_in B) jb.reads v b reg)
        (λ b k. clear_read j s g (lists_in B) jb.reads v b t.ends t.rests S.ends S.rests st.stands.moves.table reg k))

    place_number_lem : n ≡ number_of (refusal_of j s place_call)
    unfolding place_answer
    place_number_lem = is ∙ ap number_of place_tests_are

    placeable : n ≡ 0 → refusal_of j s place_call ≡ none
    placeable z = sym place_tests_are ∙ no_refusal z

  place_decided : n ≡ place_answer header B v reg bits S (get_or rs v Dead)
  place_decided = is ∙ ap (place_answer header B v reg bits S) read

  pub placing_refused : (n ≡ 0 → ⊥) → Placed header B v reg bits S rs S rs n
  placing_refused z =
      record {
        answer = place_decided;
        recorded = λ q. absurd (z q);
        called =
            record {
              short = short_placing;
              unchanged = λ _. record { slices = refl; records_too = refl };
              reached =
                  λ j s t r jb h st.
                  let e = place_number_lem j s t r jb h st in
                  (e ∙ answer_number j s place_call, subst (λ (u : State). StateStands j u t S rs) (sym (after_refused j s place_call (λ q. z (e ∙ q)))) st);
            };
      }

  -- a placement that is carried out has a weight
  place_weight : n ≡ 0 → bits < 0x7F80_0000
  place_weight z =
      let b = all_pass 15 (short_buffer stage_limits (sizes_of B S)) _ (no_refusal z) in
      let c = all_pass 8 (unknown_to header B v reg) _ b.1 in
      nleb→lt 0x7F80_0000 bits (all_pass 9 (leb 0x7F80_0000 bits) _ c.1).0

  module _ (z : n ≡ 0) (before : LentState) (is-before : state_in before S.last ≡ S) (after : LentState) (last' : List ℕ)
      (tk : Taken v reg (lists_in B) before S.last after last')
      (x : Assignment) (px : bits < 0x7F80_0000 → x ≡ Assigned (flag_in a) reg (of_bits binary32 bits))
      (rs' : List Assignment) (pr : rs' ≡ set rs v x) where
    given :
        (j : Job) (s : State) (t : StateBuffers) → Reached j s → JobStands j (lists_in B) → StateStands j s t S rs
        → Placeable j s (sizes_of B S) v reg (of_bits binary32 bits)
        → StateStands j (give j v (candidate reg (of_bits binary32 bits)) false s) t (state_in after last') rs'
    given j s t r jb st k =
        let g = good_reached j s r in
        let i = placeable_idle j s g (sizes_of B S) v reg (of_bits binary32 bits) k in
        let c = candidate reg (of_bits binary32 bits) in
        let f-is : flag_in a ≡ flag s v = ap flag_in (read_record B v S rs a read j s t g jb st k.known ∙ idle_record j s g v i) in
        record {
          stands = tk.reached j s t r (take_reads j B jb) (subst (λ (u : StateBuffers). Stands j s t u.ends u.rests u.queue S.last) (sym is-before) st.stands) k.known k.unassigned k.names k.clear c false refl;
          records_are =
              pr
              ∙ ap (λ (l : List Assignment). set l v x) st.records_are
              ∙ ap (set (records s) v) (px (place_weight z))
              ∙ ap (λ (b : Bool). set (records s) v (Assigned b reg (of_bits binary32 bits))) f-is
              ∙ sym (give_records j s g v k.known c false i.stays);
        }

    pub placing_done : Placed header B v reg bits S rs (state_in after last') rs' n
    unfolding carried_out
    placing_done =
        record {
          answer = place_decided;
          recorded =
              λ _. pr
              ∙ ap (set rs v) (px (place_weight z))
              ∙ ap (λ (b : Assignment). set rs v (Assigned (flag_in b) reg (of_bits binary32 bits))) read;
          called =
              record {
                short = short_placing;
                unchanged = λ x. absurd (x z);
                reached =
                    λ j s t r jb h st.
                    let q = placeable j s t r jb h st z in (
                      place_number_lem j s t r jb h st ∙ answer_number j s place_call,
                      subst (λ (u : State). StateStands j u t (state_in after last') rs') (sym (after_accepted j s place_call q))
                          (given j s t r jb st ((placing_accepted j s (sizes_of B S) v reg (of_bits binary32 bits)).0 q)),
                    );
              };
        }

-- a buffer is short
pub placing_short :
    (header : JobHeader) (B : JobSlices) (v reg bits : ℕ) (S : StateBuffers) (rs : List Assignment) (a : Assignment)
    → a ≡ get_or rs v Dead → short_buffer stage_limits (sizes_of B S) ≡ true → Placed header B v reg bits S rs S rs 15
placing_short header B v reg bits S rs a read e =
    placing_refused header B v reg bits S rs a read 15
    (place_answered header B v reg bits S a true (sym e) 15 (sym (refused_first 15 true _ refl))) (λ q. omega (arith, q))

-- ---- evicting

is_some_lem : {A : Type 0} (o : Option A) → T (is_some o) → (x : A) × (o ≡ some x)
is_some_lem none t = absurd t
is_some_lem (some x) t = (x, refl)

module _ (header : JobHeader) (B : JobSlices) (v : ℕ) (S : StateBuffers) (rs : List Assignment) (a : Assignment) (read : a ≡ get_or rs v Dead)
    (lends : Bool) (pl : lends ≡ short_buffer stage_limits (sizes_of B S))
    (n : ℕ) (is : n ≡ number_of (refusal (evict_tests lends (leb header.virt_regs v) a))) where
  abbrev evict_call : Call
  evict_call = evicting (sizes_of B S) v

  short_evicting : short_buffer stage_limits (sizes_of B S) ≡ true → n ≡ 15
  short_evicting e = is ∙ refused_first 15 lends _ (pl ∙ e)

  module _ (j : Job) (s : State) (t : StateBuffers) (r : Reached j s) (jb : JobStands j (lists_in B)) (h : header ≡ header_of j) (st : StateStands j s t S rs) where
    evict_tests_are : refusal (evict_tests lends (leb header.virt_regs v) a) ≡ refusal_of j s evict_call
    unfolding header_of
    evict_tests_are =
        let g = good_reached j s r in
        rw h (evicting_tests j s g (sizes_of B S) v lends pl a (read_record B v S rs a read j s t g jb st))

    evict_number_lem : n ≡ number_of (refusal_of j s evict_call)
    evict_number_lem = is ∙ ap number_of evict_tests_are

    evictable : n ≡ 0 → refusal_of j s evict_call ≡ none
    evictable z = sym evict_tests_are ∙ none_evicting lends _ a (sym is ∙ z)

  evict_decided : n ≡ evict_answer header B v S (get_or rs v Dead)
  unfolding evict_answer
  evict_decided = rw (← pl, ← read) is

  pub evicting_refused : (n ≡ 0 → ⊥) → Evicted header B v S rs S rs n 0
  evicting_refused z =
      record {
        answer = evict_decided;
        recorded = λ q. absurd (z q);
        nothing = λ _. refl;
        called =
            record {
              short = short_evicting;
              unchanged = λ _. record { slices = refl; records_too = refl };
              reached =
                  λ j s t r jb h st.
                  let e = evict_number_lem j s t r jb h st in
                  (e ∙ answer_number j s evict_call, subst (λ (u : State). StateStands j u t S rs) (sym (after_refused j s evict_call (λ q. z (e ∙ q)))) st);
            };
        taken_away = λ j s t r jb h st. sym (value_refused j s evict_call (λ q. z (evict_number_lem j s t r jb h st ∙ q)));
      }

  module _ (z : n ≡ 0) (reg x : ℕ) (pg : reg ≡ reg_in a) (px : x ≡ reg) (before : LentState) (is-before : state_in before S.last ≡ S) (after : LentState)
      (tb : TakenBack v reg (lists_in B) before after)
      (y : Assignment) (py : y ≡ Unassigned (flag_in a)) (rs' : List Assignment) (pr : rs' ≡ set rs v y) where
    lost :
        (j : Job) (s : State) (t : StateBuffers) → Reached j s → JobStands j (lists_in B) → StateStands j s t S rs
        → IsNumber j v → (c : CandidateReg) → held_by s v ≡ some c
        → StateStands j (lose j v c.reg s) t (state_in after S.last) rs'
    lost j s t r jb st b c e =
        let g = good_reached j s r in
        let a-is = read_record B v S rs a read j s t g jb st b ∙ held_record j s g v c e in
        let stays : T (not (is_left_over s v)) = subst (λ (l : Bool). T (not l)) (sym (holder_stays j s g v c e)) tt in
        record {
          stands =
              record {
                moves =
                    tb.reached j s t r (evict_reads j B jb) (subst (λ (u : StateBuffers). Moves j s t u.ends u.rests u.queue) (sym is-before) st.stands.moves) c e (sym (pg ∙ ap reg_in a-is));
                last_is = st.stands.last_is ∙ ap (λ (l : List ℕ). l ++ t.last) (sym (lose_last j v c.reg s));
              };
          records_are =
              pr
              ∙ ap (λ (l : List Assignment). set l v y) st.records_are
              ∙ ap (set (records s) v) (py ∙ ap (λ (b : Assignment). Unassigned (flag_in b)) a-is)
              ∙ sym (lose_records j s g v b c.reg stays);
        }

    pub evicting_done : Evicted header B v S rs (state_in after S.last) rs' n x
    unfolding carried_out answer_of
    evicting_done =
        record {
          answer = evict_decided;
          recorded = λ _. (pr ∙ ap (set rs v) (py ∙ ap (λ (b : Assignment). Unassigned (flag_in b)) read), px ∙ pg ∙ ap reg_in read);
          nothing = λ y. absurd (y z);
          called =
              record {
                short = short_evicting;
                unchanged = λ y. absurd (y z);
                reached =
                    λ j s t r jb h st.
                    let q = evictable j s t r jb h st z in
                    let k = (evicting_accepted j s (sizes_of B S) v).0 q in
                    let c = is_some_lem (held_by s v) k.assigned in (
                      evict_number_lem j s t r jb h st ∙ answer_number j s evict_call,
                      subst (λ (u : State). StateStands j u t (state_in after S.last) rs')
                          (sym (after_accepted j s evict_call q ∙ evict_held j s v c.0 c.1))
                          (lost j s t r jb st k.known c.0 c.1),
                    );
              };
          taken_away =
              λ j s t r jb h st.
              let g = good_reached j s r in
              let q = evictable j s t r jb h st z in
              let k = (evicting_accepted j s (sizes_of B S) v).0 q in
              rw q (px ∙ pg ∙ ap reg_in (read_record B v S rs a read j s t g jb st k.known) ∙ (held_is j s g v).1);
        }

-- a buffer is short
pub evicting_short :
    (header : JobHeader) (B : JobSlices) (v : ℕ) (S : StateBuffers) (rs : List Assignment) (a : Assignment)
    → a ≡ get_or rs v Dead → short_buffer stage_limits (sizes_of B S) ≡ true → Evicted header B v S rs S rs 15 0
evicting_short header B v S rs a read e =
    evicting_refused header B v S rs a read true (sym e) 15 (sym (refused_first 15 true _ refl)) (λ q. omega (arith, q))
