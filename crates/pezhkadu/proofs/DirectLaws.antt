-- Direct calls whose header and records stand in lent words. A number that does not fit its type is cut to the greatest that does: no job knows
-- either, so both calls are refused, with the same number. Assumes nothing.
use Prim.Native.Nat.{ℕ, ◌≤◌, ◌<◌}
use native.Mathlib.Omega.{arith}
use mathlib.Core.Path.{◌≡◌, refl, sym, ap, ◌∙◌, subst}
use mathlib.Core.List.{List}
use mathlib.Core.Option.{Option, some}
use mathlib.Core.Bool.{Bool, true, false, cond, ◌||◌}
use lib.Dec.{ltb, leb}
use lib.Ieee.{binary32, of_bits}
use lib.ListN.{length, set, drop}
use borrow.Author.Tests.{lt-ltb, le-ltb, le-leb, ltb-true, ltb-false}
use Rattle.reg_matrix.specs.Lists.{is_nil}
use Rattle.reg_matrix.specs.Refusals.{refusal, short_buffer}
use Rattle.job.specs.Model.{Job}
use Rattle.job.specs.Layout.{JobSlices}
use Rattle.job.specs.declared.JobHeader.{JobHeader}
use Rattle.allocator.specs.declared.Assignment.{Assignment}
use Rattle.allocator.specs.State.{State, record_of, check_of}
use Rattle.allocator.specs.Layout.{StateBuffers, stage_limits}
use Rattle.allocator.specs.Calls.{Call, placing, evicting, named, refusal_of, unless_refused, carried_out, after, or_refused, accepted, answer_of}
use Rattle.allocator.specs.Reached.{Reached}
use Rattle.allocator.proofs.Good.{Good, good_reached}
use Rattle.call_tests.specs.Testing.{unknown_in, place_tests, evict_tests}
use Rattle.calls.specs.Calling as calling
use Rattle.calls.specs.Calling.{sizes_of, refusal_number, value_number, StateStands}
use Rattle.call_tests.proofs.RefusalLaws.{placing_tests, evicting_tests}
use Rattle.record_words.specs.Words.{records_in, AllPlain}
use Rattle.narrow.specs.Cut.{cut}
use Rattle.words.specs.Words.{header_in, words_short}
use Rattle.pezhkadu.specs.Calling.{Called, evict_short, EvictCalled}
use Rattle.narrow.proofs.CutLaws.{uncut}
use Rattle.pezhkadu.proofs.CallLaws.{long_both, own_short, call_refused, call_done}

-- ---- cut numbers

-- what is at least k is so when it is cut
cut_above : (top n k : ℕ) → k ≤ top → k ≤ n → k ≤ cut top n
unfolding cut
cut_above top n k h l = go (ltb n top)
  where
    go : (b : Bool) → k ≤ cond b n top
    go true = l
    go false = h

-- two answers of the tests that are the same refusal
record Both (o o' : Option ℕ) : Type 0 where
  number : ℕ
  first : o ≡ some number
  second : o' ≡ some number

both_8 :
    (short : Bool) (bits bits' : ℕ) (a a' : Assignment) (u u' c c' : Bool) → u ≡ true → u' ≡ true
    → Both (refusal (place_tests short u bits a c)) (refusal (place_tests short u' bits' a' c'))
unfolding refusal
both_8 true bits bits' a a' u u' c c' e e' = record { number = 15; first = refl; second = refl }
both_8 false bits bits' a a' u u' c c' e e' = record { number = 8; first = rw e refl; second = rw e' refl }

both_9 :
    (short u : Bool) (bits bits' : ℕ) (a a' : Assignment) (c c' : Bool) → leb 0x7F80_0000 bits ≡ true → leb 0x7F80_0000 bits' ≡ true
    → Both (refusal (place_tests short u bits a c)) (refusal (place_tests short u bits' a' c'))
unfolding refusal
both_9 true u bits bits' a a' c c' e e' = record { number = 15; first = refl; second = refl }
both_9 false true bits bits' a a' c c' e e' = record { number = 8; first = refl; second = refl }
both_9 false false bits bits' a a' c c' e e' = record { number = 9; first = rw e refl; second = rw e' refl }

both_evict_8 : (short : Bool) (a a' : Assignment) (u u' : Bool) → u ≡ true → u' ≡ true → Both (refusal (evict_tests short u a)) (refusal (evict_tests short u' a'))
unfolding refusal
both_evict_8 true a a' u u' e e' = record { number = 15; first = refl; second = refl }
both_evict_8 false a a' u u' e e' = record { number = 8; first = rw e refl; second = rw e' refl }

or-true : (a b : Bool) → b ≡ true → (a || b) ≡ true
or-true true b e = refl
or-true false b e = e

-- ---- calls that do the same

pub record Same (j : Job) (s : State) (c c' : Call) : Type 0 where
  pub after_same : after j s c ≡ after j s c'
  pub answer_same : answer_of j s c ≡ answer_of j s c'

same_refused : (j : Job) (s : State) (c c' : Call) → Both (refusal_of j s c) (refusal_of j s c') → Same j s c c'
unfolding after answer_of
same_refused j s c c' b =
    record {
      after_same =
          ap (λ (o : Option ℕ). unless_refused o s (carried_out j s c)) b.first
          ∙ sym (ap (λ (o : Option ℕ). unless_refused o s (carried_out j s c')) b.second);
      answer_same =
          ap (λ (o : Option ℕ). or_refused o (accepted j s c)) b.first
          ∙ sym (ap (λ (o : Option ℕ). or_refused o (accepted j s c')) b.second);
    }

same_itself : (j : Job) (s : State) (c c' : Call) → c ≡ c' → Same j s c c'
same_itself j s c c' e = record { after_same = ap (after j s) e; answer_same = ap (answer_of j s) e }

module _ (j : Job) (s : State) (reach : Reached j s) (sizes : List ℕ) where
  good : Good j s
  good = good_reached j s reach

  unknown_number_lem : (v r : ℕ) (b : Bool) → 512 ≤ v → unknown_in (length j.virt_regs) (length j.regs) v r b ≡ true
  unknown_number_lem v r b h = rw (le-leb (length j.virt_regs) v (omega (arith, h, good.premises.few_numbers))) refl

  unknown_reg : (v r : ℕ) (b : Bool) → 64 ≤ r → unknown_in (length j.virt_regs) (length j.regs) v r b ≡ true
  unknown_reg v r b h =
      or-true (leb (length j.virt_regs) v) _ (rw (le-leb (length j.regs) r (omega (arith, h, good.premises.few_regs))) refl)

  -- what the tests of a placement of v in r answer, by their bits
  abbrev tested : ℕ → ℕ → ℕ → Option ℕ
  tested v r bits =
      refusal
      (place_tests (short_buffer stage_limits sizes) (unknown_in (length j.virt_regs) (length j.regs) v r (named j v r)) bits (record_of s v)
      (is_nil (check_of j s v r)))

  -- the call
  abbrev at : ℕ → ℕ → ℕ → Call
  at v r bits = placing sizes v r (of_bits binary32 bits)

  tests : (v r bits : ℕ) → tested v r bits ≡ refusal_of j s (at v r bits)
  tests v r bits =
      placing_tests j s good sizes v (short_buffer stage_limits sizes) refl (record_of s v) (λ k. refl) r bits (named j v r) (is_nil (check_of j s v r)) (λ k. refl)
      (λ k l. refl)

  by_tests : (v v' r r' bits bits' : ℕ) → Both (tested v r bits) (tested v' r' bits') → Same j s (at v r bits) (at v' r' bits')
  by_tests v v' r r' bits bits' b =
      same_refused j s _ _ (record { number = b.number; first = sym (tests v r bits) ∙ b.first; second = sym (tests v' r' bits') ∙ b.second })

  -- both name a number or a register that no job knows
  both_unknown :
      (v v' r r' bits bits' : ℕ)
      → unknown_in (length j.virt_regs) (length j.regs) v r (named j v r) ≡ true
      → unknown_in (length j.virt_regs) (length j.regs) v' r' (named j v' r') ≡ true
      → Same j s (at v r bits) (at v' r' bits')
  both_unknown v v' r r' bits bits' e e' =
      by_tests v v' r r' bits bits'
      (both_8 (short_buffer stage_limits sizes) bits bits' (record_of s v) (record_of s v') (unknown_in (length j.virt_regs) (length j.regs) v r (named j v r))
      (unknown_in (length j.virt_regs) (length j.regs) v' r' (named j v' r')) (is_nil (check_of j s v r)) (is_nil (check_of j s v' r')) e e')

  -- both weights are infinite, no number or signed
  both_bad : (v r bits bits' : ℕ) → leb 0x7F80_0000 bits ≡ true → leb 0x7F80_0000 bits' ≡ true → Same j s (at v r bits) (at v r bits')
  both_bad v r bits bits' e e' =
      by_tests v v r r bits bits'
      (both_9 (short_buffer stage_limits sizes) (unknown_in (length j.virt_regs) (length j.regs) v r (named j v r)) bits bits' (record_of s v) (record_of s v)
      (is_nil (check_of j s v r)) (is_nil (check_of j s v r)) e e')

  pub same_placing : (v r bits : ℕ) → Same j s (at (cut 0xFFFF v) (cut 0xFF r) (cut 0xFFFF_FFFF bits)) (at v r bits)
  same_placing v r bits = by_number (ltb v 512) refl
    where
      by_bits : v < 512 → r < 64 → (b : Bool) → ltb bits 0x7F80_0000 ≡ b → Same j s (at (cut 0xFFFF v) (cut 0xFF r) (cut 0xFFFF_FFFF bits)) (at v r bits)
      by_bits hv hr true e =
          let h = ltb-true bits 0x7F80_0000 e in
          same_itself j s _ _
          (ap (λ (x : ℕ). at x (cut 0xFF r) (cut 0xFFFF_FFFF bits)) (sym (uncut 0xFFFF v (omega (arith, hv))))
          ∙ ap (λ (x : ℕ). at v x (cut 0xFFFF_FFFF bits)) (sym (uncut 0xFF r (omega (arith, hr))))
          ∙ ap (λ (x : ℕ). at v r x) (sym (uncut 0xFFFF_FFFF bits (omega (arith, h)))))
      by_bits hv hr false e =
          let h = ltb-false bits 0x7F80_0000 e in
          subst (λ (x : ℕ). Same j s (at x (cut 0xFF r) (cut 0xFFFF_FFFF bits)) (at v r bits)) (uncut 0xFFFF v (omega (arith, hv)))
          (subst (λ (x : ℕ). Same j s (at v x (cut 0xFFFF_FFFF bits)) (at v r bits)) (uncut 0xFF r (omega (arith, hr)))
          (both_bad v r (cut 0xFFFF_FFFF bits) bits
          (le-leb 0x7F80_0000 (cut 0xFFFF_FFFF bits) (cut_above 0xFFFF_FFFF bits 0x7F80_0000 (omega arith) h)) (le-leb 0x7F80_0000 bits h)))

      by_reg : v < 512 → (b : Bool) → ltb r 64 ≡ b → Same j s (at (cut 0xFFFF v) (cut 0xFF r) (cut 0xFFFF_FFFF bits)) (at v r bits)
      by_reg hv true e = by_bits hv (ltb-true r 64 e) (ltb bits 0x7F80_0000) refl
      by_reg hv false e =
          let h = ltb-false r 64 e in
          both_unknown (cut 0xFFFF v) v (cut 0xFF r) r (cut 0xFFFF_FFFF bits) bits
          (unknown_reg (cut 0xFFFF v) (cut 0xFF r) (named j (cut 0xFFFF v) (cut 0xFF r)) (cut_above 0xFF r 64 (omega arith) h)) (unknown_reg v r (named j v r) h)

      by_number : (b : Bool) → ltb v 512 ≡ b → Same j s (at (cut 0xFFFF v) (cut 0xFF r) (cut 0xFFFF_FFFF bits)) (at v r bits)
      by_number true e = by_reg (ltb-true v 512 e) (ltb r 64) refl
      by_number false e =
          let h = ltb-false v 512 e in
          both_unknown (cut 0xFFFF v) v (cut 0xFF r) r (cut 0xFFFF_FFFF bits) bits
          (unknown_number_lem (cut 0xFFFF v) (cut 0xFF r) (named j (cut 0xFFFF v) (cut 0xFF r)) (cut_above 0xFFFF v 512 (omega arith) h))
          (unknown_number_lem v r (named j v r) h)

  evict_tests_lem : (v : ℕ) → refusal (evict_tests (short_buffer stage_limits sizes) (leb (length j.virt_regs) v) (record_of s v)) ≡ refusal_of j s (evicting sizes v)
  evict_tests_lem v = evicting_tests j s good sizes v (short_buffer stage_limits sizes) refl (record_of s v) (λ k. refl)

  pub same_evicting : (v : ℕ) → Same j s (evicting sizes (cut 0xFFFF v)) (evicting sizes v)
  same_evicting v = go (ltb v 512) refl
    where
      go : (b : Bool) → ltb v 512 ≡ b → Same j s (evicting sizes (cut 0xFFFF v)) (evicting sizes v)
      go true e = let h = ltb-true v 512 e in same_itself j s _ _ (ap (evicting sizes) (sym (uncut 0xFFFF v (omega (arith, h)))))
      go false e =
          let h = ltb-false v 512 e in
          let h' = cut_above 0xFFFF v 512 (omega arith) h in
          let few = good.premises.few_numbers in
          let b =
          both_evict_8 (short_buffer stage_limits sizes) (record_of s (cut 0xFFFF v)) (record_of s v) _ _
          (le-leb (length j.virt_regs) (cut 0xFFFF v) (omega (arith, h', few))) (le-leb (length j.virt_regs) v (omega (arith, h, few))) in
          same_refused j s _ _ (record { number = b.number; first = sym (evict_tests_lem (cut 0xFFFF v)) ∙ b.first; second = sym (evict_tests_lem v) ∙ b.second })

-- a call that met its contract met that of one that does the same
recalled :
    (header : JobHeader) (B : JobSlices) (c c' : Call) (S : StateBuffers) (rs : List Assignment) (S' : StateBuffers) (rs' : List Assignment) (n : ℕ)
    → ((j : Job) (s : State) → Reached j s → Same j s c c')
    → calling.Called header B c S rs S' rs' n
    → calling.Called header B c' S rs S' rs' n
recalled header B c c' S rs S' rs' n same d =
    record {
      short = d.short;
      unchanged = d.unchanged;
      reached =
          λ j s t reach job h st.
          let a = d.reached j s t reach job h st in
          let e = same j s reach in
          (a.0 ∙ ap refusal_number e.answer_same, subst (λ (x : State). StateStands j x t S' rs') e.after_same a.1);
    }

-- ---- a placement

module _ (head : List ℕ) (B : JobSlices) (v r bits : ℕ) (S : StateBuffers) (ws : List ℕ) where
  -- the call
  abbrev asked : Call
  asked = placing (sizes_of B S) v r (of_bits binary32 bits)

  pub assign_short : words_short head ws ≡ true → Called (words_short head ws) head B asked S ws S ws 15
  assign_short e = own_short _ head B asked S ws e

  module _
      (long : words_short head ws ≡ false) (rs' : List Assignment) (S' : StateBuffers) (m : ℕ) (header : JobHeader) (v' r' bits' : ℕ)
      (known : header ≡ header_in head) (ev : v' ≡ cut 0xFFFF v) (er : r' ≡ cut 0xFF r) (eb : bits' ≡ cut 0xFFFF_FFFF bits)
      (d : calling.Placed header B v' r' bits' S (records_in ws) S' rs' m) where
    abbrev rs : List Assignment
    rs = records_in ws

    called : calling.Called (header_in head) B asked S rs S' rs' m
    called =
        recalled (header_in head) B (placing (sizes_of B S) (cut 0xFFFF v) (cut 0xFF r) (of_bits binary32 (cut 0xFFFF_FFFF bits))) asked S rs S' rs' m
        (λ j s reach. same_placing j s reach (sizes_of B S) v r bits)
        (subst (λ (x : JobHeader). calling.Called x B (placing (sizes_of B S) (cut 0xFFFF v) (cut 0xFF r) (of_bits binary32 (cut 0xFFFF_FFFF bits))) S rs S' rs' m) known
        (subst (λ (x : ℕ). calling.Called header B (placing (sizes_of B S) x (cut 0xFF r) (of_bits binary32 (cut 0xFFFF_FFFF bits))) S rs S' rs' m) ev
        (subst (λ (x : ℕ). calling.Called header B (placing (sizes_of B S) v' x (of_bits binary32 (cut 0xFFFF_FFFF bits))) S rs S' rs' m) er
        (subst (λ (x : ℕ). calling.Called header B (placing (sizes_of B S) v' r' (of_bits binary32 x)) S rs S' rs' m) eb d.called))))

    pub assign_refused : (m ≡ 0 → ⊥) → Called (words_short head ws) head B asked S ws S' ws m
    assign_refused z = call_refused _ head B asked S ws rs rs' S' m long refl called z

    pub assign_done :
        m ≡ 0
        → (ws' : List ℕ)
        → (drop 512 ws' ≡ drop 512 ws) × (AllPlain rs' → 512 ≤ length ws → records_in ws' ≡ rs')
        → Called (words_short head ws) head B asked S ws S' ws' 0
    assign_done z ws' p = call_done _ head B asked S ws rs rs' S' m long refl called z ws' p.0 (λ q. p.1 q (long_both head ws long).1)

-- ---- an eviction

module _ (head : List ℕ) (B : JobSlices) (v : ℕ) (S : StateBuffers) (ws answer : List ℕ) where
  abbrev sought : Call
  sought = evicting (sizes_of B S) v

  short_is : (a b : Bool) → words_short head ws ≡ a → ltb (length answer) 1 ≡ b → evict_short head ws answer ≡ (a || b)
  short_is a b ea eb = rw (ea, eb) refl

  too_short : evict_short head ws answer ≡ true → EvictCalled head B v S ws answer S ws answer 15
  too_short e =
      record { called = own_short _ head B sought S ws e; no_answer = λ n. refl; answered = λ j s t reach job h st z. absurd (omega (arith, z)) }

  pub evict_words_short : words_short head ws ≡ true → EvictCalled head B v S ws answer S ws answer 15
  evict_words_short e = too_short (short_is _ _ e refl)

  pub evict_answer_short : words_short head ws ≡ false → length answer < 1 → EvictCalled head B v S ws answer S ws answer 15
  evict_answer_short e h = too_short (short_is _ _ e (lt-ltb _ _ h))

  module _
      (long : words_short head ws ≡ false) (o : 1 ≤ length answer) (rs' : List Assignment) (S' : StateBuffers) (m taken : ℕ) (header : JobHeader) (v' : ℕ)
      (known : header ≡ header_in head) (ev : v' ≡ cut 0xFFFF v)
      (d : calling.Evicted header B v' S (records_in ws) S' rs' m taken) where
    abbrev held : List Assignment
    held = records_in ws

    enough : evict_short head ws answer ≡ false
    enough = short_is _ _ long (le-ltb _ _ o)

    evict_called : calling.Called (header_in head) B sought S held S' rs' m
    evict_called =
        recalled (header_in head) B (evicting (sizes_of B S) (cut 0xFFFF v)) sought S held S' rs' m
        (λ j s reach. same_evicting j s reach (sizes_of B S) v)
        (subst (λ (x : JobHeader). calling.Called x B (evicting (sizes_of B S) (cut 0xFFFF v)) S held S' rs' m) known
        (subst (λ (x : ℕ). calling.Called header B (evicting (sizes_of B S) x) S held S' rs' m) ev d.called))

    pub evict_refused : (m ≡ 0 → ⊥) → EvictCalled head B v S ws answer S' ws answer m
    evict_refused z =
        record {
          called = call_refused _ head B sought S ws held rs' S' m enough refl evict_called z;
          no_answer = λ n. refl;
          answered = λ j s t reach job h st e. absurd (z e);
        }

    pub evict_done :
        m ≡ 0
        → (ws' : List ℕ)
        → (drop 512 ws' ≡ drop 512 ws) × (AllPlain rs' → 512 ≤ length ws → records_in ws' ≡ rs')
        → (answer' : List ℕ)
        → answer' ≡ set answer 0 taken
        → EvictCalled head B v S ws answer S' ws' answer' 0
    evict_done z ws' p answer' ea =
        record {
          called = call_done _ head B sought S ws held rs' S' m enough refl evict_called z ws' p.0 (λ q. p.1 q (long_both head ws long).1);
          no_answer = λ n. absurd (n refl);
          answered =
              λ j s t reach job h st y.
              let a = d.taken_away j s t reach job (known ∙ h) st in
              ea
              ∙ ap (set answer 0)
              (a
              ∙ ap (λ (x : ℕ). value_number (answer_of j s (evicting (sizes_of B S) x))) ev
              ∙ ap value_number (same_evicting j s reach (sizes_of B S) v).answer_same);
        }
