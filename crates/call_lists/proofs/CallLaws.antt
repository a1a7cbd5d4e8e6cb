-- One call of a list: a placement, an eviction or a run, with its three numbers. Assumes nothing.
use Prim.Native.Nat.{ℕ}
use native.Mathlib.Omega.{arith}
use mathlib.Core.Path.{◌≡◌, refl, sym, ap, ◌∙◌}
use mathlib.Core.List.{List}
use mathlib.Core.Option.{Option, none, some}
use mathlib.Core.Bool.{Bool, true, false, cond, not, ◌||◌}
use lib.Dec.{leb, eqb}
use lib.Ieee.{binary32, of_bits}
use lib.ListN.{length}
use borrow.Author.Tests.{eq-eqb, ne_eqb}
use Rattle.reg_matrix.specs.Lists.{is_nil}
use Rattle.reg_matrix.specs.Refusals.{refusal, short_buffer}
use Rattle.table_words.specs.Segments.{refusal_number as number_of}
use Rattle.job.specs.Model.{Job}
use Rattle.job.specs.Layout.{JobSlices}
use Rattle.job.specs.declared.JobHeader.{JobHeader}
use Rattle.allocator.specs.declared.Assignment.{Assignment}
use Rattle.allocator.specs.State.{State, is_unassigned, check_of}
use Rattle.allocator.specs.Layout.{StateBuffers, stage_limits}
use Rattle.allocator.specs.Run.{run}
use Rattle.allocator.specs.Calls.{placing, evicting, running, unknown_number, named, bad_weight, refusal_of, accepted, or_refused, answer_of}
use Rattle.run_loop.specs.Running.{ending_number}
use Rattle.calls.specs.Calling.{refusal_number, value_number, sizes_of, Placed, Evicted, RunCalled}
use Rattle.call_lists.specs.declared.lists.ListedCall.TheVariants.{Place, Evict, Run}
use Rattle.call_lists.specs.Listed.{call_in, word_number, CallAnswered}

-- ---- what a refusal's number is

-- no test of a placement has the number 0
placing_number : (j : Job) (s : State) (l : List ℕ) (v r bits : ℕ) → (m : ℕ) → refusal_of j s (placing l v r (of_bits binary32 bits)) ≡ some m → m ≡ 0 → ⊥
unfolding refusal_of refusal
placing_number j s l v r bits m e z =
    go (short_buffer stage_limits l) (unknown_number j v || (leb (length j.regs) r || not (named j v r))) (bad_weight (of_bits binary32 bits)) (not (is_unassigned s v))
    (not (is_nil (check_of j s v r))) e
  where
    some_is : (a b : ℕ) → some a ≡ some b → a ≡ b
    some_is a b q = ap number_of q

    go : (a b c d f : Bool) → cond a (some 15) (cond b (some 8) (cond c (some 9) (cond d (some 13) (cond f (some 14) none)))) ≡ some m → ⊥
    go true b c d f q = let x = some_is 15 m q in omega (arith, x, z)
    go false true c d f q = let x = some_is 8 m q in omega (arith, x, z)
    go false false true d f q = let x = some_is 9 m q in omega (arith, x, z)
    go false false false true f q = let x = some_is 13 m q in omega (arith, x, z)
    go false false false false true q = let x = some_is 14 m q in omega (arith, x, z)
    go false false false false false q = let x : ◌≡◌ {A = ℕ} 1 0 = ap is_none q in omega (arith, x)
      where
        is_none : Option ℕ → ℕ
        is_none none = 1
        is_none (some x) = 0

-- the word's number of a placement and of an eviction is 0
word_placing : (j : Job) (s : State) (l : List ℕ) (v r bits : ℕ) → ◌≡◌ {A = ℕ} 0 (word_number (answer_of j s (placing l v r (of_bits binary32 bits))))
unfolding answer_of
word_placing j s l v r bits = go (refusal_of j s (placing l v r (of_bits binary32 bits)))
  where
    go : (o : Option ℕ) → ◌≡◌ {A = ℕ} 0 (word_number (or_refused o (accepted j s (placing l v r (of_bits binary32 bits)))))
    go none = refl
    go (some n) = refl

word_evicting : (j : Job) (s : State) (l : List ℕ) (v : ℕ) → ◌≡◌ {A = ℕ} 0 (word_number (answer_of j s (evicting l v)))
unfolding answer_of
word_evicting j s l v = go (refusal_of j s (evicting l v))
  where
    go : (o : Option ℕ) → ◌≡◌ {A = ℕ} 0 (word_number (or_refused o (accepted j s (evicting l v))))
    go none = refl
    go (some n) = refl

-- the register of a placement, by its refusal's number
value_placing :
    (j : Job) (s : State) (l : List ℕ) (v r bits n : ℕ)
    → n ≡ refusal_number (answer_of j s (placing l v r (of_bits binary32 bits)))
    → cond (eqb n 0) r 0 ≡ value_number (answer_of j s (placing l v r (of_bits binary32 bits)))
unfolding answer_of
value_placing j s l v r bits n is = go (refusal_of j s (placing l v r (of_bits binary32 bits))) refl is
  where
    go : (o : Option ℕ) → refusal_of j s (placing l v r (of_bits binary32 bits)) ≡ o
        → n ≡ refusal_number (or_refused o (accepted j s (placing l v r (of_bits binary32 bits))))
        → cond (eqb n 0) r 0 ≡ value_number (or_refused o (accepted j s (placing l v r (of_bits binary32 bits))))
    go none p q = rw (eq-eqb n 0 q)
    go (some m) p q = rw (ne_eqb n 0 (λ z. placing_number j s l v r bits m p (sym q ∙ z)))

-- the numbers of a run, by its refusal's number
numbers_running :
    (j : Job) (s : State) (l : List ℕ) (b n e x : ℕ)
    → n ≡ refusal_number (answer_of j s (running l b))
    → ((n ≡ 0 → ⊥) → (e ≡ 0) × (x ≡ 0))
    → (n ≡ 0 → (e ≡ ending_number (run j b s).ending) × (x ≡ (run j b s).dequeues))
    → (e ≡ word_number (answer_of j s (running l b))) × (x ≡ value_number (answer_of j s (running l b)))
unfolding answer_of refusal_of refusal
numbers_running j s l b n e x is nothing so = go (short_buffer stage_limits l) is
  where
    go : (o : Bool)
        → n ≡ refusal_number (or_refused (cond o (some 15) none) (accepted j s (running l b)))
        → (e ≡ word_number (or_refused (cond o (some 15) none) (accepted j s (running l b))))
        × (x ≡ value_number (or_refused (cond o (some 15) none) (accepted j s (running l b))))
    go true q = nothing (λ z. let w = sym q ∙ z in omega (arith, w))
    go false q = so q

-- ---- the three kinds

module _ (header : JobHeader) (B : JobSlices) (S : StateBuffers) (rs : List Assignment) (S' : StateBuffers) (rs' : List Assignment) where
  pub placed_so :
      (v r w n : ℕ) → Placed header B v r w S rs S' rs' n
      → (x : ℕ) → x ≡ cond (eqb n 0) r 0
      → CallAnswered header B (call_in (sizes_of B S) (Place (record { v = v; reg = r; weight = w }))) S rs S' rs' n 0 x
  placed_so v r w n p x px =
      record {
        called = p.called;
        numbers =
            λ j s t reach job head st.
            (word_placing j s (sizes_of B S) v r w, px ∙ value_placing j s (sizes_of B S) v r w n (p.called.reached j s t reach job head st).0);
      }

  pub evicted_so : (v n x : ℕ) → Evicted header B v S rs S' rs' n x → CallAnswered header B (call_in (sizes_of B S) (Evict v)) S rs S' rs' n 0 x
  evicted_so v n x p =
      record {
        called = p.called;
        numbers = λ j s t reach job head st. (word_evicting j s (sizes_of B S) v, p.taken_away j s t reach job head st);
      }

  pub ran_so : (b n e x : ℕ) → RunCalled B b S rs S' rs' n e x → CallAnswered header B (call_in (sizes_of B S) (Run b)) S rs S' rs' n e x
  ran_so b n e x p =
      record {
        called = p.called header;
        numbers =
            λ j s t reach job head st.
            numbers_running j s (sizes_of B S) b n e x ((p.called header).reached j s t reach job head st).0 p.nothing (p.ended_so j s t reach job st);
      }
