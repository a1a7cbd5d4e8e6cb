-- A run whose records stand in lent words. Assumes nothing.
use Prim.Native.Nat.{ℕ, ◌≤◌, ◌<◌}
use native.Mathlib.Omega.{arith}
use mathlib.Core.Path.{◌≡◌, refl, sym, ap, ◌∙◌, subst}
use mathlib.Core.List.{List, ◌++◌, map}
use mathlib.Core.Bool.{Bool, true, false, ◌||◌}
use lib.Dec.{ltb}
use lib.ListN.{length, set, take, drop}
use lib.Seq.{sets, drop_at}
use borrow.Author.Tests.{lt-ltb, le-ltb}
use Rattle.reg_matrix.specs.Refusals.{refusal, short_buffer}
use Rattle.job.specs.Model.{Job}
use Rattle.job.specs.Layout.{JobSlices, lists_in}
use Rattle.allocator.specs.declared.Assignment.{Assignment}
use Rattle.allocator.specs.State.{State}
use Rattle.allocator.specs.Layout.{StateBuffers, stage_limits}
use Rattle.allocator.specs.Calls.{refusal_of, carried_out, after, answer_of}
use Rattle.allocator.specs.Reached.{Reached}
use Rattle.record_words.specs.Words.{record_word, records_in, AllPlain, WordsOf}
use Rattle.record_words.proofs.WordLaws.{tail_kept, in_front, in_length, front_words}
use Rattle.record_words.proofs.PlainRecords.{plain_records}
use Rattle.moves.specs.Standing.{JobStands}
use Rattle.run_loop.specs.declared.RunEnd.{RunEnd}
use Rattle.run_loop.specs.Running.{ending_number, LentTo, RunMade}
use Rattle.calls.specs.Calling.{sizes_of, StateStands}
use Rattle.pezhkadu.specs.Calling.{RunCalled, run_short}
use Rattle.pezhkadu.proofs.CallLaws.{not_both, own_short}

module _ (B : JobSlices) (budget : ℕ) (S : StateBuffers) (ws answer : List ℕ) where
  too_short : run_short ws answer ≡ true → RunCalled B budget S ws answer S ws answer 15
  too_short e =
      record { called = λ head. own_short _ head B _ S ws e; no_answer = λ n. refl; answered = λ j s t reach job st z. absurd (omega (arith, z)) }

  pub records_short : length ws < 512 → RunCalled B budget S ws answer S ws answer 15
  records_short h = too_short (ap (λ (b : Bool). b || ltb (length answer) 2) (lt-ltb _ _ h))

  pub answer_short : 512 ≤ length ws → length answer < 2 → RunCalled B budget S ws answer S ws answer 15
  answer_short l h = too_short (ap (λ (b : Bool). b || ltb (length answer) 2) (le-ltb _ _ l) ∙ lt-ltb _ _ h)

  module _ (l : 512 ≤ length ws) (k : 2 ≤ length answer) where
    long : run_short ws answer ≡ false
    long = ap (λ (b : Bool). b || ltb (length answer) 2) (le-ltb _ _ l) ∙ le-ltb _ _ k

    pub run_short_lem : short_buffer stage_limits (sizes_of B S) ≡ true → RunCalled B budget S ws answer S ws answer 15
    unfolding after answer_of refusal_of refusal
    run_short_lem e =
        record {
          called =
              λ head.
              record {
                short = λ s. refl;
                unchanged = λ n. (refl, refl);
                behind = refl;
                reached = λ f j s t reach job h st. (rw e refl, rw e st);
              };
          no_answer = λ n. refl;
          answered = λ j s t reach job st z. absurd (omega (arith, z));
        }

    module _ (enough : short_buffer stage_limits (sizes_of B S) ≡ false) (ws₁ : List ℕ) (renewed : ws₁ ≡ sets ws 0 (map record_word (records_in ws)))
        (back : AllPlain (records_in ws) → 512 ≤ length ws → records_in ws₁ ≡ records_in ws)
        (W' : List ℕ) (S' : StateBuffers) (r : RunEnd) (d : RunMade budget (lists_in B) S (take 512 ws₁) S' W' r) (size : length W' ≡ 512) where
      lent_so : (j : Job) (s : State) (t : StateBuffers) → Reached j s → JobStands j (lists_in B) → StateStands j s t S (records_in ws) → LentTo j s t (lists_in B) S (take 512 ws₁)
      lent_so j s t reach job st =
          record {
            reached = reach;
            job_stands = job;
            stands = st.stands;
            records_are =
                subst (λ (rs : List Assignment). WordsOf rs (take 512 ws₁)) st.records_are
                (front_words (records_in ws) ws ws₁ (in_length ws) l renewed back (rw st.records_are (plain_records j s reach)));
          }

      pub run_done :
          (ws' answer₁ answer₂ : List ℕ) (ending : ℕ)
          → ws' ≡ W' ++ drop 512 ws₁
          → ending ≡ ending_number r.ending
          → answer₁ ≡ set answer 0 ending
          → answer₂ ≡ set answer₁ 1 r.dequeues
          → RunCalled B budget S ws answer S' ws' answer₂ 0
      unfolding after answer_of refusal_of refusal carried_out
      run_done ws' answer₁ answer₂ ending e pe e₁ e₂ =
          record {
            called =
                λ head.
                record {
                  short = λ s. absurd (not_both (sym (ap (λ (b : Bool). b || short_buffer stage_limits (sizes_of B S)) long ∙ enough) ∙ s));
                  unchanged = λ n. absurd (n refl);
                  behind = ap (drop 512) e ∙ drop_at W' (drop 512 ws₁) 512 size ∙ ap (drop 512) renewed ∙ tail_kept (records_in ws) ws (in_length ws) l;
                  reached =
                      λ f j s t reach job h st.
                      let a = d.made j s t (lent_so j s t reach job st) in
                      (rw enough refl, rw enough (record { stands = a.0; records_are = ap records_in e ∙ in_front W' (drop 512 ws₁) size ∙ a.1.read_so }));
                };
            no_answer = λ n. absurd (n refl);
            answered = λ j s t reach job st y.
                let a = d.made j s t (lent_so j s t reach job st) in
                rw (e₂, e₁, pe, a.2, a.3) refl;
          }
