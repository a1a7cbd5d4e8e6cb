-- A run as a call: refused 15 it changes nothing, and else it is the rules' run. Assumes nothing.
use Prim.Native.Nat.{ℕ, ◌≤◌}
use native.Mathlib.Omega.{arith}
use mathlib.Core.Path.{◌≡◌, refl, sym, ap, ◌∙◌, subst}
use mathlib.Core.List.{List, map}
use mathlib.Core.Bool.{Bool, true, false}
use lib.ListN.{length}
use lib.Seq.{sets}
use Rattle.reg_matrix.specs.Refusals.{refusal, short_buffer}
use Rattle.job.specs.Model.{Job}
use Rattle.job.specs.Layout.{JobSlices, lists_in}
use Rattle.allocator.specs.declared.Assignment.{Assignment}
use Rattle.allocator.specs.Layout.{StateBuffers, stage_limits}
use Rattle.allocator.specs.State.{State}
use Rattle.allocator.specs.Calls.{refusal_of, carried_out, after, answer_of}
use Rattle.allocator.specs.Reached.{Reached}
use Rattle.record_words.specs.Words.{record_word, records_in, AllPlain, WordsOf}
use Rattle.record_words.proofs.WordLaws.{stored_words}
use Rattle.record_words.proofs.PlainRecords.{plain_records, records_length}
use Rattle.moves.specs.Standing.{JobStands}
use Rattle.run_loop.specs.declared.RunEnd.{RunEnd}
use Rattle.run_loop.specs.Running.{ending_number, LentTo, RunMade}
use Rattle.calls.specs.Calling.{sizes_of, StateStands, RunCalled}

module _ (B : JobSlices) (budget : ℕ) (S : StateBuffers) (rs : List Assignment) where
  pub run_short_lem : short_buffer stage_limits (sizes_of B S) ≡ true → RunCalled B budget S rs S rs 15 0 0
  unfolding after answer_of refusal_of refusal
  run_short_lem e =
      record {
        nothing = λ n. (refl, refl);
        called =
            λ header.
            record {
              short = λ s. refl;
              unchanged = λ n. record { slices = refl; records_too = refl };
              reached = λ j s t reach job head st. (rw e, rw e st);
            };
        ended_so = λ j s t reach job st z. absurd (omega (arith, z));
      }

  pub run_carried :
      (S' : StateBuffers) (rs' : List Assignment) (W₀ W W' : List ℕ) (r : RunEnd) (ending : ℕ)
      → short_buffer stage_limits (sizes_of B S) ≡ false
      → length W₀ ≡ 512
      → W ≡ sets W₀ 0 (map record_word rs)
      → (AllPlain rs → 512 ≤ length W₀ → records_in W ≡ rs)
      → RunMade budget (lists_in B) S W S' W' r
      → ending ≡ ending_number r.ending
      → rs' ≡ records_in W'
      → RunCalled B budget S rs S' rs' 0 ending r.dequeues
  unfolding after answer_of refusal_of refusal carried_out
  run_carried S' rs' W₀ W W' r ending e long st back done pe pr =
      record {
        nothing = λ n. absurd (n refl);
        called =
            λ header.
            record {
              short = λ s. absurd (not_both (sym e ∙ s));
              unchanged = λ n. absurd (n refl);
              reached =
                  λ j s t reach job head st.
                  let d = done.made j s t (lent_so j s t reach job st) in
                  (rw e, rw e (record { stands = d.0; records_are = pr ∙ d.1.read_so }));
            };
        ended_so =
            λ j s t reach job st z.
            let d = done.made j s t (lent_so j s t reach job st) in
            (pe ∙ ap ending_number d.2, d.3);
      }
    where
      not_both : false ≡ true → ⊥
      not_both q = subst (λ (b : Bool). elim b as (λ x. Type 0) [ true ↦ ⊥ | false ↦ ℕ ]) q 0

      lent_so : (j : Job) (s : State) (t : StateBuffers) → Reached j s → JobStands j (lists_in B) → StateStands j s t S rs → LentTo j s t (lists_in B) S W
      lent_so j s t reach job h =
          record {
            reached = reach;
            job_stands = job;
            stands = h.stands;
            records_are =
                subst (λ (l : List Assignment). WordsOf l W) h.records_are
                (stored_words rs W₀ W (ap length h.records_are ∙ records_length s) (omega (arith, long)) st back (rw h.records_are (plain_records j s reach)) long);
          }
