-- Calls whose records stand in lent words: what a call over the records that are read answers and leaves is what the definitions say of the words.
-- Assumes nothing.
use Prim.Native.Nat.{ℕ, ◌≤◌}
use mathlib.Core.Path.{◌≡◌, refl, sym, ap, ◌∙◌, subst}
use mathlib.Core.List.{List}
use mathlib.Core.Bool.{Bool, true, false, ◌||◌}
use lib.Dec.{T, ltb}
use lib.ListN.{length, drop}
use borrow.Author.Tests.{ltb-false}
use Rattle.reg_matrix.specs.Refusals.{short_buffer}
use Rattle.job.specs.Model.{Job}
use Rattle.job.specs.Layout.{JobSlices}
use Rattle.allocator.specs.declared.Assignment.{Assignment}
use Rattle.allocator.specs.State.{State}
use Rattle.allocator.specs.Layout.{StateBuffers, stage_limits}
use Rattle.allocator.specs.Calls.{Call, after}
use Rattle.allocator.proofs.Good.{reached_after}
use Rattle.calls.specs.Calling as calling
use Rattle.calls.specs.Calling.{sizes_of, StateStands}
use Rattle.record_words.specs.Words.{records_in, AllPlain}
use Rattle.record_words.proofs.PlainRecords.{plain_records}
use Rattle.words.specs.Words.{header_in, words_short}
use Rattle.pezhkadu.specs.Calling.{Called}

pub not_both : false ≡ true → ⊥
not_both q = subst (λ (b : Bool). T (elim b as (λ x. Bool) [ true ↦ false | false ↦ true ])) q tt

-- the words that are long enough
pub long_both : (head ws : List ℕ) → words_short head ws ≡ false → (8 ≤ length head) × (512 ≤ length ws)
long_both head ws e = go (ltb (length head) 8) (ltb (length ws) 512) refl refl e
  where
    go : (a b : Bool) → ltb (length head) 8 ≡ a → ltb (length ws) 512 ≡ b → (a || b) ≡ false → (8 ≤ length head) × (512 ≤ length ws)
    go true b ea eb f = absurd (not_both (sym f))
    go false true ea eb f = absurd (not_both (sym f))
    go false false ea eb f = (ltb-false (length head) 8 ea, ltb-false (length ws) 512 eb)

-- ---- one call

module _ (own : Bool) (head : List ℕ) (B : JobSlices) (c : Call) (S : StateBuffers) (ws : List ℕ) where
  -- firmware's own words are short
  pub own_short : own ≡ true → Called own head B c S ws S ws 15
  own_short e =
      record {
        short = λ s. refl;
        unchanged = λ n. (refl, refl);
        behind = refl;
        reached = λ f. absurd (not_both (sym f ∙ e));
      }

  module _ (rs rs' : List Assignment) (S' : StateBuffers) (m : ℕ) (long : own ≡ false) (read : rs ≡ records_in ws) (d : calling.Called (header_in head) B c S rs S' rs' m) where
    short_first : (own || short_buffer stage_limits (sizes_of B S)) ≡ true → m ≡ 15
    short_first e = d.short (sym (ap (λ (b : Bool). b || short_buffer stage_limits (sizes_of B S)) long) ∙ e)

    stands : (j : Job) (s : State) (t : StateBuffers) → StateStands j s t S (records_in ws) → StateStands j s t S rs
    stands j s t st = subst (λ (x : List Assignment). StateStands j s t S x) (sym read) st

    -- refused, nothing is stored
    pub call_refused : (m ≡ 0 → ⊥) → Called own head B c S ws S' ws m
    call_refused z =
        let u = d.unchanged z in
        record {
          short = short_first;
          unchanged = λ n. (u.slices, refl);
          behind = refl;
          reached =
              λ f j s t reach job h st.
              let a = d.reached j s t reach job h (stands j s t st) in
              (a.0, record { stands = a.1.stands; records_are = sym read ∙ sym u.records_too ∙ a.1.records_are });
        }

    -- carried out, the records are stored
    pub call_done : m ≡ 0 → (ws' : List ℕ) → drop 512 ws' ≡ drop 512 ws → (AllPlain rs' → records_in ws' ≡ rs') → Called own head B c S ws S' ws' 0
    call_done z ws' e back =
        record {
          short = λ s. sym z ∙ short_first s;
          unchanged = λ k. absurd (k refl);
          behind = e;
          reached =
              λ f j s t reach job h st.
              let a = d.reached j s t reach job h (stands j s t st) in
              let plain = subst AllPlain (sym a.1.records_are) (plain_records j (after j s c) (reached_after j s reach c)) in
              (sym z ∙ a.0, record { stands = a.1.stands; records_are = back plain ∙ a.1.records_are });
        }
