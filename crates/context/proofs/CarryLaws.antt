-- A set of numbers evicted on a state that calls reach, one after another: the state of the rules stands in what is lent afterwards. Assumes nothing.
use Prim.Native.Nat.{ℕ, ◌+◌, ◌<◌, ◌≤◌}
use mathlib.Core.Path.{◌≡◌, refl, sym, ap, ◌∙◌, subst}
use mathlib.Core.List.{List}
use mathlib.Core.Bool.{Bool, true, false, not}
use lib.Dec.{T}
use lib.Ieee.{Float}
use lib.ListN.{get_or, set}
use Rattle.table_words.specs.declared.buffers.LentState.{LentState}
use Rattle.job.specs.Model.{Job}
use Rattle.job.specs.Layout.{JobBuffers}
use Rattle.allocator.specs.declared.Assignment.{Assignment}
use Rattle.allocator.specs.declared.Assignment.TheVariants.{Assigned as Holds, Unassigned, Dead}
use Rattle.allocator.specs.State.{State, record_of, records, lose}
use Rattle.allocator.specs.Order.{candidate}
use Rattle.allocator.specs.Dequeue.{evict_all}
use Rattle.allocator.specs.Layout.{StateBuffers}
use Rattle.allocator.specs.Reached.{Reached}
use Rattle.allocator.proofs.Weights.{plain_zero}
use Rattle.allocator.proofs.Good.{good_reached, holder_good, reached_evict}
use Rattle.allocator.proofs.Records.{assigned_held, not_assigned, holder_stays, lose_records}
use Rattle.record_words.specs.Words.{record_word, record_in, PlainRecord, WordsOf}
use Rattle.record_words.proofs.WordLaws.{word_read, word_set as record-set}
use Rattle.record_words.proofs.PlainRecords.{records_length}
use Rattle.stage.proofs.ReachedMoves.{evict_held, evict_nothing, evict_marked, marked_yes, marked_no, marked_end}
use Rattle.stage.proofs.ReachedSearch.{record_read}
use Rattle.decisions.specs.Deciding.{members}
use Rattle.moves.specs.Standing.{Moves}
use Rattle.moves.specs.Moving.{EvictReads, TakenBack}
use Rattle.context.specs.Carrying.{EvictedAll}

-- those below i are done: the state then is x, and evicting the others from i on gives what evicting all gives
pub record Onward (j : Job) (s : State) (t : StateBuffers) (i : ℕ) (gone : List Bool) (S' : LentState) (W' : List ℕ) : Type 0 where
  pub x : State
  pub reached : Reached j x
  pub moves : Moves j x t S'.ends.now S'.rests.now S'.queue.now
  pub records_are : WordsOf (records x) W'
  pub whole : evict_marked j gone i x i x ≡ evict_all j (members gone) s

pub record EvictedTo (i : ℕ) (gone : List Bool) (B : JobBuffers) (S : LentState) (W : List ℕ) (S' : LentState) (W' : List ℕ) : Type 0 where
  pub onward :
      (j : Job) (s : State) (t : StateBuffers)
      → Reached j s
      → EvictReads j B
      → Moves j s t S.ends.now S.rests.now S.queue.now
      → WordsOf (records s) W
      → Onward j s t i gone S' W'

module _ (gone : List Bool) (B : JobBuffers) (S : LentState) (W : List ℕ) where
  abbrev To : ℕ → LentState → List ℕ → Type 0
  To i S' W' = EvictedTo i gone B S W S' W'

  pub evict_start : To 0 S W
  unfolding members
  evict_start = record { onward = λ j s t reach e mv is. record { x = s; reached = reach; moves = mv; records_are = is; whole = refl } }

  module _ (i : ℕ) (S' : LentState) (W' : List ℕ) (so_far : To i S' W') where
    pub evict_end : 512 ≤ i → EvictedAll gone B S W S' W'
    evict_end h =
        record {
          reached =
              λ j s t reach e mv is.
              let o = so_far.onward j s t reach e mv is in
              let all : o.x ≡ evict_all j (members gone) s = marked_end j gone i o.x h ∙ o.whole in
              (subst (λ (x : State). Moves j x t S'.ends.now S'.rests.now S'.queue.now) all o.moves, subst (λ (x : State). WordsOf (records x) W') all o.records_are);
        }

    -- i is not of the set
    pub evict_pass : i < 512 → get_or gone i false ≡ false → To (i + 1) S' W'
    evict_pass l n =
        record {
          onward =
              λ j s t reach e mv is.
              let o = so_far.onward j s t reach e mv is in
              record { x = o.x; reached = o.reached; moves = o.moves; records_are = o.records_are; whole = marked_no j gone i o.x l n ∙ o.whole };
        }

    module _ (l : i < 512) (m : get_or gone i false ≡ true) (a : Assignment) (has : a ≡ record_in (get_or W' i 0)) where
      -- the record of i in a state whose records these are
      own : (x : State) → WordsOf (records x) W' → record_of x i ≡ a
      own x is = sym (record_read x Dead i l) ∙ sym (word_read is i l) ∙ sym has

      -- i holds nothing
      pub evict_idle : ((f : Bool) (r : ℕ) (w : Float) → a ≡ Holds f r w → ⊥) → To (i + 1) S' W'
      evict_idle n =
          record {
            onward =
                λ j s t reach e mv is.
                let o = so_far.onward j s t reach e mv is in
                let none-held = not_assigned j o.x (good_reached j o.x o.reached) i (λ f r w q. n f r w (sym (own o.x o.records_are) ∙ q)) in
                record {
                  x = o.x;
                  reached = o.reached;
                  moves = o.moves;
                  records_are = o.records_are;
                  whole =
                      ap (λ (y : State). evict_marked j gone i o.x (i + 1) y) (sym (evict_nothing j o.x i none-held))
                      ∙ marked_yes j gone i o.x l m ∙ o.whole;
                };
          }

      -- i loses its register
      pub evict_one :
          (f : Bool) (reg : ℕ) (w : Float)
          → a ≡ Holds f reg w
          → (S'' : LentState)
          → TakenBack i reg B S' S''
          → (W'' : List ℕ) (x : ℕ)
          → (x ≡ record_word (Unassigned f)) × (PlainRecord (Unassigned f) → record_in x ≡ Unassigned f)
          → W'' ≡ set W' i x
          → To (i + 1) S'' W''
      evict_one f reg w y S'' tb W'' x px st =
          record {
            onward =
                λ j s t reach e mv is.
                let o = so_far.onward j s t reach e mv is in
                let g = good_reached j o.x o.reached in
                let h = assigned_held j o.x g i f reg w (own o.x o.records_are ∙ y) in
                let Gone-one = evict_held j o.x i (candidate reg w) h.0 in
                let after : set (records o.x) i (Unassigned f) ≡ records (lose j i reg o.x) =
                ap (λ (b : Bool). set (records o.x) i (Unassigned b)) (sym h.1)
                ∙ sym (lose_records j o.x g i (holder_good j o.x g i (candidate reg w) h.0).0 reg (not_left (holder_stays j o.x g i (candidate reg w) h.0))) in
                record {
                  x = lose j i reg o.x;
                  reached = subst (λ (y : State). Reached j y) Gone-one (reached_evict j o.x o.reached i);
                  moves = tb.reached j o.x t o.reached e o.moves (candidate reg w) h.0 refl;
                  records_are =
                      rw st (subst (λ (rs : List Assignment). WordsOf rs (set W' i x)) after (record-set o.records_are (records_length o.x) i x (Unassigned f) px.0 (px.1 plain_zero)));
                  whole =
                      ap (λ (y : State). evict_marked j gone i o.x (i + 1) y) (sym Gone-one)
                      ∙ marked_yes j gone i o.x l m ∙ o.whole;
                };
          }
        where
          not_left : {b : Bool} → b ≡ false → T (not b)
          not_left {b} p = subst (λ (c : Bool). T (not c)) (sym p) tt
