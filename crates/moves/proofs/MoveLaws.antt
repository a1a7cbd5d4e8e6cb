-- Moves on a state that calls reach: what each does to what is lent, and that the state of the rules stands there afterwards. Assumes nothing.
use Prim.Native.Nat.{ℕ, ◌+◌, ◌<◌, ◌≤◌}
use native.Mathlib.Omega.{arith}
use mathlib.Core.Path.{◌≡◌, refl, sym, ap, ◌∙◌}
use mathlib.Core.List.{List, [], ◌++◌, map}
use mathlib.Core.Option.{Option, none, some}
use mathlib.Core.Bool.{Bool, false, not}
use lib.Dec.{ltb}
use lib.ListN.{length, get_or, set, take, drop, length-map, get_or-map}
use lib.Seq.{take_at, drop_at, set-append_left}
use Rattle.lent.specs.Parts.{Begins}
use Rattle.lent.proofs.Laws.{any_default}
use Rattle.reg_matrix.specs.Lists.{count, is_some}
use Rattle.reg_matrix.specs.Layout.{end_words, rest_words, use_words}
use Rattle.reg_matrix.proofs.Tests.{both, not_some}
use Rattle.reg_matrix.proofs.Places.{padded_length, padded_read, count_length}
use Rattle.table_words.specs.declared.buffers.LentState.{LentState}
use Rattle.entries.specs.Moves.{words}
use Rattle.entries.specs.Placing.{Assigned, Evicted}
use Rattle.std.proofs.Common.{Result}
use Rattle.reg_matrix.specs.declared.Refusal.{Refusal}
use Rattle.job.specs.Model.{Job, VirtReg, no_virt_reg, virt_reg, unit_map, segments_of, zero_weight}
use Rattle.job.specs.Layout.{JobBuffers, job_buffers, JobSlices, lists_in, starts_from}
use Rattle.job.proofs.Lists.{starts_length}
use Rattle.job.proofs.Premises.{IsNumber}
use Rattle.job_parts.specs.Shares.{share_of, froms_in, tos_in}
use Rattle.allocator.specs.declared.CandidateReg.{CandidateReg}
use Rattle.allocator.specs.declared.Stage.{Stage}
use Rattle.allocator.specs.declared.Stage.TheVariants.{Evict}
use Rattle.allocator.specs.State.{State, held_by, is_left_over, give, lose}
use Rattle.allocator.specs.Order.{candidate}
use Rattle.allocator.specs.Layout.{key_word, queue_words, last_word, last_words}
use Rattle.allocator.proofs.Weights.{plain_zero}
use Rattle.allocator.proofs.Rebuilt.{named_known}
use Rattle.allocator.proofs.Good.{Good, Idle, good_reached, holder_good}
use Rattle.allocator.proofs.Records.{give_last}
use Rattle.queue.specs.QueueWalk.{key_of, set_word}
use Rattle.stage.proofs.QueueLaws.{tournament_length, set_tournament, key_is, size_at, has_hints}
use Rattle.stage.proofs.ReachedMoves.{table_stands, uses_lie, assign_gives, evict_loses}
use Rattle.moves.specs.Standing.{JobStands}
use Rattle.moves.specs.Moving.{EvictReads, TakeReads, key_in, TakenBack, Taken}
use Rattle.moves.proofs.Shares.{froms_share, tos_share}

-- ---- lists

module _ {A : Type 0} where
  -- what begins with n of them
  pub begins_take : (n : ℕ) (xs ys : List A) → length xs ≡ n → Begins xs ys → take n ys ≡ xs
  begins_take n xs ys e b = ap (take n) b.1 ∙ take_at xs b.0 n e

-- ---- the job's slices

-- what moves read, of a job that stands in its slices
module _ (j : Job) (B : JobSlices) (b : JobStands j (lists_in B)) where
  pub evict_reads : EvictReads j (lists_in B)
  evict_reads =
      record {
        regs = b.reads.regs;
        fixed_uses = b.reads.fixed_uses;
        sizes_are = b.sizes;
        hint_starts = b.reads.hint_starts;
        segment_starts = b.reads.segment_starts;
        tos_are = b.reads.tos;
      }

  pub take_reads : TakeReads j (lists_in B)
  take_reads =
      record {
        regs = b.reads.regs;
        fixed_uses = b.reads.fixed_uses;
        value_sets = b.reads.value_sets;
        segment_starts = b.reads.segment_starts;
        froms_are = b.reads.froms;
        tos_are = b.reads.tos;
      }

pub uses_are : (j : Job) (uses : List ℕ) → (b : Begins (job_buffers j).fixed_uses uses) → uses ≡ use_words j.fixed ++ b.0
unfolding job_buffers
uses_are j uses b = b.1

module _ (j : Job) (s : State) (g : Good j s) where
  few : length j.virt_regs ≤ 512
  few = g.premises.few_numbers

  below : (v : ℕ) → IsNumber j v → v < 512
  below v b = omega (arith, b, few)

  -- the map of units of one of the job's registers
  pub units_read : (maps : List ℕ) → Begins (job_buffers j).regs maps → (r : ℕ) → r < 64 → get_or maps r 0 ≡ unit_map j r
  unfolding job_buffers
  units_read maps b r h = ap (λ (l : List ℕ). get_or l r 0) b.1 ∙ padded_read 64 0 j.regs b.0 r g.premises.few_regs h

  pub sets_read : (sets : List ℕ) → Begins (job_buffers j).value_sets sets → (v : ℕ) → IsNumber j v → get_or sets v 0 ≡ (virt_reg j v).value_set
  unfolding job_buffers virt_reg
  sets_read sets b v known =
      ap (λ (l : List ℕ). get_or l v 0) b.1
      ∙ padded_read 512 0 (map (λ (x : VirtReg). x.value_set) j.virt_regs) b.0 v (simp length-map few) (below v known)
      ∙ any_default (map (λ (x : VirtReg). x.value_set) j.virt_regs) v 0 no_virt_reg.value_set (simp length-map (omega (arith, known)))
      ∙ get_or-map (λ (x : VirtReg). x.value_set) j.virt_regs v no_virt_reg

  -- ---- the queue

  module _ (t : State) (v : ℕ) (known : IsNumber j v) (qt queue : List ℕ) (is : queue ≡ queue_words j s ++ qt) where
    word_set : (q : Option Stage) → t.queued ≡ set s.queued v q → set_word v (key_word j v q) queue ≡ queue_words j t ++ qt
    word_set q e =
        set_tournament j s queue g.agrees.sizes.queued (ap (take 1024) is ∙ take_at (queue_words j s) qt 1024 (tournament_length j s)) t v q (below v known) e
        ∙ ap (λ (l : List ℕ). queue_words j t ++ l) (ap (drop 1024) is ∙ drop_at (queue_words j s) qt 1024 (tournament_length j s))

    -- v off the queue
    pub unqueued : t.queued ≡ set s.queued v none → set_word v 0 queue ≡ queue_words j t ++ qt
    unqueued e = word_set none e

    -- v in the queue at a stage, by what is lent of its hints and its size
    pub queued_at_lem :
        (q : Stage)
        → t.queued ≡ set s.queued v (some q)
        → (B : JobBuffers)
        → Begins (job_buffers j).hint_starts B.hint_starts
        → Begins (job_buffers j).sizes B.sizes
        → set_word v (key_in B v q + 1) queue ≡ queue_words j t ++ qt
    unfolding job_buffers
    queued_at_lem q e B bh bs =
        let a = begins_take 513 _ B.hint_starts (padded_length 513 0 (starts_from (λ (x : VirtReg). length x.hints) 0 j.virt_regs) (omega (arith, starts_length (λ (x : VirtReg). length x.hints) 0 j.virt_regs, few))) bh in
        let b = begins_take 512 _ B.sizes (padded_length 512 0 (map (λ (x : VirtReg). x.size) j.virt_regs) (simp length-map few)) bs in
        ap (λ (k : ℕ). set_word v (k + 1) queue)
        (ap (λ (z : ℕ). key_of v (ltb (get_or B.hint_starts v 0) (get_or B.hint_starts (v + 1) 0)) z q) (size_at j few B.hint_starts B.sizes a b v known)
        ∙ key_is j v q (ltb (get_or B.hint_starts v 0) (get_or B.hint_starts (v + 1) 0)) (has_hints j few B.hint_starts B.sizes a b v known))
        ∙ word_set (some q) e

-- ---- a number loses its register

pub taken_back :
    (v reg : ℕ) (B : JobBuffers) (S S' : LentState) (ends' rests' own : List ℕ) (m : ℕ) (uses : List ℕ) (r : Result (Unit {0}) Refusal)
    → own ≡ tos_in B v
    → m ≡ get_or B.regs reg 0
    → uses ≡ B.fixed_uses
    → Evicted v m uses own (words S.ends.now S.rests.now) (words ends' rests') r
    → S'.ends.now ≡ ends'
    → S'.rests.now ≡ rests'
    → S'.queue.now ≡ set_word v (key_in B v Evict + 1) S.queue.now
    → TakenBack v reg B S S'
unfolding lose
taken_back v reg B S S' ends' rests' own m uses r po pm pu ev pe pr pq =
    record {
      reached =
          λ j s t reach e mv c held is.
          let g = good_reached j s reach in
          let k = holder_good j s g v c held in
          let small : c.reg < 64 = omega (arith, k.2, g.premises.few_regs) in
          let mine : own ≡ map (λ x. x.to) (segments_of j v) =
          po ∙ ap (λ (l : List ℕ). share_of l v B.tos) e.segment_starts.1 ∙ ap (share_of ((job_buffers j).segment_starts ++ e.segment_starts.0) v) e.tos_are.1
          ∙ tos_share j v k.0 e.segment_starts.0 e.tos_are.0 in
          let done =
          evict_loses j s g t.ends t.rests e.fixed_uses.0 uses (words S.ends.now S.rests.now) (words ends' rests')
          (table_stands j s g S.ends.now S.rests.now t.ends t.rests mv.table.ends_are mv.table.rests_are)
          (uses_lie j s g uses e.fixed_uses.0 (pu ∙ uses_are j B.fixed_uses e.fixed_uses))
          v m [] own mine c
          (pm ∙ ap (λ (n : ℕ). get_or B.regs n 0) (sym is) ∙ units_read j s g B.regs e.regs c.reg small)
          r held ev in
          record {
            table = record { ends_are = pe ∙ done.stands.ends_are; rests_are = pr ∙ done.stands.rests_are };
            queue_is = pq ∙ queued_at_lem j s g (lose j v c.reg s) v k.0 t.queue S.queue.now mv.queue_is Evict refl B e.hint_starts e.sizes_are;
          };
    }

-- ---- a number takes a register

-- the register is the last one of v's set
last_set : (j : Job) (s : State) (g : Good j s) (v : ℕ) → IsNumber j v → (c : CandidateReg) (f : Bool) (lt last : List ℕ) → last ≡ last_words s ++ lt → set last (virt_reg j v).value_set (c.reg + 1) ≡ last_words (give j v c f s) ++ lt
unfolding last_words
last_set j s g v known c f lt last is =
    ap (λ (l : List ℕ). set l (virt_reg j v).value_set (c.reg + 1)) is
    ∙ set-append_left (map w (count 0 512)) lt (virt_reg j v).value_set (c.reg + 1) (omega (arith, length-map (count 0 512) w, count_length 0 512, g.premises.small_sets v known))
    ∙ ap (λ (l : List ℕ). l ++ lt) (sym (give_last j s g v known c f))
  where
    w : ℕ → ℕ
    w t = last_word (get_or s.last t none)

pub taken :
    (v reg : ℕ) (B : JobBuffers) (S : LentState) (last : List ℕ) (S' : LentState) (last' ends' rests' from to : List ℕ) (m : ℕ) (uses : List ℕ) (r : Result (Unit {0}) Refusal) (k w : ℕ)
    → from ≡ froms_in B v
    → to ≡ tos_in B v
    → m ≡ get_or B.regs reg 0
    → uses ≡ B.fixed_uses
    → Assigned v m uses from to (words S.ends.now S.rests.now) (words ends' rests') r
    → S'.ends.now ≡ ends'
    → S'.rests.now ≡ rests'
    → S'.queue.now ≡ set_word v 0 S.queue.now
    → k ≡ get_or B.value_sets v 0
    → (reg < 255 → w ≡ reg + 1)
    → last' ≡ set last k w
    → Taken v reg B S last S' last'
unfolding give job_buffers virt_reg
taken v reg B S last S' last' ends' rests' from to m uses r k w pf pt pm pu pa pe pr pq pk pw pl =
    record {
      reached =
          λ j s t reach e st known free names clear c f is.
          let g = good_reached j s reach in
          let b = named_known j g.premises v reg known names in
          let small : reg < 64 = omega (arith, b, g.premises.few_regs) in
          let u = both (not (is_some (held_by s v))) (not (is_left_over s v)) free in
          let mine : from ≡ map (λ x. x.from) (segments_of j v) =
          pf ∙ ap (λ (l : List ℕ). share_of l v B.froms) e.segment_starts.1 ∙ ap (share_of ((job_buffers j).segment_starts ++ e.segment_starts.0) v) e.froms_are.1
          ∙ froms_share j v known e.segment_starts.0 e.froms_are.0 in
          let mine' : to ≡ map (λ x. x.to) (segments_of j v) =
          pt ∙ ap (λ (l : List ℕ). share_of l v B.tos) e.segment_starts.1 ∙ ap (share_of ((job_buffers j).segment_starts ++ e.segment_starts.0) v) e.tos_are.1
          ∙ tos_share j v known e.segment_starts.0 e.tos_are.0 in
          let idle : Idle j s v = record { known = known; holds_nothing = not_some (held_by s v) u.0; stays = u.1 } in
          let done =
          assign_gives j s g t.ends t.rests e.fixed_uses.0 uses (words S.ends.now S.rests.now) (words ends' rests')
          (table_stands j s g S.ends.now S.rests.now t.ends t.rests st.moves.table.ends_are st.moves.table.rests_are)
          (uses_lie j s g uses e.fixed_uses.0 (pu ∙ uses_are j B.fixed_uses e.fixed_uses))
          v m from to mine' (candidate reg zero_weight)
          (pm ∙ units_read j s g B.regs e.regs reg small)
          r mine idle (record { names = names; plain = plain_zero }) clear pa false in
          record {
            moves =
                record {
                  table =
                      record {
                        ends_are = pe ∙ done.stands.ends_are ∙ sym (ap (λ (n : ℕ). end_words (give j v (candidate n zero_weight) false s).table ++ t.ends) is);
                        rests_are = pr ∙ done.stands.rests_are ∙ sym (ap (λ (n : ℕ). rest_words (give j v (candidate n zero_weight) false s).table ++ t.rests) is);
                      };
                  queue_is = pq ∙ unqueued j s g (give j v c f s) v known t.queue S.queue.now st.moves.queue_is refl;
                };
            last_is =
                pl ∙ ap (λ (n : ℕ). set last n w) (pk ∙ sets_read j s g B.value_sets e.value_sets v known) ∙ ap (set last (virt_reg j v).value_set) (pw (omega arith) ∙ ap (λ (n : ℕ). n + 1) (sym is))
                ∙ last_set j s g v known c f t.last last st.last_is;
          };
    }
