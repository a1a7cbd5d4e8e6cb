-- The questions asked by themselves of a stage that calls reach: what `check_interference` and `is_unit_free` answer over what is lent is what
-- Questions.antt says of the state's table. Assumes nothing.
use Prim.Native.Nat.{ℕ, ◌-◌, ◌^◌, ◌<◌}
use native.Mathlib.Omega.{arith}
use mathlib.Core.Path.{◌≡◌, refl, ap, ◌∙◌}
use mathlib.Core.List.{List, [], ◌∷◌, ◌++◌, append_assoc}
use mathlib.Core.Option.{Option, none, some}
use mathlib.Core.Bool.{Bool}
use lib.Dec.{leb, nleb→lt}
use lib.ListN.{length, get_or, take, replicate}
use lib.Seq.{take_at}
use Rattle.lent.specs.Parts.{Begins}
use Rattle.reg_matrix.specs.Lists.{padded}
use Rattle.reg_matrix.specs.Refusals.{or_then, short_buffer, ranges_refusal}
use Rattle.reg_matrix.specs.Questions.{table_limits, check_limits, check_refusal, or_reports, checked, ask_check, is_unit_free, spare_refusal, is_spare, or_spare, ask_spare}
use Rattle.reg_matrix.specs.Check.{check}
use Rattle.reg_matrix.specs.declared.ValueSegment.{ValueSegment}
use Rattle.reg_matrix.proofs.Places.{padded_read}
use Rattle.entries.specs.Moves.{words}
use Rattle.unit_free.specs.Spare.{free_at, range}
use Rattle.table_words.specs.Segments.{segments_in}
use Rattle.reg_matrix.specs.Refused.{or_refused}
use Rattle.matrix.specs.Walk.{Lent, entered, remaining}
use Rattle.job.specs.Model.{Job, unit_map}
use Rattle.job.specs.Layout.{job_buffers}
use Rattle.allocator.specs.State.{State}
use Rattle.allocator.specs.Reached.{Reached}
use Rattle.allocator.proofs.Accepted.{all_pass}
use Rattle.allocator.proofs.Good.{good_reached}
use Rattle.stage.proofs.Reached.{asked_reports}
use Rattle.stage.proofs.ReachedMoves.{table_stands, spare_found_lem}
use Rattle.moves.specs.Standing.{TableStands}
use Rattle.calls.specs.Asking.{checked_of, spared_of, check_sizes}

-- neither of two tests refuses
then_none : (a b : Option ℕ) → or_then a b ≡ none → (a ≡ none) × (b ≡ none)
then_none none b e = (refl, e)
then_none (some n) b e = absurd (let z : ◌≡◌ {A = ℕ} 0 1 = cc in omega arith)

-- ---- spare

-- a unit that the spare question takes
known_unit : (lent : List ℕ) (u : ℕ) (x : ValueSegment) → spare_refusal lent u x ≡ none → u < 64
unfolding spare_refusal
known_unit lent u x e =
    let a = all_pass 15 (short_buffer table_limits lent) _ (then_none _ _ e).0 in
    nleb→lt 64 u (all_pass 8 (leb 64 u) [] a.1).0

module _ (j : Job) (s : State) (r : Reached j s) (et rt ends rests : List ℕ) (st : TableStands s et rt ends rests) where
  pub spare_asked :
      (u from to : ℕ)
      → from < 2 ^ 32
      → spared_of (or_refused (spare_refusal (length ends ∷ length rests ∷ []) u (range from to)) (free_at u from to (words ends rests)))
      ≡ ask_spare (length ends ∷ length rests ∷ []) s.table u (range from to)
  unfolding ask_spare
  spare_asked u from to h = go (spare_refusal (length ends ∷ length rests ∷ []) u (range from to)) refl
    where
      go : (o : Option ℕ) → spare_refusal (length ends ∷ length rests ∷ []) u (range from to) ≡ o
          → spared_of (or_refused o (free_at u from to (words ends rests))) ≡ or_spare o (is_unit_free s.table u (range from to))
      go (some n) e = refl
      go none e =
          let g = good_reached j s r in
          ap is_spare
          (spare_found_lem j s g et rt (words ends rests) (table_stands j s g ends rests et rt st.ends_are st.rests_are) u from to
          (known_unit _ u (range from to) e) h)

-- ---- a check

-- a check that is not refused
record Asks (j : Job) (reg : ℕ) (ss : List ValueSegment) : Type 0 where
  known : reg < length j.regs
  ranges : ranges_refusal 0 ss ≡ none

asks : (j : Job) (lent : List ℕ) (reg : ℕ) (ss : List ValueSegment) → check_refusal lent j.regs reg ss ≡ none → Asks j reg ss
unfolding check_refusal
asks j lent reg ss e =
    let k = then_none _ (ranges_refusal 0 ss) e in
    let a = all_pass 15 (short_buffer (check_limits (length ss)) lent) _ k.0 in
    let b = all_pass 8 (leb (length j.regs) reg) _ a.1 in
    record { known = nleb→lt (length j.regs) reg b.0; ranges = k.1 }

-- the registers that the job has, of its slice
regs_first : (j : Job) (maps : List ℕ) → Begins (job_buffers j).regs maps → take (length j.regs) maps ≡ j.regs
unfolding job_buffers padded
regs_first j maps b =
    ap (take (length j.regs)) (b.1 ∙ append_assoc j.regs (replicate (64 - length j.regs) 0) b.0)
    ∙ take_at j.regs (replicate (64 - length j.regs) 0 ++ b.0) (length j.regs) refl

module _ (j : Job) (s : State) (r : Reached j s) (maps : List ℕ) (bm : Begins (job_buffers j).regs maps) (W : Lent)
    (bu : Begins (job_buffers j).fixed_uses W.uses) (et rt : List ℕ) (st : TableStands s et rt W.ends W.rests) where
  pub check_asked :
      (full : Bool) (reg : ℕ)
      → get_or W.froms 0 0 < 2 ^ 32
      → checked_of W
      (or_refused (check_refusal (check_sizes maps W) (take (length j.regs) maps) reg (segments_in W.froms W.tos W.values))
      (entered W.ends W.froms (get_or maps reg 0) full))
      ≡ ask_check (check_sizes maps W) j.regs j.fixed s.table full reg (segments_in W.froms W.tos W.values)
  unfolding ask_check job_buffers
  check_asked full reg h = rw (regs_first j maps bm) (go (check_refusal (check_sizes maps W) j.regs reg ss) refl)
    where
      ss : List ValueSegment
      ss = segments_in W.froms W.tos W.values

      go : (o : Option ℕ) → check_refusal (check_sizes maps W) j.regs reg ss ≡ o
          → checked_of W (or_refused o (entered W.ends W.froms (get_or maps reg 0) full)) ≡ or_reports o (check full j.fixed s.table (unit_map j reg) ss)
      go (some n) e = refl
      go none e =
          let g = good_reached j s r in
          let a = asks j (check_sizes maps W) reg ss e in
          let units : get_or maps reg 0 ≡ unit_map j reg =
          ap (λ (l : List ℕ). get_or l reg 0) bm.1
          ∙ padded_read 64 0 j.regs bm.0 reg g.premises.few_regs (omega (arith, a.known, g.premises.few_regs)) in
          ap (λ (n : ℕ). checked (remaining W (entered W.ends W.froms n full))) units
          ∙ ap checked (asked_reports j s g W et rt bu.0 st.ends_are st.rests_are bu.1 full reg h a.ranges)
