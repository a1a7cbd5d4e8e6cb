-- What loading leaves in what was lent: the layout of the job, and the tails. Assumes nothing.
use Prim.Native.Nat.{ℕ, suc, ◌+◌, ◌-◌, ◌≤◌}
use native.Mathlib.Omega.{arith}
use mathlib.Core.Path.{◌≡◌, refl, ap, sym, ◌∙◌}
use mathlib.Core.List.{List, [], ◌∷◌, ◌++◌, map, append_assoc}
use mathlib.Core.Bool.{Bool, true, false, ◌||◌}
use lib.Dec.{ltb}
use lib.Ieee.{Float}
use lib.ListN.{length, take, drop, length-map, length-drop, length-append, length-replicate, replicate}
use lib.Seq.{sets, take-append_seam, drop-append_seam, drop-drop}
use borrow.Author.Tests.{ltb-false}
use Rattle.reg_matrix.specs.Lists.{padded}
use Rattle.reg_matrix.specs.Refusals.{short_buffer}
use Rattle.reg_matrix.specs.Layout.{max_entries, max_fixed, use_words}
use Rattle.reg_matrix.specs.declared.ValueSegment.{ValueSegment}
use Rattle.job.specs.declared.Hint.{Hint}
use Rattle.job.specs.Model.{Job, VirtReg, zero_weight}
use Rattle.job.specs.Layout.{starts_from, job_buffers, JobSlices, job_slices, load_limits}
use Rattle.job.proofs.Lists.{starts_length}
use Rattle.job.proofs.Premises.{Premises}
use Rattle.lent.specs.Parts.{filled}
use Rattle.entries.specs.Reserving.{lain}
use Rattle.placing.proofs.Loaded.{In}
use Rattle.reader.specs.Read.{all_members, hints_of_all, segments_of_all}
use Rattle.fields.specs.Virt.{in32, in16, in8, in_weights, hint_ends, segment_ends}
use Rattle.whole_fields.specs.Whole.{JobAt}
use Rattle.job_stores.specs.Storing.{cleared}
use Rattle.loader.specs.Loading.{Lent, lent, sizes_of, later}
use Rattle.loader.proofs.Regions.{region, laid_out}

-- ---- each slice

laid_64 : (l regs : List ℕ) → length regs ≤ 64 → 64 ≤ length l → sets (filled 64 0 l) 0 regs ≡ padded 64 0 regs ++ drop 64 l
laid_64 l regs a r = laid_out 0 l (region 64 0 regs ∷ []) (omega arith, tt) refl r

laid_32 :
    (l fs ts zs : List ℕ) → length fs ≤ 512 → length ts ≤ 512 → length zs ≤ 512 → 1536 ≤ length l
    → in32 (filled 1536 0 l) fs ts zs ≡ padded 512 0 fs ++ (padded 512 0 ts ++ (padded 512 0 zs ++ drop 1536 l))
unfolding in32
laid_32 l fs ts zs a b c r = laid_out 0 l (region 512 0 fs ∷ region 512 0 ts ∷ region 512 0 zs ∷ []) (omega arith, (omega arith, (omega arith, tt))) refl r

laid_16 :
    (l cs gs vs hs ss : List ℕ) → length cs ≤ 17 → length gs ≤ 512 → length vs ≤ 512 → length hs ≤ 512 → length ss ≤ 512 → 2067 ≤ length l
    → in16 (sets (filled 2067 0 l) 0 cs) gs vs hs ss
    ≡ padded 17 0 cs ++ (padded 512 0 gs ++ (padded 512 0 vs ++ ((0 ∷ padded 512 0 hs) ++ ((0 ∷ padded 512 0 ss) ++ drop 2067 l))))
unfolding in16
laid_16 l cs gs vs hs ss a b c d e r =
    laid_out 0 l (region 17 0 cs ∷ region 512 0 gs ∷ region 512 0 vs ∷ region 513 1 hs ∷ region 513 1 ss ∷ [])
    (omega arith, (omega arith, (omega arith, (omega arith, (omega arith, tt))))) refl r

laid_8 :
    (l ms cs rs : List ℕ) → length ms ≤ 1024 → length cs ≤ 512 → length rs ≤ 1024 → 2560 ≤ length l
    → in8 (sets (filled 2560 0 l) 0 ms) cs rs ≡ padded 1024 0 ms ++ (padded 512 0 cs ++ (padded 1024 0 rs ++ drop 2560 l))
unfolding in8
laid_8 l ms cs rs a b c r = laid_out 0 l (region 1024 0 ms ∷ region 512 0 cs ∷ region 1024 0 rs ∷ []) (omega arith, (omega arith, (omega arith, tt))) refl r

laid_weights :
    (l ss ws : List Float) → length ss ≤ 512 → length ws ≤ 1024 → 1536 ≤ length l
    → in_weights (filled 1536 zero_weight l) ss ws ≡ padded 512 zero_weight ss ++ (padded 1024 zero_weight ws ++ drop 1536 l)
unfolding in_weights
laid_weights l ss ws a b r = laid_out zero_weight l (region 512 0 ss ∷ region 1024 0 ws ∷ []) (omega arith, (omega arith, tt)) refl r

-- the places where lists begin, the first at 0
module _ {A : Type 0} (size : A → ℕ) where
  starts_padded : (xs : List A) → padded 513 0 (starts_from size 0 xs) ≡ 0 ∷ padded 512 0 (drop 1 (starts_from size 0 xs))
  unfolding padded starts_from
  starts_padded [] = refl
  starts_padded (x ∷ xs) =
      let n = length (starts_from size (0 + size x) xs) in
      let e : 513 - suc n ≡ 512 - n = omega arith in
      rw e

-- ---- the sizes lent

or_first : (a b : Bool) → (a || b) ≡ false → a ≡ false
or_first false b e = refl
or_first true b e = e

or_rest : (a b : Bool) → (a || b) ≡ false → b ≡ false
or_rest false b e = e
or_rest true b e = absurd (let z : true ≡ false = e in let y : ◌≡◌ {A = ℕ} 0 1 = cc in omega arith)

long_enough : (n : ℕ) (ns : List ℕ) (k : ℕ) (ks : List ℕ) → short_buffer (n ∷ ns) (k ∷ ks) ≡ false → (n ≤ k) × (short_buffer ns ks ≡ false)
unfolding short_buffer
long_enough n ns k ks e = (ltb-false k n (or_first (ltb k n) (short_buffer ns ks) e), or_rest (ltb k n) (short_buffer ns ks) e)

pub record Room (b : Lent) : Type 0 where
  pub j64 : 576 ≤ length b.job.j64
  pub j32 : 1536 ≤ length b.job.j32
  pub j16 : 2067 ≤ length b.job.j16
  pub j8 : 2560 ≤ length b.job.j8
  pub jf : 1536 ≤ length b.job.jf
  pub ends : max_entries ≤ length b.ends
  pub rests : max_entries ≤ length b.rests

pub room : (b : Lent) → short_buffer load_limits (sizes_of b) ≡ false → Room b
room b e =
    let l0 = long_enough _ _ _ _ e in
    let l1 = long_enough _ _ _ _ l0.1 in
    let l2 = long_enough _ _ _ _ l1.1 in
    let l3 = long_enough _ _ _ _ l2.1 in
    let l4 = long_enough _ _ _ _ l3.1 in
    let l5 = long_enough _ _ _ _ l4.1 in
    let l6 = long_enough _ _ _ _ l5.1 in
    record { j64 = l0.0; j32 = l1.0; j16 = l2.0; j8 = l3.0; jf = l4.0; ends = l5.0; rests = l6.0 }

-- ---- every slice

module _ (j : Job) (p : Premises j) (b : Lent) (m : Room b) {B : JobSlices} (few : length (all_members j.classes) ≤ 1024) (a : JobAt (cleared b.job) B (λ es. Unit {0}) j) where
  fs : length (segments_of_all j.virt_regs) ≤ 512
  fs = omega (arith, p.few_segments)

  fh : length (hints_of_all j.virt_regs) ≤ 1024
  fh = omega (arith, p.few_hints)

  fv : length j.virt_regs ≤ 512
  fv = omega (arith, p.few_numbers)

  pub regs_laid : B.j64 ≡ padded 64 0 j.regs ++ drop 64 b.job.j64
  regs_laid = a.regs ∙ laid_64 b.job.j64 j.regs (omega (arith, p.few_regs)) (omega (arith, m.j64))

  pub laid_all_32 : B.j32 ≡ (job_slices j).j32 ++ drop 1536 b.job.j32
  unfolding job_slices job_buffers
  laid_all_32 =
      a.virt_regs.j32 ∙ laid_32 b.job.j32 _ _ _ (simp length-map fs) (simp length-map fs) (simp length-map fv) m.j32 ∙ sym (simp append_assoc)

  pub laid_all_16 : B.j16 ≡ (job_slices j).j16 ++ drop 2067 b.job.j16
  unfolding job_slices job_buffers
  laid_all_16 =
      let ends : (A : Type 0) (f : VirtReg → List A) → length (drop 1 (starts_from (λ (v : VirtReg). length (f v)) 0 j.virt_regs)) ≤ 512 = λ A f. simp length-drop (omega (arith, starts_length (λ (v : VirtReg). length (f v)) 0 j.virt_regs, p.few_numbers)) in
      a.virt_regs.j16
      ∙ laid_16 b.job.j16 (starts_from length 0 j.classes) (map (λ (v : VirtReg). v.value_set) j.virt_regs) (map (λ (x : ValueSegment). x.value) (segments_of_all j.virt_regs)) (hint_ends j.virt_regs) (segment_ends j.virt_regs)
      (omega (arith, p.few_classes, starts_length (length {A = ℕ}) 0 j.classes)) (simp length-map fv) (simp length-map fs) (ends Hint (λ (v : VirtReg). v.hints)) (ends ValueSegment (λ (v : VirtReg). v.segments)) m.j16
      ∙ rw (starts_padded (λ (v : VirtReg). length v.hints) j.virt_regs, starts_padded (λ (v : VirtReg). length v.segments) j.virt_regs) (sym (simp append_assoc))

  pub laid_all_8 : B.j8 ≡ (job_slices j).j8 ++ drop 2560 b.job.j8
  unfolding job_slices job_buffers
  laid_all_8 =
      a.virt_regs.j8 ∙ laid_8 b.job.j8 (all_members j.classes) (map (λ (v : VirtReg). v.class) j.virt_regs) (map (λ (x : Hint). x.reg) (hints_of_all j.virt_regs)) few (simp length-map fv) (simp length-map fh) m.j8 ∙ sym (simp append_assoc)

  pub laid_all_weights : B.jf ≡ (job_slices j).jf ++ drop 1536 b.job.jf
  unfolding job_slices job_buffers
  laid_all_weights =
      a.virt_regs.jf ∙ laid_weights b.job.jf _ _ (simp length-map fv) (simp length-map fh) m.jf ∙ sym (simp append_assoc)

  -- the fixed uses are put behind the registers' maps
  front_size : length (padded 64 0 j.regs) ≡ 64
  unfolding padded
  front_size = omega (arith, length-append j.regs (replicate (64 - length j.regs) 0), length-replicate {A = ℕ} (64 - length j.regs) 0, p.few_regs)

  pub front_kept : (take 64 B.j64 ≡ padded 64 0 j.regs) × (drop 64 B.j64 ≡ drop 64 b.job.j64)
  front_kept = (
    ap (take 64) regs_laid ∙ rw front_size at (take-append_seam (padded 64 0 j.regs) (drop 64 b.job.j64)),
    ap (drop 64) regs_laid ∙ rw front_size at (drop-append_seam (padded 64 0 j.regs) (drop 64 b.job.j64)),
  )

  pub all_later :
      (W ends rests : List ℕ)
      → In j.fixed (drop max_entries b.ends) (drop max_entries b.rests) (drop max_fixed (drop 64 B.j64)) (lain ends rests W)
      → lent (record { j64 = take 64 B.j64 ++ W; j32 = B.j32; j16 = B.j16; j8 = B.j8; jf = B.jf }) ends rests ≡ later j b
  unfolding later job_slices job_buffers
  all_later W ends rests i =
      let u = i.lie.are ∙ ap (λ (l : List ℕ). use_words j.fixed ++ drop max_fixed l) front_kept.1 ∙ ap (λ (l : List ℕ). use_words j.fixed ++ l) (drop-drop max_fixed 64 b.job.j64) in
      let v = ap (λ (l : List ℕ). take 64 B.j64 ++ l) u ∙ ap (λ (l : List ℕ). l ++ (use_words j.fixed ++ drop 576 b.job.j64)) front_kept.0 ∙ sym (append_assoc (padded 64 0 j.regs) (use_words j.fixed) (drop 576 b.job.j64)) in
      rw (v, laid_all_32, laid_all_16, laid_all_8, laid_all_weights, i.stands.ends_are, i.stands.rests_are)
