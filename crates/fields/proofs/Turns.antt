-- The virtual registers as they are read: one from its parts, and one more in the loop. Assumes nothing.
use Prim.Native.Nat.{ℕ, ◌+◌, ◌-◌, ◌≤◌, ◌<◌}
use native.Mathlib.Omega.{arith}
use mathlib.Core.Path.{◌≡◌, refl, ap, sym, ◌∙◌}
use mathlib.Core.List.{List, [], ◌∷◌, ◌++◌, map, map-append}
use lib.Ieee.{Float}
use lib.ListN.{length, drop, set, length-map, length-drop}
use lib.Seq.{drop-append-le, length-sets}
use Rattle.reg_matrix.specs.Lists.{bit, concat_map}
use Rattle.reg_matrix.specs.declared.ValueSegment.{ValueSegment}
use Rattle.job.specs.declared.Hint.{Hint}
use Rattle.job.specs.declared.VirtRegFields.{VirtRegFields}
use Rattle.job.specs.Model.{VirtReg}
use Rattle.job.specs.Parser.{parsed, if_bit}
use Rattle.job.specs.Load.{hints, segments, virt_reg_fields, virt_reg_at, virt_reg_after}
use Rattle.job.specs.Layout.{starts_from}
use Rattle.job.proofs.Lists.{starts_length}
use Rattle.std.specs.Prelude.{Ok}
use Rattle.reader.specs.Read.{Counted, hints_of_all, segments_of_all}
use Rattle.reader.proofs.Reading.{Reading, begin, more}
use Rattle.reader.proofs.Tables.{concat_more, concat_length, starts_then, joined, virt_is, hints_in_length, segments_in_length}
use Rattle.fields.specs.Virt.{in32, in16, in8, in_weights, HintsAt, SegmentsAt, FieldsAt, VirtsAt, VirtOut, TotalsOf}
use Rattle.fields.specs.declared.totals.Totals.{Totals}
use Rattle.fields.proofs.Slices.{more_32, more_16, more_8, more_weights}

-- one, from its fields, its hints and its segments
pub virt_out :
    (s s₁ s₂ s₃ : List ℕ) (regs classes n k l : ℕ) (f : VirtRegFields) (before after : Totals) {hs : List Hint → Type 0} {ss : List ValueSegment → Type 0}
    → before.hints + k ≡ after.hints
    → before.segments + l ≡ after.segments
    → virt_reg_fields classes n s ≡ parsed f s₁
    → Counted s₂ (if_bit (bit 4 f.map) [] (hints regs before.hints) s₁) length (1024 - before.hints) (Ok k) hs
    → Counted s₃ (segments before.segments s₂) length (512 - before.segments) (Ok l) ss
    → VirtOut s₃ (virt_reg_at regs classes n before.hints before.segments s) before (Ok (f, after)) hs ss
virt_out s s₁ s₂ s₃ regs classes n k l f before after a b e w z = (
  joined f w.0 z.0,
  virt_is regs classes n before.hints before.segments s e w.1 z.1,
  record { class = refl; value_set = refl; spill_weight = refl; size = refl; hints = rw w.2 a; segments = rw z.2 b },
  w.4,
  z.4,
)

-- where each ends: one more
module _ {B : Type 0} (f : VirtReg → List B) where
  ends_length : (vs : List VirtReg) → length (drop 1 (starts_from (λ (v : VirtReg). length (f v)) 0 vs)) ≡ length vs
  ends_length vs = simp length-drop (omega (arith, starts_length (λ (v : VirtReg). length (f v)) 0 vs))

  ends_more :
      (vs : List VirtReg) (x : VirtReg) {k : ℕ}
      → length (concat_map f vs) + length (f x) ≡ k
      → drop 1 (starts_from (λ (v : VirtReg). length (f v)) 0 (vs ++ (x ∷ []))) ≡ drop 1 (starts_from (λ (v : VirtReg). length (f v)) 0 vs) ++ (k ∷ [])
  ends_more vs x {k} e =
      let n : 1 ≤ length (starts_from (λ (v : VirtReg). length (f v)) 0 vs) = omega (arith, starts_length (λ (v : VirtReg). length (f v)) 0 vs) in
      rw (starts_then f vs x e) (drop-append-le 1 (starts_from (λ (v : VirtReg). length (f v)) 0 vs) (k ∷ []) n)

-- i of them are read and stored, with these totals
abbrev pub SoFar :
    (s s' : List ℕ) → (count regs classes : ℕ) → (w h b : List ℕ) → List Float → (w' h' b' : List ℕ) → List Float → Totals → ℕ → Type 0
SoFar s s' count regs classes w h b f w' h' b' f' t i =
    (before : List VirtReg) × Reading (virt_reg_after regs classes) count i s s' before × TotalsOf t before × VirtsAt w h b f w' h' b' f' before

pub virts_begun : (s : List ℕ) (count regs classes : ℕ) (w h b : List ℕ) (f : List Float) (t : Totals) → (t.hints ≡ 0) × (t.segments ≡ 0) → SoFar s s count regs classes w h b f w h b f t 0
unfolding concat_map starts_from in32 in16 in8 in_weights
virts_begun s count regs classes w h b f t z = ([], begin, (sym z.0, sym z.1), record { j32 = refl; j16 = refl; j8 = refl; jf = refl })

-- a field of one more
module _ {B C : Type 0} (f : VirtReg → List B) (p : B → C) where
  all_more : (vs : List VirtReg) (x : VirtReg) → map p (concat_map f (vs ++ (x ∷ []))) ≡ map p (concat_map f vs) ++ map p (f x)
  all_more vs x = rw (concat_more f vs x) (map-append p (concat_map f vs) (f x))

module _ {C : Type 0} (p : VirtReg → C) where
  one_more : (vs : List VirtReg) (x : VirtReg) {y : C} → p x ≡ y → map p (vs ++ (x ∷ [])) ≡ map p vs ++ (y ∷ [])
  one_more vs x e = rw (map-append p vs (x ∷ []), e)

pub virts_more :
    (s s₁ s₂ : List ℕ) (count regs classes i : ℕ) (fs : VirtRegFields) (t t' : Totals)
    {w h b w' h' b' w₁ h₁ b₁ w₂ h₂ b₂ h₃ h₄ : List ℕ} {f f' f₁ f₂ : List Float}
    → SoFar s s₁ count regs classes w h b f w' h' b' f' t i
    → i < count
    → count ≤ 512
    → VirtOut s₂ (virt_reg_at regs classes i t.hints t.segments s₁) t (Ok (fs, t')) (HintsAt t.hints b' f' b₁ f₁) (SegmentsAt t.segments w' h' w₁ h₁)
    → FieldsAt fs i w₁ h₁ b₁ f₁ w₂ h₂ b₂ f₂
    → h₃ ≡ set h₂ (1042 + i) t'.hints
    → h₄ ≡ set h₃ (1555 + i) t'.segments
    → SoFar s s₂ count regs classes w h b f w₂ h₄ b₂ f₂ t' (i + 1)
unfolding virt_reg_after
virts_more s s₁ s₂ count regs classes i fs t t' {w} {h} {b} {f} v lt few o p eh eg =
    let vs = v.0 in
    let x = o.0 in
    let a = v.3 in
    let ch = hints_in_length vs ∙ v.2.0 in
    let cg = segments_in_length vs ∙ v.2.1 in
    let n : length vs ≡ i = omega (arith, v.1.read) in
    let sh : length (hints_of_all vs) + length x.hints ≡ t'.hints = omega (arith, v.2.0, o.2.hints) in
    let sg : length (segments_of_all vs) + length x.segments ≡ t'.segments = omega (arith, v.2.1, o.2.segments) in
    let fits : (f : ValueSegment → ℕ) → t.segments + length (map f x.segments) ≤ 512 = λ f. simp length-map (omega (arith, o.2.segments, t'.segments_fit)) in (
      vs ++ (x ∷ []),
      more v.1 lt (rw (v.1.read, ch, cg) o.1),
      (concat_length (λ (v : VirtReg). v.hints) vs x ∙ sh, concat_length (λ (v : VirtReg). v.segments) vs x ∙ sg),
      record {
        j32 =
            more_32 w _ _ _ (map (λ (y : ValueSegment). y.from) x.segments) (map (λ (y : ValueSegment). y.to) x.segments) fs.size
            (simp length-map v.2.1) (simp length-map v.2.1) (simp length-map n) (fits (λ (y : ValueSegment). y.from)) (fits (λ (y : ValueSegment). y.to)) (rw a.j32 at o.4.points) p.size
            ∙ rw (all_more (λ (v : VirtReg). v.segments) (λ (y : ValueSegment). y.from) vs x, all_more (λ (v : VirtReg). v.segments) (λ (y : ValueSegment). y.to) vs x, one_more (λ (v : VirtReg). v.size) vs x o.2.size);
        j16 =
            more_16 h _ _ _ _ (map (λ (y : ValueSegment). y.value) x.segments) fs.value_set t'.hints t'.segments
            (simp length-map v.2.1) (simp length-map n) (ends_length (λ (v : VirtReg). v.hints) vs ∙ n) (ends_length (λ (v : VirtReg). v.segments) vs ∙ n) (fits (λ (y : ValueSegment). y.value)) (omega arith) (rw a.j16 at o.4.values.is) p.value_set eh eg
            ∙ rw (one_more (λ (v : VirtReg). v.value_set) vs x o.2.value_set, all_more (λ (v : VirtReg). v.segments) (λ (y : ValueSegment). y.value) vs x, ends_more (λ (v : VirtReg). v.hints) vs x sh, ends_more (λ (v : VirtReg). v.segments) vs x sg);
        j8 =
            more_8 b _ _ (map (λ (y : Hint). y.reg) x.hints) fs.class (simp length-map v.2.0) (simp length-map n) (omega arith) (rw a.j8 at o.3.regs.is) p.class
            ∙ rw (one_more (λ (v : VirtReg). v.class) vs x o.2.class, all_more (λ (v : VirtReg). v.hints) (λ (y : Hint). y.reg) vs x);
        jf =
            more_weights f _ _ (map (λ (y : Hint). y.weight) x.hints) fs.spill_weight (simp length-map v.2.0) (simp length-map n) (omega arith) (rw a.jf at o.3.weights.is) p.spill_weight
            ∙ rw (one_more (λ (v : VirtReg). v.spill_weight) vs x o.2.spill_weight, all_more (λ (v : VirtReg). v.hints) (λ (y : Hint). y.weight) vs x);
      },
    )

-- no slice changes its length
module _ {w h b w' h' b' : List ℕ} {f f' : List Float} {vs : List VirtReg} (a : VirtsAt w h b f w' h' b' f' vs) where
  pub kept_32 : length w' ≡ length w
  unfolding in32
  kept_32 = ap length a.j32 ∙ simp length-sets

  pub kept_16 : length h' ≡ length h
  unfolding in16
  kept_16 = ap length a.j16 ∙ simp length-sets

  pub kept_8 : length b' ≡ length b
  unfolding in8
  kept_8 = ap length a.j8 ∙ simp length-sets

  pub kept_weights : length f' ≡ length f
  unfolding in_weights
  kept_weights = ap length a.jf ∙ simp length-sets
