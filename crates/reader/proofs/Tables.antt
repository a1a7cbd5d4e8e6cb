-- Tables as the loops read them: a sum of sizes, the starts, the end of the last one. Assumes nothing.
use Prim.Native.Nat.{ℕ, zero, suc, ◌+◌, ◌<◌}
use native.Mathlib.Omega.{arith}
use mathlib.Core.Path.{◌≡◌, refl, ap, sym, ◌∙◌}
use mathlib.Core.List.{List, [], ◌∷◌, ◌++◌, map, append_assoc, append-nil}
use mathlib.Core.Bool.{Bool, true, false, cond}
use lib.Dec.{eqb}
use lib.ListN.{length, get_or, set, replicate, length-set, length-append}
use lib.Seq.{sets, get_or-set_same, get_or-set_other, set-set}
use borrow.Author.Tests.{eqb-true, eqb-false}
use Rattle.reg_matrix.specs.Lists.{foldl, concat_map}
use Rattle.reg_matrix.specs.declared.ValueSegment.{ValueSegment}
use Rattle.reg_matrix.specs.declared.Entry.{Entry}
use Rattle.reg_matrix.proofs.Places.{replicate_default}
use Rattle.job.specs.declared.Hint.{Hint}
use Rattle.job.specs.declared.FixedFields.{FixedFields}
use Rattle.job.specs.declared.VirtRegFields.{VirtRegFields}
use Rattle.job.specs.Model.{VirtReg}
use Rattle.job.specs.Parser.{Parser, Parsed, refused, parsed, if_bit, and_then, each}
use Rattle.job.specs.Load.{count_of, past_of, last_end, fixed_fields, fixed_tests, reservation, hints_in, segments_in, virt_reg_fields, hints, segments, virt_reg_at}
use Rattle.job.specs.Layout.{starts_from}
use Rattle.reader.specs.Read.{Stored, reservation_after, hints_of_all, segments_of_all}
use Rattle.reg_matrix.specs.Lists.{bit}
use Rattle.job.proofs.Lists.{foldl_more, sum_length}

-- ---- one more at the end

module _ {A B : Type 0} (f : A → List B) where
  pub concat_more : (xs : List A) (x : A) → concat_map f (xs ++ (x ∷ [])) ≡ concat_map f xs ++ f x
  unfolding concat_map
  concat_more [] x = append-nil (f x)
  concat_more (y ∷ xs) x = ap (λ (t : List B). f y ++ t) (concat_more xs x) ∙ sym (append_assoc (f y) (concat_map f xs) (f x))

  pub concat_length : (xs : List A) (x : A) → length (concat_map f (xs ++ (x ∷ []))) ≡ length (concat_map f xs) + length (f x)
  concat_length xs x = ap length (concat_more xs x) ∙ length-append (concat_map f xs) (f x)

-- where each begins, and where the last ends
module _ {A : Type 0} (size : A → ℕ) where
  pub starts_more : (at : ℕ) (xs : List A) (x : A) → starts_from size at (xs ++ (x ∷ [])) ≡ starts_from size at xs ++ ((foldl (λ n y. n + size y) at xs + size x) ∷ [])
  unfolding starts_from foldl
  starts_more at [] x = refl
  starts_more at (y ∷ xs) x = ap (λ (t : List ℕ). at ∷ t) (starts_more (at + size y) xs x)

-- the starts with one more, where k stands after those of xs
module _ {A B : Type 0} (f : A → List B) where
  pub starts_then : (xs : List A) (x : A) {k : ℕ} → length (concat_map f xs) + length (f x) ≡ k → starts_from (λ y. length (f y)) 0 (xs ++ (x ∷ [])) ≡ starts_from (λ y. length (f y)) 0 xs ++ (k ∷ [])
  starts_then xs x e =
      starts_more (λ (y : A). length (f y)) 0 xs x
      ∙ ap (λ (n : ℕ). starts_from (λ y. length (f y)) 0 xs ++ (n ∷ [])) (omega (arith, sum_length f 0 xs, e))

-- the first start is stored before the loop
module _ {A : Type 0} (size : A → ℕ) where
  again : (b : List ℕ) {b₁ : List ℕ} → b₁ ≡ set b 0 0 → set b₁ 0 0 ≡ set b 0 0
  again b e = ap (λ (l : List ℕ). set l 0 0) e ∙ set-set b 0 0 0

  pub starts_begun : (b : List ℕ) {b₁ : List ℕ} → b₁ ≡ set b 0 0 → Stored (λ (x : ℕ). x) b₁ 0 (starts_from size 0 []) b₁
  unfolding starts_from
  starts_begun b e = record { is = sym (again b e ∙ sym e) }

  pub starts_ended : (b : List ℕ) {b₁ b' : List ℕ} (xs : List A) → b₁ ≡ set b 0 0 → Stored (λ (x : ℕ). x) b₁ 0 (starts_from size 0 xs) b' → Stored (λ (x : ℕ). x) b 0 (starts_from size 0 xs) b'
  unfolding starts_from
  starts_ended b [] e h = record { is = h.is ∙ again b e }
  starts_ended b (x ∷ xs) e h =
      record { is = h.is ∙ ap (λ (l : List ℕ). sets l 1 (map (λ (x : ℕ). x) (starts_from size (0 + size x) xs))) (again b e) }

-- ---- a count that may be absent, and as many

module _ {A : Type 0} (p : List A → Parser A) where
  pub counted : (t : Bool) (n limit : ℕ) (s : List ℕ) → if_bit t [] (λ s. and_then (count_of n limit s) (λ k. each p k [])) s ≡ and_then (if_bit t 0 (count_of n limit) s) (λ k. each p k [])
  unfolding each
  counted true n limit s = refl
  counted false n limit s = refl

-- ---- segments and reservations

pub past_of_more : (ss : List ValueSegment) (s : ValueSegment) → s.to ≡ past_of (ss ++ (s ∷ []))
unfolding past_of
past_of_more ss s = sym (foldl_more (λ past (s : ValueSegment). s.to) 0 ss s)

-- `ends` has where the last reservation of each unit ends
pub record Ends (ends : List ℕ) (before : List Entry) : Type 0 where
  pub size : length ends ≡ 64
  pub last : (u : ℕ) → get_or ends u 0 ≡ last_end u before

pub ends_none : Ends (replicate 64 0) []
unfolding last_end foldl
ends_none = record { size = refl; last = λ u. replicate_default 64 u 0 }

pub ends_more : {ends ends' : List ℕ} {before : List Entry} (e : Entry) → Ends ends before → e.unit < 64 → ends' ≡ set ends e.unit e.to → Ends ends' (before ++ (e ∷ []))
unfolding last_end
ends_more {ends} {before} e h l q =
    record {
      size = ap length q ∙ length-set ends e.unit e.to ∙ h.size;
      last = λ u. rw q (go u (eqb e.unit u) refl) ∙ sym (foldl_more (λ (p : ℕ) (e : Entry). cond (eqb e.unit u) e.to p) 0 before e);
    }
  where
    go : (u : ℕ) (b : Bool) → eqb e.unit u ≡ b → get_or (set ends e.unit e.to) u 0 ≡ cond (eqb e.unit u) e.to (last_end u before)
    go u true z = rw (z, ← eqb-true e.unit u z) (get_or-set_same ends e.unit e.to 0 (omega (arith, h.size)))
    go u false z = rw z (get_or-set_other ends e.unit u e.to 0 (λ y. eqb-false e.unit u z (sym y)) ∙ h.last u)

-- a reservation is read after those before it by the ends of the last ones
pub after_ends : {ends : List ℕ} {before : List Entry} → Ends ends before → (l : List ℕ) → reservation before l ≡ reservation_after ends l
unfolding reservation reservation_after
after_ends {ends} {before} h l = go (fixed_fields l)
  where
    go : (p : Parsed FixedFields) → and_then p (λ f. fixed_tests (last_end f.unit before) f) ≡ and_then p (λ f. fixed_tests (get_or ends f.unit 0) f)
    go (refused n) = refl
    go (parsed f t) = rw (h.last f.unit)

-- ---- virtual registers

abbrev pub joined : VirtRegFields → List Hint → List ValueSegment → VirtReg
joined f hs ss = record { class = f.class; value_set = f.value_set; spill_weight = f.spill_weight; size = f.size; hints = hs; segments = ss }

pub virt_is :
    (regs classes n h g : ℕ) (l : List ℕ) {f : VirtRegFields} {hs : List Hint} {ss : List ValueSegment} {l₁ l₂ l₃ : List ℕ}
    → virt_reg_fields classes n l ≡ parsed f l₁
    → if_bit (bit 4 f.map) [] (hints regs h) l₁ ≡ parsed hs l₂
    → segments g l₂ ≡ parsed ss l₃
    → virt_reg_at regs classes n h g l ≡ parsed (joined f hs ss) l₃
unfolding virt_reg_at
virt_is regs classes n h g l e e' e'' = rw (e, e', e'')

pub hints_in_length : (vs : List VirtReg) → hints_in vs ≡ length (hints_of_all vs)
unfolding hints_in
hints_in_length vs = sum_length (λ (v : VirtReg). v.hints) 0 vs ∙ omega arith

pub segments_in_length : (vs : List VirtReg) → segments_in vs ≡ length (segments_of_all vs)
unfolding segments_in
segments_in_length vs = sum_length (λ (v : VirtReg). v.segments) 0 vs ∙ omega arith
