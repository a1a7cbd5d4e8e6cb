-- A table that a loop reads: the rest of it from here is the whole. Assumes nothing.
use Prim.Native.Nat.{ℕ, zero, suc, ◌+◌, ◌-◌, ◌≤◌, ◌<◌}
use native.Mathlib.Omega.{arith}
use mathlib.Core.Path.{◌≡◌, refl, ◌∙◌}
use mathlib.Core.List.{List, [], ◌∷◌, ◌++◌}
use lib.ListN.{length, length-append}
use Rattle.job.specs.Parser.{Parser, Parsed, refused, parsed, and_then, each}

-- of the n entries that l₀ begins with, i are read: those of `before`, and l is left
pub record Reading {A : Type 0} (p : List A → Parser A) (n i : ℕ) (l₀ l : List ℕ) (before : List A) : Type 0 where
  pub read : length before ≡ i
  pub bound : i ≤ n
  pub rest : each p n [] l₀ ≡ each p (n - i) before l

module _ {A : Type 0} where
  pub begin : {p : List A → Parser A} {n : ℕ} {l₀ : List ℕ} → Reading p n 0 l₀ l₀ []
  begin {p} {n} =
      let e : n - 0 ≡ n = omega arith in
      record { read = refl; bound = omega arith; rest = rw e }

module _ {A : Type 0} {p : List A → Parser A} {n i : ℕ} {l₀ l : List ℕ} {before : List A} (h : Reading p n i l₀ l before) where
  pub more : i < n → {x : A} {l' : List ℕ} → p before l ≡ parsed x l' → Reading p n (i + 1) l₀ l' (before ++ (x ∷ []))
  unfolding each
  more lt {x} e =
      let k : n - i ≡ suc (n - (i + 1)) = omega arith in
      record { read = rw (length-append, h.read); bound = omega arith; rest = h.rest ∙ rw (k, e) }

  pub stops : i < n → {k : ℕ} → p before l ≡ refused k → each p n [] l₀ ≡ refused k
  unfolding each
  stops lt e =
      let k : n - i ≡ suc (n - (i + 1)) = omega arith in
      h.rest ∙ rw (k, e)

  pub ends : n ≤ i → each p n [] l₀ ≡ parsed before l
  unfolding each
  ends le =
      let k : n - i ≡ 0 = omega arith in
      h.rest ∙ rw k

module _ {A : Type 0} (p : List A → Parser A) where
  step_length : (n : ℕ) (before : List A) {a : List A} {t : List ℕ} → ((x : A) (m : List ℕ) → each p n (before ++ (x ∷ [])) m ≡ parsed a t → length a ≡ length (before ++ (x ∷ [])) + n) → (q : Parsed A) → and_then q (λ x. each p n (before ++ (x ∷ []))) ≡ parsed a t → length a ≡ length before + suc n
  step_length n before ih (refused k) e = absurd (let z : ◌≡◌ {A = ℕ} 0 1 = cc in omega arith)
  step_length n before ih (parsed x m) e = omega (arith, ih x m e, length-append before (x ∷ []))

  -- as many are read as were to be
  pub each_length : (n : ℕ) (before : List A) (l : List ℕ) {a : List A} {t : List ℕ} → each p n before l ≡ parsed a t → length a ≡ length before + n
  unfolding each
  each_length zero before l {a} e = let same : before ≡ a = cc in rw (← same) (omega arith)
  each_length (suc n) before l e = step_length n before (λ x m. each_length n (before ++ (x ∷ [])) m) (p before l) e
