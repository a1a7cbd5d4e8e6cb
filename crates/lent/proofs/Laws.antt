-- What stands at a place inside does not hang on the default; when a part is empty, and when it is all that was
-- asked for; stores of two lists; a loop that stores one number. Assumes nothing.
use Prim.Native.Nat.{ℕ, zero, suc, ◌+◌, ◌-◌, ◌≤◌, ◌<◌}
use native.Mathlib.Omega.{arith}
use native.Mathlib.Numerals.{add-one}
use native.Mathlib.Nat.{add-zero}
use mathlib.Core.Path.{◌≡◌, refl, ap, ◌∙◌}
use mathlib.Core.List.{List, [], ◌∷◌, ◌++◌}
use lib.ListN.{length, take, drop, get_or, set, replicate, drop_of_length-le, length-drop}
use lib.Seq.{sets, take_all, set_comm, drop-set-add, sets-eq}
use borrow.Author.Tests.{lt-leb, le-leb}
use Rattle.lent.specs.Parts.{part, Begins, filled}

pub any_default : {A : Type 0} (l : List A) (i : ℕ) (d e : A) → i < length l → get_or l i d ≡ get_or l i e
any_default [] i d e h = absurd (omega arith)
any_default (x ∷ xs) zero d e h = refl
any_default (x ∷ xs) (suc i) d e h = any_default xs i d e (omega arith)

module _ {A : Type 0} (a b : ℕ) (xs : List A) where
  pub turned : b < a → part a b xs ≡ []
  unfolding part
  turned h = simp (lt-leb _ _ h)

  pub inside : a ≤ b → b ≤ length xs → part a b xs ≡ take (b - a) (drop a xs)
  unfolding part
  inside h l = simp (le-leb _ _ h, le-leb _ _ l)

  pub past : a ≤ b → length xs < b → part a b xs ≡ []
  unfolding part
  past h l = simp (le-leb _ _ h, lt-leb _ _ l)

-- stores of two lists, one after the other
module _ {A : Type 0} where
  pub sets_append : (l : List A) (i : ℕ) (vs ws : List A) → sets l i (vs ++ ws) ≡ sets (sets l i vs) (i + length vs) ws
  sets_append l i [] ws = rw add-zero
  sets_append l i (v ∷ vs) ws = sets_append (set l i v) (suc i) vs ws ∙ ap (λ (k : ℕ). sets (sets l i (v ∷ vs)) k ws) (omega arith)

-- a loop that stores d: the rest from here is the whole
module _ {A : Type 0} (d : A) where
  pub pad_more : (b b' : List A) (i to : ℕ) → i < to → b' ≡ set b i d → sets b i (replicate (to - i) d) ≡ sets b' (i + 1) (replicate (to - (i + 1)) d)
  pad_more b b' i to h e =
      let k : to - i ≡ suc (to - (i + 1)) = omega arith in
      rw (k, e, add-one i)

  pub pad_end : (b : List A) (i to : ℕ) → to ≤ i → sets b i (replicate (to - i) d) ≡ b
  pad_end b i to h =
      let k : to - i ≡ 0 = omega arith in
      rw k

  -- and from place 0 on it fills the front
  pub all_filled : (n : ℕ) (b : List A) {b' : List A} → b' ≡ sets b 0 (replicate (n - 0) d) → b' ≡ filled n d b
  unfolding filled
  all_filled n b e = let z : n - 0 ≡ n = omega arith in e ∙ rw z

-- what stands from a place on: nothing past the end, else as much as is left
module _ {A : Type 0} (a : ℕ) (xs : List A) where
  pub none_from : length xs < a → drop a xs ≡ []
  none_from h = drop_of_length-le xs {i = a} (omega arith)

  pub all_from : take (length xs - a) (drop a xs) ≡ drop a xs
  all_from = take_all (length xs - a) (drop a xs) (simp length-drop (omega arith))

-- ---- lists that stand in one slice, each from a place of its own on

module _ {A : Type 0} where
  -- a store before a run of stores
  pub set_sets : (l : List A) (k : ℕ) (x : A) (m : ℕ) (ys : List A) → k < m → set (sets l m ys) k x ≡ sets (set l k x) m ys
  set_sets l k x m [] h = refl
  set_sets l k x m (y ∷ ys) h =
      set_sets (set l m y) k x (suc m) ys (omega arith) ∙ ap (λ (z : List A). sets z (suc m) ys) (set_comm l m k y x (λ e. omega arith))

  -- a run of stores before another
  pub sets_sets : (l : List A) (k : ℕ) (xs : List A) (m : ℕ) (ys : List A) → k + length xs ≤ m → sets (sets l m ys) k xs ≡ sets (sets l k xs) m ys
  sets_sets l k [] m ys h = refl
  sets_sets l k (x ∷ xs) m ys h =
      ap (λ (z : List A). sets z (suc k) xs) (set_sets l k x m ys (omega arith)) ∙ sets_sets (set l k x) (suc k) xs m ys (omega arith)

  -- what stands from a place on, after stores at it or behind it
  pub drop_sets : (b : ℕ) (l : List A) (i : ℕ) (ys : List A) → drop b (sets l (b + i) ys) ≡ sets (drop b l) i ys
  drop_sets b l i [] = refl
  drop_sets b l i (y ∷ ys) =
      let e : suc (b + i) ≡ b + suc i = omega arith in
      rw e (drop_sets b (set l (b + i) y) (suc i) ys ∙ ap (λ (z : List A). sets z (suc i) ys) (drop-set-add b l i y))

  -- stores behind the front of a list
  pub sets_behind : (xs t : List A) (i : ℕ) (ys : List A) → sets (xs ++ t) (length xs + i) ys ≡ xs ++ sets t i ys
  sets_behind xs t i [] = refl
  sets_behind xs t i (y ∷ ys) =
      let e : suc (length xs + i) ≡ length xs + suc i = omega arith in
      rw (e, set_behind xs t i y) (sets_behind xs (set t i y) (suc i) ys)
    where
      set_behind : (xs t : List A) (i : ℕ) (y : A) → set (xs ++ t) (length xs + i) y ≡ xs ++ set t i y
      set_behind [] t i y = ap (λ (k : ℕ). set t k y) (omega arith)
      set_behind (x ∷ xs) t i y = let e : suc (length xs) + i ≡ suc (length xs + i) = omega arith in rw (e, set_behind xs t i y)

  pub begins_stored : (b : ℕ) (l xs : List A) → b + length xs ≤ length l → Begins xs (drop b (sets l b xs))
  begins_stored b l xs h =
      let z : b + 0 ≡ b = omega arith in
      let n : 0 + length xs ≤ length (drop b l) = simp length-drop (omega arith) in
      (drop (0 + length xs) (drop b l), rw z at (drop_sets b l 0 xs) ∙ sets-eq xs (drop b l) 0 n)

  pub begins_behind : (b : ℕ) (l xs : List A) (c : ℕ) (ys : List A) → b + length xs ≤ c → Begins xs (drop b l) → Begins xs (drop b (sets l c ys))
  begins_behind b l xs c ys h (t, e) =
      let k : b + (length xs + (c - b - length xs)) ≡ c = omega arith in
      (sets t (c - b - length xs) ys, rw k at (drop_sets b l (length xs + (c - b - length xs)) ys) ∙ rw e (sets_behind xs t (c - b - length xs) ys))
