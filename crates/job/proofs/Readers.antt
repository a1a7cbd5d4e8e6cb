-- What the answer of a reader has, whatever bytes it read: a law for each of the readers of specs/Parser.antt. Assumes nothing.
use Prim.Native.Nat.{ℕ, zero, suc, ◌<◌, ◌+◌, ◌^◌}
use native.Mathlib.Omega.{arith}
use native.Mathlib.Nat.{pow-suc}
use mathlib.Core.Path.{◌≡◌}
use mathlib.Core.List.{List, [], ◌∷◌, ◌++◌}
use mathlib.Core.Bool.{Bool, true, false, not, cond}
use lib.Dec.{T}
use lib.ListN.{length, length-append}
use Rattle.job.specs.Parser.{Parsed, refused, parsed, Parser, and_then, if_bit, each, refuse, little}
use Rattle.job.specs.Load.{Bytes}

-- what is left to read is bytes
pub record Left (s : List ℕ) : Type 0 where
  pub bytes : Bytes s

module _ {A : Type 0} where
  abbrev Parts : (A → Type 0) → Parsed A → Type 0
  Parts P (refused n) = Unit {0}
  Parts P (parsed a s) = P a × Left s

-- where something was read, it has P, and bytes are left
pub record Got {A : Type 0} (P : A → Type 0) (x : Parsed A) : Type 0 where
  pub parts : Parts P x

module _ {A : Type 0} {P : A → Type 0} where
  pub got_done : {a : A} {s : List ℕ} → P a → Left s → Got P (parsed a s)
  got_done p b = record { parts = (p, b) }

  got_refused : {n : ℕ} → Got P (refused n)
  got_refused = record { parts = tt }

  -- the field, or what an absent one is
  pub got_bit : (t : Bool) (d : A) (p : Parser A) {s : List ℕ} → (T (not t) → P d) → Got P (p s) → Left s → Got P (if_bit t d p s)
  got_bit true d p h g b = g
  got_bit false d p h g b = got_done (h tt) b

  pub got_cond : (t : Bool) (p q : Parser A) (s : List ℕ) → Got P (p s) → Got P (q s) → Got P (cond t p q s)
  got_cond true p q s g h = g
  got_cond false p q s g h = h

module _ {A B : Type 0} {P : A → Type 0} {Q : B → Type 0} where
  pub got_then : {x : Parsed A} {f : A → Parser B} → Got P x → ((a : A) (s : List ℕ) → P a → Left s → Got Q (f a s)) → Got Q (and_then x f)
  got_then {x = refused n} g k = got_refused
  got_then {x = parsed a s} g k = k a s g.parts.0 g.parts.1

module _ {A : Type 0} {P Q : A → Type 0} where
  pub got_so : {x : Parsed A} → Got P x → ((a : A) → P a → Q a) → Got Q x
  got_so {x = refused n} g h = got_refused
  got_so {x = parsed a s} g h = got_done (h a g.parts.0) g.parts.1

pub got_refuse : (n : ℕ) (t : Bool) {s : List ℕ} → Left s → Got (λ u. T (not t)) (refuse n t s)
got_refuse n true b = got_refused
got_refuse n false b = got_done tt b

pub got_little : (n : ℕ) {s : List ℕ} → Left s → Got (λ k. k < 256 ^ n) (little n s)
unfolding little
got_little zero b = got_done (omega arith) b
got_little (suc n) {s = []} b = got_refused
got_little (suc n) {s = x ∷ s} b =
    got_then (got_little n (record { bytes = λ i. b.bytes (suc i) })) λ h t p c. got_done (omega (arith, b.bytes 0, pow-suc 256 n)) c

-- n bytes, or what absent ones are
pub got_number : (t : Bool) (d n : ℕ) {s : List ℕ} → d < 256 ^ n → Left s → Got (λ k. k < 256 ^ n) (if_bit t d (little n) s)
got_number t d n h b = got_bit t d (little n) (λ z. h) (got_little n b) b

-- n read one after another: what holds of nothing, and with each one more, holds of them all
module _ {A : Type 0} (I : List A → Type 0) (p : List A → Parser A) (n : ℕ) where
  abbrev Keeps : Type 0
  Keeps = (before : List A) (s : List ℕ) → length before < n → I before → Left s → Got (λ (x : A). I (before ++ (x ∷ []))) (p before s)

  got_more :
      (k : ℕ) (before : List A) {s : List ℕ}
      → length before + k ≡ n
      → I before
      → Keeps
      → Left s
      → Got (λ (xs : List A). I xs × (length xs ≡ n)) (each p k before s)
  unfolding each
  got_more zero before q i h b = got_done (i, omega arith) b
  got_more (suc k) before {s} q i h b =
      got_then (h before s (omega arith) i b) λ x s j b. got_more k (before ++ (x ∷ [])) (omega (arith, length-append before (x ∷ []))) j h b

  pub got_each : {s : List ℕ} → I [] → Keeps → Left s → Got (λ (xs : List A). I xs × (length xs ≡ n)) (each p n [] s)
  got_each i h b = got_more n [] (omega arith) i h b
