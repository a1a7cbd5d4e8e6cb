-- Texts stored one after another are the text that they make, whether they have room or not. Assumes nothing.
use Prim.Native.Nat.{ℕ, zero, suc, ◌+◌, ◌≤◌, ◌<◌}
use native.Mathlib.Omega.{arith}
use native.Mathlib.Nat.{add-zero}
use mathlib.Core.Path.{◌≡◌, refl, sym, ap, ◌∙◌, subst}
use mathlib.Core.Logic.{◌⊎◌, inl, inr}
use mathlib.Core.List.{List, [], ◌∷◌, ◌++◌}
use lib.ListN.{length, get_or, set, take, length-append}
use lib.Seq.{sets, length-sets, take-suc}
use Rattle.lent.proofs.Laws.{sets_append}
use Rattle.texts.specs.Texts.{Stored}

set_past : (l : List ℕ) (i v : ℕ) → length l ≤ i → set l i v ≡ l
set_past [] i v h = refl
set_past (x ∷ xs) zero v h = absurd (omega (arith, h))
set_past (x ∷ xs) (suc i) v h = ap (λ (m : List ℕ). x ∷ m) (set_past xs i v (omega (arith, h)))

sets_past : (l : List ℕ) (i : ℕ) (vs : List ℕ) → length l ≤ i → sets l i vs ≡ l
sets_past l i [] h = refl
sets_past l i (v ∷ vs) h = ap (λ (m : List ℕ). sets m (suc i) vs) (set_past l i v h) ∙ sets_past l (suc i) vs (omega (arith, h))

-- no text
pub nothing : (s : List ℕ) (i : ℕ) → Stored s i [] s i
nothing s i = record { line = refl; place = go (room i (length s)) }
  where
    room : (i n : ℕ) → (i ≤ n) ⊎ (n < i)
    room zero n = inl (omega arith)
    room (suc i) zero = inr (omega arith)
    room (suc i) (suc n) = elim (room i n) [ inl h ↦ inl (omega (arith, h)) | inr h ↦ inr (omega (arith, h)) ]

    go : (i ≤ length s) ⊎ (length s < i) → ((i + 0 ≤ length s) × (i ≡ i + 0)) ⊎ ((length s < i + 0) × (length s ≤ i))
    go (inl h) = inl (omega (arith, h), sym (add-zero i))
    go (inr h) = inr (omega (arith, h), omega (arith, h))

-- a text and then another
pub then : {s t u x y : List ℕ} {i j k : ℕ} → Stored s i x t j → Stored t j y u k → Stored s i (x ++ y) u k
then {s} {t} {u} {x} {y} {i} {j} {k} p q =
    let lt : length t ≡ length s = ap length p.line ∙ length-sets s i x in
    let lx : length (x ++ y) ≡ length x + length y = length-append x y in
    record {
      line = q.line ∙ ap (λ (l : List ℕ). sets l j y) p.line ∙ joined p.place ∙ sym (sets_append s i x y);
      place = both lt lx p.place q.place;
    }
  where
    joined : ((i + length x ≤ length s) × (j ≡ i + length x)) ⊎ ((length s < i + length x) × (length s ≤ j)) → sets (sets s i x) j y ≡ sets (sets s i x) (i + length x) y
    joined (inl e) = ap (λ (m : ℕ). sets (sets s i x) m y) e.1
    joined (inr e) =
        let l = length-sets s i x in
        sets_past (sets s i x) j y (omega (arith, l, e.1)) ∙ sym (sets_past (sets s i x) (i + length x) y (omega (arith, l, e.0)))

    both :
        length t ≡ length s
        → length (x ++ y) ≡ length x + length y
        → ((i + length x ≤ length s) × (j ≡ i + length x)) ⊎ ((length s < i + length x) × (length s ≤ j))
        → ((j + length y ≤ length t) × (k ≡ j + length y)) ⊎ ((length t < j + length y) × (length t ≤ k))
        → ((i + length (x ++ y) ≤ length s) × (k ≡ i + length (x ++ y))) ⊎ ((length s < i + length (x ++ y)) × (length s ≤ k))
    both lt lx (inl a) (inl b) = inl (omega (arith, lt, lx, a.0, a.1, b.0, b.1), omega (arith, lt, lx, a.0, a.1, b.0, b.1))
    both lt lx (inl a) (inr b) = inr (omega (arith, lt, lx, a.0, a.1, b.0, b.1), omega (arith, lt, lx, a.0, a.1, b.0, b.1))
    both lt lx (inr a) (inl b) = inr (omega (arith, lt, lx, a.0, a.1, b.0, b.1), omega (arith, lt, lx, a.0, a.1, b.0, b.1))
    both lt lx (inr a) (inr b) = inr (omega (arith, lt, lx, a.0, a.1, b.0, b.1), omega (arith, lt, lx, a.0, a.1, b.0, b.1))

-- where a text has room, the next place is the one behind it
pub room_place : {s t x : List ℕ} {i j : ℕ} → Stored s i x t j → i + length x ≤ length s → j ≡ i + length x
room_place {s} {t} {x} {i} {j} p h = go p.place
  where
    go : ((i + length x ≤ length s) × (j ≡ i + length x)) ⊎ ((length s < i + length x) × (length s ≤ j)) → j ≡ i + length x
    go (inl e) = e.1
    go (inr e) = absurd (omega (arith, e.0, h))

-- a text by another name
pub named : {s t x y : List ℕ} {i j : ℕ} → x ≡ y → Stored s i x t j → Stored s i y t j
named {s} {t} {x} {y} {i} {j} e p = subst (λ (z : List ℕ). Stored s i z t j) e p

-- a line by another name
pub line_named : {s t u x : List ℕ} {i j : ℕ} → u ≡ t → Stored s i x t j → Stored s i x u j
line_named {s} {t} {u} {x} {i} {j} e p = subst (λ (z : List ℕ). Stored s i x z j) (sym e) p

-- ---- a text byte by byte

pub text_more :
    (s : List ℕ) (at : ℕ) (text : List ℕ) (i : ℕ) (t : List ℕ) (j : ℕ) (u : List ℕ) (k : ℕ)
    → i < length text
    → Stored s at (take i text) t j
    → Stored t j (get_or text i 0 ∷ []) u k
    → Stored s at (take (i + 1) text) u k
text_more s at text i t j u k h p q =
    let n : i + 1 ≡ suc i = omega arith in
    rw n
    (named (sym (take-suc text i 0 h)) (then p q))
