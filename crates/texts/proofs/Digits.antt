-- The digits of a number, last one last, and how many they are. Assumes nothing.
use Prim.Native.Nat.{ℕ, zero, suc, ◌+◌, ◌^◌, ◌/◌, ◌%◌, ◌≤◌, ◌<◌}
use native.Mathlib.Omega.{arith}
use native.Mathlib.Nat.{pow-suc}
use mathlib.Core.Path.{◌≡◌, refl, sym, ap, ◌∙◌}
use mathlib.Core.List.{List, [], ◌∷◌, ◌++◌}
use mathlib.Core.Bool.{Bool, true, false, cond}
use native.Mathlib.Decide.{dec_lt}
use lib.Dec.{ltb}
use lib.ListN.{length}
use lib.Seq.{append_snoc}
use borrow.Author.Tests.{lt-ltb, le-ltb}
use Rattle.reg_matrix.specs.Lines.{digits, number}

-- what stands behind the digits
digits_behind : (d n : ℕ) (r : List ℕ) → digits d n r ≡ digits d n [] ++ r
unfolding digits
digits_behind zero n r = refl
digits_behind (suc d) n r = go (ltb n 10) (digits_behind d (n / 10))
  where
    x : ℕ
    x = 48 + n % 10

    go : (b : Bool)
        → ((r : List ℕ) → digits d (n / 10) r ≡ digits d (n / 10) [] ++ r)
        → cond b (x ∷ r) (digits d (n / 10) (x ∷ r)) ≡ cond b (x ∷ []) (digits d (n / 10) (x ∷ [])) ++ r
    go true f = refl
    go false f = f (x ∷ r) ∙ sym (ap (λ (l : List ℕ). l ++ r) (f (x ∷ [])) ∙ append_snoc (digits d (n / 10) []) x r)

-- a bound that is met may be raised
digits_enough : (d n : ℕ) (r : List ℕ) → n < 10 ^ suc d → digits (suc (suc d)) n r ≡ digits (suc d) n r
unfolding digits
digits_enough zero n r h = let e : n < 10 = omega (arith, h) in rw (lt-ltb n 10 e)
digits_enough (suc d) n r h =
    ap (cond (ltb n 10) ((48 + n % 10) ∷ r))
    (digits_enough d (n / 10) ((48 + n % 10) ∷ r) (omega (arith, h, pow-suc 10 (suc d))))

digits_rest : (d n : ℕ) → 10 ≤ n → digits (suc d) n [] ≡ digits d (n / 10) ((48 + n % 10) ∷ [])
unfolding digits
digits_rest d n h = rw (le-ltb n 10 h)

-- the last digit, and those before it
pub number_one : (n : ℕ) → n < 10 → number n ≡ (48 + n % 10) ∷ []
unfolding digits
number_one n h = rw (lt-ltb n 10 h)

pub number_more : (n : ℕ) → 10 ≤ n → n < 2 ^ 64 → number n ≡ number (n / 10) ++ ((48 + n % 10) ∷ [])
number_more n h k =
    first ∙ digits_behind 19 (n / 10) ((48 + n % 10) ∷ []) ∙ ap (λ (l : List ℕ). l ++ ((48 + n % 10) ∷ [])) (sym (digits_enough 18 (n / 10) [] (omega arith)))
  where
    first : number n ≡ digits 19 (n / 10) ((48 + n % 10) ∷ [])
    first = digits_rest 19 n h

-- ---- how many they are

digits_length : (d n : ℕ) (r : List ℕ) → length (digits d n r) ≤ d + length r
unfolding digits
digits_length zero n r = omega arith
digits_length (suc d) n r = go (ltb n 10) (digits_length d (n / 10) ((48 + n % 10) ∷ r))
  where
    go : (b : Bool)
        → length (digits d (n / 10) ((48 + n % 10) ∷ r)) ≤ d + suc (length r)
        → length (cond b ((48 + n % 10) ∷ r) (digits d (n / 10) ((48 + n % 10) ∷ r))) ≤ suc d + length r
    go true f = omega arith
    go false f = omega (arith, f)

pub number_length : (n : ℕ) → length (number n) ≤ 20
number_length n = omega (arith, digits_length 20 n [])

pub number_short : (n : ℕ) → n < 100 → length (number n) ≤ 2
number_short n h = go (dec_lt n 10)
  where
    go : Dec (n < 10) → length (number n) ≤ 2
    go (yes k) = rw (number_one n k) (omega arith)
    go (no k) = rw (number_more n (omega arith) (omega arith), number_one (n / 10) (omega arith)) (omega arith)
