-- The units of a map: how many there are, that a map that is not 0 has one, and that they are decided by their members. Assumes nothing.
use Prim.Native.Nat.{ℕ, zero, suc, ◌<◌, ◌+◌, ◌/◌, ◌%◌, ◌^◌}
use native.Mathlib.Omega.{arith}
use native.Mathlib.Nat.{pow-suc, div-one, mod-lt, div-div-eq-div-mul}
use native.Mathlib.Decide.{dec_lt}
use mathlib.Core.Path.{◌≡◌, refl, sym, ap, ◌∙◌}
use mathlib.Core.List.{List, [], ◌∷◌}
use lib.Dec.{T, eqb, eqb_refl}
use lib.Count.{ones_in}
use lib.ListN.{length}
use Rattle.reg_matrix.specs.Lists.{keep, filter, count, bit, same}
use Rattle.reg_matrix.specs.Table.{units_of}
use Rattle.reg_matrix.proofs.Tests.{same_test, both_in}
use Rattle.reg_matrix.proofs.Members.{◌∈◌, count_out, units_of_in, units_of_out}
use Rattle.job.proofs.Premises.{UnitsWithin}
use Rattle.job.proofs.Lists.{a_member, filter_same}

-- ---- how many

keep_length : (d i : ℕ) (xs : List ℕ) → d < 2 → length (keep (eqb d 1) i xs) ≡ d + length xs
keep_length zero i xs h = omega arith
keep_length (suc zero) i xs h = omega arith
keep_length (suc (suc d)) i xs h = absurd (omega arith)

bits_length : (m i n : ℕ) → length (filter (λ u. bit u m) (count i n)) ≡ ones_in n (m / 2 ^ i)
unfolding filter count ones_in
bits_length m i zero = refl
bits_length m i (suc n) =
    let half : m / 2 ^ suc i ≡ m / 2 ^ i / 2 = ap (λ (x : ℕ). m / x) (pow-suc 2 i) ∙ sym (div-div-eq-div-mul m (2 ^ i) 2) in
    keep_length (m / 2 ^ i % 2) i (filter (λ u. bit u m) (count (suc i) n)) (mod-lt (m / 2 ^ i) (omega arith))
    ∙ ap (λ (x : ℕ). m / 2 ^ i % 2 + x) (bits_length m (suc i) n ∙ ap (ones_in n) half)

pub units_length : (m : ℕ) → length (units_of m) ≡ ones_in 64 m
unfolding units_of
units_length m = bits_length m 0 64 ∙ ap (ones_in 64) (div-one m)

-- ---- one at least

some_bit : (k m : ℕ) → m < 2 ^ k → 0 < m → 0 < ones_in k m
unfolding ones_in
some_bit zero m a b = absurd (omega arith)
some_bit (suc k) m a b =
    elim (dec_lt 0 (m / 2)) as (λ _. 0 < m % 2 + ones_in k (m / 2)) [ yes h ↦ omega (arith, some_bit k (m / 2) (omega (arith, pow-suc 2 k)) h) | no h ↦ omega arith ]

pub a_unit : (m : ℕ) → m < 2 ^ 64 → 0 < m → (u : ℕ) × (u ∈ units_of m)
a_unit m a b = a_member (units_of m) (omega (arith, units_length m, some_bit 64 m a b))

-- ---- the same ones

pub same_units : (m n : ℕ) → UnitsWithin m n → UnitsWithin n m → units_of m ≡ units_of n
unfolding units_of
same_units m n f g =
    filter_same (λ u. bit u m) (λ u. bit u n) (count 0 64) (λ u k.
    let l : u < 64 = omega (arith, (count_out 0 64 u k).1) in
    same_test (bit u m) (bit u n) (λ t. (units_of_out n u (f u (units_of_in m u l t))).0) (λ t. (units_of_out m u (g u (units_of_in n u l t))).0))

pub same_self : (xs : List ℕ) → T (same xs xs)
unfolding same
same_self [] = tt
same_self (x ∷ xs) = both_in (eqb x x) (same xs xs) (eqb_refl x) (same_self xs)
