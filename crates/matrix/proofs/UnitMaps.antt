-- A map of units is walked from its lowest one bit: its units are the one that the trailing zeros give, then those of the map without it.
-- Assumes nothing.
use Prim.Native.Nat.{ℕ, zero, suc, ◌+◌, ◌-◌, ◌*◌, ◌/◌, ◌%◌, ◌^◌, ◌≤◌, ◌<◌, min}
use native.Mathlib.Numerals.{add-one}
use native.Mathlib.Nat.{zero-add, pow-suc}
use native.Mathlib.Omega.{arith}
use native.Mathlib.Decide.{dec_lt}
use mathlib.Core.Path.{◌≡◌, refl, sym, ap, ◌∙◌}
use mathlib.Core.List.{List, [], ◌∷◌}
use lib.Dec.{eqb}
use lib.Bits.{bit_and, and_step, and_self}
use lib.Count.{count_trailing_zeros, under}
use lib.Pow.{pow_mono, shr-shr}
use Rattle.reg_matrix.specs.Lists.{keep, filter, count, bit}
use Rattle.reg_matrix.specs.Table.{units_of}
use Rattle.matrix.specs.Walk.{later_units}

-- the places, from k on, of the one bits among x's lowest n
ones_from : ℕ → ℕ → ℕ → List ℕ
ones_from k zero x = []
ones_from k (suc n) x = keep (eqb (x % 2) 1) k (ones_from (suc k) n (x / 2))

units_from : (k n m : ℕ) → filter (λ u. bit u m) (count k n) ≡ ones_from k n (m / 2 ^ k)
unfolding filter count ones_from
units_from k zero m = refl
units_from k (suc n) m =
    let e : m / 2 ^ k / 2 ≡ m / 2 ^ suc k = shr-shr m k 1 ∙ ap (λ (j : ℕ). m / 2 ^ j) (add-one k) in
    ap (λ (l : List ℕ). keep (bit k m) k l) (units_from (suc k) n m ∙ ap (ones_from (suc k) n) (sym e))

-- the lowest one bit, and the others
lowest : (k n x : ℕ) → 0 < x → x < 2 ^ n → (2 ^ count_trailing_zeros n x ≤ x) × (ones_from k n x ≡ (k + count_trailing_zeros n x) ∷ ones_from k n (x - 2 ^ count_trailing_zeros n x))
unfolding ones_from count_trailing_zeros
lowest k zero x h l = absurd (omega arith)
lowest k (suc n) x h l = go (x % 2) refl (λ a b. lowest (suc k) n (x / 2) a b)
  where
    Goal : ℕ → Type 0
    Goal r =
        (2 ^ under r (count_trailing_zeros n (x / 2)) ≤ x)
        × (keep (eqb (x % 2) 1) k (ones_from (suc k) n (x / 2))
        ≡ (k + under r (count_trailing_zeros n (x / 2))) ∷ ones_from k (suc n) (x - 2 ^ under r (count_trailing_zeros n (x / 2))))

    Lower : Type 0
    Lower =
        (2 ^ count_trailing_zeros n (x / 2) ≤ x / 2)
        × (ones_from (suc k) n (x / 2) ≡ (suc k + count_trailing_zeros n (x / 2)) ∷ ones_from (suc k) n (x / 2 - 2 ^ count_trailing_zeros n (x / 2)))

    go : (r : ℕ) → x % 2 ≡ r → (0 < x / 2 → x / 2 < 2 ^ n → Lower) → Goal r
    go zero q ih =
        let p : 2 ^ suc n ≡ 2 ^ n * 2 = pow-suc 2 n in
        let i : Lower = ih (omega arith) (omega arith) in
        let t : ℕ = count_trailing_zeros n (x / 2) in
        let d : 2 ^ suc t ≡ 2 ^ t * 2 = pow-suc 2 t in
        let a : (x - 2 ^ suc t) % 2 ≡ 0 = omega (arith, i.0) in
        let b : (x - 2 ^ suc t) / 2 ≡ x / 2 - 2 ^ t = omega (arith, i.0) in
        let c : suc k + t ≡ k + suc t = omega arith in
        (omega (arith, i.0), rw (q, a, b, ← c) i.1)
    go (suc zero) q ih =
        let a : (x - 1) % 2 ≡ 0 = omega arith in
        let b : (x - 1) / 2 ≡ x / 2 = omega arith in
        let c : k + 0 ≡ k = omega arith in
        (omega arith, rw (q, a, b, c))
    go (suc (suc r)) q ih = absurd (omega arith)

-- the first unit of a map, and the others
pub record FirstUnit (m : ℕ) : Type 0 where
  pub small : count_trailing_zeros 64 m < 64
  pub within : 2 ^ count_trailing_zeros 64 m ≤ m
  pub others : units_of m ≡ count_trailing_zeros 64 m ∷ units_of (m - 2 ^ count_trailing_zeros 64 m)

pub first_unit : (m : ℕ) → 0 < m → m < 2 ^ 64 → FirstUnit m
unfolding units_of
first_unit m h l =
    let k = lowest 0 64 m h l in
    record {
      small = elim (dec_lt (count_trailing_zeros 64 m) 64) as (λ _. count_trailing_zeros 64 m < 64) [ yes a ↦ a | no a ↦ absurd (large (omega arith) k.0) ];
      within = k.0;
      others =
          whole m ∙ rw (zero-add (count_trailing_zeros 64 m)) at k.1
          ∙ ap (λ (x : List ℕ). count_trailing_zeros 64 m ∷ x) (sym (whole (m - 2 ^ count_trailing_zeros 64 m)));
    }
  where
    whole : (x : ℕ) → filter (λ u. bit u x) (count 0 64) ≡ ones_from 0 64 x
    whole x = let e : x / 2 ^ 0 ≡ x = omega arith in units_from 0 64 x ∙ ap (ones_from 0 64) e

    large : {i : ℕ} → 64 ≤ i → 2 ^ i ≤ m → ⊥
    large a b = omega (arith, pow_mono a)

pub no_units : units_of 0 ≡ []
unfolding units_of filter count
no_units = refl

-- ---- the map without its lowest one bit, as the check takes it off

zeros_even : (k n : ℕ) → n % 2 ≡ 0 → count_trailing_zeros (suc k) n ≡ suc (count_trailing_zeros k (n / 2))
unfolding count_trailing_zeros
zeros_even k n p = rw p

zeros_odd : (k n : ℕ) → n % 2 ≡ 1 → count_trailing_zeros (suc k) n ≡ 0
unfolding count_trailing_zeros
zeros_odd k n p = rw p

-- the lowest one bit is taken off
off_even : (n : ℕ) → 0 < n → n % 2 ≡ 0 → later_units n ≡ later_units (n / 2) * 2
off_even n h p =
    let a : (n - 1) / 2 ≡ n / 2 - 1 = omega arith in
    let b : (n - 1) % 2 ≡ 1 = omega arith in
    let c : min (n % 2) ((n - 1) % 2) ≡ 0 = omega arith in
    and_step n (n - 1) ∙ (ap (λ x. bit_and (n / 2) ((n - 1) / 2) * 2 + x) c ∙ (ap (λ x. bit_and (n / 2) x * 2 + 0) a ∙ omega arith))

off_odd : (n : ℕ) → n % 2 ≡ 1 → later_units n ≡ n / 2 * 2
off_odd n p =
    let a : (n - 1) / 2 ≡ n / 2 = omega arith in
    let c : min (n % 2) ((n - 1) % 2) ≡ 0 = omega arith in
    and_step n (n - 1)
    ∙ (ap (λ x. bit_and (n / 2) ((n - 1) / 2) * 2 + x) c ∙ (ap (λ x. bit_and (n / 2) x * 2 + 0) a ∙ (ap (λ x. x * 2 + 0) (and_self (n / 2)) ∙ omega arith)))

later_is : (k n : ℕ) → 0 < n → n < 2 ^ k → later_units n ≡ n - 2 ^ count_trailing_zeros k n
later_is zero n h l = absurd (omega arith)
later_is (suc k) n h l = go (n % 2) refl (λ p q. later_is k (n / 2) p q)
  where
    go : (r : ℕ) → n % 2 ≡ r → (0 < n / 2 → n / 2 < 2 ^ k → later_units (n / 2) ≡ n / 2 - 2 ^ count_trailing_zeros k (n / 2)) → later_units n ≡ n - 2 ^ count_trailing_zeros (suc k) n
    go zero p ih =
        let t : ℕ = count_trailing_zeros k (n / 2) in
        let d : 2 ^ suc t ≡ 2 ^ t * 2 = pow-suc 2 t in
        let i : later_units (n / 2) ≡ n / 2 - 2 ^ t = ih (omega arith) (omega (arith, pow-suc 2 k)) in
        let e = off_even n h p in
        rw (zeros_even k n p) (omega arith)
    go (suc zero) p ih = let e = off_odd n p in rw (zeros_odd k n p) (omega arith)
    go (suc (suc r)) p ih = absurd (omega arith)

pub units_lowest : (m : ℕ) → 0 < m → m < 2 ^ 64 → units_of m ≡ count_trailing_zeros 64 m ∷ units_of (later_units m)
units_lowest m h l = (first_unit m h l).others ∙ ap (λ (x : ℕ). count_trailing_zeros 64 m ∷ units_of x) (sym (later_is 64 m h l))
