-- What the code's readers answer, as facts of the parsers of Load.antt. Assumes nothing.
use Prim.Native.Nat.{ℕ, zero, suc, ◌+◌, ◌*◌, ◌-◌, ◌/◌, ◌%◌, ◌≤◌, ◌<◌, ◌^◌}
use native.Mathlib.Nat.{pow-suc, pow-le-pow_right}
use native.Mathlib.Omega.{arith}
use mathlib.Core.Path.{◌≡◌, refl, ap, sym, ◌∙◌}
use mathlib.Core.List.{List, [], ◌∷◌, ◌++◌}
use lib.ListN.{length, take, drop, get_or, length-append, length-drop}
use lib.Seq.{drop-drop}
use Rattle.std.proofs.Common.{w64}
use Rattle.std.proofs.lemmas.List.{length-take-le}
use Rattle.std.specs.Int.{from_le_bytes}
use Rattle.std.specs.List.{slice_range}
use Rattle.std.specs.Prelude.{Ok}
use Rattle.reader.specs.Read.{number, Little}
use lib.Count.{ones, ones_in, ones_step}
use Rattle.job.specs.Parser.{refused, parsed, little}

pub little_short : (n : ℕ) (l : List ℕ) → length l < n → little n l ≡ refused 1
unfolding little
little_short zero l h = absurd (omega arith)
little_short (suc n) [] h = refl
little_short (suc n) (b ∷ l) h = rw (little_short n l (omega arith))

-- the first n bytes give their number
little_front : (n : ℕ) (l : List ℕ) → n ≤ length l → little n l ≡ parsed (number (take n l)) (drop n l)
unfolding little
little_front zero l h = refl
little_front (suc n) [] h = absurd (omega arith)
little_front (suc n) (b ∷ l) h = rw (little_front n l (omega arith))

pub number_small : (l : List ℕ) → ((i : ℕ) → get_or l i 0 < 256) → number l < 256 ^ length l
number_small [] h = omega arith
number_small (b ∷ l) h = rw (pow-suc 256 (length l)) (omega (arith, h 0, number_small l (λ i. h (suc i))))

-- zeros behind them change nothing
zeros_behind : (n : ℕ) (l : List ℕ) → number l ≡ 0 → number (drop n l) ≡ 0
zeros_behind zero l h = h
zeros_behind (suc n) [] h = refl
zeros_behind (suc n) (b ∷ l) h = zeros_behind n l (omega (arith, h))

number_append : (l zs : List ℕ) → number zs ≡ 0 → number (l ++ zs) ≡ number l
number_append [] zs h = h
number_append (b ∷ l) zs h = ap (λ (k : ℕ). b + 256 * k) (number_append l zs h)

-- of 8 bytes
number_of_8 : (l : List ℕ) → length l ≡ 8 → from_le_bytes w64 l ≡ number l
number_of_8 (a ∷ b ∷ c ∷ d ∷ e ∷ f ∷ g ∷ h ∷ []) n = omega arith
number_of_8 l n = absurd (omega (arith, n))

pub number_padded : (l : List ℕ) {x : ℕ} → length l ≤ 8 → x ≡ from_le_bytes w64 (l ++ drop (length l) (0 ∷ 0 ∷ 0 ∷ 0 ∷ 0 ∷ 0 ∷ 0 ∷ 0 ∷ [])) → x ≡ number l
number_padded l h e =
    let zs : List ℕ = 0 ∷ 0 ∷ 0 ∷ 0 ∷ 0 ∷ 0 ∷ 0 ∷ 0 ∷ [] in
    e
    ∙ number_of_8 (l ++ drop (length l) zs) (simp (length-append, length-drop) (omega arith))
    ∙ number_append l (drop (length l) zs) (zeros_behind (length l) zs refl)

-- the bytes at the front of what is left
pub read_front :
    (s : List ℕ) (at : ℕ) {n v : ℕ} {l bytes : List ℕ}
    → l ≡ drop at s
    → n ≤ length l
    → bytes ≡ slice_range l 0 n
    → v ≡ number bytes
    → v < 256 ^ length bytes
    → Little (drop at s) (drop (at + n) s) n (Ok v)
read_front s at {n} {l} f h b e k =
    let z : n - 0 ≡ n = omega arith in
    let b' : _ ≡ take n (drop at s) = b ∙ rw (z, f) in
    let h' : n ≤ length (drop at s) = rw f at h in
    record {
      view = sym (little_front n (drop at s) h' ∙ rw (e, b', drop-drop n at s));
      small = rw (b', length-take-le n (drop at s) h') at k;
    }

pub pow_pos : (k : ℕ) → 0 < 256 ^ k
pow_pos k = omega (arith, pow-le-pow_right {n = 256} (omega arith) {i = 0} {j = k} (omega arith))

-- a map's ones, counted over its d lowest digits
pub ones_in_lem : (d n : ℕ) → n < 2 ^ d → ones n ≡ ones_in d n
unfolding ones ones_in
ones_in_lem zero n h =
    let e : n ≡ 0 = omega arith in
    rw e
ones_in_lem (suc d) n h = ones_step n ∙ ap (λ (k : ℕ). n % 2 + k) (ones_in_lem d (n / 2) (omega (arith, rw (pow-suc 2 d) at h)))
