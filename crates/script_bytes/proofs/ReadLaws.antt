-- What is read of a script: how much of it, the buffer behind it, and the number that its bytes are. Assumes nothing.
use Rattle.std.proofs.Common.{ℕ, zero, suc, ◌+◌, ◌-◌, ◌*◌, ◌^◌, ◌≤◌, ◌<◌, ◌≡◌, sym, ap, ◌∙◌, subst, List, [], ◌∷◌, Bool, true, false, eqb, get_or, drop, w32, Option, arith}
use Rattle.std.specs.Int.{from_le_bytes}
use Rattle.std.specs.Bool.{then_some}
use native.Mathlib.Nat.{pow-le-pow_right}
use borrow.Author.Tests.{eqb-true, eqb-false}
use lib.Seq.{get_or-drop}
use Rattle.script_bytes.specs.Reading.{SomeRead, Took, NumberRead}

-- whether all n bytes came, by how many did
took_by : (n left left' r : ℕ) → r ≤ n → left' + r ≡ left → Took n left left' (eqb r n)
took_by n left left' r h e =
    record {
      never_more = omega arith;
      all_there = λ z. omega (arith, eqb-true r n z);
      cut_short = λ z. omega (arith, eqb-false r n z);
    }

-- a byte behind the first n is as it was
byte_behind : (buf buf' : List ℕ) (n i : ℕ) → drop n buf' ≡ drop n buf → n ≤ i → get_or buf' i 0 ≡ get_or buf i 0
byte_behind buf buf' n i e h =
    let p : n + (i - n) ≡ i = omega arith in
    subst (λ (k : ℕ). get_or buf' k 0 ≡ get_or buf k 0) p
    (sym (get_or-drop n buf' (i - n) 0) ∙ ap (λ (l : List ℕ). get_or l (i - n) 0) e ∙ get_or-drop n buf (i - n) 0)

-- a number whose bytes from the n-th on are 0 fits n bytes
fits_bytes :
    (n a b c d : ℕ)
    → a < 256
    → b < 256
    → c < 256
    → d < 256
    → (n ≤ 0 → a ≡ 0)
    → (n ≤ 1 → b ≡ 0)
    → (n ≤ 2 → c ≡ 0)
    → (n ≤ 3 → d ≡ 0)
    → a + b * 256 + c * 65536 + d * 16777216 < 256 ^ n
fits_bytes zero a b c d ha hb hc hd za zb zc zd = omega (arith, za (omega arith), zb (omega arith), zc (omega arith), zd (omega arith))
fits_bytes (suc zero) a b c d ha hb hc hd za zb zc zd = omega (arith, zb (omega arith), zc (omega arith), zd (omega arith))
fits_bytes (suc (suc zero)) a b c d ha hb hc hd za zb zc zd = omega (arith, zc (omega arith), zd (omega arith))
fits_bytes (suc (suc (suc zero))) a b c d ha hb hc hd za zb zc zd = omega (arith, zd (omega arith))
fits_bytes (suc (suc (suc (suc k)))) a b c d ha hb hc hd za zb zc zd = omega (arith, pow-le-pow_right {n = 256} (omega arith) {i = 4} {j = suc (suc (suc (suc k)))} (omega arith))

-- the number of four bytes, of which n were asked for and the others were 0
pub number_read :
    (n left left' r x : ℕ) (bytes : List ℕ) (number : Option ℕ)
    → SomeRead n left left' (0 ∷ 0 ∷ 0 ∷ 0 ∷ []) bytes r
    → x ≡ from_le_bytes w32 bytes
    → number ≡ then_some (eqb r n) x
    → NumberRead n left left' number
number_read n left left' r x bytes number s f e =
    let same = byte_behind (0 ∷ 0 ∷ 0 ∷ 0 ∷ []) bytes n in
    let fit : x < 256 ^ n = rw f (fits_bytes n _ _ _ _ (s.bytes 0) (s.bytes 1) (s.bytes 2) (s.bytes 3) (same 0 s.behind) (same 1 s.behind) (same 2 s.behind) (same 3 s.behind)) in
    rw e (by fit (eqb r n) (took_by n left left' r s.asked s.taken))
  where
    by : x < 256 ^ n → (b : Bool) → Took n left left' b → NumberRead n left left' (then_some b x)
    by fit true t = record { took = t; fits = fit }
    by fit false t = record { took = t; fits = tt }
