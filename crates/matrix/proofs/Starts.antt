-- The starting tests of a check in the order of the code: 15, 8, 5 for no segments, then those of the ranges. Assumes nothing.
use Prim.Native.Nat.{ℕ, ◌≤◌, ◌<◌}
use native.Mathlib.Omega.{arith}
use mathlib.Core.Path.{◌≡◌, refl, ap}
use mathlib.Core.List.{List, []}
use mathlib.Core.Option.{Option, none, some}
use mathlib.Core.Bool.{Bool, true, false, ◌||◌, cond}
use lib.Dec.{leb, eqb}
use lib.ListN.{length, take, get_or, length-take}
use borrow.Author.Tests.{le-leb, lt-leb, leb-true, leb-false}
use Rattle.reg_matrix.specs.Refusals.{refusal, or_then, short_buffer, ranges_refusal}
use Rattle.reg_matrix.specs.Questions.{check_limits, check_refusal}
use Rattle.table_words.specs.Segments.{segments_in, start_refusal}
use Rattle.table_words.proofs.RangeLaws.{segments_length, segments_nil, ranges_values}
use Rattle.reg_matrix.specs.Refused.{or_refused}
use Rattle.matrix.specs.Walk.{entered}
use Rattle.matrix.specs.declared.Cursor.{Cursor}
use Rattle.std.specs.Prelude.{Ok, Err}

first_of : (a b c : Bool) (r : Option ℕ) → or_then (cond a (some 15) (cond b (some 8) (cond c (some 5) none))) r ≡ cond a (some 15) (cond b (some 8) (cond c (some 5) r))
first_of true b c r = refl
first_of false true c r = refl
first_of false false true r = refl
first_of false false false r = refl

no_register : (regs : List ℕ) (n r : ℕ) → r < length regs → r < n → leb (length (take n regs)) r ≡ false
no_register regs n r h k = lt-leb (length (take n regs)) r (simp length-take (omega arith))

past_lent : (regs : List ℕ) (n r : ℕ) → length regs ≤ r → leb (length (take n regs)) r ≡ true
past_lent regs n r h = le-leb (length (take n regs)) r (simp length-take (omega arith))

past_count : (regs : List ℕ) (n r : ℕ) → n ≤ r → leb (length (take n regs)) r ≡ true
past_count regs n r h = le-leb (length (take n regs)) r (simp length-take (omega arith))

registers : (regs : List ℕ) (n r : ℕ) → leb (length (take n regs)) r ≡ (leb (length regs) r || leb n r)
registers regs n r = go (leb (length regs) r) (leb n r) refl refl
  where
    go : (a b : Bool) → leb (length regs) r ≡ a → leb n r ≡ b → leb (length (take n regs)) r ≡ (a || b)
    go true b p q = past_lent regs n r (leb-true (length regs) r p)
    go false true p q = past_count regs n r (leb-true n r q)
    go false false p q = no_register regs n r (leb-false (length regs) r p) (leb-false n r q)

pub tests :
    (fs ts vs lent regs : List ℕ) (n r : ℕ)
    → check_refusal lent (take n regs) r (segments_in fs ts vs) ≡ start_refusal (short_buffer (check_limits (length fs)) lent) (length regs) n r fs ts
unfolding check_refusal refusal start_refusal
tests fs ts vs lent regs n r =
    rw (segments_length fs ts vs 0 (length fs), segments_nil fs ts vs 0 (length fs), ranges_values fs ts vs 0 0 (length fs), registers regs n r)
    (first_of (short_buffer (check_limits (length fs)) lent) (leb (length regs) r || leb n r) (eqb (length fs) 0) (ranges_refusal 0 (segments_in fs ts [])))

-- ---- a start by what the tests answered

pub refused_by : (o : Option ℕ) (r : ℕ) (c : Cursor) → some r ≡ o → Err r ≡ or_refused o c
refused_by o r c e = ap (λ (q : Option ℕ). or_refused q c) e

module _
    (fs ts vs es regs lent : List ℕ) (n r : ℕ) (full short : Bool)
    (s : short ≡ short_buffer (check_limits (length fs)) lent)
  where
    pub refused :
        (x : ℕ)
        → some x ≡ start_refusal short (length regs) n r fs ts
        → Err x ≡ or_refused (check_refusal lent (take n regs) r (segments_in fs ts vs)) (entered es fs (get_or regs r 0) full)
    refused x q = rw (tests fs ts vs lent regs n r, ← s, ← q)

    pub started :
        (m : ℕ) (c : Cursor)
        → none ≡ start_refusal short (length regs) n r fs ts
        → m ≡ get_or regs r 0
        → c ≡ entered es fs m full
        → Ok c ≡ or_refused (check_refusal lent (take n regs) r (segments_in fs ts vs)) (entered es fs (get_or regs r 0) full)
    started m c q a e = rw (tests fs ts vs lent regs n r, ← s, ← q, ← a, e)
