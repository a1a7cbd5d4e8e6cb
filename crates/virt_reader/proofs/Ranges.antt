-- The tests of a range in the parser are those of `range_refusal`, in the same order. Assumes nothing.
use Prim.Native.Nat.{ℕ}
use mathlib.Core.Path.{◌≡◌, refl}
use mathlib.Core.List.{List}
use mathlib.Core.Option.{Option, none, some}
use mathlib.Core.Bool.{Bool, true, false, ◌||◌, cond}
use lib.Dec.{leb, ltb}
use Rattle.reg_matrix.specs.Refusals.{refusal, bad_slot, range_refusal}
use Rattle.reg_matrix.specs.declared.ValueSegment.{ValueSegment}
use Rattle.job.specs.Parser.{Parsed, refused, parsed, ◌>>◌, done, refuse}

-- a range that was read, or the number of the test that refuses it
abbrev pub tested : Option ℕ → ValueSegment → List ℕ → Parsed ValueSegment
tested none r l = parsed r l
tested (some n) r l = refused n

pub range_tested :
    (past a b x : ℕ) (l : List ℕ)
    → (do refuse 5 (leb b a); refuse 6 (bad_slot a || bad_slot b); refuse 7 (ltb a past); done (record { from = a; to = b; value = x })) l
    ≡ tested (range_refusal past (record { from = a; to = b; value = 0 })) (record { from = a; to = b; value = x }) l
unfolding range_refusal refusal
range_tested past a b x l = go (leb b a) (bad_slot a || bad_slot b) (ltb a past)
  where
    go : (p q r : Bool) → (do refuse 5 p; refuse 6 q; refuse 7 r; done (record { from = a; to = b; value = x })) l ≡ tested (cond p (some 5) (cond q (some 6) (cond r (some 7) none))) (record { from = a; to = b; value = x }) l
    go true q r = refl
    go false true r = refl
    go false false true = refl
    go false false false = refl
