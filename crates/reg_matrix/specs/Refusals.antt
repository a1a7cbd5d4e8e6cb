-- Refusals (document 01, "What the stage answers", "Order"): tests in their order, the short buffer, and the tests of ranges. Assumes nothing.
use Rattle.std.specs.Prelude.{ℕ, ◌%◌, List, [], ◌∷◌, Bool, true, false, ◌||◌, cond, ltb, leb, eqb}
use Rattle.std.proofs.Math.Option.{Option, none, some}
use Rattle.reg_matrix.specs.declared.ValueSegment.{ValueSegment}

-- 01, "What the stage answers": a refusal's number, and the test that gives it
pub record Test : Type 0 where
  pub number : ℕ
  pub refused : Bool

-- 01, "What the stage answers": the number n is "given when" b
infix 90 ◌if◌
abbrev pub ◌if◌ : ℕ → Bool → Test
n if b = record { number = n; refused = b }

-- 01, "Order": the number of the first test that refuses
unfoldable pub refusal : List Test → Option ℕ
refusal [] = none
refusal (t ∷ ts) = cond t.refused (some t.number) (refusal ts)

-- 01, "Order": these tests, then those
abbrev pub or_then : Option ℕ → Option ℕ → Option ℕ
or_then none r = r
or_then (some n) r = some n

-- 01, "What the stage answers", 15: of the sizes lent, in the order of the limits, one is below its limit or missing
unfoldable pub short_buffer : List ℕ → List ℕ → Bool
short_buffer [] lent = false
short_buffer (n ∷ limits) [] = true
short_buffer (n ∷ limits) (size ∷ lent) = ltb size n || short_buffer limits lent

-- ---- points and ranges ("The job": a point's low two bits are its slot, 0 Boundary, 1 Early, 2 Normal)

-- 01, "What the stage answers", 6: "slot 3"
abbrev pub bad_slot : ℕ → Bool
bad_slot p = eqb (p % 4) 3

-- 01, "The job": slot 0 is Boundary
abbrev pub at_boundary : ℕ → Bool
at_boundary p = eqb (p % 4) 0

-- 01, "Order": 5, 6 and 7 of a range that may not start before `past`
unfoldable pub range_refusal : ℕ → ValueSegment → Option ℕ
range_refusal past s = refusal (5 if leb s.to s.from ∷ 6 if (bad_slot s.from || bad_slot s.to) ∷ 7 if ltb s.from past ∷ [])

-- 01, "Order": "by range", one after another
unfoldable pub ranges_refusal : ℕ → List ValueSegment → Option ℕ
ranges_refusal past [] = none
ranges_refusal past (s ∷ ss) = or_then (range_refusal past s) (ranges_refusal s.to ss)
