-- The segments of a question as they stand in what is lent, on any content, a refusal as a number, and a check's first refusal in the shape of the
-- code. Laws in proofs/RangeLaws.antt tie them to Refusals.antt, and matrix/proofs/Starts.antt to Questions.antt. Assumes nothing.
use Rattle.std.specs.Prelude.{ℕ, zero, suc, List, [], ◌∷◌, map, Bool, ◌||◌, cond, leb, eqb, length, get_or}
use Rattle.std.proofs.Math.Option.{Option, none, some}
use Rattle.reg_matrix.specs.Refusals.{ranges_refusal}
use Rattle.reg_matrix.specs.declared.ValueSegment.{ValueSegment}

abbrev pub segment_at : List ℕ → List ℕ → List ℕ → ℕ → ValueSegment
segment_at fs ts vs n = record { from = get_or fs n 0; to = get_or ts n 0; value = get_or vs n 0 }

-- k segments from number n on
unfoldable pub segments_from : List ℕ → List ℕ → List ℕ → ℕ → ℕ → List ValueSegment
segments_from fs ts vs n zero = []
segments_from fs ts vs n (suc k) = segment_at fs ts vs n ∷ segments_from fs ts vs (suc n) k

-- all of them: as many as there are starts
abbrev pub segments_in : List ℕ → List ℕ → List ℕ → List ValueSegment
segments_in fs ts vs = segments_from fs ts vs 0 (length fs)

-- ---- the three lists of fields of a list of segments

abbrev pub froms_of : List ValueSegment → List ℕ
froms_of ss = map (λ (s : ValueSegment). s.from) ss

abbrev pub tos_of : List ValueSegment → List ℕ
tos_of ss = map (λ (s : ValueSegment). s.to) ss

abbrev pub values_of : List ValueSegment → List ℕ
values_of ss = map (λ (s : ValueSegment). s.value) ss

-- a refusal as a number: 0 where there is none
abbrev pub refusal_number : Option ℕ → ℕ
refusal_number none = 0
refusal_number (some n) = n

-- the first refusal of a check of register r, of m maps of units of which n count
unfoldable pub start_refusal : Bool → ℕ → ℕ → ℕ → List ℕ → List ℕ → Option ℕ
start_refusal short m n r fs ts =
    cond short (some 15)
    (cond (leb m r || leb n r) (some 8) (cond (eqb (length fs) 0) (some 5) (ranges_refusal 0 (segments_in fs ts []))))
