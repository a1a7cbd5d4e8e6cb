-- The tests of a whole job as the code makes them, by places of lent numbers. Assumes nothing.
use Rattle.std.specs.Prelude.{ℕ, ◌+◌, ◌-◌, List, Bool, true, false, not, ◌||◌, ◌&&◌, ltb, eqb, get_or}
use Rattle.reg_matrix.specs.Lists.{any, any_pair, count}
use Rattle.job.specs.declared.JobHeader.{JobHeader}
use Rattle.job.specs.Layout.{JobSlices, lists_in}

-- the same number stands at two places
abbrev pub equal_at : List ℕ → ℕ → ℕ → Bool
equal_at xs i k = eqb (get_or xs i 0) (get_or xs k 0)

-- a class, by its start and the next one's, has a register twice
abbrev pub member_twice : List ℕ → List ℕ → ℕ → Bool
member_twice starts list c = any_pair (equal_at list) (count (get_or starts c 0) (get_or starts (c + 1) 0 - get_or starts c 0))

-- two virtual registers of one set differ in class
abbrev pub classes_differ : List ℕ → List ℕ → ℕ → ℕ → Bool
classes_differ classes sets i k = eqb (get_or sets i 0) (get_or sets k 0) && not (eqb (get_or classes i 0) (get_or classes k 0))

-- the use number u is v, and from or to lies strictly between a and b
abbrev pub crosses : ℕ → ℕ → ℕ → ℕ → ℕ → ℕ → Bool
crosses v from to a b u = eqb u v && ((ltb a from && ltb from b) || (ltb a to && ltb to b))

-- a segment crosses one of the first n fixed reservations
abbrev pub crosses_at : List ℕ → List ℕ → List ℕ → List ℕ → List ℕ → List ℕ → ℕ → ℕ → Bool
crosses_at froms tos values starts stops uses n i =
    any (λ k. crosses (get_or values i 0 + 1) (get_or froms i 0) (get_or tos i 0) (get_or starts k 0) (get_or stops k 0) (get_or uses k 0)) (count 0 n)

-- the number of the first of the tests 10, 11 and 12 that refuses, or 0
abbrev pub whole_number : Bool → Bool → Bool → ℕ
whole_number true b c = 10
whole_number false true c = 11
whole_number false false true = 12
whole_number false false false = 0

-- the number of the first of them that refuses the job of m segments in these slices, or 0. Its n fixed reservations stand in slices of their own
unfoldable pub job_refusal : JobSlices → JobHeader → ℕ → (starts stops uses : List ℕ) → ℕ → ℕ
job_refusal B h m starts stops uses n =
    let b = lists_in B in
    whole_number
    (any_pair (equal_at b.regs) (count 0 h.regs) || any (member_twice b.class_starts b.class_regs) (count 0 h.classes))
    (any_pair (classes_differ b.classes b.value_sets) (count 0 h.virt_regs))
    (any (crosses_at b.froms b.tos b.values starts stops uses n) (count 0 m))
