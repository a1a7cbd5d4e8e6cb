-- The check (document 01, "Check"; `RegMatrix::check_interference`). `fixed` is the job's list of fixed reservations, `m` a register's map of
-- units, `full` says which form is asked for. Assumes nothing.
use Rattle.std.specs.Prelude.{ℕ, suc, min, max, List, [], ◌∷◌, ◌++◌, map, Bool, true, false, not, ◌&&◌, ◌||◌, cond, ltb, eqb, drop}
use Rattle.reg_matrix.specs.Lists.{filter, any, concat_map}
use Rattle.reg_matrix.specs.Table.{Table, units_of, fixed_uses, on_unit}
use Rattle.reg_matrix.specs.declared.ValueSegment.{ValueSegment}
use Rattle.reg_matrix.specs.declared.Entry.{Entry}
use Rattle.std.specs.Prelude.{Some, None}
use Rattle.reg_matrix.specs.declared.Reservation.{Reservation}
use Rattle.reg_matrix.specs.declared.Reservation.TheVariants.{Held, FixedUse, FixedDef}
use Rattle.reg_matrix.specs.declared.Interference.{Interference}
use Rattle.reg_matrix.specs.declared.InterferenceKind.{InterferenceKind}
use Rattle.reg_matrix.specs.declared.InterferenceKind.TheVariants.{Fixed, VirtReg}

-- 01, "The job" and "Check": the half-open ranges share a point
abbrev pub overlaps : ValueSegment → Entry → Bool
overlaps s e = ltb e.from s.to && ltb s.from e.to

-- 01, "Check": held, with a fixed index
abbrev pub indexed : Reservation → Bool
indexed (Held v None) = false
indexed (Held v (Some i)) = true
indexed (FixedUse x) = false
indexed FixedDef = false

-- 01, "Check": "a fixed use of the segment's own value"
abbrev pub own_use : ValueSegment → Reservation → Bool
own_use s (Held v i) = false
own_use s (FixedUse x) = eqb x s.value
own_use s FixedDef = false

-- 01, "Check"; what a report contains comes from the Rust. Of an entry: what the segment, number n of those asked about, and the entry share
abbrev pub shared_part : ℕ → ValueSegment → Entry → InterferenceKind → Interference
shared_part n s e k = record { unit = e.unit; segment = n; from = max e.from s.from; to = min e.to s.to; kind = k }

-- 01, "Check"; from the Rust: of a fixed use under a held entry the whole use, even where it reaches past the segment
abbrev pub whole_use : ℕ → Entry → Interference
whole_use n e = record { unit = e.unit; segment = n; from = e.from; to = e.to; kind = Fixed }

-- 01, "Check": "fixed uses from the index on that overlap the segment and have another value are reported too, even past the entry's end". They
-- follow the entry's own report, in their order, as in the Rust. `uses` are the fixed uses of the entry's unit
unfoldable pub uses_under : List Entry → ℕ → ValueSegment → ℕ → List Interference
uses_under uses n s i = map (whole_use n) (filter (λ f. overlaps s f && not (own_use s f.reservation)) (drop i uses))

-- 01, "Check": the reports of a segment and an entry that it overlaps
unfoldable pub reports_of : List Entry → ℕ → ValueSegment → Entry → Reservation → List Interference
reports_of uses n s e (Held v None) = shared_part n s e (VirtReg v) ∷ []
reports_of uses n s e (Held v (Some i)) = shared_part n s e (VirtReg v) ∷ uses_under uses n s i
reports_of uses n s e (FixedUse x) = cond (eqb x s.value) [] (shared_part n s e Fixed ∷ [])
reports_of uses n s e FixedDef = shared_part n s e Fixed ∷ []

-- 01, "Check": "The short form passes over an entry without a fixed index after the first segment it overlaps, reported or not". `earlier` are the
-- segments before
abbrev pub counts : Bool → List ValueSegment → Entry → Bool
counts full earlier e = full || (indexed e.reservation || not (any (λ d. overlaps d e) earlier))

-- 01, "Check": on one unit, with entries `es`: "segments in order", from number n on, and for each "entries by end"
unfoldable pub check_on : Bool → List Entry → List Entry → ℕ → List ValueSegment → List ValueSegment → List Interference
check_on full uses es n earlier [] = []
check_on full uses es n earlier (s ∷ ss) =
    concat_map (λ e. reports_of uses n s e e.reservation) (filter (λ e. overlaps s e && counts full earlier e) es)
    ++ check_on full uses es (suc n) (s ∷ earlier) ss

-- 01, "Check": the reports, in order: "units ascending"
unfoldable pub check : Bool → List Entry → Table → ℕ → List ValueSegment → List Interference
check full fixed t m ss = concat_map (λ u. check_on full (fixed_uses fixed u) (on_unit u t) 0 [] ss) (units_of m)
