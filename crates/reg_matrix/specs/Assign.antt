-- Placing and evicting (document 01, "Placing", "Evicting"; `RegMatrix::assign`, `evict`). `fixed` is the job's list of fixed reservations, v a
-- virtual register, m a register's map of units. Assumes nothing.
use Rattle.std.specs.Prelude.{ℕ, List, [], Bool, false, not, ◌&&◌, cond, ltb, leb, eqb, length, drop}
use Rattle.std.proofs.Math.Option.{Option, none, some}
use Rattle.reg_matrix.specs.Lists.{filter, any, first, foldl}
use Rattle.reg_matrix.specs.Table.{Table, units_of, is_use, fixed_uses, insert, insert_all}
use Rattle.reg_matrix.specs.declared.ValueSegment.{ValueSegment}
use Rattle.reg_matrix.specs.declared.Entry.{Entry}
use Rattle.std.specs.Prelude.{Option as Maybe, Some, None}
use Rattle.reg_matrix.specs.declared.Reservation.{Reservation}
use Rattle.reg_matrix.specs.declared.Reservation.TheVariants.{Held, FixedUse, FixedDef}

-- ---- placing

-- 01, "Placing": a fixed use on the unit u that lies inside the segment
abbrev pub replaced : ℕ → ValueSegment → Entry → Bool
replaced u s e = eqb e.unit u && (is_use e.reservation && (leb s.from e.from && leb e.to s.to))

-- 01, "Placing": the place of "the first fixed use not starting before the segment"
unfoldable pub first_use : List Entry → ValueSegment → ℕ
first_use uses s = length (filter (λ f. ltb f.from s.from) uses)

-- 01, "Placing": "or no index if it replaced none"
unfoldable pub fixed_index : List Entry → ℕ → ValueSegment → Table → Maybe ℕ
fixed_index fixed u s t = cond (any (replaced u s) t) (Some (first_use (fixed_uses fixed u) s)) None

-- 01, "Placing": a segment on the unit u "replaces the fixed uses inside it by one entry"
unfoldable pub assign_segment : List Entry → ℕ → ℕ → Table → ValueSegment → Table
assign_segment fixed v u t s =
    insert (record { unit = u; from = s.from; to = s.to; reservation = Held v (fixed_index fixed u s t) }) (filter (λ e. not (replaced u s e)) t)

-- 01, "Placing": "On each unit every segment"
unfoldable pub assign : List Entry → ℕ → ℕ → List ValueSegment → Table → Table
assign fixed v m ss t = foldl (λ t u. foldl (assign_segment fixed v u) t ss) t (units_of m)

-- ---- evicting

-- 01, "Evicting": an entry that v holds
abbrev pub held_by : ℕ → Reservation → Bool
held_by v (Held w i) = eqb v w
held_by v (FixedUse x) = false
held_by v FixedDef = false

-- 01, "Evicting": the entry of v on the unit u for the segment
abbrev pub entry_of : ℕ → ℕ → ValueSegment → Entry → Bool
entry_of v u s e = eqb e.unit u && (eqb e.to s.to && held_by v e.reservation)

-- 01, "Evicting": the index of an entry that is removed
abbrev pub index_of : Reservation → Maybe ℕ
index_of (Held w i) = i
index_of (FixedUse x) = None
index_of FixedDef = None

-- 01, "Evicting": the fixed uses that an entry of this index stands for
abbrev pub uses_from : List Entry → ValueSegment → Maybe ℕ → List Entry
uses_from uses s None = []
uses_from uses s (Some i) = filter (λ f. ltb f.from s.to) (drop i uses)

-- 01, "Evicting": the uses that go back for the entry, where there is one
abbrev pub put_back : List Entry → ValueSegment → Option Entry → List Entry
put_back uses s none = []
put_back uses s (some e) = uses_from uses s (index_of e.reservation)

-- 01, "Evicting": "removes those entries and puts the uses back", of one segment on the unit u
unfoldable pub evict_segment : List Entry → ℕ → ℕ → Table → ValueSegment → Table
evict_segment fixed v u t s =
    insert_all (put_back (fixed_uses fixed u) s (first (entry_of v u s) t)) (filter (λ e. not (entry_of v u s e)) t)

-- 01, "Evicting": on each unit, of every segment
unfoldable pub evict : List Entry → ℕ → ℕ → List ValueSegment → Table → Table
evict fixed v m ss t = foldl (λ t u. foldl (evict_segment fixed v u) t ss) t (units_of m)
