-- The check's walk over what is lent, on any content: definitions in the shape of the code. Laws in proofs/Walks.antt and proofs/CheckLaw.antt tie
-- them to Check.antt. Assumes nothing.
use Rattle.std.specs.Prelude.{ℕ, zero, suc, ◌+◌, ◌-◌, ◌*◌, ◌^◌, ◌%◌, ◌≡◌, Option, Some, None, List, [], ◌∷◌, Bool, true, cond, ltb, leb, eqb, length, get_or}
use Rattle.std.specs.Int.Bits.{bit_and}
use Rattle.std.specs.Int.Count.{count_trailing_zeros}
use Rattle.reg_matrix.specs.Check.{shared_part, whole_use}
use Rattle.reg_matrix.specs.Layout.{max_entries, max_fixed, entry_of, use_of}
use Rattle.table_words.specs.Search.{place_of}
use Rattle.table_words.specs.Segments.{segment_at}
use Rattle.table_words.specs.declared.buffers.RegMatrix.{RegMatrix}
use Rattle.reg_matrix.specs.declared.ValueSegment.{ValueSegment}
use Rattle.reg_matrix.specs.declared.Entry.{Entry}
use Rattle.reg_matrix.specs.declared.Reservation.{Reservation}
use Rattle.reg_matrix.specs.declared.Reservation.TheVariants.{Held, FixedUse, FixedDef}
use Rattle.reg_matrix.specs.declared.Interference.{Interference}
use Rattle.reg_matrix.specs.declared.InterferenceKind.TheVariants.{Fixed, VirtReg}
use Rattle.matrix.specs.declared.Cursor.{Cursor}
use Rattle.matrix.specs.declared.Move.{Move}
use Rattle.matrix.specs.declared.Move.TheVariants.{Meets, Goes, Ends}

-- what is lent to a check: the table, the fixed uses, and the segments that it asks about
pub record Lent : Type 0 where
  pub ends : List ℕ
  pub rests : List ℕ
  pub uses : List ℕ
  pub froms : List ℕ
  pub tos : List ℕ
  pub values : List ℕ

abbrev pub lent : List ℕ → List ℕ → List ℕ → List ℕ → List ℕ → List ℕ → Lent
lent es rs us fs ts vs = record { ends = es; rests = rs; uses = us; froms = fs; tos = ts; values = vs }

-- the matrix, and the segments by their three lists
abbrev pub lent_in : RegMatrix → List ℕ → List ℕ → List ℕ → Lent
lent_in m fs ts vs = lent m.table.ends.now m.table.rests.now m.uses.now fs ts vs

-- ---- what stands at a place

abbrev pub entry_at : Lent → ℕ → Entry
entry_at W n = entry_of (get_or W.ends n 0) (get_or W.rests n 0)

-- ---- from one position to the next

abbrev pub next_entry : Cursor → Cursor
next_entry c = record { units = c.units; segment = c.segment; entry = c.entry + 1; inner = None; full = c.full }

abbrev pub next_segment : Cursor → Cursor
next_segment c = record { units = c.units; segment = c.segment + 1; entry = c.entry; inner = None; full = c.full }

-- past the fixed use at place p
abbrev pub next_use : Cursor → ℕ → Cursor
next_use c p = record { units = c.units; segment = c.segment; entry = c.entry; inner = Some (p + 1); full = c.full }

-- after an overlap: an entry that stays and ends past the segment meets the next segment too
unfoldable pub onward : Bool → Cursor → Entry → ValueSegment → Cursor
onward stays c e s = cond stays (cond (ltb s.to e.to) (next_segment c) (next_entry c)) (next_entry c)

-- at the fixed use number i of the entry's unit
unfoldable pub under_entry : List ℕ → Cursor → ℕ → ℕ → Cursor
under_entry uses c u i =
    record { units = c.units; segment = c.segment; entry = c.entry; inner = Some (place_of max_fixed uses (u * 2 ^ 48) + i); full = c.full }

-- at the first entry of the map's lowest unit that ends past the first segment's start
unfoldable pub entered : List ℕ → List ℕ → ℕ → Bool → Cursor
entered ends froms m f =
    record {
      units = m;
      segment = 0;
      entry = place_of max_entries ends (count_trailing_zeros 64 m * 2 ^ 32 + get_or froms 0 0 + 1);
      inner = None;
      full = f;
    }

-- ---- one step

unfoldable pub meeting : List ℕ → Cursor → Entry → ValueSegment → Reservation → Move
meeting uses c e s FixedDef = Meets (shared_part c.segment s e Fixed) (onward c.full c e s)
meeting uses c e s (FixedUse x) = cond (eqb x s.value) (Goes (onward c.full c e s)) (Meets (shared_part c.segment s e Fixed) (onward c.full c e s))
meeting uses c e s (Held v None) = Meets (shared_part c.segment s e (VirtReg v)) (onward c.full c e s)
meeting uses c e s (Held v (Some i)) = Meets (shared_part c.segment s e (VirtReg v)) (under_entry uses c e.unit i)

-- at an entry of the unit
unfoldable pub entry_step : List ℕ → Cursor → Entry → ValueSegment → Move
entry_step uses c e s =
    cond (leb e.to s.from) (Goes (next_entry c))
    (cond (leb s.to e.from) (Goes (next_segment c)) (meeting uses c e s e.reservation))

-- at a fixed use f of value x, which stands at place p, under the entry e
unfoldable pub use_meeting : Cursor → ℕ → Entry → ValueSegment → Entry → ℕ → Move
use_meeting c p e s f x =
    cond (eqb f.unit e.unit)
    (cond (leb s.to f.from) (Goes (onward true c e s))
    (cond (leb f.to s.from) (Goes (next_use c p)) (cond (eqb x s.value) (Goes (next_use c p)) (Meets (whole_use c.segment f) (next_use c p)))))
    (Goes (onward true c e s))

unfoldable pub use_step : List ℕ → Cursor → ℕ → Entry → ValueSegment → Move
use_step uses c p e s =
    cond (leb max_fixed p) (Goes (onward true c e s)) (use_meeting c p e s (use_of (get_or uses p 0)) (get_or uses p 0 % 2 ^ 16))

-- at the entry itself, or at the fixed use under it that is next
unfoldable pub meeting_step : List ℕ → Cursor → Entry → ValueSegment → Option ℕ → Move
meeting_step uses c e s None = entry_step uses c e s
meeting_step uses c e s (Some p) = use_step uses c p e s

-- the map without its lowest unit
abbrev pub later_units : ℕ → ℕ
later_units m = bit_and m (m - 1)

unfoldable pub leave_unit : List ℕ → List ℕ → Cursor → Move
leave_unit ends froms c = cond (eqb (later_units c.units) 0) Ends (Goes (entered ends froms (later_units c.units) c.full))

unfoldable pub unit_step : Lent → Cursor → Entry → ValueSegment → Move
unit_step W c e s =
    cond (eqb e.unit (count_trailing_zeros 64 c.units)) (meeting_step W.uses c e s c.inner)
    (leave_unit W.ends W.froms c)

unfoldable pub step_of : Lent → Cursor → Move
step_of W c =
    cond (eqb c.units 0) Ends
    (cond (leb (length W.froms) c.segment) (leave_unit W.ends W.froms c)
    (cond (leb max_entries c.entry) (leave_unit W.ends W.froms c)
    (unit_step W c (entry_at W c.entry) (segment_at W.froms W.tos W.values c.segment))))

-- ---- the walk

-- how many steps there are at most at an entry and a segment
unfoldable pub uses_left : Option ℕ → ℕ
uses_left None = max_fixed + 1
uses_left (Some p) = max_fixed - p

-- how far the walk has to go at most: each step lessens it
unfoldable pub left : Lent → Cursor → ℕ
left W c =
    (c.units * (max_entries + length W.froms + 1) + (max_entries - c.entry) + (length W.froms - c.segment)) * 1024 + uses_left c.inner

-- the reports of f steps
abbrev pub emit : Move → (Cursor → List Interference) → List Interference
emit (Meets x d) k = x ∷ k d
emit (Goes d) k = k d
emit Ends k = []

unfoldable pub walk : ℕ → Lent → Cursor → List Interference
walk zero W c = []
walk (suc f) W c = emit (step_of W c) (λ d. walk f W d)

-- the reports still to come from a position on
unfoldable pub remaining : Lent → Cursor → List Interference
remaining W c = walk (suc (left W c)) W c

-- the first report within f steps
abbrev pub answer : Move → (Cursor → Option (Interference × Cursor)) → Option (Interference × Cursor)
answer (Meets x d) k = Some (x, d)
answer (Goes d) k = k d
answer Ends k = None

unfoldable pub first_report : ℕ → Lent → Cursor → Option (Interference × Cursor)
first_report zero W c = None
first_report (suc f) W c = answer (step_of W c) (λ d. first_report f W d)

unfoldable pub next_of : Lent → Cursor → Option (Interference × Cursor)
next_of W c = first_report (suc (left W c)) W c

-- what an answer says of the reports to come
abbrev pub heard : Lent → Option (Interference × Cursor) → List Interference
heard W (Some (x, d)) = x ∷ remaining W d
heard W None = []

-- ---- what the next answer promises: it is decided, and it and the reports after it are those that were to come

pub record Answered (W : Lent) (c : Cursor) (r : Option (Interference × Cursor)) : Type 0 where
  pub decided : r ≡ next_of W c
  pub told : remaining W c ≡ heard W r
