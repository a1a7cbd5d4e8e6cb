-- Questions asked by themselves, over the definitions of this crate alone, as one table with one proof. A row gives the fixed reservations,
-- what is placed on the fresh table and evicted from it, the question, and the text that the answer prints. Every answer prints a
-- word first, so no row passes by printing nothing. Assumes nothing.
use Prim.Native.Nat.{ℕ, ◌+◌}
use Prim.Native.String.{String}
use mathlib.Core.List.{List, [], ◌∷◌, ◌++◌}
use mathlib.Core.Bool.{Bool, true, false, cond}
use lib.Dec.{T}
use lib.ListN.{take}
use Rattle.reg_matrix.specs.Lists.{ascii, same, all, concat_map, foldl}
use Rattle.reg_matrix.specs.Table.{Table, fresh_table}
use Rattle.reg_matrix.specs.Check.{check}
use Rattle.reg_matrix.specs.Assign.{assign, evict}
use Rattle.reg_matrix.specs.Questions.{Checked, not_checked, checked, ask_check, Spared, not_asked, is_spare, ask_spare}
use Rattle.reg_matrix.specs.Layout.{end_words, rest_words, use_words}
use Rattle.reg_matrix.specs.Lines.{number, sp, line, refused_line, table_lines, report_line}
use Rattle.reg_matrix.specs.declared.ValueSegment.{ValueSegment}
use Rattle.reg_matrix.specs.declared.Entry.{Entry}
use Rattle.reg_matrix.specs.declared.Reservation.TheVariants.{FixedUse, FixedDef}
use Rattle.reg_matrix.specs.declared.Interference.{Interference}
use Rattle.reg_matrix.proofs.Opened.{opened}

-- ---- steps and questions

-- v with these segments, on the units of a map
data Step : Type 0 where
  placing : ℕ → ℕ → List ValueSegment → Step
  evicting : ℕ → ℕ → List ValueSegment → Step

data Question : Type 0 where
  -- the table's lines
  lines : Question
  -- the check alone: the form, the map, the segments
  reports : Bool → ℕ → List ValueSegment → Question
  -- the check with its refusals: the sizes lent, the registers' maps, the form, the register, the segments
  asking : List ℕ → List ℕ → Bool → ℕ → List ValueSegment → Question
  -- a spare question: the sizes lent, the unit, the range
  sparing : List ℕ → ℕ → ValueSegment → Question
  -- the first n numbers of the table's two buffers and of the fixed uses', as they are stored
  storing : ℕ → Question

record Row : Type 0 where
  fixed : List Entry
  steps : List Step
  asks : Question
  shows : String

abbrev step : List Entry → Table → Step → Table
step fixed t (placing v m ss) = assign fixed v m ss t
step fixed t (evicting v m ss) = evict fixed v m ss t

table_of : List Entry → List Step → Table
table_of fixed steps = foldl (step fixed) (fresh_table fixed) steps

-- ---- what is printed

report_lines : List Interference → List ℕ
report_lines rs = line (ascii "check") ++ concat_map report_line rs

abbrev checked_lines : Checked → List ℕ
checked_lines (not_checked n) = refused_line n
checked_lines (checked rs) = report_lines rs

abbrev spared_line : Spared → List ℕ
spared_line (not_asked n) = refused_line n
spared_line (is_spare b) = cond b (line (ascii "spare")) (line (ascii "not spare"))

number_lines : String → List ℕ → List ℕ
number_lines s ns = ascii s ++ concat_map (λ n. sp (number n)) ns ++ line []

abbrev answer : List Entry → Table → Question → List ℕ
answer fixed t lines = line (ascii "table") ++ table_lines t
answer fixed t (reports full m ss) = report_lines (check full fixed t m ss)
answer fixed t (asking lent regs full r ss) = checked_lines (ask_check lent regs fixed t full r ss)
answer fixed t (sparing lent u s) = spared_line (ask_spare lent t u s)
answer fixed t (storing n) =
    number_lines "ends" (take n (end_words t)) ++ number_lines "rests" (take n (rest_words t)) ++ number_lines "uses" (take n (use_words fixed))

right : Row → Bool
right r = same (answer r.fixed (table_of r.fixed r.steps) r.asks) (ascii r.shows)

-- ---- the rows

abbrev seg : ℕ → ℕ → ℕ → ValueSegment
seg a b x = record { from = a; to = b; value = x }

-- a fixed use: unit, start, value; a fixed def: unit, start, end
abbrev use_at : ℕ → ℕ → ℕ → Entry
use_at u a x = record { unit = u; from = a; to = a + 2; reservation = FixedUse x }

abbrev def_at : ℕ → ℕ → ℕ → Entry
def_at u a b = record { unit = u; from = a; to = b; reservation = FixedDef }

abbrev row : List Entry → List Step → Question → String → Row
row fixed steps asks shows = record { fixed = fixed; steps = steps; asks = asks; shows = shows }

-- fixed uses on unit 0, at 8 of value 1 and at 16 of value 2; v 0 is placed over the first one
abbrev two : List Entry
two = use_at 0 8 1 ∷ use_at 0 16 2 ∷ []

abbrev held : List Step
held = placing 0 1 (seg 4 12 1 ∷ []) ∷ []

-- v 7 on unit 0, without a fixed use
abbrev plain : List Step
plain = placing 7 1 (seg 8 16 1 ∷ []) ∷ []

-- units 0 and 2, a def and uses of two values, not in the order of units; v 3 on both units, over uses of value 1
abbrev many : List Entry
many = use_at 2 8 1 ∷ def_at 0 2 4 ∷ use_at 0 4 5 ∷ use_at 0 8 1 ∷ use_at 0 12 1 ∷ use_at 0 20 1 ∷ def_at 0 24 28 ∷ []

abbrev three_segs : List ValueSegment
three_segs = seg 6 14 1 ∷ seg 14 18 1 ∷ seg 20 24 1 ∷ []

abbrev many_fresh : String
many_fresh = "table\nu 0 2 4 def\nu 0 4 6 use 5\nu 0 8 10 use 1\nu 0 12 14 use 1\nu 0 20 22 use 1\nu 0 24 28 def\nu 2 8 10 use 1\n"

-- the sizes that a check of n segments wants, and those that a spare question wants
abbrev lent : ℕ → List ℕ
lent n = 64 ∷ 512 ∷ 2560 ∷ 2560 ∷ n ∷ n ∷ n ∷ []

abbrev lent_spare : List ℕ
lent_spare = 2560 ∷ 2560 ∷ []

-- register 0 has unit 0, register 1 units 1 and 2
abbrev regs : List ℕ
regs = 1 ∷ 6 ∷ []

rows : List Row
rows =
    -- ---- the check
    -- the walk over fixed uses goes on past the entry's end, so the second use is reported twice
    row two held (reports false 1 (seg 4 20 3 ∷ [])) "check\nr 0 0 4 12 v 0\nr 0 0 8 10 fixed\nr 0 0 16 18 fixed\nr 0 0 16 18 fixed\n" ∷
    -- a use of the segment's own value is passed over on that walk and as an entry
    row two held (reports false 1 (seg 4 20 2 ∷ [])) "check\nr 0 0 4 12 v 0\nr 0 0 8 10 fixed\n" ∷
    -- a held entry with an index is reported for each segment, with its uses, each whole though it reaches past the segment
    row two held (reports false 1 (seg 4 6 3 ∷ seg 10 12 3 ∷ [])) "check\nr 0 0 4 6 v 0\nr 0 1 10 12 v 0\n" ∷
    row two held (reports false 1 (seg 4 9 3 ∷ seg 9 12 3 ∷ [])) "check\nr 0 0 4 9 v 0\nr 0 0 8 10 fixed\nr 0 1 9 12 v 0\nr 0 1 8 10 fixed\n" ∷
    -- a use that is an entry is reported as far as it is shared
    row two [] (reports false 1 (seg 4 9 3 ∷ [])) "check\nr 0 0 8 9 fixed\n" ∷
    -- without an index, an entry is passed over after the first segment that it overlaps; the full form reports it again
    row [] plain (reports false 1 (seg 4 10 1 ∷ seg 12 20 1 ∷ [])) "check\nr 0 0 8 10 v 7\n" ∷
    row [] plain (reports true 1 (seg 4 10 1 ∷ seg 12 20 1 ∷ [])) "check\nr 0 0 8 10 v 7\nr 0 1 12 16 v 7\n" ∷
    -- the same where the first segment did not report it
    row two [] (reports false 1 (seg 4 9 1 ∷ seg 9 12 3 ∷ [])) "check\n" ∷
    row two [] (reports true 1 (seg 4 9 1 ∷ seg 9 12 3 ∷ [])) "check\nr 0 1 9 10 fixed\n" ∷
    -- a use of the own value is not reported, one of another value is, and a def always
    row two [] (reports false 1 (seg 4 16 1 ∷ [])) "check\n" ∷
    row two [] (reports true 1 (seg 4 20 1 ∷ [])) "check\nr 0 0 16 18 fixed\n" ∷
    row (def_at 0 8 12 ∷ []) [] (reports false 1 (seg 4 10 1 ∷ seg 10 14 1 ∷ [])) "check\nr 0 0 8 10 fixed\n" ∷
    row (def_at 0 8 12 ∷ []) [] (reports true 1 (seg 4 10 1 ∷ seg 10 14 1 ∷ [])) "check\nr 0 0 8 10 fixed\nr 0 1 10 12 fixed\n" ∷
    -- ranges that touch share nothing
    row [] plain (reports false 1 (seg 4 8 2 ∷ seg 16 20 2 ∷ [])) "check\n" ∷
    row two held (reports true 1 (seg 2 4 3 ∷ seg 12 16 3 ∷ seg 18 20 3 ∷ [])) "check\n" ∷
    -- units ascend, and on a unit segments go in order, for each the entries by end
    row (def_at 63 4 8 ∷ def_at 2 4 8 ∷ def_at 0 5 8 ∷ def_at 0 9 12 ∷ def_at 1 4 8 ∷ []) [] (reports true 0x8000000000000005 (seg 4 10 1 ∷ seg 10 14 1 ∷ [])) "check\nr 0 0 5 8 fixed\nr 0 0 9 10 fixed\nr 0 1 10 12 fixed\nr 2 0 4 8 fixed\nr 63 0 4 8 fixed\n" ∷
    -- no units, and no segments
    row two held (reports true 0 (seg 4 20 3 ∷ [])) "check\n" ∷
    row two held (reports true 1 []) "check\n" ∷
    -- ---- placing and evicting
    -- by unit and end, whatever the order in which they came
    row many [] lines many_fresh ∷
    -- the uses inside a segment give way to one entry; its index counts the uses of its unit alone, the earlier ones too, and no defs
    row many (placing 3 5 three_segs ∷ []) lines "table\nu 0 2 4 def\nu 0 4 6 use 5\nu 0 6 14 held 3 1\nu 0 14 18 held 3 -\nu 0 20 24 held 3 3\nu 0 24 28 def\nu 2 6 14 held 3 0\nu 2 14 18 held 3 -\nu 2 20 24 held 3 -\n" ∷
    -- evicting gives the table back
    row many (placing 3 5 three_segs ∷ evicting 3 5 three_segs ∷ []) lines many_fresh ∷
    -- evicting one of two leaves the other
    row many (placing 3 5 three_segs ∷ placing 4 4 (seg 30 34 9 ∷ []) ∷ evicting 3 5 three_segs ∷ []) lines "table\nu 0 2 4 def\nu 0 4 6 use 5\nu 0 8 10 use 1\nu 0 12 14 use 1\nu 0 20 22 use 1\nu 0 24 28 def\nu 2 8 10 use 1\nu 2 30 34 held 4 -\n" ∷
    row two held lines "table\nu 0 4 12 held 0 0\nu 0 16 18 use 2\n" ∷
    row two (held ++ (evicting 0 1 (seg 4 12 1 ∷ []) ∷ [])) lines "table\nu 0 8 10 use 1\nu 0 16 18 use 2\n" ∷
    -- ---- refusals of the check: 15, 8, then 5, 6, 7 by range
    row two held (asking (lent 1) regs false 0 (seg 4 6 1 ∷ [])) "check\nr 0 0 4 6 v 0\n" ∷
    row two held (asking (65 ∷ 600 ∷ 2561 ∷ 2560 ∷ 2 ∷ 3 ∷ 2 ∷ []) regs false 1 (seg 4 8 1 ∷ seg 8 12 1 ∷ [])) "check\n" ∷
    -- one size short, or one missing
    row two held (asking (63 ∷ 512 ∷ 2560 ∷ 2560 ∷ 1 ∷ 1 ∷ 1 ∷ []) regs false 0 (seg 4 6 1 ∷ [])) "refused 15\n" ∷
    row two held (asking (64 ∷ 511 ∷ 2560 ∷ 2560 ∷ 1 ∷ 1 ∷ 1 ∷ []) regs false 0 (seg 4 6 1 ∷ [])) "refused 15\n" ∷
    row two held (asking (64 ∷ 512 ∷ 2560 ∷ 2559 ∷ 1 ∷ 1 ∷ 1 ∷ []) regs false 0 (seg 4 6 1 ∷ [])) "refused 15\n" ∷
    row two held (asking (64 ∷ 512 ∷ 2560 ∷ 2560 ∷ 2 ∷ 2 ∷ 1 ∷ []) regs false 0 (seg 4 6 1 ∷ seg 8 10 1 ∷ [])) "refused 15\n" ∷
    row two held (asking (64 ∷ 512 ∷ 2560 ∷ 2560 ∷ 1 ∷ 1 ∷ []) regs false 0 (seg 4 6 1 ∷ [])) "refused 15\n" ∷
    -- 15 before 8, 8 before 5, and 5, 6, 7 in each range before those of the next
    row two held (asking [] regs false 2 []) "refused 15\n" ∷
    row two held (asking (lent 0) regs false 2 []) "refused 8\n" ∷
    row two held (asking (lent 1) regs false 1 (seg 9 7 1 ∷ [])) "refused 5\n" ∷
    row two held (asking (lent 0) regs false 1 []) "refused 5\n" ∷
    row two held (asking (lent 1) regs false 1 (seg 8 8 1 ∷ [])) "refused 5\n" ∷
    row two held (asking (lent 1) regs false 1 (seg 7 8 1 ∷ [])) "refused 6\n" ∷
    row two held (asking (lent 1) regs false 1 (seg 4 7 1 ∷ [])) "refused 6\n" ∷
    row two held (asking (lent 2) regs true 1 (seg 4 8 1 ∷ seg 6 12 1 ∷ [])) "refused 7\n" ∷
    row two held (asking (lent 2) regs true 1 (seg 4 8 1 ∷ seg 3 12 1 ∷ [])) "refused 6\n" ∷
    row two held (asking (lent 2) regs true 1 (seg 4 7 1 ∷ seg 8 8 1 ∷ [])) "refused 6\n" ∷
    row two held (asking (lent 3) regs true 1 (seg 4 8 1 ∷ seg 6 12 1 ∷ seg 12 12 1 ∷ [])) "refused 7\n" ∷
    -- ---- spare: the first entry that ends past the start counts, and the range's end is closed
    row [] plain (sparing lent_spare 0 (seg 4 8 0)) "not spare\n" ∷
    row [] plain (sparing lent_spare 0 (seg 4 6 0)) "spare\n" ∷
    row [] plain (sparing lent_spare 0 (seg 12 14 0)) "not spare\n" ∷
    row [] plain (sparing lent_spare 0 (seg 16 20 0)) "spare\n" ∷
    row [] plain (sparing lent_spare 63 (seg 8 16 0)) "spare\n" ∷
    row two [] (sparing lent_spare 0 (seg 10 14 0)) "spare\n" ∷
    row two [] (sparing lent_spare 0 (seg 10 16 0)) "not spare\n" ∷
    row two [] (sparing lent_spare 0 (seg 8 9 1)) "not spare\n" ∷
    -- 15, 8, then 5, 6
    row [] plain (sparing (2560 ∷ []) 64 (seg 8 8 0)) "refused 15\n" ∷
    row [] plain (sparing (2560 ∷ 2559 ∷ []) 0 (seg 4 6 0)) "refused 15\n" ∷
    row [] plain (sparing lent_spare 64 (seg 8 8 0)) "refused 8\n" ∷
    row [] plain (sparing lent_spare 0 (seg 7 7 0)) "refused 5\n" ∷
    row [] plain (sparing lent_spare 0 (seg 4 7 0)) "refused 6\n" ∷
    row [] plain (sparing lent_spare 0 (seg 3 6 0)) "refused 6\n" ∷
    -- ---- storage: unit and end; start and reservation; the fixed uses by unit; and past the last one, what is written there
    row (def_at 2 5 8 ∷ use_at 1 8 1 ∷ use_at 0 16 0 ∷ []) (placing 3 2 (seg 4 12 1 ∷ seg 14 18 1 ∷ []) ∷ []) (storing 6) "ends 18 4294967308 4294967314 8589934600 18446744073709551615 18446744073709551615\nrests 68719476737 17180196865 60129869824 21474836480 0 0\nuses 1048576 281474977234945 18446744073709551615 18446744073709551615 18446744073709551615 18446744073709551615\n" ∷
    []

rows_right : T (all right rows)
unfolding opened right rows table_of report_lines number_lines
rows_right = tt
