-- The marked cases A to K of document 01, and cases beyond them, as one table with one proof. Assumes nothing.
-- A row has a job's bytes and the calls made on it. Without calls it shows the printed sheet; with calls what each prints (docs/SCRIPT.md),
-- refusals and the whole state too, and then `h N R` for each number N that holds a register R, by Holding.
use Prim.Native.Nat.{ℕ, suc, ◌-◌}
use Prim.Native.String.{String}
use mathlib.Core.List.{List, [], ◌∷◌, ◌++◌, map}
use mathlib.Core.Bool.{Bool, true, false, ◌&&◌}
use lib.Dec.{T, eqb}
use lib.Ieee.{binary32, of_bits, nan}
use lib.ListN.{length, get_or, set}
use Rattle.reg_matrix.specs.Lists.{ascii, same, all, concat_map, count}
use Rattle.reg_matrix.specs.Lines.{number, sp, line, refused_line}
use Rattle.reg_matrix.specs.declared.ValueSegment.{ValueSegment}
use Rattle.job.specs.Model.{zero_weight}
use Rattle.job.specs.Load.{Loaded, not_loaded, loaded}
use Rattle.job.specs.Layout.{load_limits}
use Rattle.job.proofs.Hex.{hex, hex_from, is_hex, is_hex_from}
use Rattle.allocator.specs.State.{fresh_state}
use Rattle.allocator.specs.Layout.{stage_limits}
use Rattle.allocator.specs.Calls.{load, Call, placing, evicting, running}
use Rattle.allocator.specs.Demand.{Holder, holders_after}
use Rattle.allocator.specs.Sheet.{printed}
use Rattle.allocator.specs.Script.{ScriptCall, calls, checks, asks_spare, said_by_all}
use Rattle.allocator.proofs.Opened.{opened}

record Case : Type 0 where
  job : String
  calls : List ScriptCall
  shows : List String

-- ---- what a row shows

abbrev state_call : ScriptCall → List Call
state_call (calls c) = c ∷ []
state_call (checks full r ss) = []
state_call (asks_spare u p) = []

holder_line : Holder → List ℕ
holder_line h = line (ascii "h " ++ number h.number ++ sp (number h.reg))

abbrev after_calls : List ScriptCall → Loaded → List ℕ
after_calls cs (not_loaded n) = refused_line n
after_calls cs (loaded j) = said_by_all j (fresh_state j) cs ++ concat_map holder_line (holders_after j (concat_map state_call cs))

abbrev shown : List ℕ → List ScriptCall → List ℕ
shown job [] = printed job
shown job (c ∷ cs) = after_calls (c ∷ cs) (load stage_limits job)

right : Case → Bool
right c = is_hex c.job && same (shown (hex c.job) c.calls) (concat_map (λ l. line (ascii l)) c.shows)

-- ---- calls, in short

abbrev place : ℕ → ℕ → ℕ → ScriptCall
place v r bits = calls (placing stage_limits v r (of_bits binary32 bits))

abbrev evict : ℕ → ScriptCall
evict v = calls (evicting stage_limits v)

abbrev run : ℕ → ScriptCall
run b = calls (running stage_limits b)

-- what calls are lent, with the buffer of this place one short; and every buffer one longer
abbrev one_short : ℕ → List ℕ
one_short i = set stage_limits i (get_or stage_limits i 0 - 1)

abbrev longer : List ℕ
longer = map suc stage_limits

abbrev seg : ℕ → ℕ → ℕ → ValueSegment
seg a b x = record { from = a; to = b; value = x }

-- ---- the table

cases : List Case
cases =
    -- A
    record {
      job = "0B 01 0100000000000000 01 0100 0200 2C 0000803F 0A000000 0100 04000000140000000100 2C 00000040 05000000 0100 08000000100000000200";
      calls = [];
      shows = "end done 4" ∷ "v 0 left" ∷ "v 1 reg 0" ∷ "u 0 8 16 held 1 -" ∷ [];
    }
    ∷
    -- B: no bytes
    record {
      job = "";
      calls = [];
      shows = "refused 1" ∷ [];
    }
    ∷
    -- B: the byte 00
    record {
      job = "00";
      calls = [];
      shows = "end done 0" ∷ [];
    }
    ∷
    -- C
    record {
      job = "2B 01 0100000000000000 01 0100 0200 2C 0000803F 0A000000 0100 04000000140000000100 2C 00000040 05000000 0100 08000000100000000200 01000000";
      calls = [];
      shows = "end spent 1" ∷ "v 0 reg 0" ∷ "v 1 wait" ∷ "u 0 4 20 held 0 -" ∷ [];
    }
    ∷
    -- D, with at most 6 dequeues: a rule that evicted at equal weights would not end
    record {
      job = "2B 01 0100000000000000 01 0100 0200 2C 0000803F 0A000000 0100 04000000140000000100 2C 0000803F 05000000 0100 08000000100000000200 06000000";
      calls = [];
      shows = "end done 3" ∷ "v 0 reg 0" ∷ "v 1 left" ∷ "u 0 4 20 held 0 -" ∷ [];
    }
    ∷
    -- D
    record {
      job = "0B 01 0100000000000000 01 0100 0200 2C 0000803F 0A000000 0100 04000000140000000100 2C 0000803F 05000000 0100 08000000100000000200";
      calls = [];
      shows = "end done 3" ∷ "v 0 reg 0" ∷ "v 1 left" ∷ "u 0 4 20 held 0 -" ∷ [];
    }
    ∷
    -- E
    record {
      job = "0B 01 0100000000000000 01 0100 0200 2C 0000803F 0A000000 0100 04000000080000000100 2C 00000040 05000000 0100 080000000C0000000200";
      calls = [];
      shows = "end done 2" ∷ "v 0 reg 0" ∷ "v 1 reg 0" ∷ "u 0 4 8 held 0 -" ∷ "u 0 8 12 held 1 -" ∷ [];
    }
    ∷
    -- F
    record {
      job = "0F 01 0100000000000000 01 0100 0100 0A 08000000 0100 0100 2C 0000803F 0A000000 0100 04000000140000000100";
      calls = [];
      shows = "end done 1" ∷ "v 0 reg 0" ∷ "u 0 4 20 held 0 0" ∷ [];
    }
    ∷
    -- F: evicted, the use is back
    record {
      job = "0F 01 0100000000000000 01 0100 0100 0A 08000000 0100 0100 2C 0000803F 0A000000 0100 04000000140000000100";
      calls = run 100 ∷ evict 0 ∷ [];
      shows = "end done 1" ∷ "s 0 assigned 0 0 0" ∷ "q" ∷ "l 0:0" ∷ "u 0 4 20 held 0 0" ∷ "ok" ∷ "s 0 unassigned 0" ∷ "q 9223372079804448768" ∷ "l 0:0" ∷ "u 0 8 10 use 1" ∷ [];
    }
    ∷
    -- G
    record {
      job = "0F 01 0100000000000000 01 0100 0100 0A 08000000 0100 0100 2C 0000803F 0A000000 0100 04000000140000000200";
      calls = [];
      shows = "end done 2" ∷ "v 0 left" ∷ "u 0 8 10 use 1" ∷ [];
    }
    ∷
    -- H
    record {
      job = "0F 01 0100000000000000 01 0100 0100 0A 08000000 0100 0100 2C 0000803F 0A000000 0100 09000000140000000100";
      calls = [];
      shows = "refused 12" ∷ [];
    }
    ∷
    -- H: with value 2
    record {
      job = "0F 01 0100000000000000 01 0100 0100 0A 08000000 0100 0100 2C 0000803F 0A000000 0100 09000000140000000200";
      calls = [];
      shows = "end done 2" ∷ "v 0 left" ∷ "u 0 8 10 use 1" ∷ [];
    }
    ∷
    -- I
    record {
      job = "0B 01 0100000000000000 01 0100 0200 3C 0000807F 0A000000 01 000000803F 0100 04000000140000000100 3C 0000803F 05000000 01 0000000040 0100 08000000100000000200";
      calls = [];
      shows = "end done 5" ∷ "v 0 reg 0" ∷ "v 1 left" ∷ "u 0 4 20 held 0 -" ∷ [];
    }
    ∷
    -- J
    record {
      job = "0B 02 0300000000000000 0400000000000000 01 020001 0200 38 0A000000 01 000000803F 0100 04000000140000000100 38 05000000 01 0000000040 0100 08000000100000000200";
      calls = [];
      shows = "end done 2" ∷ "v 0 reg 0" ∷ "v 1 reg 1" ∷ "u 0 4 20 held 0 -" ∷ "u 1 4 20 held 0 -" ∷ "u 2 8 16 held 1 -" ∷ [];
    }
    ∷
    -- J: with 2.5 v 1 evicts
    record {
      job = "0B 02 0300000000000000 0400000000000000 01 020001 0200 38 0A000000 01 000000803F 0100 04000000140000000100 38 05000000 01 0000002040 0100 08000000100000000200";
      calls = [];
      shows = "end done 3" ∷ "v 0 reg 1" ∷ "v 1 reg 0" ∷ "u 0 8 16 held 1 -" ∷ "u 1 8 16 held 1 -" ∷ "u 2 4 20 held 0 -" ∷ [];
    }
    ∷
    -- K: 4 to 8
    record {
      job = "15 01 0100000000000000 0100 06 08000000 10000000 0400000008000000";
      calls = [];
      shows = "end done 0" ∷ "u 0 8 16 def" ∷ "spare" ∷ [];
    }
    ∷
    -- K: 4 to 7
    record {
      job = "15 01 0100000000000000 0100 06 08000000 10000000 0400000007000000";
      calls = [];
      shows = "refused 6" ∷ [];
    }
    ∷
    -- K: 4 to 6
    record {
      job = "15 01 0100000000000000 0100 06 08000000 10000000 0400000006000000";
      calls = [];
      shows = "end done 0" ∷ "u 0 8 16 def" ∷ "spare 0" ∷ [];
    }
    ∷
    -- budgets: 3 of the 4 dequeues needed
    record {
      job = "2B 01 0100000000000000 01 0100 0200 2C 0000803F 0A000000 0100 04000000140000000100 2C 00000040 05000000 0100 08000000100000000200 03000000";
      calls = [];
      shows = "end spent 3" ∷ "v 0 wait" ∷ "v 1 reg 0" ∷ "u 0 8 16 held 1 -" ∷ [];
    }
    ∷
    -- as many as needed: the queue is empty, so the budget is not spent
    record {
      job = "2B 01 0100000000000000 01 0100 0200 2C 0000803F 0A000000 0100 04000000140000000100 2C 00000040 05000000 0100 08000000100000000200 04000000";
      calls = [];
      shows = "end done 4" ∷ "v 0 left" ∷ "v 1 reg 0" ∷ "u 0 8 16 held 1 -" ∷ [];
    }
    ∷
    -- none
    record {
      job = "2B 01 0100000000000000 01 0100 0200 2C 0000803F 0A000000 0100 04000000140000000100 2C 00000040 05000000 0100 08000000100000000200 00000000";
      calls = [];
      shows = "end spent 0" ∷ "v 0 wait" ∷ "v 1 wait" ∷ [];
    }
    ∷
    -- none, with nothing queued
    record {
      job = "20 00000000";
      calls = [];
      shows = "end done 0" ∷ [];
    }
    ∷
    -- a budget in two runs: each counts from 0, and the second ends as its budget does
    record {
      job = "0B 01 0100000000000000 01 0100 0200 2C 0000803F 0A000000 0100 04000000140000000100 2C 00000040 05000000 0100 08000000100000000200";
      calls = run 1 ∷ run 3 ∷ run 1 ∷ [];
      shows = "end spent 1" ∷ "s 0 assigned 0 0 0" ∷ "s 1 unassigned 0" ∷ "q 9223372058329612289" ∷ "l 0:0" ∷ "u 0 4 20 held 0 -" ∷ "end done 3" ∷ "s 0 dead" ∷ "s 1 assigned 0 0 0" ∷ "q" ∷ "l 0:0 1:0" ∷ "u 0 8 16 held 1 -" ∷ "end done 0" ∷ "s 0 dead" ∷ "s 1 assigned 0 0 0" ∷ "q" ∷ "l 0:0 1:0" ∷ "u 0 8 16 held 1 -" ∷ "h 1 0" ∷ [];
    }
    ∷
    -- toomany, with its count
    record {
      job = "0B 01 0100000000000000 01 0100 0200 2C 0000807F 0A000000 0100 04000000140000000100 2C 0000807F 05000000 0100 08000000100000000200";
      calls = [];
      shows = "end toomany 2" ∷ "v 0 reg 0" ∷ "v 1 wait" ∷ "u 0 4 20 held 0 -" ∷ [];
    }
    ∷
    -- toomany: its number stays unassigned and unqueued, holds nothing, and may be placed when there is room
    record {
      job = "0B 01 0100000000000000 01 0100 0200 2C 0000807F 0A000000 0100 04000000140000000100 2C 0000807F 05000000 0100 08000000100000000200";
      calls = run 100 ∷ run 100 ∷ place 1 0 0x00000000 ∷ evict 0 ∷ place 1 0 0x3F000000 ∷ [];
      shows = "end toomany 2" ∷ "s 0 assigned 0 0 0" ∷ "s 1 unassigned 0" ∷ "q" ∷ "l 0:0" ∷ "u 0 4 20 held 0 -" ∷ "end done 0" ∷ "s 0 assigned 0 0 0" ∷ "s 1 unassigned 0" ∷ "q" ∷ "l 0:0" ∷ "u 0 4 20 held 0 -" ∷ "refused 14" ∷ "s 0 assigned 0 0 0" ∷ "s 1 unassigned 0" ∷ "q" ∷ "l 0:0" ∷ "u 0 4 20 held 0 -" ∷ "ok" ∷ "s 0 unassigned 0" ∷ "s 1 unassigned 0" ∷ "q 9223372079804448768" ∷ "l 0:0" ∷ "ok" ∷ "s 0 unassigned 0" ∷ "s 1 assigned 0 0 1056964608" ∷ "q 9223372079804448768" ∷ "l 0:0 1:0" ∷ "u 0 8 16 held 1 -" ∷ "h 1 0" ∷ [];
    }
    ∷
    -- equal spill weights: a hinted candidate evicts, and its flag turns on; the second eviction turns the other flag on
    record {
      job = "0B 01 0100000000000000 01 0100 0200 3C 0000803F 0A000000 01 000000803F 0100 04000000140000000100 3C 0000803F 05000000 01 0000000040 0100 08000000100000000200";
      calls = run 2 ∷ run 1 ∷ run 2 ∷ [];
      shows = "end spent 2" ∷ "s 0 unassigned 0" ∷ "s 1 assigned 1 0 1073741824" ∷ "q 13835058098231836672" ∷ "l 0:0 1:0" ∷ "u 0 8 16 held 1 -" ∷ "end spent 1" ∷ "s 0 assigned 1 0 1065353216" ∷ "s 1 unassigned 1" ∷ "q 13835058076757000193" ∷ "l 0:0 1:0" ∷ "u 0 4 20 held 0 -" ∷ "end done 2" ∷ "s 0 assigned 1 0 1065353216" ∷ "s 1 dead" ∷ "q" ∷ "l 0:0 1:0" ∷ "u 0 4 20 held 0 -" ∷ "h 0 0" ∷ [];
    }
    ∷
    -- a preferred eviction turns the flag on
    record {
      job = "0B 02 0300000000000000 0400000000000000 01 020001 0200 38 0A000000 01 000000803F 0100 04000000140000000100 38 05000000 01 0000002040 0100 08000000100000000200";
      calls = run 2 ∷ run 1 ∷ [];
      shows = "end spent 2" ∷ "s 0 unassigned 0" ∷ "s 1 assigned 1 0 1075838976" ∷ "q 13835058098231836672" ∷ "l 0:0 1:0" ∷ "u 0 8 16 held 1 -" ∷ "u 1 8 16 held 1 -" ∷ "end done 1" ∷ "s 0 assigned 0 1 0" ∷ "s 1 assigned 1 0 1075838976" ∷ "q" ∷ "l 0:1 1:0" ∷ "u 0 8 16 held 1 -" ∷ "u 1 8 16 held 1 -" ∷ "u 2 4 20 held 0 -" ∷ "h 0 1" ∷ "h 1 0" ∷ [];
    }
    ∷
    -- a spill maximum below the placed one leaves the flag off
    record {
      job = "0B 01 0100000000000000 01 0100 0200 2C 0000803F 0A000000 0100 04000000140000000100 2C 00000040 05000000 0100 08000000100000000200";
      calls = run 2 ∷ [];
      shows = "end spent 2" ∷ "s 0 unassigned 0" ∷ "s 1 assigned 0 0 0" ∷ "q 9223372079804448768" ∷ "l 0:0 1:0" ∷ "u 0 8 16 held 1 -" ∷ "h 1 0" ∷ [];
    }
    ∷
    -- hints of one register are summed, in arrival order; tied ones go by first arrival
    record {
      job = "0B 02 0100000000000000 0200000000000000 01 020001 0200 38 09000000 03 000000803F 010000C03F 000000803F 0100 04000000080000000100 38 08000000 02 010000803F 000000803F 0100 080000000C0000000200";
      calls = run 100 ∷ [];
      shows = "end done 2" ∷ "s 0 assigned 0 0 1073741824" ∷ "s 1 assigned 0 1 1065353216" ∷ "q" ∷ "l 0:0 1:1" ∷ "u 0 4 8 held 0 -" ∷ "u 1 8 12 held 1 -" ∷ "h 0 0" ∷ "h 1 1" ∷ [];
    }
    ∷
    -- each addition rounds: 16,777,216 + 1 + 1 stays 16,777,216, so 16,777,215 + 3 is heavier, though it came later
    record {
      job = "0B 02 0100000000000000 0200000000000000 01 020001 0100 30 05 000000804B 000000803F 000000803F 01FFFF7F4B 0100004040 0100 04000000080000000100";
      calls = run 1 ∷ [];
      shows = "end done 1" ∷ "s 0 assigned 0 1 1266679809" ∷ "q" ∷ "l 0:1" ∷ "u 1 4 8 held 0 -" ∷ "h 0 1" ∷ [];
    }
    ∷
    -- the last register of the set, from a run, goes ahead of the class
    record {
      job = "0B 02 0100000000000000 0200000000000000 01 020001 0200 3A 0700 09000000 01 010000803F 0100 04000000080000000100 2A 0700 08000000 0100 080000000C0000000200";
      calls = run 100 ∷ [];
      shows = "end done 2" ∷ "s 0 assigned 0 1 1065353216" ∷ "s 1 assigned 0 1 0" ∷ "q" ∷ "l 7:1" ∷ "u 1 4 8 held 0 -" ∷ "u 1 8 12 held 1 -" ∷ "h 0 1" ∷ "h 1 1" ∷ [];
    }
    ∷
    -- the last register of the set, from a direct placement; an eviction does not undo it
    record {
      job = "0B 02 0100000000000000 0200000000000000 01 020001 0200 2A 0700 09000000 0100 04000000080000000100 2A 0700 08000000 0100 080000000C0000000200";
      calls = place 0 1 0x00000000 ∷ evict 0 ∷ run 1 ∷ run 1 ∷ [];
      shows = "ok" ∷ "s 0 assigned 0 1 0" ∷ "s 1 unassigned 0" ∷ "q 9223372071214514177" ∷ "l 7:1" ∷ "u 1 4 8 held 0 -" ∷ "ok" ∷ "s 0 unassigned 0" ∷ "s 1 unassigned 0" ∷ "q 9223372075509481472 9223372071214514177" ∷ "l 7:1" ∷ "end spent 1" ∷ "s 0 assigned 0 1 0" ∷ "s 1 unassigned 0" ∷ "q 9223372071214514177" ∷ "l 7:1" ∷ "u 1 4 8 held 0 -" ∷ "end done 1" ∷ "s 0 assigned 0 1 0" ∷ "s 1 assigned 0 1 0" ∷ "q" ∷ "l 7:1" ∷ "u 1 4 8 held 0 -" ∷ "u 1 8 12 held 1 -" ∷ "h 0 1" ∷ "h 1 1" ∷ [];
    }
    ∷
    -- a hint that is the last register too stays in its place
    record {
      job = "0B 02 0100000000000000 0200000000000000 01 020001 0200 3A 0700 09000000 01 010000803F 0100 04000000080000000100 3A 0700 08000000 02 000000003F 010000803E 0100 080000000C0000000200";
      calls = run 2 ∷ [];
      shows = "end done 2" ∷ "s 0 assigned 0 1 1065353216" ∷ "s 1 assigned 0 0 1056964608" ∷ "q" ∷ "l 7:0" ∷ "u 0 8 12 held 1 -" ∷ "u 1 4 8 held 0 -" ∷ "h 0 1" ∷ "h 1 0" ∷ [];
    }
    ∷
    -- of equal entries the higher number comes first
    record {
      job = "0B 01 0100000000000000 01 0100 0200 24 0000803F 0100 04000000080000000100 24 0000803F 0100 04000000080000000200";
      calls = [];
      shows = "end done 3" ∷ "v 0 left" ∷ "v 1 reg 0" ∷ "u 0 4 8 held 1 -" ∷ [];
    }
    ∷
    -- sizes below, at and above 2^27 - 1
    record {
      job = "0B 01 0100000000000000 01 0100 0400 28 FEFFFF07 0100 04000000080000000100 28 FFFFFF07 0100 04000000080000000200 28 00000008 0100 04000000080000000300 28 FFFFFFFF 0100 04000000080000000400";
      calls = run 0 ∷ [];
      shows = "end spent 0" ∷ "s 0 unassigned 0" ∷ "s 1 unassigned 0" ∷ "s 2 unassigned 0" ∷ "s 3 unassigned 0" ∷ "q 9799832784863232003 9799832784863232002 9799832784863232001 9799832780568264704" ∷ "l" ∷ [];
    }
    ∷
    -- Evict and Split keys with and without hints, of equal size
    record {
      job = "0B 01 0100000000000000 01 0100 0500 2C 00004040 06000000 0100 04000000080000000100 3C 0000803F 05000000 01 0000000000 0100 04000000080000000200 2C 0000803F 05000000 0100 04000000080000000300 2C 0000803F 05000000 0100 04000000080000000400 3C 0000803F 04000000 01 0000000000 0100 0C000000100000000500";
      calls = run 0 ∷ run 5 ∷ run 1 ∷ run 9 ∷ [];
      shows = "end spent 0" ∷ "s 0 unassigned 0" ∷ "s 1 unassigned 0" ∷ "s 2 unassigned 0" ∷ "s 3 unassigned 0" ∷ "s 4 unassigned 0" ∷ "q 13835058076757000193 13835058072462032900 9223372062624579584 9223372058329612291 9223372058329612290" ∷ "l" ∷ "end spent 5" ∷ "s 0 assigned 0 0 0" ∷ "s 1 unassigned 0" ∷ "s 2 unassigned 0" ∷ "s 3 unassigned 0" ∷ "s 4 assigned 0 0 0" ∷ "q 9223372058329612290 4611686039902224385 21474836483" ∷ "l 0:0 1:0 4:0" ∷ "u 0 4 8 held 0 -" ∷ "u 0 12 16 held 4 -" ∷ "end spent 1" ∷ "s 0 assigned 0 0 0" ∷ "s 1 unassigned 0" ∷ "s 2 unassigned 0" ∷ "s 3 unassigned 0" ∷ "s 4 assigned 0 0 0" ∷ "q 4611686039902224385 21474836483 21474836482" ∷ "l 0:0 1:0 4:0" ∷ "u 0 4 8 held 0 -" ∷ "u 0 12 16 held 4 -" ∷ "end done 3" ∷ "s 0 assigned 0 0 0" ∷ "s 1 dead" ∷ "s 2 dead" ∷ "s 3 dead" ∷ "s 4 assigned 0 0 0" ∷ "q" ∷ "l 0:0 1:0 4:0" ∷ "u 0 4 8 held 0 -" ∷ "u 0 12 16 held 4 -" ∷ "h 0 0" ∷ "h 4 0" ∷ [];
    }
    ∷
    -- costs that differ in the spill maximum only: 1 in 0 is cheaper than 2 in 1
    record {
      job = "0B 02 0100000000000000 0200000000000000 01 020100 0300 24 0000803F 0100 04000000080000000100 24 00000040 0100 04000000080000000200 24 00001041 0100 04000000080000000300";
      calls = place 0 0 0x00000000 ∷ place 1 1 0x00000000 ∷ run 1 ∷ [];
      shows = "ok" ∷ "s 0 assigned 0 0 0" ∷ "s 1 unassigned 0" ∷ "s 2 unassigned 0" ∷ "q 9223372036854775810 9223372036854775809" ∷ "l 0:0" ∷ "u 0 4 8 held 0 -" ∷ "ok" ∷ "s 0 assigned 0 0 0" ∷ "s 1 assigned 0 1 0" ∷ "s 2 unassigned 0" ∷ "q 9223372036854775810" ∷ "l 0:0 1:1" ∷ "u 0 4 8 held 0 -" ∷ "u 1 4 8 held 1 -" ∷ "end spent 1" ∷ "s 0 unassigned 0" ∷ "s 1 assigned 0 1 0" ∷ "s 2 assigned 0 0 0" ∷ "q 9223372036854775808" ∷ "l 0:0 1:1 2:0" ∷ "u 0 4 8 held 2 -" ∷ "u 1 4 8 held 1 -" ∷ "h 1 1" ∷ "h 2 0" ∷ [];
    }
    ∷
    -- costs that differ in the preference sum only
    record {
      job = "0B 02 0100000000000000 0200000000000000 01 020100 0300 24 0000803F 0100 04000000080000000100 24 0000803F 0100 04000000080000000200 24 00001041 0100 04000000080000000300";
      calls = place 0 0 0x3F800000 ∷ place 1 1 0x40000000 ∷ run 1 ∷ [];
      shows = "ok" ∷ "s 0 assigned 0 0 1065353216" ∷ "s 1 unassigned 0" ∷ "s 2 unassigned 0" ∷ "q 9223372036854775810 9223372036854775809" ∷ "l 0:0" ∷ "u 0 4 8 held 0 -" ∷ "ok" ∷ "s 0 assigned 0 0 1065353216" ∷ "s 1 assigned 0 1 1073741824" ∷ "s 2 unassigned 0" ∷ "q 9223372036854775810" ∷ "l 0:0 1:1" ∷ "u 0 4 8 held 0 -" ∷ "u 1 4 8 held 1 -" ∷ "end spent 1" ∷ "s 0 unassigned 0" ∷ "s 1 assigned 0 1 1073741824" ∷ "s 2 assigned 0 0 0" ∷ "q 9223372036854775808" ∷ "l 0:0 1:1 2:0" ∷ "u 0 4 8 held 2 -" ∷ "u 1 4 8 held 1 -" ∷ "h 1 1" ∷ "h 2 0" ∷ [];
    }
    ∷
    -- the preference sum goes first: (1, 2) is less than (2, 1)
    record {
      job = "0B 02 0100000000000000 0200000000000000 01 020001 0300 24 0000803F 0100 04000000080000000100 24 00000040 0100 04000000080000000200 24 00001041 0100 04000000080000000300";
      calls = place 0 0 0x40000000 ∷ place 1 1 0x3F800000 ∷ run 1 ∷ [];
      shows = "ok" ∷ "s 0 assigned 0 0 1073741824" ∷ "s 1 unassigned 0" ∷ "s 2 unassigned 0" ∷ "q 9223372036854775810 9223372036854775809" ∷ "l 0:0" ∷ "u 0 4 8 held 0 -" ∷ "ok" ∷ "s 0 assigned 0 0 1073741824" ∷ "s 1 assigned 0 1 1065353216" ∷ "s 2 unassigned 0" ∷ "q 9223372036854775810" ∷ "l 0:0 1:1" ∷ "u 0 4 8 held 0 -" ∷ "u 1 4 8 held 1 -" ∷ "end spent 1" ∷ "s 0 assigned 0 0 1073741824" ∷ "s 1 unassigned 0" ∷ "s 2 assigned 0 1 0" ∷ "q 9223372036854775809" ∷ "l 0:0 1:1 2:1" ∷ "u 0 4 8 held 0 -" ∷ "u 1 4 8 held 2 -" ∷ "h 0 0" ∷ "h 2 1" ∷ [];
    }
    ∷
    -- equal costs: the first candidate
    record {
      job = "0B 02 0100000000000000 0200000000000000 01 020100 0300 24 0000803F 0100 04000000080000000100 24 0000803F 0100 04000000080000000200 24 00001041 0100 04000000080000000300";
      calls = place 0 0 0x3F800000 ∷ place 1 1 0x3F800000 ∷ run 1 ∷ [];
      shows = "ok" ∷ "s 0 assigned 0 0 1065353216" ∷ "s 1 unassigned 0" ∷ "s 2 unassigned 0" ∷ "q 9223372036854775810 9223372036854775809" ∷ "l 0:0" ∷ "u 0 4 8 held 0 -" ∷ "ok" ∷ "s 0 assigned 0 0 1065353216" ∷ "s 1 assigned 0 1 1065353216" ∷ "s 2 unassigned 0" ∷ "q 9223372036854775810" ∷ "l 0:0 1:1" ∷ "u 0 4 8 held 0 -" ∷ "u 1 4 8 held 1 -" ∷ "end spent 1" ∷ "s 0 assigned 0 0 1065353216" ∷ "s 1 unassigned 0" ∷ "s 2 assigned 0 1 0" ∷ "q 9223372036854775809" ∷ "l 0:0 1:1 2:1" ∷ "u 0 4 8 held 0 -" ∷ "u 1 4 8 held 2 -" ∷ "h 0 0" ∷ "h 2 1" ∷ [];
    }
    ∷
    -- a holder of nonzero weight counts once, though it is reported on two units
    record {
      job = "0B 02 0500000000000000 0200000000000000 01 020100 0300 24 0000803F 0100 04000000080000000100 24 0000803F 0100 04000000080000000200 24 00001041 0100 04000000080000000300";
      calls = place 0 0 0x3FC00000 ∷ place 1 1 0x40000000 ∷ run 1 ∷ [];
      shows = "ok" ∷ "s 0 assigned 0 0 1069547520" ∷ "s 1 unassigned 0" ∷ "s 2 unassigned 0" ∷ "q 9223372036854775810 9223372036854775809" ∷ "l 0:0" ∷ "u 0 4 8 held 0 -" ∷ "u 2 4 8 held 0 -" ∷ "ok" ∷ "s 0 assigned 0 0 1069547520" ∷ "s 1 assigned 0 1 1073741824" ∷ "s 2 unassigned 0" ∷ "q 9223372036854775810" ∷ "l 0:0 1:1" ∷ "u 0 4 8 held 0 -" ∷ "u 1 4 8 held 1 -" ∷ "u 2 4 8 held 0 -" ∷ "end spent 1" ∷ "s 0 unassigned 0" ∷ "s 1 assigned 0 1 1073741824" ∷ "s 2 assigned 0 0 0" ∷ "q 9223372036854775808" ∷ "l 0:0 1:1 2:0" ∷ "u 0 4 8 held 2 -" ∷ "u 1 4 8 held 1 -" ∷ "u 2 4 8 held 2 -" ∷ "h 1 1" ∷ "h 2 0" ∷ [];
    }
    ∷
    -- the sum of try_evict in the order of reports: 1 + 1 + 16,777,216 does not lose the ones, so it ties with 16,777,218 and the first wins
    record {
      job = "0B 02 0100000000000000 0200000000000000 01 020100 0500 24 0000803F 0100 0C000000100000000100 24 0000803F 0100 080000000C0000000200 24 0000803F 0100 04000000080000000300 24 0000803F 0100 04000000100000000400 24 00001041 0100 04000000100000000500";
      calls = place 0 0 0x4B800000 ∷ place 1 0 0x3F800000 ∷ place 2 0 0x3F800000 ∷ place 3 1 0x4B800001 ∷ run 1 ∷ [];
      shows = "ok" ∷ "s 0 assigned 0 0 1266679808" ∷ "s 1 unassigned 0" ∷ "s 2 unassigned 0" ∷ "s 3 unassigned 0" ∷ "s 4 unassigned 0" ∷ "q 9223372036854775812 9223372036854775811 9223372036854775810 9223372036854775809" ∷ "l 0:0" ∷ "u 0 12 16 held 0 -" ∷ "ok" ∷ "s 0 assigned 0 0 1266679808" ∷ "s 1 assigned 0 0 1065353216" ∷ "s 2 unassigned 0" ∷ "s 3 unassigned 0" ∷ "s 4 unassigned 0" ∷ "q 9223372036854775812 9223372036854775811 9223372036854775810" ∷ "l 0:0 1:0" ∷ "u 0 8 12 held 1 -" ∷ "u 0 12 16 held 0 -" ∷ "ok" ∷ "s 0 assigned 0 0 1266679808" ∷ "s 1 assigned 0 0 1065353216" ∷ "s 2 assigned 0 0 1065353216" ∷ "s 3 unassigned 0" ∷ "s 4 unassigned 0" ∷ "q 9223372036854775812 9223372036854775811" ∷ "l 0:0 1:0 2:0" ∷ "u 0 4 8 held 2 -" ∷ "u 0 8 12 held 1 -" ∷ "u 0 12 16 held 0 -" ∷ "ok" ∷ "s 0 assigned 0 0 1266679808" ∷ "s 1 assigned 0 0 1065353216" ∷ "s 2 assigned 0 0 1065353216" ∷ "s 3 assigned 0 1 1266679809" ∷ "s 4 unassigned 0" ∷ "q 9223372036854775812" ∷ "l 0:0 1:0 2:0 3:1" ∷ "u 0 4 8 held 2 -" ∷ "u 0 8 12 held 1 -" ∷ "u 0 12 16 held 0 -" ∷ "u 1 4 16 held 3 -" ∷ "end spent 1" ∷ "s 0 assigned 0 0 1266679808" ∷ "s 1 assigned 0 0 1065353216" ∷ "s 2 assigned 0 0 1065353216" ∷ "s 3 unassigned 0" ∷ "s 4 assigned 0 1 0" ∷ "q 9223372036854775811" ∷ "l 0:0 1:0 2:0 3:1 4:1" ∷ "u 0 4 8 held 2 -" ∷ "u 0 8 12 held 1 -" ∷ "u 0 12 16 held 0 -" ∷ "u 1 4 16 held 4 -" ∷ "h 0 0" ∷ "h 1 0" ∷ "h 2 0" ∷ "h 4 1" ∷ [];
    }
    ∷
    -- two infinities are never taken: the sum overflows and the spill weight is infinite
    record {
      job = "0B 01 0100000000000000 01 0100 0300 34 0000807F 01 000000803F 0100 04000000080000000100 24 0000807F 0100 080000000C0000000200 3C 0000803F 01000000 01 0000008040 0100 040000000C0000000300";
      calls = place 0 0 0x7F7FFFFF ∷ place 1 0 0x7F7FFFFF ∷ run 1 ∷ [];
      shows = "ok" ∷ "s 0 assigned 0 0 2139095039" ∷ "s 1 unassigned 0" ∷ "s 2 unassigned 0" ∷ "q 13835058059577131010 9223372036854775809" ∷ "l 0:0" ∷ "u 0 4 8 held 0 -" ∷ "ok" ∷ "s 0 assigned 0 0 2139095039" ∷ "s 1 assigned 0 0 2139095039" ∷ "s 2 unassigned 0" ∷ "q 13835058059577131010" ∷ "l 0:0 1:0" ∷ "u 0 4 8 held 0 -" ∷ "u 0 8 12 held 1 -" ∷ "end spent 1" ∷ "s 0 assigned 0 0 2139095039" ∷ "s 1 assigned 0 0 2139095039" ∷ "s 2 unassigned 0" ∷ "q 4611686022722355202" ∷ "l 0:0 1:0" ∷ "u 0 4 8 held 0 -" ∷ "u 0 8 12 held 1 -" ∷ "h 0 0" ∷ "h 1 0" ∷ [];
    }
    ∷
    -- a candidate heavier than the clear one, whose holders weigh more than it, is not taken; a lighter holder is evicted
    record {
      job = "0B 03 0100000000000000 0200000000000000 0400000000000000 01 03020001 0300 20 0100 04000000080000000100 20 0100 04000000080000000200 38 01000000 02 0000004040 0100000040 0100 04000000080000000300";
      calls = place 0 0 0x40400000 ∷ place 1 1 0x3F800000 ∷ run 1 ∷ [];
      shows = "ok" ∷ "s 0 assigned 0 0 1077936128" ∷ "s 1 unassigned 0" ∷ "s 2 unassigned 0" ∷ "q 13835058059577131010 9223372036854775809" ∷ "l 0:0" ∷ "u 0 4 8 held 0 -" ∷ "ok" ∷ "s 0 assigned 0 0 1077936128" ∷ "s 1 assigned 0 1 1065353216" ∷ "s 2 unassigned 0" ∷ "q 13835058059577131010" ∷ "l 0:0 1:1" ∷ "u 0 4 8 held 0 -" ∷ "u 1 4 8 held 1 -" ∷ "end spent 1" ∷ "s 0 assigned 0 0 1077936128" ∷ "s 1 unassigned 0" ∷ "s 2 assigned 1 1 1073741824" ∷ "q 9223372036854775809" ∷ "l 0:0 1:1 2:1" ∷ "u 0 4 8 held 0 -" ∷ "u 1 4 8 held 2 -" ∷ "h 0 0" ∷ "h 2 1" ∷ [];
    }
    ∷
    -- the flag on: strictly smaller spill weights only, and no preferred eviction
    record {
      job = "0B 02 0100000000000000 0200000000000000 01 020001 0200 38 0A000000 01 000000803F 0100 04000000140000000100 38 05000000 01 0000000040 0100 08000000100000000200";
      calls = run 9 ∷ evict 1 ∷ evict 0 ∷ place 0 0 0x3F000000 ∷ run 1 ∷ [];
      shows = "end done 3" ∷ "s 0 assigned 0 1 0" ∷ "s 1 assigned 1 0 1073741824" ∷ "q" ∷ "l 0:1 1:0" ∷ "u 0 8 16 held 1 -" ∷ "u 1 4 20 held 0 -" ∷ "ok" ∷ "s 0 assigned 0 1 0" ∷ "s 1 unassigned 1" ∷ "q 13835058076757000193" ∷ "l 0:1 1:0" ∷ "u 1 4 20 held 0 -" ∷ "ok" ∷ "s 0 unassigned 0" ∷ "s 1 unassigned 1" ∷ "q 13835058098231836672 13835058076757000193" ∷ "l 0:1 1:0" ∷ "ok" ∷ "s 0 assigned 0 0 1056964608" ∷ "s 1 unassigned 1" ∷ "q 13835058076757000193" ∷ "l 0:0 1:0" ∷ "u 0 4 20 held 0 -" ∷ "end done 1" ∷ "s 0 assigned 0 0 1056964608" ∷ "s 1 assigned 1 1 0" ∷ "q" ∷ "l 0:0 1:1" ∷ "u 0 4 20 held 0 -" ∷ "u 1 8 16 held 1 -" ∷ "h 0 0" ∷ "h 1 1" ∷ [];
    }
    ∷
    -- a fixed report rules a candidate out of either eviction, under a held entry too
    record {
      job = "0F 02 0100000000000000 0200000000000000 01 020001 0100 0A 08000000 0100 0300 20 0100 04000000140000000100 34 00001041 01 000000A040 0100 080000000C0000000200 24 0000803F 0100 080000000C0000000300";
      calls = place 0 0 0x00000000 ∷ place 2 1 0x00000000 ∷ run 1 ∷ [];
      shows = "ok" ∷ "s 0 assigned 0 0 0" ∷ "s 1 unassigned 0" ∷ "s 2 unassigned 0" ∷ "q 13835058055282163713 9223372036854775810" ∷ "l 0:0" ∷ "u 0 4 20 held 0 0" ∷ "ok" ∷ "s 0 assigned 0 0 0" ∷ "s 1 unassigned 0" ∷ "s 2 assigned 0 1 0" ∷ "q 13835058055282163713" ∷ "l 0:0 2:1" ∷ "u 0 4 20 held 0 0" ∷ "u 1 8 12 held 2 -" ∷ "end spent 1" ∷ "s 0 assigned 0 0 0" ∷ "s 1 assigned 0 1 0" ∷ "s 2 unassigned 0" ∷ "q 9223372036854775810" ∷ "l 0:0 1:1 2:1" ∷ "u 0 4 20 held 0 0" ∷ "u 1 8 12 held 1 -" ∷ "h 0 0" ∷ "h 1 1" ∷ [];
    }
    ∷
    -- no candidates: left over at once
    record {
      job = "0B 01 0100000000000000 01 00 0100 24 0000807F 0100 04000000080000000100";
      calls = [];
      shows = "end done 1" ∷ "v 0 left" ∷ [];
    }
    ∷
    -- a class without a register, and a hint: the hint is the candidate
    record {
      job = "0B 01 0100000000000000 01 00 0100 30 01 0000000000 0100 04000000080000000100";
      calls = [];
      shows = "end done 1" ∷ "v 0 reg 0" ∷ "u 0 4 8 held 0 -" ∷ [];
    }
    ∷
    -- direct placements: 8 for numbers, 8 for a register that neither class nor hints name, 9, 13, 14, in that order
    record {
      job = "0B 03 0100000000000000 0200000000000000 0400000000000000 02 0100 00 0300 22 0000 0100 040000000C0000000100 32 0000 01 0100000040 0100 08000000100000000200 21 01 0100 04000000080000000300";
      calls = place 3 0 0x00000000 ∷ place 0 3 0x00000000 ∷ place 0 2 0x00000000 ∷ place 2 0 0x00000000 ∷ place 2 0 0xFFFFFFFF ∷ place 0 1 0x80000000 ∷ place 0 1 0x7FC00000 ∷ place 0 1 0x7F800000 ∷ place 0 1 0x3F800000 ∷ place 0 1 0x7F800000 ∷ place 0 1 0x3F800000 ∷ place 1 1 0x3F800000 ∷ place 1 0 0x00000000 ∷ [];
      shows = "refused 8" ∷ "s 0 unassigned 0" ∷ "s 1 unassigned 0" ∷ "s 2 unassigned 0" ∷ "q 13835058055282163713 9223372036854775810 9223372036854775808" ∷ "l" ∷ "refused 8" ∷ "s 0 unassigned 0" ∷ "s 1 unassigned 0" ∷ "s 2 unassigned 0" ∷ "q 13835058055282163713 9223372036854775810 9223372036854775808" ∷ "l" ∷ "refused 8" ∷ "s 0 unassigned 0" ∷ "s 1 unassigned 0" ∷ "s 2 unassigned 0" ∷ "q 13835058055282163713 9223372036854775810 9223372036854775808" ∷ "l" ∷ "refused 8" ∷ "s 0 unassigned 0" ∷ "s 1 unassigned 0" ∷ "s 2 unassigned 0" ∷ "q 13835058055282163713 9223372036854775810 9223372036854775808" ∷ "l" ∷ "refused 8" ∷ "s 0 unassigned 0" ∷ "s 1 unassigned 0" ∷ "s 2 unassigned 0" ∷ "q 13835058055282163713 9223372036854775810 9223372036854775808" ∷ "l" ∷ "refused 9" ∷ "s 0 unassigned 0" ∷ "s 1 unassigned 0" ∷ "s 2 unassigned 0" ∷ "q 13835058055282163713 9223372036854775810 9223372036854775808" ∷ "l" ∷ "refused 9" ∷ "s 0 unassigned 0" ∷ "s 1 unassigned 0" ∷ "s 2 unassigned 0" ∷ "q 13835058055282163713 9223372036854775810 9223372036854775808" ∷ "l" ∷ "refused 9" ∷ "s 0 unassigned 0" ∷ "s 1 unassigned 0" ∷ "s 2 unassigned 0" ∷ "q 13835058055282163713 9223372036854775810 9223372036854775808" ∷ "l" ∷ "ok" ∷ "s 0 assigned 0 1 1065353216" ∷ "s 1 unassigned 0" ∷ "s 2 unassigned 0" ∷ "q 13835058055282163713 9223372036854775810" ∷ "l 0:1" ∷ "u 1 4 12 held 0 -" ∷ "refused 9" ∷ "s 0 assigned 0 1 1065353216" ∷ "s 1 unassigned 0" ∷ "s 2 unassigned 0" ∷ "q 13835058055282163713 9223372036854775810" ∷ "l 0:1" ∷ "u 1 4 12 held 0 -" ∷ "refused 13" ∷ "s 0 assigned 0 1 1065353216" ∷ "s 1 unassigned 0" ∷ "s 2 unassigned 0" ∷ "q 13835058055282163713 9223372036854775810" ∷ "l 0:1" ∷ "u 1 4 12 held 0 -" ∷ "refused 14" ∷ "s 0 assigned 0 1 1065353216" ∷ "s 1 unassigned 0" ∷ "s 2 unassigned 0" ∷ "q 13835058055282163713 9223372036854775810" ∷ "l 0:1" ∷ "u 1 4 12 held 0 -" ∷ "ok" ∷ "s 0 assigned 0 1 1065353216" ∷ "s 1 assigned 0 0 0" ∷ "s 2 unassigned 0" ∷ "q 9223372036854775810" ∷ "l 0:0" ∷ "u 0 8 16 held 1 -" ∷ "u 1 4 12 held 0 -" ∷ "h 0 1" ∷ "h 1 0" ∷ [];
    }
    ∷
    -- direct evictions: 8, 13; what is left over is not placed, nor evicted
    record {
      job = "0B 03 0100000000000000 0200000000000000 0400000000000000 02 0100 00 0300 22 0000 0100 040000000C0000000100 32 0000 01 0100000040 0100 08000000100000000200 21 01 0100 04000000080000000300";
      calls = evict 3 ∷ evict 0 ∷ run 9 ∷ evict 2 ∷ place 2 0 0x00000000 ∷ evict 1 ∷ [];
      shows = "refused 8" ∷ "s 0 unassigned 0" ∷ "s 1 unassigned 0" ∷ "s 2 unassigned 0" ∷ "q 13835058055282163713 9223372036854775810 9223372036854775808" ∷ "l" ∷ "refused 13" ∷ "s 0 unassigned 0" ∷ "s 1 unassigned 0" ∷ "s 2 unassigned 0" ∷ "q 13835058055282163713 9223372036854775810 9223372036854775808" ∷ "l" ∷ "end done 3" ∷ "s 0 assigned 0 0 0" ∷ "s 1 assigned 0 1 1073741824" ∷ "s 2 dead" ∷ "q" ∷ "l 0:0" ∷ "u 0 4 12 held 0 -" ∷ "u 1 8 16 held 1 -" ∷ "refused 13" ∷ "s 0 assigned 0 0 0" ∷ "s 1 assigned 0 1 1073741824" ∷ "s 2 dead" ∷ "q" ∷ "l 0:0" ∷ "u 0 4 12 held 0 -" ∷ "u 1 8 16 held 1 -" ∷ "refused 8" ∷ "s 0 assigned 0 0 0" ∷ "s 1 assigned 0 1 1073741824" ∷ "s 2 dead" ∷ "q" ∷ "l 0:0" ∷ "u 0 4 12 held 0 -" ∷ "u 1 8 16 held 1 -" ∷ "ok" ∷ "s 0 assigned 0 0 0" ∷ "s 1 unassigned 0" ∷ "s 2 dead" ∷ "q 13835058055282163713" ∷ "l 0:0" ∷ "u 0 4 12 held 0 -" ∷ "h 0 0" ∷ [];
    }
    ∷
    -- checks: the uses are walked past the entry's end, so the second one is reported twice; a held entry with an index comes for each segment
    record {
      job = "0F 01 0100000000000000 01 0100 0200 0A 08000000 0100 0A 10000000 0200 0100 20 0100 040000000C0000000100";
      calls = place 0 0 0x00000000 ∷ checks false 0 (seg 4 20 3 ∷ []) ∷ checks false 0 (seg 4 6 3 ∷ seg 10 12 3 ∷ []) ∷ [];
      shows = "ok" ∷ "s 0 assigned 0 0 0" ∷ "q" ∷ "l 0:0" ∷ "u 0 4 12 held 0 0" ∷ "u 0 16 18 use 2" ∷ "check" ∷ "r 0 0 4 12 v 0" ∷ "r 0 0 8 10 fixed" ∷ "r 0 0 16 18 fixed" ∷ "r 0 0 16 18 fixed" ∷ "check" ∷ "r 0 0 4 6 v 0" ∷ "r 0 1 10 12 v 0" ∷ "h 0 0" ∷ [];
    }
    ∷
    -- a use under a held entry is reported whole; short and full form; refusals 8, 5, 6, 7; spare questions with 8 ahead of 5
    record {
      job = "0F 01 0100000000000000 01 0100 0200 0A 08000000 0100 0A 10000000 0200 0100 20 0100 040000000C0000000100";
      calls = place 0 0 0x00000000 ∷ checks false 0 (seg 5 9 3 ∷ []) ∷ evict 0 ∷ checks false 0 (seg 4 9 1 ∷ seg 9 12 3 ∷ []) ∷ checks true 0 (seg 4 9 1 ∷ seg 9 12 3 ∷ []) ∷ checks true 1 [] ∷ checks true 0 [] ∷ checks true 0 (seg 4 7 1 ∷ []) ∷ checks true 0 (seg 4 8 1 ∷ seg 6 12 1 ∷ []) ∷ asks_spare 64 (seg 8 8 0) ∷ asks_spare 63 (seg 8 8 0) ∷ asks_spare 0 (seg 4 7 0) ∷ asks_spare 0 (seg 4 8 0) ∷ asks_spare 0 (seg 4 6 0) ∷ asks_spare 0 (seg 10 14 0) ∷ [];
      shows = "ok" ∷ "s 0 assigned 0 0 0" ∷ "q" ∷ "l 0:0" ∷ "u 0 4 12 held 0 0" ∷ "u 0 16 18 use 2" ∷ "check" ∷ "r 0 0 5 9 v 0" ∷ "r 0 0 8 10 fixed" ∷ "ok" ∷ "s 0 unassigned 0" ∷ "q 9223372036854775808" ∷ "l 0:0" ∷ "u 0 8 10 use 1" ∷ "u 0 16 18 use 2" ∷ "check" ∷ "check" ∷ "r 0 1 9 10 fixed" ∷ "refused 8" ∷ "refused 5" ∷ "refused 6" ∷ "refused 7" ∷ "refused 8" ∷ "refused 5" ∷ "refused 6" ∷ "busy" ∷ "spare" ∷ "spare" ∷ [];
    }
    ∷
    -- Holding after toomany: the number that met it holds nothing
    record {
      job = "0B 01 0100000000000000 01 0100 0200 2C 0000807F 0A000000 0100 04000000140000000100 2C 0000807F 05000000 0100 08000000100000000200";
      calls = run 100 ∷ [];
      shows = "end toomany 2" ∷ "s 0 assigned 0 0 0" ∷ "s 1 unassigned 0" ∷ "q" ∷ "l 0:0" ∷ "u 0 4 20 held 0 -" ∷ "h 0 0" ∷ [];
    }
    ∷
    -- Holding after refused calls: as before them
    record {
      job = "0B 01 0100000000000000 01 0100 0200 2C 0000803F 0A000000 0100 04000000140000000100 2C 00000040 05000000 0100 08000000100000000200";
      calls = place 0 0 0x00000000 ∷ place 1 0 0x00000000 ∷ evict 1 ∷ [];
      shows = "ok" ∷ "s 0 assigned 0 0 0" ∷ "s 1 unassigned 0" ∷ "q 9223372058329612289" ∷ "l 0:0" ∷ "u 0 4 20 held 0 -" ∷ "refused 14" ∷ "s 0 assigned 0 0 0" ∷ "s 1 unassigned 0" ∷ "q 9223372058329612289" ∷ "l 0:0" ∷ "u 0 4 20 held 0 -" ∷ "refused 13" ∷ "s 0 assigned 0 0 0" ∷ "s 1 unassigned 0" ∷ "q 9223372058329612289" ∷ "l 0:0" ∷ "u 0 4 20 held 0 -" ∷ "h 0 0" ∷ [];
    }
    ∷
    -- 15: a placement, an eviction and a run with a buffer one short; each changes nothing, and longer buffers do
    record {
      job = "0B 01 0100000000000000 01 0100 0200 2C 0000803F 0A000000 0100 04000000140000000100 2C 00000040 05000000 0100 08000000100000000200";
      calls = calls (placing (one_short 0) 0 0 zero_weight) ∷ calls (placing longer 0 0 zero_weight) ∷ calls (evicting (one_short 7) 0) ∷ calls (running (one_short 8) 9) ∷ calls (evicting longer 0) ∷ calls (running longer 1) ∷ [];
      shows = "refused 15" ∷ "s 0 unassigned 0" ∷ "s 1 unassigned 0" ∷ "q 9223372079804448768 9223372058329612289" ∷ "l" ∷ "ok" ∷ "s 0 assigned 0 0 0" ∷ "s 1 unassigned 0" ∷ "q 9223372058329612289" ∷ "l 0:0" ∷ "u 0 4 20 held 0 -" ∷ "refused 15" ∷ "s 0 assigned 0 0 0" ∷ "s 1 unassigned 0" ∷ "q 9223372058329612289" ∷ "l 0:0" ∷ "u 0 4 20 held 0 -" ∷ "refused 15" ∷ "s 0 assigned 0 0 0" ∷ "s 1 unassigned 0" ∷ "q 9223372058329612289" ∷ "l 0:0" ∷ "u 0 4 20 held 0 -" ∷ "ok" ∷ "s 0 unassigned 0" ∷ "s 1 unassigned 0" ∷ "q 9223372079804448768 9223372058329612289" ∷ "l 0:0" ∷ "end spent 1" ∷ "s 0 assigned 0 0 0" ∷ "s 1 unassigned 0" ∷ "q 9223372058329612289" ∷ "l 0:0" ∷ "u 0 4 20 held 0 -" ∷ "h 0 0" ∷ [];
    }
    ∷
    -- 15 goes ahead of 8 and 9, and of 13; a missing buffer is a short one
    record {
      job = "0B 01 0100000000000000 01 0100 0200 2C 0000803F 0A000000 0100 04000000140000000100 2C 00000040 05000000 0100 08000000100000000200";
      calls = calls (placing [] 2 1 nan) ∷ calls (evicting load_limits 2) ∷ calls (evicting (one_short 6) 0) ∷ [];
      shows = "refused 15" ∷ "s 0 unassigned 0" ∷ "s 1 unassigned 0" ∷ "q 9223372079804448768 9223372058329612289" ∷ "l" ∷ "refused 15" ∷ "s 0 unassigned 0" ∷ "s 1 unassigned 0" ∷ "q 9223372079804448768 9223372058329612289" ∷ "l" ∷ "refused 15" ∷ "s 0 unassigned 0" ∷ "s 1 unassigned 0" ∷ "q 9223372079804448768 9223372058329612289" ∷ "l" ∷ [];
    }
    ∷
    -- the key 0: number 0 at stage Split, with no hints and size 0, waits
    record {
      job = "0F 01 0100000000000000 01 0100 0100 0A 08000000 0100 0100 20 0100 04000000140000000200";
      calls = run 1 ∷ run 1 ∷ [];
      shows = "end spent 1" ∷ "s 0 unassigned 0" ∷ "q 0" ∷ "l" ∷ "u 0 8 10 use 1" ∷ "end done 1" ∷ "s 0 dead" ∷ "q" ∷ "l" ∷ "u 0 8 10 use 1" ∷ [];
    }
    ∷ []

-- every case shows what it should
cases_right : T (all right cases)
unfolding opened hex hex_from is_hex is_hex_from holder_line right cases
cases_right = tt

-- ---- 15 on loading a stage: whichever of its 19 buffers is one short; longer ones do

abbrev answer_of_load : Loaded → ℕ
answer_of_load (not_loaded n) = n
answer_of_load (loaded j) = 0

loads_right : T (all (λ i. eqb (answer_of_load (load (one_short i) (0 ∷ []))) 15) (count 0 (length stage_limits)) && eqb (answer_of_load (load longer (0 ∷ []))) 0)
unfolding opened
loads_right = tt
