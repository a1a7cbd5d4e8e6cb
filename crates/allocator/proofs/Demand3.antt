-- Demand 3, on whole lists of calls, as specs/Demand.antt states it: the table after them is the one that placing the holders anew gives, none
-- refused, and tables are the same, entry by entry and line by line, exactly when the same numbers hold the same registers. Assumes nothing.
use mathlib.Core.Path.{◌≡◌, ap}
use mathlib.Core.List.{List}
use Prim.Native.Nat.{ℕ}
use Rattle.reg_matrix.specs.Lines.{entry_line, table_lines}
use Rattle.reg_matrix.specs.declared.Entry.{Entry}
use Rattle.reg_matrix.proofs.Members.{◌∈◌}
use Rattle.job.specs.Model.{Job}
use Rattle.job.proofs.Premises.{Premises}
use Rattle.allocator.specs.Calls.{Call, after_all}
use Rattle.allocator.specs.Holding.{holds}
use Rattle.allocator.specs.Demand.{holders_after, placements, TablesAreHolders, Demand3}
use Rattle.allocator.specs.Corollaries.{EntryLines}
use Rattle.allocator.proofs.Agrees.{Agrees}
use Rattle.allocator.proofs.Runs.{after_agrees}
use Rattle.allocator.proofs.Rebuilt.{holders_accepted, same_table}
use Rattle.allocator.proofs.Shown.{table_shows, holders_decide}
use Rattle.allocator.proofs.PrintedLines.{Short, same_line, same_lines}
use Rattle.allocator.proofs.Entries.{entry_short}
use Rattle.allocator.proofs.Loading.{stage_premises}

-- Of every job with what loading tested. After every list of calls the state agrees with Holding (`after_agrees`, in Runs); the four parts are
-- drawn from that alone.
pub demand3_premises : (j : Job) → Premises j → TablesAreHolders j
unfolding placements holders_after after_all
demand3_premises j p =
    record {
      none_refused = λ cs. holders_accepted j p (after_all j cs) (holds j cs) (agrees cs);
      rebuilt = λ cs. same_table j p (after_all j cs) (holds j cs) (agrees cs);
      decided = λ cs ds. (shows cs ds, decides cs ds);
      by_lines = λ cs ds. ((λ q. shows cs ds (read cs ds q)), λ e. ap table_lines (decides cs ds e));
    }
  where
    agrees : (cs : List Call) → Agrees j (after_all j cs) (holds j cs)
    agrees = after_agrees j p

    -- the same tables: the same holders
    shows : (cs ds : List Call) → (after_all j cs).table ≡ (after_all j ds).table → (v : ℕ) → holds j cs v ≡ holds j ds v
    shows cs ds = table_shows j p (after_all j cs) (after_all j ds) (holds j cs) (holds j ds) (agrees cs) (agrees ds)

    -- the same holders: the same tables
    decides : (cs ds : List Call) → ((v : ℕ) → holds j cs v ≡ holds j ds v) → (after_all j cs).table ≡ (after_all j ds).table
    decides cs ds = holders_decide j p (after_all j cs) (after_all j ds) (holds j cs) (holds j ds) (agrees cs) (agrees ds)

    -- the same lines: the same tables
    read : (cs ds : List Call) → table_lines (after_all j cs).table ≡ table_lines (after_all j ds).table → (after_all j cs).table ≡ (after_all j ds).table
    read cs ds =
        same_lines (after_all j cs).table (after_all j ds).table (entry_short j p (after_all j cs) (holds j cs) (agrees cs))
        (entry_short j p (after_all j ds) (holds j ds) (agrees ds))

-- Of every byte string that loads, whatever was lent.
pub demand3 : Demand3
demand3 lent bytes j b e = demand3_premises j (stage_premises lent bytes j b e)

-- Entries are equal where their printed lines are.
pub entry_lines_lem : EntryLines
entry_lines_lem lent bytes j b q cs ds e f m n = (
  same_line e f (short cs e m) (short ds f n),
  ap entry_line,
)
  where
    p : Premises j
    p = stage_premises lent bytes j b q

    short : (cs : List Call) (e : Entry) → e ∈ (after_all j cs).table → Short e
    short cs = entry_short j p (after_all j cs) (holds j cs) (after_agrees j p cs)
