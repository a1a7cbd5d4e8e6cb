-- Demand 3, stated once on whole lists of calls (00, demand 3; document 01, "Holding"). Assumes nothing.
use Rattle.std.specs.Prelude.{ℕ, ◌≡◌, ◌↔◌, List, [], ◌∷◌, map, length}
use Rattle.std.proofs.Math.Option.{Option, none, some}
use Rattle.reg_matrix.specs.Lists.{concat_map, count}
use Rattle.reg_matrix.specs.Lines.{table_lines}
use Rattle.job.specs.Model.{Job, zero_weight}
use Rattle.job.specs.Load.{Bytes, loaded}
use Rattle.allocator.specs.State.{fresh_state}
use Rattle.allocator.specs.Layout.{stage_limits}
use Rattle.allocator.specs.Calls.{load, Call, placing, placed, answers, after_all}
use Rattle.allocator.specs.Holding.{holds}

-- 01, "Holding": a number and the register that it holds
pub record Holder : Type 0 where
  pub number : ℕ
  pub reg : ℕ

-- 01, "Holding": of a number, if it holds a register
abbrev pub as_holder : ℕ → Option ℕ → List Holder
as_holder v none = []
as_holder v (some r) = record { number = v; reg = r } ∷ []

-- 01, "Holding": the numbers then holding a register, lowest first
unfoldable pub holders_after : Job → List Call → List Holder
holders_after j cs = concat_map (λ v. as_holder v (holds j cs v)) (count 0 (length j.virt_regs))

-- 01, "The rules": "Holders or lines placed anew on the fresh job get weight 0"
abbrev pub place_holder : Holder → Call
place_holder h = placing stage_limits h.number h.reg zero_weight

-- 00, demand 3: the holders placed anew
unfoldable pub placements : Job → List Call → List Call
placements j cs = map place_holder (holders_after j cs)

-- 00, demand 3, and 01, "Holding": The table after any calls is the one that placing the holders one by one, lowest number first, on the fresh job
-- gives, none refused. After any two lists the tables are equal in every entry exactly when the same virtual registers hold the same physical
-- registers; "Entries are equal where their printed lines are".
pub record TablesAreHolders (j : Job) : Type 0 where
  pub none_refused : (cs : List Call) → answers j (fresh_state j) (placements j cs) ≡ map (λ h. placed h.reg) (holders_after j cs)
  pub rebuilt : (cs : List Call) → (after_all j (placements j cs)).table ≡ (after_all j cs).table
  pub decided : (cs ds : List Call) → ((after_all j cs).table ≡ (after_all j ds).table) ↔ ((v : ℕ) → holds j cs v ≡ holds j ds v)
  pub by_lines : (cs ds : List Call) → (table_lines (after_all j cs).table ≡ table_lines (after_all j ds).table) ↔ ((v : ℕ) → holds j cs v ≡ holds j ds v)

-- 01, "Holding": of every byte string that loads, whatever was lent
abbrev pub OfLoaded : (Job → Type 0) → Type 0
OfLoaded P = (lent bytes : List ℕ) (j : Job) → Bytes bytes → load lent bytes ≡ loaded j → P j

-- 00, demand 3: "a single statement on whole lists, not one for each call" (01, "Holding")
abbrev pub Demand3 : Type 0
Demand3 = OfLoaded TablesAreHolders
