-- The laws of the reservation table, for callers. `fixed` are the job's fixed reservations as loading tested them (`Sound`, `Parted`), `cs`
-- the cells held, `t` the table. `Matrix fixed cs t` is what placing and evicting keep; `Segments fixed ss` is what loading tested of a virtual
-- register's segments. Every law on the check is one on either form (`full`). Assumes nothing.
use Prim.Native.Nat.{ℕ, ◌+◌, ◌<◌, ◌≤◌}
use mathlib.Core.Path.{◌≡◌, sym, ◌∙◌}
use mathlib.Core.Logic.Iff
use mathlib.Core.Logic.{◌⊎◌, inl, inr, ◌↔◌}
use mathlib.Core.List.{List, [], ◌++◌}
use mathlib.Core.Bool.{Bool, true, false}
use lib.Dec.{T}
use lib.ListN.{length}
use Rattle.reg_matrix.specs.Table.{Table, fresh_table, fixed_uses, on_unit}
use Rattle.reg_matrix.specs.Check.{check}
use Rattle.reg_matrix.specs.Assign.{assign, evict}
use Rattle.reg_matrix.specs.Questions.{is_unit_free}
use Rattle.reg_matrix.specs.declared.ValueSegment.{ValueSegment}
use Rattle.reg_matrix.specs.declared.Entry.{Entry}
use Rattle.std.specs.Prelude.{Option, Some}
use Rattle.reg_matrix.specs.declared.Reservation.TheVariants.{Held}
use Rattle.reg_matrix.specs.declared.Interference.{Interference}
use Rattle.reg_matrix.specs.declared.InterferenceKind.TheVariants.{VirtReg, Fixed}
use Rattle.reg_matrix.proofs.Members.{◌∈◌}
use Rattle.reg_matrix.proofs.Sorted.{Parted}
use Rattle.reg_matrix.proofs.Cells.{Cell, IsTable, Among, is_among, decided_by_cells}
use Rattle.reg_matrix.proofs.Chains.{Chain, Sound, not_held}
use Rattle.reg_matrix.proofs.Whole.{cells, AllFree, Joins, joins_append, joins_middle, middle_first, evict_law, evict_assign}
use Rattle.reg_matrix.proofs.Clear.{Segments, clear_cells, free_clear, clear_joins, assign_clear}
use Rattle.reg_matrix.proofs.Fresh.{fresh_law}
use Rattle.reg_matrix.proofs.Room.{room}
use Rattle.reg_matrix.proofs.Reported.{reported_held}
use Rattle.reg_matrix.proofs.Apart as apart
use Rattle.reg_matrix.proofs.Spare.{Clears, spare_law}
use Rattle.reg_matrix.proofs.Capacity as capacity

-- t is the table of the cells cs, and each of these is free beside the later ones
pub record Matrix (fixed : List Entry) (cs : List Cell) (t : Table) : Type 0 where
  pub table : IsTable fixed cs t
  pub joined : Joins fixed [] cs

same_holder : (v w : ℕ) (i k : Option ℕ) → Held v i ≡ Held w k → v ≡ w
same_holder v w i k q = cc

-- ---- what the table is

-- a table is decided by its reservations and cells, in whatever order the cells came
pub table_decided : (fixed : List Entry) (cs ds : List Cell) (s t : Table) → Matrix fixed cs s → Matrix fixed ds t → Among cs ds → Among ds cs → s ≡ t
table_decided fixed cs ds s t a b p q = decided_by_cells fixed cs ds s t p q a.table b.table

-- the fresh table has no cells
pub fresh_table_lem : (fixed : List Entry) → Parted fixed → Matrix fixed [] (fresh_table fixed)
fresh_table_lem fixed p = record { table = fresh_law fixed p; joined = tt }

module _ (fixed : List Entry) (sd : Sound fixed) (cs : List Cell) (t : Table) (mx : Matrix fixed cs t) where
  -- ---- the check

  -- a check is clear exactly if the cells are free
  pub clear_free : (full : Bool) (v m : ℕ) (ss : List ValueSegment) → Segments fixed ss → (check full fixed t m ss ≡ []) ↔ AllFree fixed cs v m ss
  clear_free full v m ss g = (clear_cells fixed cs t mx.table full v m ss g, free_clear fixed cs t mx.table full v m ss)

  -- the short form is clear exactly if the full form is
  pub short_full : (m : ℕ) (ss : List ValueSegment) → Segments fixed ss → (check false fixed t m ss ≡ []) ↔ (check true fixed t m ss ≡ [])
  short_full m ss g = Iff.trans (clear_free false 0 m ss g) (Iff.symm (clear_free true 0 m ss g))

  -- What is reported covers all that is in the way: without a fixed report, and with only cells left whose holders are not reported, the
  -- cells of the register are free.
  pub reports_cover :
      (full : Bool) (m : ℕ) (ss : List ValueSegment)
      → Segments fixed ss
      → ((r : Interference) → r ∈ check full fixed t m ss → r.kind ≡ Fixed → ⊥)
      → (left : List Cell)
      → Among left cs
      → ((d : Cell) → d ∈ left → (r : Interference) → r ∈ check full fixed t m ss → r.kind ≡ VirtReg d.v → ⊥)
      → (v : ℕ)
      → AllFree fixed left v m ss
  reports_cover full m ss g evictable left sub away v = room full fixed cs t m ss sd mx.table g evictable left sub away v

  -- whoever is reported has a cell
  pub report_cell : (full : Bool) (m : ℕ) (ss : List ValueSegment) (r : Interference) (w : ℕ) → r ∈ check full fixed t m ss → r.kind ≡ VirtReg w → (c : Cell) × (c ∈ cs) × (c.v ≡ w)
  report_cell full m ss r w l q =
      let h = reported_held full fixed t m ss r w q l in
      go h.entry h.index h.held (capacity.entry_source fixed cs t mx.table h.entry h.there)
    where
      go : (e : Entry) (i : Option ℕ) → e.reservation ≡ Held w i → (e ∈ fixed) ⊎ ((c : Cell) × capacity.OfCell fixed cs e c) → (c : Cell) × (c ∈ cs) × (c.v ≡ w)
      go e i p (inl f) = absurd (not_held fixed sd e f w i p)
      go e i p (inr k) = let z : k.0.v ≡ w = same_holder k.0.v w _ i (sym k.1.held_is ∙ p) in (k.0, k.1.among, z)

  -- ---- placing

  -- placing after a clear check adds the cells
  pub assign_adds : (full : Bool) (v m : ℕ) (ss : List ValueSegment) → Segments fixed ss → check full fixed t m ss ≡ [] → Matrix fixed (cells v m ss ++ cs) (assign fixed v m ss t)
  assign_adds full v m ss g z =
      record {
        table = assign_clear fixed cs t mx.table sd full v m ss g z;
        joined = joins_append fixed (cells v m ss) cs (clear_joins fixed cs t mx.table full v m ss g z) mx.joined;
      }

  -- placing, then evicting gives the table back
  pub evict_undoes : (full : Bool) (v m : ℕ) (ss : List ValueSegment) → Segments fixed ss → check full fixed t m ss ≡ [] → evict fixed v m ss (assign fixed v m ss t) ≡ t
  evict_undoes full v m ss g z = evict_assign fixed sd v m ss cs t mx.table (clear_joins fixed cs t mx.table full v m ss g z)

  -- ---- entries

  -- two entries of one unit are one and the same or lie apart
  pub entries_apart : (e f : Entry) → e ∈ t → f ∈ t → e.unit ≡ f.unit → (e ≡ f) ⊎ ((e.to ≤ f.from) ⊎ (f.to ≤ e.from))
  entries_apart = apart.entries_apart fixed cs t sd mx.table (apart.joins_together fixed [] cs mx.joined)

  -- entries of different holders never overlap on a unit
  pub holders_apart :
      (e f : Entry)
      → e ∈ t
      → f ∈ t
      → e.unit ≡ f.unit
      → (v w : ℕ) (i j : Option ℕ)
      → e.reservation ≡ Held v i
      → f.reservation ≡ Held w j
      → (v ≡ w → ⊥)
      → (e.to ≤ f.from) ⊎ (f.to ≤ e.from)
  holders_apart = apart.holders_apart fixed cs t sd mx.table (apart.joins_together fixed [] cs mx.joined)

  -- a unit's entries follow one another
  pub unit_chain : (u : ℕ) → Chain (on_unit u t)
  unit_chain = apart.unit_chain fixed cs t sd mx.table (apart.joins_together fixed [] cs mx.joined)

  -- a unit is spare exactly if every entry of it ends at or before the range's start, or starts past its end
  pub spare_free : (u : ℕ) (s : ValueSegment) → T (is_unit_free t u s) ↔ ((e : Entry) → e ∈ t → e.unit ≡ u → Clears s e)
  spare_free = spare_law fixed cs t sd mx.table (apart.joins_together fixed [] cs mx.joined)

  -- ---- sizes

  -- no more entries than reservations and cells
  pub table_size : length t ≤ length fixed + length cs
  table_size = capacity.capacity fixed cs t mx.table

  -- an entry is one of the reservations, or its unit, points and holder are a cell's
  pub entry_source : (e : Entry) → e ∈ t → (e ∈ fixed) ⊎ ((c : Cell) × capacity.OfCell fixed cs e c)
  entry_source = capacity.entry_source fixed cs t mx.table

  -- a fixed index is the place of a fixed use of its unit
  pub index_size : (e : Entry) → e ∈ t → (v i : ℕ) → e.reservation ≡ Held v (Some i) → (i < length (fixed_uses fixed e.unit)) × (i < length fixed)
  index_size e m v i q = (capacity.held_index fixed cs t sd mx.table e m v i q, capacity.held_index_fixed fixed cs t sd mx.table e m v i q)

-- ---- evicting

-- evicting takes the cells off, wherever they are listed
pub evict_takes :
    (fixed : List Entry)
    → Sound fixed
    → (xs ys : List Cell) (t : Table) (v m : ℕ) (ss : List ValueSegment)
    → Matrix fixed (xs ++ (cells v m ss ++ ys)) t
    → Matrix fixed (xs ++ ys) (evict fixed v m ss t)
evict_takes fixed sd xs ys t v m ss mx =
    let ks = cells v m ss in
    let j = joins_middle fixed xs ks ys mx.joined in
    let it = is_among fixed (xs ++ (ks ++ ys)) (ks ++ (xs ++ ys)) t (middle_first xs ks ys) (middle_first ks xs ys) mx.table in
    record { table = evict_law fixed sd v m ss (xs ++ ys) t it j.0; joined = j.1 }
