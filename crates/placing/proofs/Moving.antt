-- Placing and evicting a whole virtual register in the lent slices: where the table of reached cells stands in them (`Stands`) and the fixed
-- uses lie in theirs (`UsesLie`), the table after the move stands there afterwards, and what is lent behind it stays. With what `assign` and
-- `evict` ensure (specs/Placing.antt), this decides every number of every lent slice. Assumes nothing.
use Prim.Native.Nat.{ℕ, ◌+◌, ◌^◌, ◌≤◌, ◌<◌}
use native.Mathlib.Omega.{arith}
use mathlib.Core.Path.{◌≡◌, refl, sym, ap, ◌∙◌, subst}
use mathlib.Core.List.Memᴰ
use mathlib.Core.List.{List, [], ◌∷◌, ◌++◌, map}
use mathlib.Core.Bool.{Bool}
use lib.ListN.{length, length-append}
use Rattle.reg_matrix.specs.Lists.{foldl}
use Rattle.reg_matrix.specs.Table.{Table, units_of}
use Rattle.reg_matrix.specs.Check.{check}
use Rattle.reg_matrix.specs.Assign.{assign_segment, assign, evict_segment, evict}
use Rattle.reg_matrix.specs.Layout.{max_entries, max_fixed}
use Rattle.entries.specs.Moves.{Words}
use Rattle.entries.specs.Placing.{assigning_segment, assigning_unit, assigning, evicting_segment, evicting_unit, evicting}
use Rattle.reg_matrix.specs.declared.ValueSegment.{ValueSegment}
use Rattle.reg_matrix.specs.declared.Entry.{Entry}
use Rattle.reg_matrix.proofs.Members.{◌∈◌, units_of_out}
use Rattle.reg_matrix.proofs.Cells.{Cell, entry_for, Laid, reserved, cell, IsTable, free_among, is_among, assign_cell}
use Rattle.reg_matrix.proofs.Chains.{Sound}
use Rattle.reg_matrix.proofs.Whole.{cells, cells_on_out, on_cell, walk_cells, Joins, one_more, joins_middle, middle_first}
use Rattle.reg_matrix.proofs.Clear.{Segments, clear_joins}
use Rattle.reg_matrix.proofs.Capacity.{capacity}
use Rattle.reg_matrix.proofs.Laws.{Matrix}
use Rattle.reg_matrix.proofs.Evicting.{evict_cell}
use Rattle.placing.proofs.Evicted.{evict_segment_stands}
use Rattle.placing.proofs.Standing.{SmallEnd, SmallEnds, Stands}
use Rattle.placing.proofs.Lying.{AllSmall, UsesLie}
use Rattle.placing.proofs.Placed.{SmallCell, assign_segment_stands}

abbrev pub SmallCells : List Cell → Type 0
SmallCells cs = (c : Cell) → c ∈ cs → SmallCell c

-- the points of a segment fit into 32 bits
abbrev pub SmallPoints : List ValueSegment → Type 0
SmallPoints ss = (s : ValueSegment) → s ∈ ss → (s.from < 2 ^ 32) × (s.to < 2 ^ 32)

pub small_cells : (v m : ℕ) (ss : List ValueSegment) → SmallPoints ss → SmallCells (cells v m ss)
small_cells v m ss h c n =
    let k = cells_on_out v (units_of m) ss c n in
    let l = h c.s k.2 in
    record { unit = (units_of_out m c.u k.1).1; from = l.0; to = l.1 }

module _ (fixed : List Entry) (sd : Sound fixed) (sf : AllSmall fixed) where
  -- the entries of a table are as small as its reservations and cells
  pub small_table : (cs : List Cell) (t : Table) → IsTable fixed cs t → SmallCells cs → SmallEnds t
  unfolding entry_for
  small_table cs t it sc e m = go (it.out e m)
    where
      go : Laid fixed cs e → SmallEnd e
      go (reserved f h) = record { unit = (sf e f).unit; to = (sf e f).to }
      go (cell c n q) =
          record {
            unit = subst (λ (x : Entry). x.unit < 64) (sym q) (sc c n).unit;
            to = subst (λ (x : Entry). x.to < 2 ^ 32) (sym q) (sc c n).to;
          }

  module _ (ut uses : List ℕ) (lie : UsesLie fixed ut uses) (et rt : List ℕ) where
    same_stands : {t t' : Table} {w w' : Words} → t ≡ t' → w ≡ w' → Stands t' et rt w' → Stands t et rt w
    same_stands {t} {t'} {w} {w'} p q st = subst (λ (x : Table). Stands x et rt w) (sym p) (subst (λ (x : Words). Stands t' et rt x) (sym q) st)

    -- ---- placing

    -- one segment, in the slices
    abbrev placing : ℕ → ℕ → Words → ValueSegment → Words
    placing v u w s = assigning_segment uses v u w s.from s.to

    place_cells :
        (ks cs : List Cell) (t : Table) (w : Words)
        → IsTable fixed cs t
        → Joins fixed cs ks
        → SmallCells ks
        → SmallCells cs
        → length fixed + (length ks + length cs) ≤ max_entries
        → Stands t et rt w
        → Stands (foldl (on_cell (assign_segment fixed)) t ks) et rt (foldl (on_cell placing) w ks)
    unfolding foldl on_cell
    place_cells [] cs t w it j sk sc room st = st
    place_cells (k ∷ ks) cs t w it j sk sc room st =
        let fr = free_among fixed cs (ks ++ cs) k (λ d m. Memᴰ.append_right ks m) j.0 in
        place_cells ks (k ∷ cs) (assign_segment fixed k.v k.u t k.s) (placing k.v k.u w k.s)
        (assign_cell fixed cs t k sd.nonempty it fr)
        (one_more fixed cs ks k (λ l m q. j.0.alone l (Memᴰ.append_left cs m) q) j.1)
        (λ c m. sk c (Memᴰ.tail m))
        (both cs k (sk k (Memᴰ.head refl)) sc)
        (omega arith)
        (assign_segment_stands fixed cs t k sd it fr (small_table cs t it sc) (sk k (Memᴰ.head refl)) sf ut uses lie et rt w st
        (omega (arith, capacity fixed cs t it)))
      where
        both : (cs : List Cell) (k : Cell) → SmallCell k → SmallCells cs → SmallCells (k ∷ cs)
        both cs k a h c (Memᴰ.head q) = subst SmallCell (sym q) a
        both cs k a h c (Memᴰ.tail m) = h c m

    place_unit : (v u : ℕ) (ss : List ValueSegment) (w : Words) → assigning_unit uses v u (map (λ s. s.from) ss) (map (λ s. s.to) ss) w ≡ foldl (placing v u) w ss
    unfolding assigning_unit foldl
    place_unit v u [] w = refl
    place_unit v u (s ∷ ss) w = place_unit v u ss (placing v u w s)

    place_units :
        (v : ℕ) (us : List ℕ) (ss : List ValueSegment) (w : Words)
        → foldl (λ w u. assigning_unit uses v u (map (λ s. s.from) ss) (map (λ s. s.to) ss) w) w us ≡ foldl (λ w u. foldl (placing v u) w ss) w us
    unfolding foldl
    place_units v [] ss w = refl
    place_units v (u ∷ us) ss w =
        ap (λ (x : Words). foldl (λ w u. assigning_unit uses v u (map (λ s. s.from) ss) (map (λ s. s.to) ss) w) x us) (place_unit v u ss w)
        ∙ place_units v us ss (foldl (placing v u) w ss)

    -- Placing after a clear check, on a reached table: the slices hold the table with the register's cells. There is room if the reservations,
    -- the cells held and the new ones are at most 2,560.
    pub assign_stands :
        (cs : List Cell) (t : Table)
        → Matrix fixed cs t
        → SmallCells cs
        → (full : Bool) (v m : ℕ) (ss : List ValueSegment)
        → Segments fixed ss
        → SmallPoints ss
        → check full fixed t m ss ≡ []
        → length fixed + (length (cells v m ss) + length cs) ≤ max_entries
        → (w : Words)
        → Stands t et rt w
        → Stands (assign fixed v m ss t) et rt (assigning uses v m (map (λ s. s.from) ss) (map (λ s. s.to) ss) w)
    unfolding assign assigning
    assign_stands cs t mx sc full v m ss g sp z room w st =
        same_stands (walk_cells (assign_segment fixed) v (units_of m) ss t) (place_units v (units_of m) ss w ∙ walk_cells placing v (units_of m) ss w)
        (place_cells (cells v m ss) cs t w mx.table (clear_joins fixed cs t mx.table full v m ss g z) (small_cells v m ss sp) sc room st)

    -- ---- evicting

    abbrev lifting : ℕ → ℕ → Words → ValueSegment → Words
    lifting v u w s = evicting_segment uses v u w s.to

    lift_cells :
        (ks cs : List Cell) (t : Table) (w : Words)
        → IsTable fixed (ks ++ cs) t
        → Joins fixed cs ks
        → SmallCells (ks ++ cs)
        → ((c : Cell) → c ∈ ks → c.v < 512)
        → length fixed ≤ max_fixed
        → length fixed + length (ks ++ cs) ≤ max_entries
        → Stands t et rt w
        → Stands (foldl (on_cell (evict_segment fixed)) t ks) et rt (foldl (on_cell lifting) w ks)
    unfolding foldl on_cell
    lift_cells [] cs t w it j sc num few room st = st
    lift_cells (k ∷ ks) cs t w it j sc num few room st =
        lift_cells ks cs (evict_segment fixed k.v k.u t k.s) (lifting k.v k.u w k.s)
        (evict_cell fixed (ks ++ cs) t k sd it j.0)
        j.1
        (λ c m. sc c (Memᴰ.tail m))
        (λ c m. num c (Memᴰ.tail m))
        few
        (omega arith)
        (evict_segment_stands fixed (ks ++ cs) t k sd it j.0 (small_table (k ∷ (ks ++ cs)) t it sc) (sc k (Memᴰ.head refl)) few (num k (Memᴰ.head refl)) sf ut uses lie et rt w st
        (omega arith))

    lift_unit : (v u : ℕ) (ss : List ValueSegment) (w : Words) → evicting_unit uses v u (map (λ s. s.to) ss) w ≡ foldl (lifting v u) w ss
    unfolding evicting_unit foldl
    lift_unit v u [] w = refl
    lift_unit v u (s ∷ ss) w = lift_unit v u ss (lifting v u w s)

    lift_units :
        (v : ℕ) (us : List ℕ) (ss : List ValueSegment) (w : Words)
        → foldl (λ w u. evicting_unit uses v u (map (λ s. s.to) ss) w) w us ≡ foldl (λ w u. foldl (lifting v u) w ss) w us
    unfolding foldl
    lift_units v [] ss w = refl
    lift_units v (u ∷ us) ss w =
        ap (λ (x : Words). foldl (λ w u. evicting_unit uses v u (map (λ s. s.to) ss) w) x us) (lift_unit v u ss w)
        ∙ lift_units v us ss (foldl (lifting v u) w ss)

    -- Evicting from a reached table that has the register's cells, wherever they are listed: the slices hold the table without them.
    pub evict_stands :
        (xs ys : List Cell) (t : Table) (v m : ℕ) (ss : List ValueSegment)
        → Matrix fixed (xs ++ (cells v m ss ++ ys)) t
        → SmallCells (xs ++ (cells v m ss ++ ys))
        → v < 512
        → length fixed ≤ max_fixed
        → length fixed + length (xs ++ (cells v m ss ++ ys)) ≤ max_entries
        → (w : Words)
        → Stands t et rt w
        → Stands (evict fixed v m ss t) et rt (evicting uses v m (map (λ s. s.to) ss) w)
    unfolding evict evicting
    evict_stands xs ys t v m ss mx sc num few room w st =
        let ks = cells v m ss in
        let j = joins_middle fixed xs ks ys mx.joined in
        let it = is_among fixed (xs ++ (ks ++ ys)) (ks ++ (xs ++ ys)) t (middle_first xs ks ys) (middle_first ks xs ys) mx.table in
        same_stands (walk_cells (evict_segment fixed) v (units_of m) ss t) (lift_units v (units_of m) ss w ∙ walk_cells lifting v (units_of m) ss w)
        (lift_cells ks (xs ++ ys) t w it j.0 (λ c n. sc c (middle_first ks xs ys c n)) (λ c n. omega (arith, (cells_on_out v (units_of m) ss c n).0)) few
        (omega (arith, length-append xs (ks ++ ys), length-append ks ys, length-append ks (xs ++ ys), length-append xs ys))
        st)
