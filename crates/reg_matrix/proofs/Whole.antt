-- Placing and evicting a whole virtual register: every segment on every unit. Its cells go together if each is free beside the other
-- holders (`joins`). Assumes nothing.
use Prim.Native.Nat.{ℕ, ◌≤◌}
use mathlib.Core.Path.{◌≡◌, refl, sym, ap, ◌∙◌, subst}
use mathlib.Core.Logic.{◌⊎◌, inl, inr, ⊎_swap}
use mathlib.Core.List.Memᴰ
use mathlib.Core.List.{List, [], ◌∷◌, ◌++◌, map, append-nil}
use Rattle.reg_matrix.specs.Lists.{foldl, concat_map}
use Rattle.reg_matrix.specs.Table.{Table, units_of}
use Rattle.reg_matrix.specs.Assign.{assign_segment, evict_segment, assign, evict}
use Rattle.reg_matrix.specs.declared.ValueSegment.{ValueSegment}
use Rattle.reg_matrix.specs.declared.Entry.{Entry}
use Rattle.reg_matrix.proofs.Members.{◌∈◌, concat_in, concat_out, Distinct, units_distinct}
use Rattle.reg_matrix.proofs.Cells.{Disjoint, Cell, IsTable, Free, Among, is_among, free_among, assign_cell, decided_by_cells}
use Rattle.reg_matrix.proofs.Chains.{Sound}
use Rattle.reg_matrix.proofs.Evicting.{evict_cell}

-- ---- the cells of a virtual register

abbrev pub cell_of : ℕ → ℕ → ValueSegment → Cell
cell_of v u s = record { v = v; u = u; s = s }

-- the cells that v has on the units
unfoldable pub cells_on : ℕ → List ℕ → List ValueSegment → List Cell
cells_on v us ss = concat_map (λ u. map (cell_of v u) ss) us

-- the same on the units of a map
abbrev pub cells : ℕ → ℕ → List ValueSegment → List Cell
cells v m ss = cells_on v (units_of m) ss

pub cells_on_out : (v : ℕ) (us : List ℕ) (ss : List ValueSegment) (c : Cell) → c ∈ cells_on v us ss → (c.v ≡ v) × (c.u ∈ us) × (c.s ∈ ss)
unfolding cells_on
cells_on_out v us ss c m =
    let k = concat_out (λ (u : ℕ). map (cell_of v u) ss) us m in
    let l = Memᴰ.of_map (cell_of v k.0) ss k.2 in (
      ap (λ (x : Cell). x.v) (sym l.2),
      subst (λ (x : Cell). x.u ∈ us) l.2 k.1,
      subst (λ (x : Cell). x.s ∈ ss) l.2 l.1,
    )

pub cells_on_in : (v : ℕ) (us : List ℕ) (ss : List ValueSegment) (u : ℕ) (s : ValueSegment) → u ∈ us → s ∈ ss → cell_of v u s ∈ cells_on v us ss
unfolding cells_on
cells_on_in v us ss u s m n = concat_in (λ (u : ℕ). map (cell_of v u) ss) m (Memᴰ.map (cell_of v u) n)

-- each of them is free beside the cells cs
abbrev pub AllFree : List Entry → List Cell → ℕ → ℕ → List ValueSegment → Type 0
AllFree fixed cs v m ss = (u : ℕ) → u ∈ units_of m → (s : ValueSegment) → s ∈ ss → Free fixed cs (cell_of v u s)

-- ---- a walk over units and segments is a walk over cells

-- of any state B
module _ {B : Type 0} (f : ℕ → ℕ → B → ValueSegment → B) where
  unfoldable pub on_cell : B → Cell → B
  on_cell t c = f c.v c.u t c.s

  walk_append : (ks ls : List Cell) (t : B) → foldl on_cell t (ks ++ ls) ≡ foldl on_cell (foldl on_cell t ks) ls
  unfolding foldl
  walk_append [] ls t = refl
  walk_append (k ∷ ks) ls t = walk_append ks ls (on_cell t k)

  walk_unit : (v u : ℕ) (ss : List ValueSegment) (t : B) → foldl (f v u) t ss ≡ foldl on_cell t (map (cell_of v u) ss)
  unfolding foldl on_cell
  walk_unit v u [] t = refl
  walk_unit v u (s ∷ ss) t = walk_unit v u ss (f v u t s)

  pub walk_cells : (v : ℕ) (us : List ℕ) (ss : List ValueSegment) (t : B) → foldl (λ t u. foldl (f v u) t ss) t us ≡ foldl on_cell t (cells_on v us ss)
  unfolding foldl cells_on concat_map
  walk_cells v [] ss t = refl
  walk_cells v (u ∷ us) ss t =
      ap (λ (x : B). foldl (λ t u. foldl (f v u) t ss) x us) (walk_unit v u ss t)
      ∙ walk_cells v us ss (foldl on_cell t (map (cell_of v u) ss))
      ∙ sym (walk_append (map (cell_of v u) ss) (cells_on v us ss) t)

-- ---- cells that go together

-- each cell is free beside the later ones and those of cs
abbrev pub Joins : List Entry → List Cell → List Cell → Type 0
Joins fixed cs [] = Unit {0}
Joins fixed cs (k ∷ ks) = Free fixed (ks ++ cs) k × Joins fixed cs ks

-- each segment ends before the later ones start
abbrev pub Rising : List ValueSegment → Type 0
Rising [] = Unit {0}
Rising (s ∷ ss) = ((r : ValueSegment) → r ∈ ss → s.to ≤ r.from) × Rising ss

module _ (fixed : List Entry) (cs : List Cell) (v : ℕ) where
  one_unit :
      (u : ℕ) (ss : List ValueSegment) (rest : List Cell)
      → Rising ss
      → ((s : ValueSegment) → s ∈ ss → Free fixed cs (cell_of v u s))
      → ((d : Cell) → d ∈ rest → d.u ≡ u → ⊥)
      → Joins fixed cs rest
      → Joins fixed cs (map (cell_of v u) ss ++ rest)
  one_unit u [] rest r f w j = j
  one_unit u (s ∷ ss) rest r f w j = (
    record {
      nonempty = (f s (Memᴰ.head refl)).nonempty;
      alone = alone;
      covers = (f s (Memᴰ.head refl)).covers;
      owns = (f s (Memᴰ.head refl)).owns;
    },
    one_unit u ss rest r.1 (λ x m. f x (Memᴰ.tail m)) w j,
  )
    where
      inner : (d : Cell) → (d ∈ map (cell_of v u) ss) ⊎ (d ∈ rest) → d.u ≡ u → Disjoint d.s s
      inner d (inl m) q = let k = Memᴰ.of_map (cell_of v u) ss m in inr (subst (λ (z : Cell). s.to ≤ z.s.from) k.2 (r.0 k.0 k.1))
      inner d (inr m) q = absurd (w d m q)

      outer : (d : Cell) → (d ∈ map (cell_of v u) ss ++ rest) ⊎ (d ∈ cs) → d.u ≡ u → Disjoint d.s s
      outer d (inl m) q = inner d (Memᴰ.append_cases (map (cell_of v u) ss) m) q
      outer d (inr m) q = (f s (Memᴰ.head refl)).alone d m q

      alone : (d : Cell) → d ∈ (map (cell_of v u) ss ++ rest) ++ cs → d.u ≡ u → Disjoint d.s s
      alone d m q = outer d (Memᴰ.append_cases (map (cell_of v u) ss ++ rest) m) q

  -- the cells of one virtual register go together
  pub joins : (us : List ℕ) (ss : List ValueSegment) → Distinct us → Rising ss → ((u : ℕ) → u ∈ us → (s : ValueSegment) → s ∈ ss → Free fixed cs (cell_of v u s)) → Joins fixed cs (cells_on v us ss)
  unfolding cells_on concat_map
  joins [] ss d r f = tt
  joins (u ∷ us) ss d r f =
      one_unit u ss (cells_on v us ss) r (f u (Memᴰ.head refl))
      (λ c m q. d.0 (subst (λ (n : ℕ). n ∈ us) q (cells_on_out v us ss c m).1))
      (joins us ss d.1 r (λ x m. f x (Memᴰ.tail m)))

  pub joins_units : (m : ℕ) (ss : List ValueSegment) → Rising ss → AllFree fixed cs v m ss → Joins fixed cs (cells v m ss)
  joins_units m ss r f = joins (units_of m) ss (units_distinct m) r f

-- one more cell beside
pub one_more : (fixed : List Entry) (cs ks : List Cell) (k : Cell) → ((l : Cell) → l ∈ ks → l.u ≡ k.u → Disjoint l.s k.s) → Joins fixed cs ks → Joins fixed (k ∷ cs) ks
one_more fixed cs [] k h j = tt
one_more fixed cs (l ∷ ls) k h j =
    (record { nonempty = j.0.nonempty; alone = alone; covers = j.0.covers; owns = j.0.owns }, one_more fixed cs ls k (λ x m. h x (Memᴰ.tail m)) j.1)
  where
    pick : (d : Cell) → (d ≡ k) ⊎ (d ∈ cs) → d.u ≡ l.u → Disjoint d.s l.s
    pick d (inl q) e =
        subst (λ (x : Cell). Disjoint x.s l.s) (sym q) (⊎_swap (h l (Memᴰ.head refl) (sym e ∙ ap (λ (x : Cell). x.u) q)))
    pick d (inr m) e = j.0.alone d (Memᴰ.append_right ls m) e

    go : (d : Cell) → (d ∈ ls) ⊎ (d ∈ k ∷ cs) → d.u ≡ l.u → Disjoint d.s l.s
    go d (inl m) e = j.0.alone d (Memᴰ.append_left cs m) e
    go d (inr m) e = pick d (Memᴰ.cases_cons m) e

    alone : (d : Cell) → d ∈ ls ++ (k ∷ cs) → d.u ≡ l.u → Disjoint d.s l.s
    alone d m e = go d (Memᴰ.append_cases ls m) e

-- cells that go together, in two parts
pub joins_append : (fixed : List Entry) (ks cs : List Cell) → Joins fixed cs ks → Joins fixed [] cs → Joins fixed [] (ks ++ cs)
joins_append fixed [] cs j i = i
joins_append fixed (k ∷ ks) cs j i = (subst (λ (l : List Cell). Free fixed l k) (sym (append-nil (ks ++ cs))) j.0, joins_append fixed ks cs j.1 i)

pub joins_split : (fixed : List Entry) (ks cs : List Cell) → Joins fixed [] (ks ++ cs) → Joins fixed cs ks × Joins fixed [] cs
joins_split fixed [] cs j = (tt, j)
joins_split fixed (k ∷ ks) cs j =
    let r = joins_split fixed ks cs j.1 in
    ((subst (λ (l : List Cell). Free fixed l k) (append-nil (ks ++ cs)) j.0, r.0), r.1)

-- some of them taken out of the middle
pub joins_middle : (fixed : List Entry) (xs ks ys : List Cell) → Joins fixed [] (xs ++ (ks ++ ys)) → Joins fixed (xs ++ ys) ks × Joins fixed [] (xs ++ ys)
joins_middle fixed [] ks ys j = joins_split fixed ks ys j
joins_middle fixed (x ∷ xs) ks ys j = more (joins_middle fixed xs ks ys j.1)
  where
    still : (d : Cell) → (d ∈ xs) ⊎ (d ∈ ys) → d ∈ (xs ++ (ks ++ ys)) ++ []
    still d (inl m) = Memᴰ.append_left [] (Memᴰ.append_left (ks ++ ys) m)
    still d (inr m) = Memᴰ.append_left [] (Memᴰ.append_right xs (Memᴰ.append_right ks m))

    fewer : Among ((xs ++ ys) ++ []) ((xs ++ (ks ++ ys)) ++ [])
    fewer d m = still d (Memᴰ.append_cases xs (subst (λ (l : List Cell). d ∈ l) (append-nil (xs ++ ys)) m))

    more : Joins fixed (xs ++ ys) ks × Joins fixed [] (xs ++ ys) → Joins fixed (x ∷ (xs ++ ys)) ks × Joins fixed [] (x ∷ (xs ++ ys))
    more r = (
      one_more fixed (xs ++ ys) ks x (λ l m q. j.0.alone l (Memᴰ.append_left [] (Memᴰ.append_right xs (Memᴰ.append_left ys m))) q) r.0,
      (free_among fixed ((xs ++ ys) ++ []) ((xs ++ (ks ++ ys)) ++ []) x fewer j.0, r.1),
    )

-- the middle part moved to the front
pub middle_first : (xs ys zs : List Cell) → Among (xs ++ (ys ++ zs)) (ys ++ (xs ++ zs))
middle_first xs ys zs c m = go (Memᴰ.append_cases xs m)
  where
    inner : (c ∈ ys) ⊎ (c ∈ zs) → c ∈ ys ++ (xs ++ zs)
    inner (inl n) = Memᴰ.append_left (xs ++ zs) n
    inner (inr n) = Memᴰ.append_right ys (Memᴰ.append_right xs n)

    go : (c ∈ xs) ⊎ (c ∈ ys ++ zs) → c ∈ ys ++ (xs ++ zs)
    go (inl n) = Memᴰ.append_right ys (Memᴰ.append_left zs n)
    go (inr n) = inner (Memᴰ.append_cases ys n)

-- ---- placing and evicting

module _ (fixed : List Entry) (sd : Sound fixed) where
  assign_cells : (ks cs : List Cell) (t : Table) → IsTable fixed cs t → Joins fixed cs ks → IsTable fixed (ks ++ cs) (foldl (on_cell (assign_segment fixed)) t ks)
  unfolding foldl on_cell
  assign_cells [] cs t it j = it
  assign_cells (k ∷ ks) cs t it j =
      is_among fixed (ks ++ (k ∷ cs)) (k ∷ (ks ++ cs)) _ (middle_first ks (k ∷ []) cs) (middle_first (k ∷ []) ks cs)
      (assign_cells ks (k ∷ cs) (assign_segment fixed k.v k.u t k.s)
      (assign_cell fixed cs t k sd.nonempty it (free_among fixed cs (ks ++ cs) k (λ d m. Memᴰ.append_right ks m) j.0))
      (one_more fixed cs ks k (λ l m q. j.0.alone l (Memᴰ.append_left cs m) q) j.1))

  evict_cells : (ks cs : List Cell) (t : Table) → IsTable fixed (ks ++ cs) t → Joins fixed cs ks → IsTable fixed cs (foldl (on_cell (evict_segment fixed)) t ks)
  unfolding foldl on_cell
  evict_cells [] cs t it j = it
  evict_cells (k ∷ ks) cs t it j =
      evict_cells ks cs (evict_segment fixed k.v k.u t k.s) (evict_cell fixed (ks ++ cs) t k sd it j.0) j.1

  -- placing adds the register's cells, and evicting takes them off
  pub assign_law : (v m : ℕ) (ss : List ValueSegment) (cs : List Cell) (t : Table) → IsTable fixed cs t → Joins fixed cs (cells v m ss) → IsTable fixed (cells v m ss ++ cs) (assign fixed v m ss t)
  unfolding assign
  assign_law v m ss cs t it j =
      subst (λ (x : Table). IsTable fixed (cells v m ss ++ cs) x) (sym (walk_cells (assign_segment fixed) v (units_of m) ss t))
      (assign_cells (cells v m ss) cs t it j)

  pub evict_law : (v m : ℕ) (ss : List ValueSegment) (cs : List Cell) (t : Table) → IsTable fixed (cells v m ss ++ cs) t → Joins fixed cs (cells v m ss) → IsTable fixed cs (evict fixed v m ss t)
  unfolding evict
  evict_law v m ss cs t it j =
      subst (λ (x : Table). IsTable fixed cs x) (sym (walk_cells (evict_segment fixed) v (units_of m) ss t)) (evict_cells (cells v m ss) cs t it j)

  -- evicting what was placed gives the table back
  pub evict_assign : (v m : ℕ) (ss : List ValueSegment) (cs : List Cell) (t : Table) → IsTable fixed cs t → Joins fixed cs (cells v m ss) → evict fixed v m ss (assign fixed v m ss t) ≡ t
  evict_assign v m ss cs t it j =
      decided_by_cells fixed cs cs _ t (λ c n. n) (λ c n. n) (evict_law v m ss cs (assign fixed v m ss t) (assign_law v m ss cs t it j) j) it
