-- The cells of those who hold a register, in the order of their numbers. The table has these cells (`Matrix`), and it keeps them when a number
-- gets a register whose check is clear, and when a number loses one. Assumes nothing.
use Prim.Native.Nat.{ℕ, suc, ◌<◌, ◌+◌, ◌-◌}
use native.Mathlib.Omega.{arith}
use native.Mathlib.Nat.{zero-add}
use mathlib.Core.Path.{◌≡◌, refl, sym, ap, ap₂, ◌∙◌, subst}
use mathlib.Core.Logic.{◌⊎◌, inl, inr, ⊎_swap}
use mathlib.Core.List.Memᴰ
use mathlib.Core.List.{List, [], ◌∷◌, ◌++◌, append-nil}
use mathlib.Core.Option.{Option, none, some}
use mathlib.Core.Bool.{Bool, true, false, cond}
use lib.Dec.{T, eqb, eqb→eq, eqb_refl}
use lib.ListN.{length, length-append}
use Rattle.reg_matrix.specs.Lists.{concat_map, count}
use Rattle.reg_matrix.specs.Table.{Table, units_of, fresh_table}
use Rattle.reg_matrix.specs.Check.{check}
use Rattle.reg_matrix.specs.Assign.{assign, evict}
use Rattle.reg_matrix.specs.declared.Entry.{Entry}
use Rattle.reg_matrix.proofs.Members.{◌∈◌, concat_in, concat_out, concat_none, count_in, count_out}
use Rattle.reg_matrix.proofs.Places.{concat_append, concat_same, count_append}
use Rattle.reg_matrix.proofs.Cells.{Disjoint, Cell, Free, Among, is_among, free_among}
use Rattle.reg_matrix.proofs.Whole.{cell_of, cells, cells_on_out, cells_on_in, AllFree, Joins, joins_middle, middle_first}
use Rattle.reg_matrix.proofs.Laws.{Matrix, fresh_table_lem, assign_adds, evict_takes}
use Rattle.job.specs.Model.{Job, segments_of, unit_map}
use Rattle.job.proofs.Premises.{Premises, IsNumber}
use Rattle.allocator.specs.Holding.{Holding, nothing_held, but}

-- ---- numbers and options

pub same_or_not : (v w : ℕ) → (v ≡ w) ⊎ (v ≡ w → ⊥)
same_or_not v w = go (eqb v w) refl
  where
    go : (b : Bool) → eqb v w ≡ b → (v ≡ w) ⊎ (v ≡ w → ⊥)
    go true q = inl (eqb→eq v w (subst T (sym q) tt))
    go false q = inr (λ e. subst T q (subst (λ (n : ℕ). T (eqb v n)) e (eqb_refl v)))

pub none_some : {A : Type 0} {a : A} → none ≡ some a → ⊥
none_some q = let z : ◌≡◌ {A = ℕ} 0 1 = cc in omega arith

pub same_some : {A : Type 0} {a b : A} → some a ≡ some b → a ≡ b
same_some q = cc

-- ---- a holding with one number changed

pub but_cases : (h : Holding) (w : ℕ) (o : Option ℕ) (v : ℕ) → ((v ≡ w) × (but h w o v ≡ o)) ⊎ ((v ≡ w → ⊥) × (but h w o v ≡ h v))
but_cases h w o v = go (same_or_not v w)
  where
    same : (b : Bool) → T b → cond b o (h v) ≡ o
    same true t = refl
    same false t = absurd t

    other : (b : Bool) → (T b → ⊥) → cond b o (h v) ≡ h v
    other true f = absurd (f tt)
    other false f = refl

    go : (v ≡ w) ⊎ (v ≡ w → ⊥) → ((v ≡ w) × (but h w o v ≡ o)) ⊎ ((v ≡ w → ⊥) × (but h w o v ≡ h v))
    go (inl e) = inl (e, same (eqb v w) (subst (λ (n : ℕ). T (eqb v n)) e (eqb_refl v)))
    go (inr n) = inr (n, other (eqb v w) (λ t. n (eqb→eq v w t)))

pub but_same : (h : Holding) (w : ℕ) (o : Option ℕ) → but h w o w ≡ o
but_same h w o = go (but_cases h w o w)
  where
    go : ((w ≡ w) × (but h w o w ≡ o)) ⊎ ((w ≡ w → ⊥) × (but h w o w ≡ h w)) → but h w o w ≡ o
    go (inl k) = k.1
    go (inr k) = absurd (k.0 refl)

pub but_other : (h : Holding) (w : ℕ) (o : Option ℕ) (v : ℕ) → (v ≡ w → ⊥) → but h w o v ≡ h v
but_other h w o v n = go (but_cases h w o v)
  where
    go : ((v ≡ w) × (but h w o v ≡ o)) ⊎ ((v ≡ w → ⊥) × (but h w o v ≡ h v)) → but h w o v ≡ h v
    go (inl k) = absurd (n k.0)
    go (inr k) = k.1

-- ---- cells that go together do so in any order

module _ (fixed : List Entry) where
  beside_nothing : (ks : List Cell) → Among (ks ++ []) ks
  beside_nothing ks c m = subst (λ (l : List Cell). c ∈ l) (append-nil ks) m

  joins_step : (k : Cell) (xs ys : List Cell) → Joins fixed [] (k ∷ (xs ++ ys)) → Joins fixed [] (xs ++ (k ∷ ys))
  joins_step k [] ys j = j
  joins_step k (x ∷ xs) ys j = (
    record { nonempty = j.1.0.nonempty; alone = alone; covers = j.1.0.covers; owns = j.1.0.owns },
    joins_step k xs ys (free_among fixed ((xs ++ ys) ++ []) ((x ∷ (xs ++ ys)) ++ []) k (λ d m. Memᴰ.tail m) j.0, j.1.1),
  )
    where
      pick : (d : Cell) → (d ≡ k) ⊎ (d ∈ xs ++ ys) → d.u ≡ x.u → Disjoint d.s x.s
      pick d (inl e) q = subst (λ (c : Cell). Disjoint c.s x.s) (sym e) (⊎_swap (j.0.alone x (Memᴰ.head refl) (sym q ∙ ap (λ (c : Cell). c.u) e)))
      pick d (inr m) q = j.1.0.alone d (Memᴰ.append_left [] m) q

      alone : (d : Cell) → d ∈ (xs ++ (k ∷ ys)) ++ [] → d.u ≡ x.u → Disjoint d.s x.s
      alone d m q = pick d (Memᴰ.cases_cons (middle_first xs (k ∷ []) ys d (beside_nothing (xs ++ (k ∷ ys)) d m))) q

  joins_move : (ks xs ys : List Cell) → Joins fixed [] (ks ++ (xs ++ ys)) → Joins fixed [] (xs ++ (ks ++ ys))
  joins_move [] xs ys j = j
  joins_move (k ∷ ks) xs ys j = joins_step k xs (ks ++ ys) (free_among fixed ((xs ++ (ks ++ ys)) ++ []) ((ks ++ (xs ++ ys)) ++ []) k fewer j.0, joins_move ks xs ys j.1)
    where
      fewer : Among ((xs ++ (ks ++ ys)) ++ []) ((ks ++ (xs ++ ys)) ++ [])
      fewer d m = Memᴰ.append_left [] (middle_first xs ks ys d (beside_nothing (xs ++ (ks ++ ys)) d m))

  matrix_move : (ks xs ys : List Cell) (t : Table) → Matrix fixed (ks ++ (xs ++ ys)) t → Matrix fixed (xs ++ (ks ++ ys)) t
  matrix_move ks xs ys t mx =
      record {
        table = is_among fixed (ks ++ (xs ++ ys)) (xs ++ (ks ++ ys)) t (middle_first ks xs ys) (middle_first xs ks ys) mx.table;
        joined = joins_move ks xs ys mx.joined;
      }

  joins_free : (cs ks : List Cell) → Joins fixed cs ks → (k : Cell) → k ∈ ks → Free fixed cs k
  joins_free cs [] j k x'' = elim x'' [ ]
  joins_free cs (x ∷ xs) j k (Memᴰ.head q) =
      subst (λ (c : Cell). Free fixed cs c) (sym q) (free_among fixed cs (xs ++ cs) x (λ d m. Memᴰ.append_right xs m) j.0)
  joins_free cs (x ∷ xs) j k (Memᴰ.tail m) = joins_free cs xs j.1 k m

-- ---- the cells of those who hold

-- the cells that v has, if it holds that
abbrev pub cells_if : Job → ℕ → Option ℕ → List Cell
cells_if j v none = []
cells_if j v (some r) = cells v (unit_map j r) (segments_of j v)

unfoldable pub cells_of : Job → Holding → List Cell
cells_of j h = concat_map (λ v. cells_if j v (h v)) (count 0 (length j.virt_regs))

-- what a cell says: its number holds the register, its unit is one of the register's, its segment one of the number's
pub record OfHolder (j : Job) (h : Holding) (c : Cell) : Type 0 where
  pub reg : ℕ
  pub holds : h c.v ≡ some reg
  pub known : IsNumber j c.v
  pub unit : c.u ∈ units_of (unit_map j reg)
  pub segment : c.s ∈ segments_of j c.v

module _ (j : Job) where
  pub cell_in : (h : Holding) (c : Cell) → OfHolder j h c → c ∈ cells_of j h
  unfolding cells_of
  cell_in h c k =
      concat_in (λ (v : ℕ). cells_if j v (h v)) (count_in 0 (length j.virt_regs) c.v (omega arith) (omega (arith, k.known)))
      (subst (λ (o : Option ℕ). c ∈ cells_if j c.v o) (sym k.holds)
      (cells_on_in c.v (units_of (unit_map j k.reg)) (segments_of j c.v) c.u c.s k.unit k.segment))

  pub cell_out : (h : Holding) (c : Cell) → c ∈ cells_of j h → OfHolder j h c
  unfolding cells_of
  cell_out h c m = go (h k.0) refl k.2
    where
      k : (v : ℕ) × (v ∈ count 0 (length j.virt_regs)) × (c ∈ cells_if j v (h v))
      k = concat_out (λ (v : ℕ). cells_if j v (h v)) (count 0 (length j.virt_regs)) m

      go : (o : Option ℕ) → h k.0 ≡ o → c ∈ cells_if j k.0 o → OfHolder j h c
      go none q n = elim n [ ]
      go (some r) q n =
          let l = cells_on_out k.0 (units_of (unit_map j r)) (segments_of j k.0) c n in
          record {
            reg = r;
            holds = ap h l.0 ∙ q;
            known = subst (λ (v : ℕ). v < length j.virt_regs) (sym l.0) (omega (arith, (count_out 0 (length j.virt_regs) k.0 k.1).1));
            unit = l.1;
            segment = subst (λ (v : ℕ). c.s ∈ segments_of j v) (sym l.0) l.2;
          }

  -- the cells, split at a number
  pub ahead : Holding → ℕ → List Cell
  ahead h v = concat_map (λ w. cells_if j w (h w)) (count 0 v)

  pub behind : Holding → ℕ → List Cell
  behind h v = concat_map (λ w. cells_if j w (h w)) (count (suc v) (length j.virt_regs - suc v))

  pub split_at : (h : Holding) (v : ℕ) → IsNumber j v → cells_of j h ≡ ahead h v ++ (cells_if j v (h v) ++ behind h v)
  unfolding cells_of ahead behind concat_map count
  split_at h v b =
      let q : length j.virt_regs ≡ v + suc (length j.virt_regs - suc v) = omega arith in
      ap (λ (n : ℕ). concat_map f (count 0 n)) q
      ∙ ap (concat_map f) (count_append 0 v (suc (length j.virt_regs - suc v)))
      ∙ concat_append f (count 0 v) (count (0 + v) (suc (length j.virt_regs - suc v)))
      ∙ ap (λ (n : ℕ). concat_map f (count 0 v) ++ (f n ++ concat_map f (count (suc n) (length j.virt_regs - suc v)))) (zero-add v)
    where
      f : ℕ → List Cell
      f w = cells_if j w (h w)

  pub split_but : (h : Holding) (v : ℕ) (o : Option ℕ) → IsNumber j v → cells_of j (but h v o) ≡ ahead h v ++ (cells_if j v o ++ behind h v)
  unfolding ahead behind
  split_but h v o b = split_at (but h v o) v b ∙ ap₂ (λ (k l : List Cell). k ++ l) front (ap₂ (λ (k l : List Cell). k ++ l) (ap (cells_if j v) (but_same h v o)) back)
    where
      other : (w : ℕ) → (w ≡ v → ⊥) → cells_if j w (but h v o w) ≡ cells_if j w (h w)
      other w n = ap (cells_if j w) (but_other h v o w n)

      front : ahead (but h v o) v ≡ ahead h v
      front = concat_same (λ w. cells_if j w (but h v o w)) (λ w. cells_if j w (h w)) (count 0 v) (λ w m. other w (λ e. omega (arith, (count_out 0 v w m).1)))

      back : behind (but h v o) v ≡ behind h v
      back =
          concat_same (λ w. cells_if j w (but h v o w)) (λ w. cells_if j w (h w)) (count (suc v) (length j.virt_regs - suc v))
          (λ w m. other w (λ e. omega (arith, (count_out (suc v) (length j.virt_regs - suc v) w m).0)))

  -- who holds nothing and gets the register r has its cells besides
  pub cells_more : (h : Holding) (v r : ℕ) → IsNumber j v → h v ≡ none → length (cells_of j (but h v (some r))) ≡ length (cells v (unit_map j r) (segments_of j v)) + length (cells_of j h)
  cells_more h v r b q =
      let a : cells_of j h ≡ ahead h v ++ behind h v = split_at h v b ∙ ap (λ (o : Option ℕ). ahead h v ++ (cells_if j v o ++ behind h v)) q in
      rw (split_but h v (some r) b, a)
      (omega (
        arith,
        length-append (ahead h v) (cells v (unit_map j r) (segments_of j v) ++ behind h v),
        length-append (cells v (unit_map j r) (segments_of j v)) (behind h v),
        length-append (ahead h v) (behind h v),
      ))

-- ---- the table of those who hold

abbrev pub TableOf : Job → Holding → Table → Type 0
TableOf j h t = Matrix j.fixed (cells_of j h) t

module _ (j : Job) (p : Premises j) where
  pub fresh_holds_nothing : TableOf j nothing_held (fresh_table j.fixed)
  unfolding cells_of
  fresh_holds_nothing =
      subst (λ (cs : List Cell). Matrix j.fixed cs (fresh_table j.fixed)) (sym (concat_none (λ (v : ℕ). cells_if j v none) (count 0 (length j.virt_regs)) (λ v m. refl)))
      (fresh_table_lem j.fixed p.parted)

  module _ (h : Holding) (t : Table) (mx : TableOf j h t) (v r : ℕ) (b : IsNumber j v) where
    holds_so : (o : Option ℕ) → h v ≡ o → cells_of j h ≡ ahead j h v ++ (cells_if j v o ++ behind j h v)
    holds_so o q = split_at j h v b ∙ ap (λ (o : Option ℕ). ahead j h v ++ (cells_if j v o ++ behind j h v)) q

    -- v, which holds nothing, gets the register r, whose check is clear
    pub table_gets : h v ≡ none → check false j.fixed t (unit_map j r) (segments_of j v) ≡ [] → TableOf j (but h v (some r)) (assign j.fixed v (unit_map j r) (segments_of j v) t)
    table_gets q z =
        let ks = cells v (unit_map j r) (segments_of j v) in
        let added = assign_adds j.fixed p.sound (cells_of j h) t mx false v (unit_map j r) (segments_of j v) (p.segments v b) z in
        subst (λ (cs : List Cell). Matrix j.fixed cs (assign j.fixed v (unit_map j r) (segments_of j v) t)) (sym (split_but j h v (some r) b))
        (matrix_move j.fixed ks (ahead j h v) (behind j h v) _
        (subst (λ (cs : List Cell). Matrix j.fixed (ks ++ cs) (assign j.fixed v (unit_map j r) (segments_of j v) t)) (holds_so none q) added))

    -- v, which holds the register r, loses it
    pub table_loses : h v ≡ some r → TableOf j (but h v none) (evict j.fixed v (unit_map j r) (segments_of j v) t)
    table_loses q =
        subst (λ (cs : List Cell). Matrix j.fixed cs (evict j.fixed v (unit_map j r) (segments_of j v) t)) (sym (split_but j h v none b))
        (evict_takes j.fixed p.sound (ahead j h v) (behind j h v) t v (unit_map j r) (segments_of j v)
        (subst (λ (cs : List Cell). Matrix j.fixed cs t) (holds_so (some r) q) mx))

    -- its cells are free beside those of all others
    pub free_beside : h v ≡ some r → AllFree j.fixed (cells_of j (but h v none)) v (unit_map j r) (segments_of j v)
    free_beside q u m s n =
        let ks = cells v (unit_map j r) (segments_of j v) in
        subst (λ (cs : List Cell). Free j.fixed cs (cell_of v u s)) (sym (split_but j h v none b))
        (joins_free j.fixed (ahead j h v ++ behind j h v) ks
        (joins_middle j.fixed (ahead j h v) ks (behind j h v) (subst (λ (cs : List Cell). Joins j.fixed [] cs) (holds_so (some r) q) mx.joined)).0
        (cell_of v u s) (cells_on_in v (units_of (unit_map j r)) (segments_of j v) u s m n))
