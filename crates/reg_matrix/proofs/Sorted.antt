-- Sorted tables: the order of entries, what `insert` and `insert_all` put into a table, and that a sorted table is decided by its entries.
-- Assumes nothing.
use Prim.Native.Nat.{ℕ, ◌<◌}
use native.Mathlib.Omega.{arith}
use mathlib.Core.Path.{◌≡◌, refl, sym, ap₂, ◌∙◌, subst}
use mathlib.Core.Logic.{◌⊎◌, inl, inr, ⊎_swap}
use mathlib.Core.List.Memᴰ
use mathlib.Core.List.{List, [], ◌∷◌}
use mathlib.Core.Bool.{Bool, true, false, ◌&&◌}
use lib.Dec.{T, ltb, eqb, ltb→lt, lt→ltb, eqb→eq}
use Rattle.reg_matrix.specs.Lists.{keep, filter, put_before, insert_by, foldl}
use Rattle.reg_matrix.specs.Table.{Table, before, insert, insert_all, on_unit}
use Rattle.reg_matrix.specs.declared.Entry.{Entry}
use Rattle.reg_matrix.proofs.Tests.{both, both_in, either, or_left, or_right, eqb_in, less_equal_greater}
use Rattle.reg_matrix.proofs.Members.{◌∈◌, filter_out}

-- ---- the order

-- the order as a statement on numbers
unfoldable pub Before : Entry → Entry → Type 0
Before a b = (a.unit < b.unit) ⊎ ((a.unit ≡ b.unit) × (a.to < b.to))

pub before→ : (a b : Entry) → T (before a b) → Before a b
unfolding Before
before→ a b t = go (either (ltb a.unit b.unit) (eqb a.unit b.unit && ltb a.to b.to) t)
  where
    go : T (ltb a.unit b.unit) ⊎ T (eqb a.unit b.unit && ltb a.to b.to) → Before a b
    go (inl h) = inl (ltb→lt _ _ h)
    go (inr h) = let k = both (eqb a.unit b.unit) (ltb a.to b.to) h in inr (eqb→eq _ _ k.0, ltb→lt _ _ k.1)

pub →before : (a b : Entry) → Before a b → T (before a b)
unfolding Before
→before a b (inl h) = or_left (ltb a.unit b.unit) (eqb a.unit b.unit && ltb a.to b.to) (lt→ltb _ _ h)
→before a b (inr h) =
    or_right (ltb a.unit b.unit) (eqb a.unit b.unit && ltb a.to b.to)
    (both_in (eqb a.unit b.unit) (ltb a.to b.to) (eqb_in h.0) (lt→ltb _ _ h.1))

pub before_irrefl : (a : Entry) → T (before a a) → ⊥
unfolding Before
before_irrefl a t = go (before→ a a t)
  where
    go : Before a a → ⊥
    go (inl h) = omega arith
    go (inr h) = omega arith

pub before_trans : (a b c : Entry) → T (before a b) → T (before b c) → T (before a c)
unfolding Before
before_trans a b c s t = →before a c (go (before→ a b s) (before→ b c t))
  where
    go : Before a b → Before b c → Before a c
    go (inl h) (inl k) = inl (omega arith)
    go (inl h) (inr k) = inl (omega arith)
    go (inr h) (inl k) = inl (omega arith)
    go (inr h) (inr k) = inr (h.0 ∙ k.0, omega arith)

-- one of the two comes first
abbrev pub Ordered : Entry → Entry → Type 0
Ordered x y = T (before x y) ⊎ T (before y x)

-- two entries whose ends differ, if they are on the same unit
pub ordered_by_ends : (x y : Entry) → (x.unit ≡ y.unit → (x.to < y.to) ⊎ (y.to < x.to)) → Ordered x y
unfolding Before
ordered_by_ends x y h = go (less_equal_greater x.unit y.unit)
  where
    same : x.unit ≡ y.unit → (x.to < y.to) ⊎ (y.to < x.to) → Ordered x y
    same q (inl k) = inl (→before x y (inr (q, k)))
    same q (inr k) = inr (→before y x (inr (sym q, k)))

    go : (x.unit < y.unit) ⊎ ((x.unit ≡ y.unit) ⊎ (y.unit < x.unit)) → Ordered x y
    go (inl k) = inl (→before x y (inl k))
    go (inr (inl q)) = same q (h q)
    go (inr (inr k)) = inr (→before y x (inl k))

-- every entry of t comes before x or after it
abbrev pub OrderedTo : Entry → List Entry → Type 0
OrderedTo x t = (e : Entry) → e ∈ t → Ordered x e

-- no two entries of the list have the same unit and end
abbrev pub Parted : List Entry → Type 0
Parted [] = Unit {0}
Parted (x ∷ xs) = OrderedTo x xs × Parted xs

-- ---- sorted tables

-- x comes before every entry of the list
abbrev pub Below : Entry → List Entry → Type 0
Below x [] = Unit {0}
Below x (y ∷ ys) = T (before x y) × Below x ys

abbrev pub Sorted : List Entry → Type 0
Sorted [] = Unit {0}
Sorted (x ∷ xs) = Below x xs × Sorted xs

pub below_out : (x : Entry) {e : Entry} {t : List Entry} → Below x t → e ∈ t → T (before x e)
below_out x b (Memᴰ.head q) = subst (λ (a : Entry). T (before x a)) (sym q) b.0
below_out x b (Memᴰ.tail m) = below_out x b.1 m

pub below_in : (x : Entry) (t : List Entry) → ((e : Entry) → e ∈ t → T (before x e)) → Below x t
below_in x [] h = tt
below_in x (y ∷ ys) h = (h y (Memᴰ.head refl), below_in x ys (λ e m. h e (Memᴰ.tail m)))

-- ---- two sorted tables with the same entries are the same

abbrev pub Within : List Entry → List Entry → Type 0
Within s t = (e : Entry) → e ∈ s → e ∈ t

-- the heads agree
same_heads : (x y : Entry) (xs ys : List Entry) → Below x xs → Below y ys → x ∈ y ∷ ys → y ∈ x ∷ xs → x ≡ y
same_heads x y xs ys bx by m n = go (Memᴰ.cases_cons m) (Memᴰ.cases_cons n)
  where
    go : (x ≡ y) ⊎ (x ∈ ys) → (y ≡ x) ⊎ (y ∈ xs) → x ≡ y
    go (inl q) k = q
    go (inr h) (inl q) = sym q
    go (inr h) (inr k) = absurd (before_irrefl x (before_trans x y x (below_out x bx k) (below_out y by h)))

-- what is in x ∷ xs and in y ∷ ys, with x ≡ y, and lies past x, is in ys
tail_within : (x y : Entry) (xs ys : List Entry) → x ≡ y → Below x xs → Within (x ∷ xs) (y ∷ ys) → Within xs ys
tail_within x y xs ys q b w e m = go (Memᴰ.cases_cons (w e (Memᴰ.tail m)))
  where
    go : (e ≡ y) ⊎ (e ∈ ys) → e ∈ ys
    go (inl r) = absurd (before_irrefl x (subst (λ (a : Entry). T (before x a)) (r ∙ sym q) (below_out x b m)))
    go (inr n) = n

pub sorted_same : (s t : List Entry) → Sorted s → Sorted t → Within s t → Within t s → s ≡ t
sorted_same [] [] hs ht v w = refl
sorted_same [] (y ∷ ys) hs ht v w = elim (w y (Memᴰ.head refl)) [ ]
sorted_same (x ∷ xs) [] hs ht v w = elim (v x (Memᴰ.head refl)) [ ]
sorted_same (x ∷ xs) (y ∷ ys) hs ht v w =
    let q = same_heads x y xs ys hs.0 ht.0 (v x (Memᴰ.head refl)) (w y (Memᴰ.head refl)) in
    ap₂ {C = List Entry} (λ a l. a ∷ l) q
    (sorted_same xs ys hs.1 ht.1 (tail_within x y xs ys q hs.0 v) (tail_within y x ys xs (sym q) ht.0 w))

-- two entries of a sorted table are one or come one after the other
pub sorted_ordered : (t : List Entry) → Sorted t → (x y : Entry) → x ∈ t → y ∈ t → (x ≡ y) ⊎ Ordered x y
sorted_ordered [] h x y m n = elim m [ ]
sorted_ordered (z ∷ zs) h x y m n =
    go (Memᴰ.cases_cons m) (Memᴰ.cases_cons n) (λ a b. sorted_ordered zs h.1 x y a b)
  where
    go : (x ≡ z) ⊎ (x ∈ zs) → (y ≡ z) ⊎ (y ∈ zs) → (x ∈ zs → y ∈ zs → (x ≡ y) ⊎ Ordered x y) → (x ≡ y) ⊎ Ordered x y
    go (inl p) (inl q) ih = inl (p ∙ sym q)
    go (inl p) (inr b) ih = inr (inl (subst (λ (a : Entry). T (before a y)) (sym p) (below_out z h.0 b)))
    go (inr a) (inl q) ih = inr (inr (subst (λ (b : Entry). T (before b x)) (sym q) (below_out z h.0 a)))
    go (inr a) (inr b) ih = ih a b

-- ---- filter keeps a table sorted

pub sorted_filter : (p : Entry → Bool) (t : List Entry) → Sorted t → Sorted (filter p t)
unfolding filter
sorted_filter p [] h = tt
sorted_filter p (x ∷ xs) h = go (p x) (sorted_filter p xs h.1)
  where
    go : (b : Bool) → Sorted (filter p xs) → Sorted (keep b x (filter p xs))
    go true ih = (below_in x (filter p xs) (λ e m. below_out x h.0 (filter_out p xs m).1), ih)
    go false ih = ih

pub on_unit_sorted : (u : ℕ) (t : Table) → Sorted t → Sorted (on_unit u t)
unfolding on_unit
on_unit_sorted u t h = sorted_filter (λ (e : Entry). eqb e.unit u) t h

-- ---- insert

pub insert_out : {e x : Entry} (t : List Entry) → e ∈ insert x t → (e ≡ x) ⊎ (e ∈ t)
unfolding insert insert_by
insert_out [] m = Memᴰ.cases_cons m
insert_out {e} {x} (y ∷ ys) m = pick (before x y) m (λ n. insert_out ys n)
  where
    past : (e ≡ x) ⊎ (e ∈ ys) → (e ≡ x) ⊎ (e ∈ y ∷ ys)
    past (inl q) = inl q
    past (inr n) = inr (Memᴰ.tail n)

    pick : (b : Bool) → e ∈ put_before b x y ys (insert x ys) → (e ∈ insert x ys → (e ≡ x) ⊎ (e ∈ ys)) → (e ≡ x) ⊎ (e ∈ y ∷ ys)
    pick true n ih = Memᴰ.cases_cons n
    pick false (Memᴰ.head q) ih = inr (Memᴰ.head q)
    pick false (Memᴰ.tail n) ih = past (ih n)

pub insert_here : (x : Entry) (t : List Entry) → x ∈ insert x t
unfolding insert insert_by
insert_here x [] = Memᴰ.head refl
insert_here x (y ∷ ys) = pick (before x y) (insert_here x ys)
  where
    pick : (b : Bool) → x ∈ insert x ys → x ∈ put_before b x y ys (insert x ys)
    pick true ih = Memᴰ.head refl
    pick false ih = Memᴰ.tail ih

pub insert_there : (x : Entry) {e : Entry} {t : List Entry} → e ∈ t → e ∈ insert x t
unfolding insert insert_by
insert_there x {e} (Memᴰ.head {x = y} {xs = ys} q) = pick (before x y)
  where
    pick : (b : Bool) → e ∈ put_before b x y ys (insert x ys)
    pick true = Memᴰ.tail (Memᴰ.head q)
    pick false = Memᴰ.head q
insert_there x {e} (Memᴰ.tail {x = y} {xs = ys} m) = pick (before x y) (insert_there x m)
  where
    pick : (b : Bool) → e ∈ insert x ys → e ∈ put_before b x y ys (insert x ys)
    pick true ih = Memᴰ.tail (Memᴰ.tail m)
    pick false ih = Memᴰ.tail ih

pub sorted_insert : (x : Entry) (t : List Entry) → OrderedTo x t → Sorted t → Sorted (insert x t)
unfolding insert insert_by
sorted_insert x [] a h = (tt, tt)
sorted_insert x (y ∷ ys) a h = go (before x y) refl (sorted_insert x ys (λ e m. a e (Memᴰ.tail m)) h.1)
  where
    yx : before x y ≡ false → Ordered x y → T (before y x)
    yx e (inl t) = absurd (subst T e t)
    yx e (inr t) = t

    past : T (before y x) → (e : Entry) → (e ≡ x) ⊎ (e ∈ ys) → T (before y e)
    past t e (inl q) = subst (λ (z : Entry). T (before y z)) (sym q) t
    past t e (inr m) = below_out y h.0 m

    go : (b : Bool) → before x y ≡ b → Sorted (insert x ys) → Sorted (put_before b x y ys (insert x ys))
    go true e ih =
        let t : T (before x y) = subst T (sym e) tt in
        ((t, below_in x ys (λ z m. before_trans x y z t (below_out y h.0 m))), h)
    go false e ih = (below_in y (insert x ys) (λ z m. past (yx e (a y (Memᴰ.head refl))) z (insert_out ys m)), ih)

-- ---- insert_all

pub insert_all_out : (bs : List Entry) (t : Table) (e : Entry) → e ∈ insert_all bs t → (e ∈ bs) ⊎ (e ∈ t)
unfolding insert_all foldl
insert_all_out [] t e m = inr m
insert_all_out (b ∷ bs) t e m = go (insert_all_out bs (insert b t) e m)
  where
    old : (e ≡ b) ⊎ (e ∈ t) → (e ∈ b ∷ bs) ⊎ (e ∈ t)
    old (inl q) = inl (Memᴰ.head q)
    old (inr n) = inr n

    go : (e ∈ bs) ⊎ (e ∈ insert b t) → (e ∈ b ∷ bs) ⊎ (e ∈ t)
    go (inl n) = inl (Memᴰ.tail n)
    go (inr n) = old (insert_out t n)

pub insert_all_old : (bs : List Entry) (t : Table) (e : Entry) → e ∈ t → e ∈ insert_all bs t
unfolding insert_all foldl
insert_all_old [] t e m = m
insert_all_old (b ∷ bs) t e m = insert_all_old bs (insert b t) e (insert_there b m)

pub insert_all_new : (bs : List Entry) (t : Table) (e : Entry) → e ∈ bs → e ∈ insert_all bs t
unfolding insert_all foldl
insert_all_new [] t e m = elim m [ ]
insert_all_new (b ∷ bs) t e m = go (Memᴰ.cases_cons m) (λ n. insert_all_new bs (insert b t) e n)
  where
    go : (e ≡ b) ⊎ (e ∈ bs) → (e ∈ bs → e ∈ insert_all bs (insert b t)) → e ∈ insert_all bs (insert b t)
    go (inl q) ih = insert_all_old bs (insert b t) e (subst (λ (x : Entry). x ∈ insert b t) (sym q) (insert_here b t))
    go (inr n) ih = ih n

pub insert_all_sorted : (bs : List Entry) (t : Table) → Parted bs → ((b : Entry) → b ∈ bs → OrderedTo b t) → Sorted t → Sorted (insert_all bs t)
unfolding insert_all foldl
insert_all_sorted [] t p a s = s
insert_all_sorted (b ∷ bs) t p a s = insert_all_sorted bs (insert b t) p.1 next (sorted_insert b t (a b (Memᴰ.head refl)) s)
  where
    next : (x : Entry) → x ∈ bs → OrderedTo x (insert b t)
    next x m e n = go (insert_out t n)
      where
        go : (e ≡ b) ⊎ (e ∈ t) → Ordered x e
        go (inl q) = subst (λ (z : Entry). Ordered x z) (sym q) (⊎_swap (p.0 x m))
        go (inr k) = a x (Memᴰ.tail m) e k
