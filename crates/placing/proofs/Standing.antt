-- A table that stands in the two lent slices (`Stands`): what a search finds there, and that an entry put in or taken out by the moves of
-- specs/Moves.antt is put into the table or taken out of it; what is lent behind the table stays. Assumes nothing.
use Prim.Native.Nat.{ℕ, zero, suc, ◌+◌, ◌-◌, ◌^◌, ◌≤◌, ◌<◌}
use native.Mathlib.Omega.{arith}
use mathlib.Core.Path.{◌≡◌, refl, sym, ap, ◌∙◌, subst}
use mathlib.Core.Logic.{◌⊎◌, inl, inr}
use mathlib.Core.List.Memᴰ
use mathlib.Core.List.{List, [], ◌∷◌, ◌++◌, map, append_assoc}
use mathlib.Core.Bool.{Bool, true, false}
use lib.Dec.{T, ltb, ltb→lt, lt→ltb}
use lib.ListN.{length, take, drop, replicate, length-append, length-map, length-replicate, length-take, length-drop}
use lib.Seq.{take_at, take-nil, drop-nil}
use borrow.Author.Tests.{lt-ltb, le-ltb, ltb-true, ltb-false}
use Rattle.reg_matrix.specs.Lists.{keep, filter, put_before, insert_by, padded}
use Rattle.reg_matrix.specs.Table.{Table, before, insert}
use Rattle.reg_matrix.specs.Layout.{max_entries, greatest, end_word, rest_word, end_words, rest_words}
use Rattle.table_words.specs.Search.{place_of, Rises, below}
use Rattle.entries.specs.Moves.{Words, entries, inserted, removed, inserting, removing, removing_run}
use Rattle.reg_matrix.specs.declared.Entry.{Entry}
use Rattle.reg_matrix.proofs.Places.{insert_longer}
use Rattle.reg_matrix.proofs.Tests.{same_test, lt_or_le}
use Rattle.reg_matrix.proofs.Members.{◌∈◌}
use Rattle.reg_matrix.proofs.Sorted.{Before, before→, →before, Below, below_out, below_in, Sorted}
use Rattle.table_words.proofs.Halves.{below_length, place_searched}
pub use Rattle.table_words.proofs.Halves.{none_below as below_none}
use Rattle.table_words.proofs.Decode.{replicate_in, replicate_rises}
use Rattle.entries.proofs.Shifts.{inserted_room, removed_room}

-- ---- numbers that rise, and what is behind them

pub rises_padded : (xs : List ℕ) (m d : ℕ) → Rises xs → ((y : ℕ) → y ∈ xs → y < d) → Rises (xs ++ replicate m d)
rises_padded [] m d r h = replicate_rises m d
rises_padded (x ∷ xs) m d r h = (first, rises_padded xs m d r.1 (λ y n. h y (Memᴰ.tail n)))
  where
    go : (y : ℕ) → (y ∈ xs) ⊎ (y ∈ replicate m d) → x ≤ y
    go y (inl n) = r.0 y n
    go y (inr n) = let q = replicate_in m d y n in omega (arith, h x (Memᴰ.head refl), q)

    first : (y : ℕ) → y ∈ xs ++ replicate m d → x ≤ y
    first y n = go y (Memᴰ.append_cases xs n)

pub below_step : (key x : ℕ) (xs : List ℕ) → x < key → below key (x ∷ xs) ≡ suc (below key xs)
unfolding below filter
below_step key x xs h = rw (lt-ltb x key h)

pub below_past : (key x : ℕ) (xs : List ℕ) → key ≤ x → below key (x ∷ xs) ≡ below key xs
unfolding below filter
below_past key x xs h = rw (le-ltb x key h)

pub below_all : (key : ℕ) (xs : List ℕ) → ((y : ℕ) → y ∈ xs → y < key) → below key xs ≡ length xs
unfolding below filter
below_all key [] h = refl
below_all key (x ∷ xs) h = rw (lt-ltb x key (h x (Memᴰ.head refl))) (ap suc (below_all key xs (λ y m. h y (Memᴰ.tail m))))

pub below_append : (key : ℕ) (xs ys : List ℕ) → below key (xs ++ ys) ≡ below key xs + below key ys
unfolding below filter
below_append key [] ys = omega arith
below_append key (x ∷ xs) ys = go (ltb x key) (below_append key xs ys)
  where
    go : (b : Bool) → below key (xs ++ ys) ≡ below key xs + below key ys → length (keep b x (filter (λ w. ltb w key) (xs ++ ys))) ≡ length (keep b x (filter (λ w. ltb w key) xs)) + below key ys
    go true ih = omega arith
    go false ih = ih

-- a search for a key that is not past what is behind the numbers
pub found_padded : (n : ℕ) (xs : List ℕ) (d : ℕ) (behind : List ℕ) (key : ℕ) → length xs ≤ n → Rises xs → ((y : ℕ) → y ∈ xs → y < d) → key ≤ d → place_of n (padded n d xs ++ behind) key ≡ below key xs
unfolding padded
found_padded n xs d behind key few r h k =
    let l : length (xs ++ replicate (n - length xs) d) ≡ n = simp (length-append, length-replicate) (omega arith) in
    let e : take n ((xs ++ replicate (n - length xs) d) ++ behind) ≡ xs ++ replicate (n - length xs) d = take_at (xs ++ replicate (n - length xs) d) behind n l in
    let z : below key (replicate (n - length xs) d) ≡ 0 = below_none key (replicate (n - length xs) d) (λ y m. let q = replicate_in (n - length xs) d y m in omega (arith, q)) in
    let s = place_searched n ((xs ++ replicate (n - length xs) d) ++ behind) key in
    s.counted (omega (arith, l, length-append (xs ++ replicate (n - length xs) d) behind)) (subst Rises (sym e) (rises_padded xs (n - length xs) d r h))
    ∙ ap (below key) e ∙ below_append key xs (replicate (n - length xs) d) ∙ omega (arith, z)

-- ---- entries by their numbers

-- the unit and the end of an entry fit into its number
pub record SmallEnd (e : Entry) : Type 0 where
  pub unit : e.unit < 64
  pub to : e.to < 2 ^ 32

abbrev pub SmallEnds : Table → Type 0
SmallEnds t = (e : Entry) → e ∈ t → SmallEnd e

pub before_word : (a b : Entry) → SmallEnd a → SmallEnd b → before a b ≡ ltb (end_word a) (end_word b)
unfolding Before
before_word a b x y = same_test (before a b) (ltb (end_word a) (end_word b)) (λ h. lt→ltb _ _ (up (before→ a b h))) (λ h. →before a b (down (ltb→lt _ _ h) (lt_or_le a.unit b.unit)))
  where
    up : Before a b → end_word a < end_word b
    up (inl h) = omega (arith, x.to)
    up (inr h) = omega (arith, h.0, h.1)

    down : end_word a < end_word b → (a.unit < b.unit) ⊎ (b.unit ≤ a.unit) → Before a b
    down h (inl k) = inl k
    down h (inr k) = let q : a.unit ≡ b.unit = omega (arith, y.to) in inr (q, omega (arith, q))

pub word_small : (e : Entry) → SmallEnd e → end_word e < greatest
word_small e s = omega (arith, s.unit, s.to)

pub words_small : (t : Table) → SmallEnds t → (y : ℕ) → y ∈ map end_word t → y < greatest
words_small t s y m = let k = Memᴰ.of_map end_word t m in subst (λ (z : ℕ). z < greatest) k.2 (word_small k.0 (s k.0 k.1))

-- the numbers of what comes after an entry are above its own
pub words_above : (x : Entry) (t : Table) → Below x t → SmallEnd x → SmallEnds t → (y : ℕ) → y ∈ map end_word t → end_word x < y
words_above x t b p s y m =
    let k = Memᴰ.of_map end_word t m in
    subst (λ (z : ℕ). end_word x < z) k.2
    (ltb→lt _ _ (subst T (before_word x k.0 p (s k.0 k.1)) (below_out x b k.1)))

pub words_rise : (t : Table) → Sorted t → SmallEnds t → Rises (map end_word t)
words_rise [] h s = tt
words_rise (x ∷ t) h s = (
  (λ y m. let k = words_above x t h.0 (s x (Memᴰ.head refl)) (λ e n. s e (Memᴰ.tail n)) y m in omega (arith, k)),
  words_rise t h.1 (λ e n. s e (Memᴰ.tail n)),
)

-- ---- a table in the two slices

-- et and rt are what is lent behind it
pub record Stands (t : Table) (et rt : List ℕ) (w : Words) : Type 0 where
  pub few : length t ≤ max_entries
  pub ends_are : w.ends ≡ end_words t ++ et
  pub rests_are : w.rests ≡ rest_words t ++ rt

module _ (t : Table) (et rt : List ℕ) (w : Words) (st : Stands t et rt w) (so : Sorted t) (sm : SmallEnds t) where
  -- a search counts the entries whose numbers are below the key
  pub found : (key : ℕ) → key ≤ greatest → place_of max_entries w.ends key ≡ below key (map end_word t)
  unfolding end_words
  found key k =
      let l : length (map end_word t) ≤ max_entries = simp length-map st.few in
      ap (λ (l : List ℕ). place_of max_entries l key) st.ends_are
      ∙ found_padded max_entries (map end_word t) greatest et key l (words_rise t so sm) (words_small t sm) k

  pub counted : entries w.ends ≡ length t
  counted = found greatest (omega arith) ∙ below_all greatest (map end_word t) (words_small t sm) ∙ simp length-map

-- ---- an entry goes in

put_map : (f : Entry → ℕ) (e : Entry) (p : ℕ) (t : Table) → map f (take p t ++ e ∷ drop p t) ≡ take p (map f t) ++ f e ∷ drop p (map f t)
put_map f e zero t = refl
put_map f e (suc p) [] = refl
put_map f e (suc p) (x ∷ t) = ap (λ l. f x ∷ l) (put_map f e p t)

pub place_within : (key : ℕ) (t : Table) → below key (map end_word t) ≤ length t
place_within key t = let l = length-map t end_word in omega (arith, below_length key (map end_word t), l)

pub insert_place : (e : Entry) (t : Table) → Sorted t → SmallEnd e → SmallEnds t → insert e t ≡ take (below (end_word e + 1) (map end_word t)) t ++ e ∷ drop (below (end_word e + 1) (map end_word t)) t
unfolding insert insert_by
insert_place e [] so se sm = rw (take-nil (below (end_word e + 1) []), drop-nil (below (end_word e + 1) []))
insert_place e (x ∷ t) so se sm = go (ltb (end_word e) (end_word x)) refl (insert_place e t so.1 se (λ y m. sm y (Memᴰ.tail m)))
  where
    sx : SmallEnd x
    sx = sm x (Memᴰ.head refl)

    p : ℕ
    p = below (end_word e + 1) (map end_word t)

    q : ℕ
    q = below (end_word e + 1) (map end_word (x ∷ t))

    go :
        (b : Bool)
        → ltb (end_word e) (end_word x) ≡ b
        → insert e t ≡ take p t ++ e ∷ drop p t
        → put_before (before e x) e x t (insert e t) ≡ take q (x ∷ t) ++ e ∷ drop q (x ∷ t)
    go true h ih =
        let k : end_word e < end_word x = ltb-true _ _ h in
        let z : q ≡ 0 =
        below_past (end_word e + 1) (end_word x) (map end_word t) (omega (arith, k))
        ∙ below_none (end_word e + 1) (map end_word t) (λ y m. let a = words_above x t so.0 sx (λ d n. sm d (Memᴰ.tail n)) y m in omega (arith, k, a)) in
        rw (before_word e x se sx, h, z)
    go false h ih =
        let k : end_word x ≤ end_word e = ltb-false _ _ h in
        let z : q ≡ suc p = below_step (end_word e + 1) (end_word x) (map end_word t) (omega (arith, k)) in
        rw (before_word e x se sx, h, z, ih)

pub insert_length : (e : Entry) (t : Table) → length (insert e t) ≡ suc (length t)
unfolding insert
insert_length e t = insert_longer before e t

-- one of the slices: size places, and d is what fills it up
module _ (size : ℕ) (f : Entry → ℕ) (d : ℕ) (t : Table) (behind : List ℕ) where
  pub room_inserted : (e : Entry) (p : ℕ) → length t < size → p ≤ length t → inserted (length t + 1) p (f e) (padded size d (map f t) ++ behind) ≡ padded size d (map f (take p t ++ e ∷ drop p t)) ++ behind
  unfolding padded
  room_inserted e p h k =
      let l : length (map f t) ≡ length t = length-map t f in
      let m : size - length (map f t) ≡ suc (size - suc (length t)) = omega (arith, l) in
      let u : length (map f (take p t ++ e ∷ drop p t)) ≡ suc (length t) = put_length in
      let v : p ≤ length (map f t) = omega (arith, l) in
      rw (m, append_assoc, ← l, inserted_room p (map f t) (f e) d (replicate (size - suc (length (map f t))) d ++ behind) v, ← put_map f e p t, u, ← l, append_assoc)
    where
      put_length : length (map f (take p t ++ e ∷ drop p t)) ≡ suc (length t)
      put_length = length-map (take p t ++ e ∷ drop p t) f ∙ length-append (take p t) (e ∷ drop p t) ∙ omega (arith, length-take p t, length-drop p t)

pub insert_stands :
    (t : Table) (et rt : List ℕ) (w : Words)
    → Stands t et rt w
    → Sorted t
    → SmallEnds t
    → length t < max_entries
    → (e : Entry)
    → SmallEnd e
    → Stands (insert e t) et rt (inserting (end_word e) (rest_word e) w)
unfolding end_words rest_words inserting
insert_stands t et rt w st so sm room e se =
    record {
      few = omega (arith, insert_length e t);
      ends_are = is_done.0 ∙ ap (λ (l : List ℕ). inserted (length t + 1) p (end_word e) l) st.ends_are ∙ room_inserted max_entries end_word greatest t et e p room within ∙ same end_word greatest et;
      rests_are = is_done.1 ∙ ap (λ (l : List ℕ). inserted (length t + 1) p (rest_word e) l) st.rests_are ∙ room_inserted max_entries rest_word 0 t rt e p room within ∙ same rest_word 0 rt;
    }
  where
    p : ℕ
    p = below (end_word e + 1) (map end_word t)

    within : p ≤ length t
    within = place_within (end_word e + 1) t

    same : (f : Entry → ℕ) (d : ℕ) (behind : List ℕ) → padded max_entries d (map f (take p t ++ e ∷ drop p t)) ++ behind ≡ padded max_entries d (map f (insert e t)) ++ behind
    same f d behind = ap (λ (l : Table). padded max_entries d (map f l) ++ behind) (sym (insert_place e t so se sm))

    is_done :
        ((inserting (end_word e) (rest_word e) w).ends ≡ inserted (length t + 1) p (end_word e) w.ends)
        × ((inserting (end_word e) (rest_word e) w).rests ≡ inserted (length t + 1) p (rest_word e) w.rests)
    is_done =
        let n = counted t et rt w st so sm in
        let k : end_word e < greatest = word_small e se in
        let q = found t et rt w st so sm (end_word e + 1) (omega (arith, k)) in
        (rw (n, q, lt-ltb (length t) max_entries room, lt-ltb (end_word e) greatest k), rw (n, q, lt-ltb (length t) max_entries room, lt-ltb (end_word e) greatest k))

-- ---- entries go out

cut_map : (f : Entry → ℕ) (xs : Table) (k : Entry) (ys : Table) → take (length xs) (map f (xs ++ k ∷ ys)) ++ drop (suc (length xs)) (map f (xs ++ k ∷ ys)) ≡ map f (xs ++ ys)
cut_map f [] k ys = refl
cut_map f (x ∷ xs) k ys = ap (λ l. f x ∷ l) (cut_map f xs k ys)

pub among_more : (xs : Table) (k : Entry) (ys : Table) (e : Entry) → e ∈ xs ++ ys → e ∈ xs ++ k ∷ ys
among_more xs k ys e m = go (Memᴰ.append_cases xs m)
  where
    go : (e ∈ xs) ⊎ (e ∈ ys) → e ∈ xs ++ k ∷ ys
    go (inl n) = Memᴰ.append_left (k ∷ ys) n
    go (inr n) = Memᴰ.append_right xs (Memᴰ.tail n)

pub sorted_less : (xs : Table) (k : Entry) (ys : Table) → Sorted (xs ++ k ∷ ys) → Sorted (xs ++ ys)
sorted_less [] k ys h = h.1
sorted_less (x ∷ xs) k ys h = (below_in x (xs ++ ys) (λ e m. below_out x h.0 (among_more xs k ys e m)), sorted_less xs k ys h.1)

room_removed : (f : Entry → ℕ) (d : ℕ) (behind : List ℕ) (xs : Table) (k : Entry) (ys : Table) → length (xs ++ k ∷ ys) ≤ max_entries → removed (length (xs ++ k ∷ ys)) (length xs) d (padded max_entries d (map f (xs ++ k ∷ ys)) ++ behind) ≡ padded max_entries d (map f (xs ++ ys)) ++ behind
unfolding padded
room_removed f d behind xs k ys h =
    let l : length (map f (xs ++ k ∷ ys)) ≡ length (xs ++ k ∷ ys) = length-map (xs ++ k ∷ ys) f in
    let a : length (xs ++ k ∷ ys) ≡ length xs + suc (length ys) = length-append xs (k ∷ ys) in
    let b : length (map f (xs ++ ys)) ≡ length xs + length ys = length-map (xs ++ ys) f ∙ length-append xs ys in
    let v : length xs < length (map f (xs ++ k ∷ ys)) = omega (arith, l, a) in
    let m : max_entries - length (map f (xs ++ ys)) ≡ suc (max_entries - length (map f (xs ++ k ∷ ys))) = omega (arith, l, a, b, h) in
    rw (append_assoc, ← l, removed_room (length xs) (map f (xs ++ k ∷ ys)) d (replicate (max_entries - length (map f (xs ++ k ∷ ys))) d ++ behind) v, cut_map f xs k ys, m, append_assoc)

pub remove_stands :
    (xs : Table) (k : Entry) (ys : Table) (et rt : List ℕ) (w : Words)
    → Stands (xs ++ k ∷ ys) et rt w
    → Sorted (xs ++ k ∷ ys)
    → SmallEnds (xs ++ k ∷ ys)
    → Stands (xs ++ ys) et rt (removing (length xs) w)
unfolding end_words rest_words removing
remove_stands xs k ys et rt w st so sm =
    let n = counted (xs ++ k ∷ ys) et rt w st so sm in
    record {
      few = omega (arith, st.few, length-append xs (k ∷ ys), length-append xs ys);
      ends_are = rw (n, st.ends_are) (room_removed end_word greatest et xs k ys st.few);
      rests_are = rw (n, st.rests_are) (room_removed rest_word 0 rt xs k ys st.few);
    }

-- a run of entries
pub run_stands :
    (xs ks ys : Table) (et rt : List ℕ) (w : Words)
    → Stands (xs ++ (ks ++ ys)) et rt w
    → Sorted (xs ++ (ks ++ ys))
    → SmallEnds (xs ++ (ks ++ ys))
    → Stands (xs ++ ys) et rt (removing_run (length ks) (length xs) w)
unfolding removing_run
run_stands xs [] ys et rt w st so sm = st
run_stands xs (k ∷ ks) ys et rt w st so sm =
    run_stands xs ks ys et rt (removing (length xs) w) (remove_stands xs k (ks ++ ys) et rt w st so sm) (sorted_less xs k (ks ++ ys) so)
    (λ e m. sm e (among_more xs k (ks ++ ys) e m))
