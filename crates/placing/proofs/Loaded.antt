-- All fixed reservations put in, one after another, where nothing was: the fresh table stands, and its fixed uses lie. Assumes nothing.
use Prim.Native.Nat.{ℕ, ◌+◌, ◌-◌, ◌*◌, ◌%◌, ◌^◌, ◌≤◌, ◌<◌}
use native.Mathlib.Omega.{arith}
use mathlib.Core.Path.{◌≡◌, refl, sym, ap, subst}
use mathlib.Core.Logic.{◌⊎◌, inl, inr}
use mathlib.Core.List.Memᴰ
use mathlib.Core.List.{List, [], ◌∷◌, ◌++◌, append_assoc, append-nil}
use mathlib.Core.Bool.{true, ◌&&◌}
use lib.Dec.{T, eqb}
use lib.ListN.{length, drop, length-append}
use borrow.Author.Tests.{ne_eqb}
use Rattle.reg_matrix.specs.Lists.{foldl}
use Rattle.reg_matrix.specs.Table.{Table, is_use, fixed_uses, insert, insert_all, fresh_table}
use Rattle.reg_matrix.specs.Layout.{max_entries, max_fixed, end_word, reservation_word, use_value, use_word}
use Rattle.reg_matrix.specs.declared.Entry.{Entry}
use Rattle.reg_matrix.specs.declared.Reservation.{Reservation}
use Rattle.reg_matrix.specs.declared.Reservation.TheVariants.{Held, FixedUse, FixedDef}
use Rattle.reg_matrix.proofs.Members.{◌∈◌, fixed_uses_in, fixed_uses_out}
use Rattle.reg_matrix.proofs.Places.{filter_append}
use Rattle.reg_matrix.proofs.Sorted.{Sorted, Parted, insert_all_sorted, insert_all_out}
use Rattle.reg_matrix.proofs.Chains.{Chain, Sound, not_held}
use Rattle.entries.specs.Moves.{inserting}
use Rattle.entries.specs.Placing.{inserting_use}
use Rattle.entries.specs.Reserving.{Lain, cleared, reserving, inserting_word}
use Rattle.placing.proofs.Standing.{SmallEnd, SmallEnds, Stands}
use Rattle.placing.proofs.Lying.{AllSmall, UsesLie}
use Rattle.placing.proofs.Evicted.{insert_all_length}
use Rattle.placing.proofs.Reserved.{clear_stands, clear_lies, use_stands, def_stands, use_lies, def_lies, uses_few}

-- a reservation as it goes in
abbrev pub put : Lain → Entry → Lain
put l e = reserving e.unit e.from e.to (reservation_word e.reservation) l

put_def : (e : Entry) (l : Lain) → e.reservation ≡ FixedDef → put l e ≡ record { table = inserting (end_word e) (e.from * 2 ^ 32) l.table; uses = l.uses }
unfolding reserving
put_def e l q = rw q

put_use : (e : Entry) (x : ℕ) (l : Lain) → e.reservation ≡ FixedUse x → x < 2 ^ 16 → put l e ≡ record { table = inserting_use (use_word e) l.table; uses = inserting_word (use_word e) l.uses }
unfolding reserving
put_use e x l q h =
    let k : (x + 1 - 1) % 2 ^ 16 ≡ x = omega arith in
    rw (q, ne_eqb (x + 1) 0 (λ z. omega arith), k)

-- ---- a front part of what loading tested

chain_front : (xs ys : List Entry) → Chain (xs ++ ys) → Chain xs
chain_front [] ys h = tt
chain_front (x ∷ xs) ys h = ((λ y m. h.0 y (Memᴰ.append_left ys m)), chain_front xs ys h.1)

-- an entry of the front ends before one behind it starts
chain_across : (xs ys : List Entry) → Chain (xs ++ ys) → (a b : Entry) → a ∈ xs → b ∈ ys → a.to ≤ b.from
chain_across [] ys h a b m n = elim m [ ]
chain_across (x ∷ xs) ys h a b (Memᴰ.head q) n = subst (λ (z : Entry). z.to ≤ b.from) (sym q) (h.0 b (Memᴰ.append_right xs n))
chain_across (x ∷ xs) ys h a b (Memᴰ.tail m) n = chain_across xs ys h.1 a b m n

parted_front : (xs ys : List Entry) → Parted (xs ++ ys) → Parted xs
parted_front [] ys h = tt
parted_front (x ∷ xs) ys h = ((λ y m. h.0 y (Memᴰ.append_left ys m)), parted_front xs ys h.1)

module _ (xs ys : List Entry) (sd : Sound (xs ++ ys)) where
  uses_front : (u : ℕ) → Chain (fixed_uses xs u ++ fixed_uses ys u)
  unfolding fixed_uses
  uses_front u = subst Chain (filter_append (λ e. eqb e.unit u && is_use e.reservation) xs ys) (sd.chain u)

  sound_front : Sound xs
  sound_front =
      record {
        nonempty = λ e m. sd.nonempty e (Memᴰ.append_left ys m);
        free = λ e m. sd.free e (Memᴰ.append_left ys m);
        apart = λ e f m n. sd.apart e f (Memᴰ.append_left ys m) (Memᴰ.append_left ys n);
        chain = λ u. chain_front (fixed_uses xs u) (fixed_uses ys u) (uses_front u);
      }

-- ---- one after another

fresh_more : (bs : List Entry) (e : Entry) → fresh_table (bs ++ (e ∷ [])) ≡ insert e (fresh_table bs)
unfolding fresh_table insert_all foldl
fresh_more bs e = go bs []
  where
    go : (bs : List Entry) (t : Table) → foldl (λ t e. insert e t) t (bs ++ (e ∷ [])) ≡ insert e (foldl (λ t e. insert e t) t bs)
    go [] t = refl
    go (b ∷ bs) t = go bs (insert b t)

-- the reservations of bs are in
pub record In (bs : List Entry) (et rt ut : List ℕ) (l : Lain) : Type 0 where
  pub stands : Stands (fresh_table bs) et rt l.table
  pub lie : UsesLie bs ut l.uses

module _ (et rt ut : List ℕ) where
  module _ (bs : List Entry) (e : Entry) (rest : List Entry) (sd : Sound (bs ++ (e ∷ rest))) (pa : Parted (bs ++ (e ∷ rest))) (sm : AllSmall (bs ++ (e ∷ rest))) (few : length (bs ++ (e ∷ rest)) ≤ max_fixed) (l : Lain) (h : In bs et rt ut l) where
    here : e ∈ bs ++ (e ∷ rest)
    here = Memᴰ.append_right bs (Memᴰ.head refl)

    room : length bs < max_fixed
    room = omega (arith, length-append bs (e ∷ rest))

    sorted : Sorted (fresh_table bs)
    unfolding fresh_table
    sorted = insert_all_sorted bs [] (parted_front bs (e ∷ rest) pa) (λ b m x n. elim n [ ]) tt

    small : SmallEnds (fresh_table bs)
    unfolding fresh_table
    small x m = go (insert_all_out bs [] x m)
      where
        go : (x ∈ bs) ⊎ (x ∈ []) → SmallEnd x
        go (inl n) = let k = sm x (Memᴰ.append_left (e ∷ rest) n) in record { unit = k.unit; to = k.to }
        go (inr n) = elim n [ ]

    fits : length (fresh_table bs) < max_entries
    unfolding fresh_table
    fits = omega (arith, insert_all_length bs [], room)

    after : T (is_use e.reservation) → (f : Entry) → f ∈ fixed_uses bs e.unit → f.from < e.from
    after u f m =
        let k = fixed_uses_out bs e.unit f m in
        omega (arith, sd.nonempty f (Memᴰ.append_left (e ∷ rest) k.0), chain_across (fixed_uses bs e.unit) (fixed_uses (e ∷ rest) e.unit) (uses_front bs (e ∷ rest) sd e.unit) f e m (fixed_uses_in (e ∷ rest) e.unit e (Memᴰ.head refl) refl u))

    one_more : (r : Reservation) → e.reservation ≡ r → In (bs ++ (e ∷ [])) et rt ut (put l e)
    one_more (Held v i) q = absurd (not_held (bs ++ (e ∷ rest)) sd e here v i q)
    one_more FixedDef q =
        rw (put_def e l q)
        (record {
          stands = rw (fresh_more bs e) (def_stands (fresh_table bs) et rt l.table h.stands sorted small fits e (sm e here) q);
          lie = def_lies bs e (ap is_use q) ut l.uses h.lie;
        })
    one_more (FixedUse x) q =
        let u : is_use e.reservation ≡ true = ap is_use q in
        let t : T (is_use e.reservation) = subst T (sym u) tt in
        rw (put_use e x l q (subst (λ (r : Reservation). use_value r < 2 ^ 16) q (sm e here).value))
        (record {
          stands = rw (fresh_more bs e) (use_stands (fresh_table bs) et rt l.table h.stands sorted small fits e (sm e here) t);
          lie = use_lies bs e u (sound_front bs (e ∷ rest) sd) (λ f m. sm f (Memᴰ.append_left (e ∷ rest) m)) (sm e here) (after t) ut l.uses h.lie (omega (arith, uses_few bs, room));
        })

  all_in : (bs rest : List Entry) → Sound (bs ++ rest) → Parted (bs ++ rest) → AllSmall (bs ++ rest) → length (bs ++ rest) ≤ max_fixed → (l : Lain) → In bs et rt ut l → In (bs ++ rest) et rt ut (foldl put l rest)
  unfolding foldl
  all_in bs [] sd pa sm few l h = subst (λ (z : List Entry). In z et rt ut l) (sym (append-nil bs)) h
  all_in bs (e ∷ rest) sd pa sm few l h =
      let k : (bs ++ (e ∷ [])) ++ rest ≡ bs ++ (e ∷ rest) = append_assoc bs (e ∷ []) rest in
      subst (λ (z : List Entry). In z et rt ut (foldl put (put l e) rest)) k
      (all_in (bs ++ (e ∷ [])) rest (subst Sound (sym k) sd) (subst Parted (sym k) pa) (subst AllSmall (sym k) sm) (subst (λ (z : List Entry). length z ≤ max_fixed) (sym k) few) (put l e) (one_more bs e rest sd pa sm few l h e.reservation refl))

-- where nothing was at first
pub reserved_all :
    (fixed : List Entry) (l : Lain)
    → Sound fixed
    → Parted fixed
    → AllSmall fixed
    → length fixed ≤ max_fixed
    → max_entries ≤ length l.table.ends
    → max_entries ≤ length l.table.rests
    → max_fixed ≤ length l.uses
    → In fixed (drop max_entries l.table.ends) (drop max_entries l.table.rests) (drop max_fixed l.uses) (foldl put (cleared l) fixed)
unfolding cleared fresh_table insert_all foldl
reserved_all fixed l sd pa sm few a b c =
    all_in _ _ _ [] fixed sd pa sm few (cleared l)
    (record { stands = clear_stands l.table.ends l.table.rests a b; lie = clear_lies l.uses c })
