-- The tests of a whole job by places of stored numbers are the tests 10, 11 and 12 of Load.antt. Assumes nothing.
use Prim.Native.Nat.{ℕ, zero, suc, ◌+◌, ◌-◌, ◌/◌, ◌%◌, ◌^◌, ◌≤◌, ◌<◌}
use native.Mathlib.Nat.{pow-suc, div-one, div-div-eq-div-mul}
use native.Mathlib.Numerals.{add-one}
use native.Mathlib.Omega.{arith}
use mathlib.Core.Path.{◌≡◌, refl, ap, sym, subst, ◌∙◌}
use mathlib.Core.List.{List, [], ◌∷◌, ◌++◌, map}
use mathlib.Core.Bool.{Bool, true, false, ◌||◌}
use lib.Dec.{T, eqb, eqb→eq}
use lib.ListN.{length, get_or, take, drop, length-map, get_or-append, get_or-map}
use lib.Seq.{sets-eq}
use borrow.Author.Tests.{eq-eqb, ne_eqb, eqb-true, eqb-false}
use Rattle.reg_matrix.specs.Lists.{any, any_pair, count, concat_map, bit, same}
use Rattle.reg_matrix.specs.Table.{units_of}
use Rattle.reg_matrix.proofs.Tests.{same_test, both, eqb_in}
use Rattle.reg_matrix.proofs.Members.{◌∈◌, get_d_in, units_of_in, units_of_out}
use Rattle.reg_matrix.specs.declared.ValueSegment.{ValueSegment}
use Rattle.reg_matrix.specs.declared.Entry.{Entry}
use Rattle.reg_matrix.specs.declared.Reservation.{Reservation}
use Rattle.reg_matrix.specs.declared.Reservation.TheVariants.{Held, FixedUse, FixedDef}
use Rattle.job.specs.Model.{VirtReg, no_virt_reg, Job}
use Rattle.job.specs.Load.{twin, mixed_set, cut_use, cuts, use_of_value}
use Rattle.job.specs.Layout.{starts_from}
use Rattle.lent.specs.Parts.{Begins}
use Rattle.reader.specs.Read.{Stored, all_members, FixedAt, use_number, segments_of_all}
use Rattle.job_tests.specs.Tests.{equal_at, member_twice, classes_differ, crosses, crosses_at}
use Rattle.lent.proofs.Laws.{any_default}
use Rattle.job_tests.proofs.Places.{anys_at, pairs_at, pair_at}
use Rattle.job.proofs.Units.{same_self}
use Rattle.job.proofs.Lists.{starts_length}
use Rattle.reader.proofs.Starts.{start_is, next_start, item_at, item_below}

-- what stands at a place of a list that begins so, and of a slice with room
module _ {A B : Type 0} where
  begins_at : (f : A → B) (xs : List A) {ys : List B} → Begins (map f xs) ys → (d : A) (e : B) (i : ℕ) → i < length xs → get_or ys i e ≡ f (get_or xs i d)
  begins_at f xs b d e i k =
      let n : length (map f xs) ≡ length xs = simp length-map in
      let m : i < length (map f xs) = omega arith in
      ap (λ (z : List B). get_or z i e) b.1 ∙ get_or-append (map f xs) b.0 e i m ∙ any_default (map f xs) i e (f d) m ∙ get_or-map f xs i d

  pub stored_at : {f : A → B} {b b' : List B} {xs : List A} → Stored f b 0 xs b' → length xs ≤ length b → (d : A) (e : B) (i : ℕ) → i < length xs → get_or b' i e ≡ f (get_or xs i d)
  stored_at {f} {b} {xs} h l =
      let n : length (map f xs) ≡ length xs = simp length-map in
      begins_at f xs (drop (0 + length (map f xs)) b, h.is ∙ sets-eq (map f xs) b 0 (omega arith))

front_at : (xs : List ℕ) {ys : List ℕ} → Begins xs ys → (i : ℕ) → i < length xs → get_or ys i 0 ≡ get_or xs i 0
front_at xs b i h = ap (λ (z : List ℕ). get_or z i 0) b.1 ∙ get_or-append xs b.0 0 i h

-- ---- 11

pub mixed_is :
    (j : Job) {b c : List ℕ}
    → Begins (map (λ (v : VirtReg). v.class) j.virt_regs) b
    → Begins (map (λ (v : VirtReg). v.value_set) j.virt_regs) c
    → any_pair (classes_differ b c) (count 0 (length j.virt_regs)) ≡ mixed_set j
unfolding mixed_set
mixed_is j h g =
    pairs_at no_virt_reg _ _ j.virt_regs (λ i k a b.
    rw (
      begins_at (λ (v : VirtReg). v.class) j.virt_regs h no_virt_reg 0 i a,
      begins_at (λ (v : VirtReg). v.class) j.virt_regs h no_virt_reg 0 k b,
      begins_at (λ (v : VirtReg). v.value_set) j.virt_regs g no_virt_reg 0 i a,
      begins_at (λ (v : VirtReg). v.value_set) j.virt_regs g no_virt_reg 0 k b,
    ))

-- ---- 12

same_number : (x y : ℕ) → eqb (y + 1) (x + 1) ≡ eqb x y
same_number x y = go (eqb x y) refl
  where
    go : (t : Bool) → eqb x y ≡ t → eqb (y + 1) (x + 1) ≡ t
    go true e = eq-eqb (y + 1) (x + 1) (omega (arith, eqb-true x y e))
    go false e = ne_eqb (y + 1) (x + 1) (λ q. eqb-false x y e (omega arith))

use_test : (x : ℕ) (r : Reservation) → eqb (use_number r) (x + 1) ≡ use_of_value x r
use_test x (Held v i) = ne_eqb 0 (x + 1) (λ q. omega arith)
use_test x (FixedUse y) = same_number x y
use_test x FixedDef = ne_eqb 0 (x + 1) (λ q. omega arith)

pub no_entry : Entry
no_entry = record { unit = 0; from = 0; to = 0; reservation = FixedDef }

no_segment : ValueSegment
no_segment = record { from = 0; to = 0; value = 0 }

crossed : (s : ValueSegment) (e : Entry) → crosses (s.value + 1) s.from s.to e.from e.to (use_number e.reservation) ≡ cuts s e
crossed s e = rw (use_test s.value e.reservation)

module _ {A B : Type 0} (p : B → Bool) (f : A → List B) where
  any_append : (xs ys : List B) → any p (xs ++ ys) ≡ (any p xs || any p ys)
  unfolding any
  any_append [] ys = refl
  any_append (x ∷ xs) ys = ap (λ (b : Bool). p x || b) (any_append xs ys) ∙ assoc (p x) (any p xs) (any p ys)
    where
      assoc : (a b c : Bool) → (a || (b || c)) ≡ ((a || b) || c)
      assoc true b c = refl
      assoc false b c = refl

  any_concat : (xs : List A) → any p (concat_map f xs) ≡ any (λ x. any p (f x)) xs
  unfolding any concat_map
  any_concat [] = refl
  any_concat (x ∷ xs) = any_append (f x) (concat_map f xs) ∙ ap (λ (b : Bool). any p (f x) || b) (any_concat xs)

module _ (j : Job) {n f t u n' f' t' u' : List ℕ} (h : FixedAt n f t u n' f' t' u' j.fixed) (a : length j.fixed ≤ length f) (b : length j.fixed ≤ length t) (c : length j.fixed ≤ length u) where
  crossed_one : (s : ValueSegment) → any (λ k. crosses (s.value + 1) s.from s.to (get_or f' k 0) (get_or t' k 0) (get_or u' k 0)) (count 0 (length j.fixed)) ≡ any (cuts s) j.fixed
  crossed_one s =
      anys_at no_entry (cuts s) _ j.fixed (λ k l.
      rw (stored_at h.froms a no_entry 0 k l, stored_at h.tos b no_entry 0 k l, stored_at h.uses c no_entry 0 k l) (crossed s (get_or j.fixed k no_entry)))

  pub cut_is :
      {x y z : List ℕ}
      → Begins (map (λ (x : ValueSegment). x.from) (segments_of_all j.virt_regs)) x
      → Begins (map (λ (x : ValueSegment). x.to) (segments_of_all j.virt_regs)) y
      → Begins (map (λ (x : ValueSegment). x.value) (segments_of_all j.virt_regs)) z
      → any (crosses_at x y z f' t' u' (length j.fixed)) (count 0 (length (segments_of_all j.virt_regs))) ≡ cut_use j
  unfolding cut_use
  cut_is k l m =
      anys_at no_segment (λ s. any (cuts s) j.fixed) _ (segments_of_all j.virt_regs) (λ i w.
      rw (
        begins_at (λ (x : ValueSegment). x.from) (segments_of_all j.virt_regs) k no_segment 0 i w,
        begins_at (λ (x : ValueSegment). x.to) (segments_of_all j.virt_regs) l no_segment 0 i w,
        begins_at (λ (x : ValueSegment). x.value) (segments_of_all j.virt_regs) m no_segment 0 i w,
      ) (crossed_one (get_or (segments_of_all j.virt_regs) i no_segment)))
      ∙ any_concat (λ s. any (cuts s) j.fixed) (λ (v : VirtReg). v.segments) j.virt_regs

-- ---- 10

digit : (a b : ℕ) → a < 2 → b < 2 → eqb a 1 ≡ eqb b 1 → a ≡ b
digit zero zero h l e = refl
digit zero (suc zero) h l e = absurd (let z : ◌≡◌ {A = ℕ} 0 1 = cc in omega arith)
digit zero (suc (suc b)) h l e = absurd (omega arith)
digit (suc zero) zero h l e = absurd (let z : ◌≡◌ {A = ℕ} 0 1 = cc in omega arith)
digit (suc zero) (suc zero) h l e = refl
digit (suc zero) (suc (suc b)) h l e = absurd (omega arith)
digit (suc (suc a)) b h l e = absurd (omega arith)

halves : (m u : ℕ) → m / 2 / 2 ^ u ≡ m / 2 ^ suc u
halves m u = div-div-eq-div-mul m 2 (2 ^ u) ∙ ap (λ (x : ℕ). m / x) (omega (arith, pow-suc 2 u))

-- a number is decided by its bits
bits_same : (k m n : ℕ) → m < 2 ^ k → n < 2 ^ k → ((u : ℕ) → u < k → bit u m ≡ bit u n) → m ≡ n
bits_same zero m n a b h = omega arith
bits_same (suc k) m n a b h =
    let d : m % 2 ≡ n % 2 = digit (m % 2) (n % 2) (omega arith) (omega arith) (rw (div-one m, div-one n) at (h 0 (omega arith))) in
    let e : m / 2 ≡ n / 2 = bits_same k (m / 2) (n / 2) (omega (arith, pow-suc 2 k)) (omega (arith, pow-suc 2 k)) (λ u l. ap (λ (x : ℕ). eqb (x % 2) 1) (halves m u) ∙ h (suc u) (omega arith) ∙ sym (ap (λ (x : ℕ). eqb (x % 2) 1) (halves n u))) in
    omega arith

same_out : (xs ys : List ℕ) → T (same xs ys) → xs ≡ ys
unfolding same
same_out [] [] t = refl
same_out [] (y ∷ ys) t = absurd t
same_out (x ∷ xs) [] t = absurd t
same_out (x ∷ xs) (y ∷ ys) t =
    let k = both (eqb x y) (same xs ys) t in
    rw (eqb→eq x y k.0, same_out xs ys k.1)

-- two registers have the same units where their maps are equal
units_test : (m n : ℕ) → m < 2 ^ 64 → n < 2 ^ 64 → eqb m n ≡ same (units_of m) (units_of n)
units_test m n a b =
    same_test (eqb m n) (same (units_of m) (units_of n)) (λ t. subst (λ (x : ℕ). T (same (units_of m) (units_of x))) (eqb→eq m n t) (same_self (units_of m))) (λ t.
    let e : units_of m ≡ units_of n = same_out (units_of m) (units_of n) t in
    eqb_in (bits_same 64 m n a b (λ u l.
    same_test (bit u m) (bit u n) (λ z. (units_of_out n u (subst (λ (x : List ℕ). u ∈ x) e (units_of_in m u l z))).0) (λ z. (units_of_out m u (subst (λ (x : List ℕ). u ∈ x) (sym e) (units_of_in n u l z))).0))))

module _ (j : Job) {b : List ℕ} (h : Begins j.regs b) (small : (m : ℕ) → m ∈ j.regs → m < 2 ^ 64) where
  pub maps_are : any_pair (equal_at b) (count 0 (length j.regs)) ≡ any_pair (λ m n. same (units_of m) (units_of n)) j.regs
  maps_are =
      pairs_at 0 _ _ j.regs (λ i k p q.
      rw (front_at j.regs h i p, front_at j.regs h k q) (units_test (get_or j.regs i 0) (get_or j.regs k 0) (small (get_or j.regs i 0) (get_d_in j.regs i 0 p)) (small (get_or j.regs k 0) (get_d_in j.regs k 0 q))))

module _ (cs : List (List ℕ)) {b m : List ℕ} (h : Begins (starts_from length 0 cs) b) (l : Begins (all_members cs) m) where
  start_at : (c : ℕ) → c ≤ length cs → get_or b c 0 ≡ length (all_members (take c cs))
  start_at c p =
      let n = starts_length (length {A = ℕ}) 0 cs in
      let z : 0 + length (all_members (take c cs)) ≡ length (all_members (take c cs)) = omega arith in
      front_at (starts_from length 0 cs) h c (omega arith) ∙ start_is (λ (c : List ℕ). c) 0 cs c p ∙ z

  member_at : (c i : ℕ) → c < length cs → i < length (get_or cs c []) → get_or m (length (all_members (take c cs)) + i) 0 ≡ get_or (get_or cs c []) i 0
  member_at c i p q =
      front_at (all_members cs) l (length (all_members (take c cs)) + i) (item_below (λ (c : List ℕ). c) cs c i [] p q) ∙ item_at (λ (c : List ℕ). c) cs c i [] 0 p q

  pub members_are : any (member_twice b m) (count 0 (length cs)) ≡ any (any_pair eqb) cs
  members_are =
      anys_at [] (any_pair eqb) _ cs (λ c p.
      let s : get_or b c 0 ≡ length (all_members (take c cs)) = start_at c (omega arith) in
      let e : get_or b (c + 1) 0 ≡ length (all_members (take c cs)) + length (get_or cs c []) = rw (add-one c) (start_at (suc c) (omega arith) ∙ next_start (λ (c : List ℕ). c) cs c [] p) in
      let n : length (all_members (take c cs)) + length (get_or cs c []) - length (all_members (take c cs)) ≡ length (get_or cs c []) = omega arith in
      rw (e, s, n) (pair_at 0 eqb (equal_at m) (get_or cs c []) (length (all_members (take c cs))) (λ i j q r. rw (member_at c i p q, member_at c j p r))))

pub twin_is :
    (j : Job) {r b m : List ℕ}
    → Begins j.regs r
    → Begins (starts_from length 0 j.classes) b
    → Begins (all_members j.classes) m
    → ((m : ℕ) → m ∈ j.regs → m < 2 ^ 64)
    → (any_pair (equal_at r) (count 0 (length j.regs)) || any (member_twice b m) (count 0 (length j.classes))) ≡ twin j
unfolding twin
twin_is j h g k s = rw (maps_are j h s, members_are j.classes g k)
