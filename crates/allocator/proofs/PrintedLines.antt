-- Printed lines decide entries: what is printed can be read back. So two tables whose lines are the same are the same, where all numbers in
-- them have at most 20 digits. Assumes nothing.
use Prim.Native.Nat.{ℕ, zero, suc, ◌<◌, ◌≤◌, ◌+◌, ◌-◌, ◌*◌, ◌/◌, ◌%◌, ◌^◌}
use native.Mathlib.Omega.{arith}
use native.Mathlib.Nat.{pow-suc, mod-lt, mod-eq_of_lt, div-add-mod', div-lt_iff_lt-mul}
use mathlib.Core.Path.{◌≡◌, refl, sym, ap, ap₂, ◌∙◌, subst}
use mathlib.Core.List.Memᴰ
use mathlib.Core.List.{List, [], ◌∷◌, ◌++◌, append_assoc}
use mathlib.Core.Bool.{Bool, true, false, not, ◌&&◌, cond}
use lib.Dec.{T, ltb, leb, eqb, ltb→lt, lt→ltb, le→leb, eqb→eq}
use lib.ListN.{get_or, drop}
use lib.Ieee.Bits.{is_true}
use Rattle.reg_matrix.specs.Lists.{ascii, concat_map}
use Rattle.reg_matrix.specs.Lines.{digits, number, sp, index_text, reservation_text, entry_line, table_lines}
use Rattle.reg_matrix.specs.declared.Entry.{Entry}
use Rattle.reg_matrix.specs.declared.Reservation.{Reservation}
use Rattle.reg_matrix.specs.declared.Reservation.TheVariants.{Held, FixedUse, FixedDef}
use Rattle.std.specs.Prelude.{Option, Some, None}
use Rattle.reg_matrix.proofs.Tests.{both_in, never}
use Rattle.reg_matrix.proofs.Members.{◌∈◌, not_nothing}

-- ---- numbers

abbrev is_digit : ℕ → Bool
is_digit c = leb 48 c && ltb c 58

-- the number at the front, after the digits of a; and what follows it
abbrev read_on : Bool → ℕ → ℕ → List ℕ → ℕ × List ℕ → ℕ × List ℕ
read_on true a c s r = r
read_on false a c s r = (a, c ∷ s)

read : ℕ → List ℕ → ℕ × List ℕ
read a [] = (a, [])
read a (c ∷ s) = read_on (is_digit c) a c s (read (a * 10 + (c - 48)) s)

read_digit : (a x : ℕ) (s : List ℕ) → x < 10 → read a ((48 + x) ∷ s) ≡ read (a * 10 + x) s
unfolding read
read_digit a x s h =
    ap (λ (b : Bool). read_on b a (48 + x) s (read (a * 10 + (48 + x - 48)) s))
    (is_true (is_digit (48 + x)) (both_in (leb 48 (48 + x)) (ltb (48 + x) 58) (le→leb 48 (48 + x) (omega arith)) (lt→ltb (48 + x) 58 (omega arith))))
    ∙ ap (λ (k : ℕ). read (a * 10 + k) s) (omega arith)

read_digits : (d n : ℕ) (r : List ℕ) → n < 10 ^ d → read 0 (digits d n r) ≡ read n r
unfolding digits
read_digits zero n r h = ap (λ (k : ℕ). read k r) (omega arith)
read_digits (suc d) n r h = go (ltb n 10) refl (λ b. read_digits d (n / 10) ((48 + n % 10) ∷ r) b)
  where
    rest : List ℕ
    rest = (48 + n % 10) ∷ r

    go : (b : Bool) → ltb n 10 ≡ b → (n / 10 < 10 ^ d → read 0 (digits d (n / 10) rest) ≡ read (n / 10) rest) → read 0 (cond b rest (digits d (n / 10) rest)) ≡ read n r
    go true q ih =
        read_digit 0 (n % 10) r (mod-lt n (omega arith))
        ∙ ap (λ (k : ℕ). read k r) (ap (λ (k : ℕ). 0 * 10 + k) (mod-eq_of_lt (ltb→lt n 10 (subst T (sym q) tt))) ∙ omega arith)
    go false q ih =
        ih ((div-lt_iff_lt-mul {k = 10} (omega arith)).1 (subst (λ (k : ℕ). n < k) (pow-suc 10 d) h))
        ∙ read_digit (n / 10) (n % 10) r (mod-lt n (omega arith))
        ∙ ap (λ (k : ℕ). read k r) (div-add-mod' n 10)

digits_append : (d n : ℕ) (r s : List ℕ) → digits d n r ++ s ≡ digits d n (r ++ s)
unfolding digits
digits_append zero n r s = refl
digits_append (suc d) n r s = go (ltb n 10) (digits_append d (n / 10) ((48 + n % 10) ∷ r) s)
  where
    first : List ℕ → List ℕ
    first l = (48 + n % 10) ∷ l

    go : (b : Bool) → digits d (n / 10) (first r) ++ s ≡ digits d (n / 10) (first (r ++ s)) → cond b (first r) (digits d (n / 10) (first r)) ++ s ≡ cond b (first (r ++ s)) (digits d (n / 10) (first (r ++ s)))
    go true ih = refl
    go false ih = ih

-- a number, then what begins with no digit
read_number : (n c : ℕ) (s : List ℕ) → n < 10 ^ 20 → T (not (is_digit c)) → read 0 (number n ++ (c ∷ s)) ≡ (n, c ∷ s)
unfolding read
read_number n c s h t = ap (read 0) (digits_append 20 n [] (c ∷ s)) ∙ read_digits 20 n (c ∷ s) h ∙ stop (is_digit c) t
  where
    stop : (b : Bool) → T (not b) → read_on b n c s (read (n * 10 + (c - 48)) s) ≡ (n, c ∷ s)
    stop true t = absurd t
    stop false t = refl

-- a number begins with a digit
head_digits : (d n : ℕ) (r : List ℕ) → 48 ≤ get_or r 0 0 → 48 ≤ get_or (digits d n r) 0 0
unfolding digits
head_digits zero n r h = h
head_digits (suc d) n r h = go (ltb n 10) (head_digits d (n / 10) ((48 + n % 10) ∷ r) (omega arith))
  where
    go : (b : Bool) → 48 ≤ get_or (digits d (n / 10) ((48 + n % 10) ∷ r)) 0 0 → 48 ≤ get_or (cond b ((48 + n % 10) ∷ r) (digits d (n / 10) ((48 + n % 10) ∷ r))) 0 0
    go true ih = omega arith
    go false ih = ih

head_number : (n : ℕ) (s : List ℕ) → 48 ≤ get_or (number n ++ s) 0 0
unfolding digits
head_number n s = subst (λ (l : List ℕ). 48 ≤ get_or l 0 0) (sym (digits_append 20 n [] s)) (go (ltb n 10) (head_digits 19 (n / 10) ((48 + n % 10) ∷ s) (omega arith)))
  where
    go : (b : Bool) → 48 ≤ get_or (digits 19 (n / 10) ((48 + n % 10) ∷ s)) 0 0 → 48 ≤ get_or (cond b ((48 + n % 10) ∷ s) (digits 19 (n / 10) ((48 + n % 10) ∷ s))) 0 0
    go true ih = omega arith
    go false ih = ih

-- ---- numbers that print whole

abbrev pub ShortIndex : Option ℕ → Type 0
ShortIndex None = Unit {0}
ShortIndex (Some i) = i < 10 ^ 20

abbrev pub ShortReservation : Reservation → Type 0
ShortReservation (Held v i) = (v < 10 ^ 20) × ShortIndex i
ShortReservation (FixedUse x) = x < 10 ^ 20
ShortReservation FixedDef = Unit {0}

pub record Short (e : Entry) : Type 0 where
  pub unit : e.unit < 10 ^ 20
  pub from : e.from < 10 ^ 20
  pub to : e.to < 10 ^ 20
  pub reservation : ShortReservation e.reservation

-- ---- reservations

abbrev as_at : ℕ × List ℕ → Option ℕ × List ℕ
as_at a = (Some a.0, a.1)

abbrev read_index : List ℕ → Option ℕ × List ℕ
read_index s = cond (eqb (get_or s 0 0) 45) (None, drop 1 s) (as_at (read 0 s))

abbrev as_held : ℕ → Option ℕ × List ℕ → Reservation × List ℕ
as_held v i = (Held v i.0, i.1)

abbrev read_held : ℕ × List ℕ → Reservation × List ℕ
read_held a = as_held a.0 (read_index (drop 1 a.1))

abbrev as_use : ℕ × List ℕ → Reservation × List ℕ
as_use a = (FixedUse a.0, a.1)

-- by the first letter of `held`, `use` and `def`
abbrev read_reservation : List ℕ → Reservation × List ℕ
read_reservation s =
    cond (eqb (get_or s 1 0) 104) (read_held (read 0 (drop 6 s))) (cond (eqb (get_or s 1 0) 117) (as_use (read 0 (drop 5 s))) (FixedDef, drop 4 s))

read_index_lem : (i : Option ℕ) (s : List ℕ) → ShortIndex i → read_index (index_text i ++ (10 ∷ s)) ≡ (i, 10 ∷ s)
unfolding ascii
read_index_lem None s h = refl
read_index_lem (Some i) s h =
    ap (λ (b : Bool). cond b (None, drop 1 l) (as_at (read 0 l)))
    (never (eqb (get_or l 0 0) 45) (λ t. omega (arith, head_number i (10 ∷ s), eqb→eq (get_or l 0 0) 45 t)))
    ∙ ap as_at (read_number i 10 s h tt)
  where
    l : List ℕ
    l = number i ++ (10 ∷ s)

append_three : (a b c r : List ℕ) → (a ++ b ++ c) ++ r ≡ a ++ (b ++ (c ++ r))
append_three a b c r = simp append_assoc

read_reservation_lem : (k : Reservation) (s : List ℕ) → ShortReservation k → read_reservation (reservation_text k ++ (10 ∷ s)) ≡ (k, 10 ∷ s)
unfolding reservation_text ascii
read_reservation_lem (Held v i) s h =
    ap read_reservation (append_three (ascii " held ") (number v) (sp (index_text i)) (10 ∷ s))
    ∙ ap read_held (read_number v 32 (index_text i ++ (10 ∷ s)) h.0 tt)
    ∙ ap (as_held v) (read_index_lem i s h.1)
read_reservation_lem (FixedUse x) s h = ap read_reservation (append_assoc (ascii " use ") (number x) (10 ∷ s)) ∙ ap as_use (read_number x 10 s h tt)
read_reservation_lem FixedDef s h = refl

-- ---- entries

abbrev with_reservation : ℕ → ℕ → ℕ → Reservation × List ℕ → Entry × List ℕ
with_reservation u a b k = (record { unit = u; from = a; to = b; reservation = k.0 }, drop 1 k.1)

abbrev with_to : ℕ → ℕ → ℕ × List ℕ → Entry × List ℕ
with_to u a b = with_reservation u a b.0 (read_reservation b.1)

abbrev with_from : ℕ → ℕ × List ℕ → Entry × List ℕ
with_from u a = with_to u a.0 (read 0 (drop 1 a.1))

abbrev with_unit : ℕ × List ℕ → Entry × List ℕ
with_unit u = with_from u.0 (read 0 (drop 1 u.1))

abbrev read_entry : List ℕ → Entry × List ℕ
read_entry s = with_unit (read 0 (drop 2 s))

append_six : (a b c d k l r : List ℕ) → ((a ++ b ++ c ++ d ++ k) ++ l) ++ r ≡ a ++ (b ++ (c ++ (d ++ (k ++ (l ++ r)))))
append_six a b c d k l r = simp append_assoc

-- a reservation's text begins with a space
reservation_space : (k : Reservation) (s : List ℕ) → (r : List ℕ) × (reservation_text k ++ s ≡ 32 ∷ r)
unfolding reservation_text ascii
reservation_space (Held v i) s = (_, refl)
reservation_space (FixedUse x) s = (_, refl)
reservation_space FixedDef s = (_, refl)

read_to : (n : ℕ) (k : Reservation) (s : List ℕ) → n < 10 ^ 20 → read 0 (number n ++ (reservation_text k ++ s)) ≡ (n, reservation_text k ++ s)
read_to n k s h =
    let t = reservation_space k s in
    ap (λ (l : List ℕ). read 0 (number n ++ l)) t.1 ∙ read_number n 32 t.0 h tt ∙ ap {B = ℕ × List ℕ} (λ l. (n, l)) (sym t.1)

read_entry_lem : (e : Entry) (s : List ℕ) → Short e → read_entry (entry_line e ++ s) ≡ (e, s)
unfolding entry_line ascii
read_entry_lem e s h =
    ap read_entry (append_six (ascii "u ") (number e.unit) (sp (number e.from)) (sp (number e.to)) (reservation_text e.reservation) (10 ∷ []) s)
    ∙ ap with_unit (read_number e.unit 32 _ h.unit tt)
    ∙ ap (with_from e.unit) (read_number e.from 32 _ h.from tt)
    ∙ ap (with_to e.unit e.from) (read_to e.to e.reservation (10 ∷ s) h.to)
    ∙ ap (with_reservation e.unit e.from e.to) (read_reservation_lem e.reservation s h.reservation)

-- entries are equal where their printed lines are
pub same_line : (e f : Entry) → Short e → Short f → entry_line e ≡ entry_line f → e ≡ f
same_line e f a b q =
    ap (λ (p : Entry × List ℕ). p.0) (sym (read_entry_lem e [] a) ∙ ap (λ (l : List ℕ). read_entry (l ++ [])) q ∙ read_entry_lem f [] b)

-- ---- tables

line_starts : (e : Entry) (s : List ℕ) → entry_line e ++ s ≡ [] → ⊥
unfolding entry_line ascii
line_starts e s q = not_nothing q

pub same_lines : (s t : List Entry) → ((e : Entry) → e ∈ s → Short e) → ((e : Entry) → e ∈ t → Short e) → table_lines s ≡ table_lines t → s ≡ t
unfolding table_lines concat_map
same_lines [] [] a b q = refl
same_lines [] (e ∷ t) a b q = absurd (line_starts e (concat_map entry_line t) (sym q))
same_lines (e ∷ s) [] a b q = absurd (line_starts e (concat_map entry_line s) q)
same_lines (e ∷ s) (f ∷ t) a b q =
    let k =
    sym (read_entry_lem e (concat_map entry_line s) (a e (Memᴰ.head refl)))
    ∙ ap read_entry q
    ∙ read_entry_lem f (concat_map entry_line t) (b f (Memᴰ.head refl))
    in
    ap₂ {C = List Entry} (λ x l. x ∷ l) (ap (λ (p : Entry × List ℕ). p.0) k)
    (same_lines s t (λ x m. a x (Memᴰ.tail m)) (λ x m. b x (Memᴰ.tail m)) (ap (λ (p : Entry × List ℕ). p.1) k))
