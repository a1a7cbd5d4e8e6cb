-- The walk gives the lines one by one: from a position on they are the line that it finds there and those from the next one; and each has room in a
-- lent line of 256 bytes, of which it is the front. Assumes nothing.
use Prim.Native.Nat.{ℕ, zero, suc, ◌+◌, ◌-◌, ◌*◌, ◌≤◌, ◌<◌}
use native.Mathlib.Omega.{arith}
use native.Mathlib.Nat.{sub-zero}
use native.Mathlib.Decide.{dec_lt}
use mathlib.Core.Path.{◌≡◌, refl, sym, ap, ◌∙◌, subst}
use mathlib.Core.List.{List, [], ◌∷◌, ◌++◌}
use mathlib.Core.Bool.{Bool, true, false, cond}
use lib.Dec.{ltb}
use lib.ListN.{length, get_or, set, take, drop, length-append, length-set, take-append-drop}
use lib.Seq.{sets, sets-eq, take-append_seam, set-append_left, length-take-le}
use borrow.Author.Tests.{lt-ltb, le-ltb, ltb-true}
use Rattle.reg_matrix.specs.Lists.{ascii, concat_map, filter, count, keep}
use Rattle.reg_matrix.specs.Lines.{number, sp, refused_line, index_text, reservation_text, entry_line}
use Rattle.reg_matrix.specs.Layout.{max_entries, entry_of}
use Rattle.reg_matrix.specs.declared.Entry.{Entry}
use Rattle.std.specs.Prelude.{Option, Some, None, Result, Ok, Err}
use Rattle.reg_matrix.specs.declared.Reservation.{Reservation}
use Rattle.reg_matrix.specs.declared.Reservation.TheVariants.{Held, FixedUse, FixedDef}
use Rattle.allocator.specs.declared.Assignment.{Assignment}
use Rattle.allocator.specs.declared.Assignment.TheVariants.{Assigned, Unassigned, Dead}
use Rattle.allocator.specs.declared.Ending.{Ending}
use Rattle.allocator.specs.declared.Ending.TheVariants.{Done, Spent, TooMany}
use Rattle.allocator.specs.Sheet.{end_word, end_line, standing}
use Rattle.listing.specs.declared.Place.{Place}
use Rattle.listing.specs.declared.Place.TheVariants.{Head, VirtReg, Entry as EntryAt, End}
use Rattle.listing.specs.declared.Listing.{Listing}
use Rattle.texts.proofs.Digits.{number_length, number_short}
use Rattle.lines.specs.LineTexts.{Lent, is_spare, units_text, spare_text}
use Rattle.result_lines.specs.ResultTexts.{standing_text}
use Rattle.listing.specs.Walk.{number_at, line_limit, Found, no_more, a_line, is_entry, entry_at, spare_found, entry_found, virt_reg_found, found_at, found, moved, step_of, printed_on, Answered, AnsweredIfLong, record_at, spare_lines, entry_lines, virt_reg_lines, lines_at, lines_from, lines_of}

-- the number whose record a position asks for
pub number_small : (p : Place) → number_at p < 512
number_small Head = omega arith
number_small (VirtReg v) = go (ltb v 512) refl
  where
    go : (b : Bool) → ltb v 512 ≡ b → cond b v 0 < 512
    go true e = ltb-true v 512 e
    go false e = omega arith
number_small (EntryAt i) = omega arith
number_small End = omega arith

-- ---- one by one

module _ (c : Listing) (rs : List Assignment) (l : Lent) where
  spares : (p : Option (ℕ × ℕ)) (n : ℕ) → spare_lines p n l ≡ lines_of c rs l (spare_found p n l)
  unfolding lines_from
  spares None n = refl
  spares (Some (from, to)) n = refl

  entry_or_spares :
      (i : ℕ) (b : Bool)
      → cond b (entry_at l i ∷ entry_lines (max_entries - (i + 1)) (i + 1) c.header l) (spare_lines c.header.probe c.header.regs l)
      ≡ lines_of c rs l (cond b (a_line (entry_at l i) (EntryAt (i + 1))) (spare_found c.header.probe c.header.regs l))
  unfolding lines_from
  entry_or_spares i true = refl
  entry_or_spares i false = spares c.header.probe c.header.regs

  entries : (i : ℕ) → entry_lines (max_entries - i) i c.header l ≡ lines_of c rs l (entry_found i c.header l)
  unfolding entry_found entry_lines
  entries i = go (dec_lt i max_entries)
    where
      go : Dec (i < max_entries) → entry_lines (max_entries - i) i c.header l ≡ lines_of c rs l (entry_found i c.header l)
      go (yes h) = let e : max_entries - i ≡ suc (max_entries - (i + 1)) = omega arith in rw e (entry_or_spares i (is_entry l.ends i))
      go (no h) =
          let e : max_entries - i ≡ 0 = omega arith in
          rw (e, le-ltb i max_entries (omega arith)) (spares c.header.probe c.header.regs)

  virt_regs : (v : ℕ) → virt_reg_lines (c.header.virt_regs - v) v rs c.header l ≡ lines_of c rs l (virt_reg_found v (record_at rs (VirtReg v)) c.header l)
  unfolding virt_reg_found virt_reg_lines lines_from
  virt_regs v = go (dec_lt v n)
    where
      n : ℕ
      n = c.header.virt_regs

      go : Dec (v < n) → virt_reg_lines (n - v) v rs c.header l ≡ lines_of c rs l (virt_reg_found v (record_at rs (VirtReg v)) c.header l)
      go (yes h) = let e : n - v ≡ suc (n - (v + 1)) = omega arith in rw (e, lt-ltb v n h)
      go (no h) = let e : n - v ≡ 0 = omega arith in rw (e, le-ltb v n (omega arith)) (entries 0)

  lines_at_lem : (p : Place) → lines_at p c rs l ≡ lines_of c rs l (found_at p c (record_at rs p) l)
  unfolding lines_from
  lines_at_lem Head = ap (λ (n : ℕ). end_line c.ending c.dequeues ∷ virt_reg_lines n 0 rs c.header l) (sym (sub-zero c.header.virt_regs))
  lines_at_lem (VirtReg v) = virt_regs v
  lines_at_lem (EntryAt i) = entries i
  lines_at_lem End = refl

  -- the lines from a position on are the one that is found there and those from the position after it
  pub lines_told : lines_from c rs l ≡ lines_of c rs l (found c (record_at rs c.place) l)
  unfolding lines_from found
  lines_told = lines_at_lem c.place

-- ---- room

-- a text that has room is the front of the line that it was stored in
pub front : (s text : List ℕ) → length text ≤ length s → take (length text) (sets s 0 text) ≡ text
front s text h =
    ap (take (length text)) (sets-eq text s 0 (omega (arith, h))) ∙ take-append_seam text (drop (0 + length text) s)

most : (x y : List ℕ) (a b : ℕ) → length x ≤ a → length y ≤ b → length (x ++ y) ≤ a + b
most x y a b h k = omega (arith, h, k, length-append x y)

spaced_most : (n : ℕ) → length (sp (number n)) ≤ 21
spaced_most n = omega (arith, number_length n)

-- a line of 256 bytes has room for a refusal's line, which is then its front
pub refused_room : (n : ℕ) → length (refused_line n) ≤ line_limit
unfolding ascii
refused_room n =
    omega (arith, most (ascii "refused " ++ number n) (10 ∷ []) 28 1 (most (ascii "refused ") (number n) 8 20 (omega arith) (number_length n)) (omega arith))

pub refused_front : (s : List ℕ) (n : ℕ) → line_limit ≤ length s → take (length (refused_line n)) (sets s 0 (refused_line n)) ≡ refused_line n
refused_front s n h = front s (refused_line n) (omega (arith, h, refused_room n))

pub end_room : (w : Ending) (n : ℕ) → length (end_line w n) ≤ line_limit
unfolding ascii
end_room w n =
    omega (
      arith,
      most (ascii "end " ++ end_word w ++ sp (number n)) (10 ∷ []) 32 1
          (most (ascii "end " ++ end_word w) (sp (number n)) 11 21 (most (ascii "end ") (end_word w) 4 7 (omega arith) (word w)) (spaced_most n)) (omega arith),
    )
  where
    word : (w : Ending) → length (end_word w) ≤ 7
    word Done = omega arith
    word Spent = omega arith
    word TooMany = omega arith

pub standing_room : (v : ℕ) (a : Assignment) → length (standing_text v a) ≤ line_limit
unfolding ascii standing_text
standing_room v a =
    omega (
      arith,
      most (ascii "v " ++ number v ++ standing a) (10 ∷ []) 47 1
          (most (ascii "v " ++ number v) (standing a) 22 25 (most (ascii "v ") (number v) 2 20 (omega arith) (number_length v)) (stands a)) (omega arith),
    )
  where
    stands : (a : Assignment) → length (standing a) ≤ 25
    stands (Assigned f r w) = omega (arith, number_length r)
    stands (Unassigned f) = omega arith
    stands Dead = omega arith

pub entry_room : (e : Entry) → length (entry_line e) ≤ line_limit
unfolding ascii entry_line reservation_text
entry_room e =
    let a = most (ascii "u ") (number e.unit) 2 20 (omega arith) (number_length e.unit) in
    let b = most (ascii "u " ++ number e.unit) (sp (number e.from)) 22 21 a (spaced_most e.from) in
    let c = most (ascii "u " ++ number e.unit ++ sp (number e.from)) (sp (number e.to)) 43 21 b (spaced_most e.to) in
    let d = most (ascii "u " ++ number e.unit ++ sp (number e.from) ++ sp (number e.to)) (reservation_text e.reservation) 64 47 c (held e.reservation) in
    omega (arith, most (ascii "u " ++ number e.unit ++ sp (number e.from) ++ sp (number e.to) ++ reservation_text e.reservation) (10 ∷ []) 111 1 d (omega arith))
  where
    index : (i : Option ℕ) → length (sp (index_text i)) ≤ 21
    index None = omega arith
    index (Some i) = spaced_most i

    held : (r : Reservation) → length (reservation_text r) ≤ 47
    held (Held v i) = most (ascii " held " ++ number v) (sp (index_text i)) 26 21 (most (ascii " held ") (number v) 6 20 (omega arith) (number_length v)) (index i)
    held (FixedUse x) = omega (arith, most (ascii " use ") (number x) 5 20 (omega arith) (number_length x))
    held FixedDef = omega arith

units_most : (p : ℕ → Bool) (n u : ℕ) → u + n ≤ 64 → length (concat_map (λ u. sp (number u)) (filter p (count u n))) ≤ 3 * n
unfolding concat_map filter count
units_most p zero u h = omega arith
units_most p (suc n) u h = go (p u) (units_most p n (suc u) (omega arith))
  where
    go : (b : Bool)
        → length (concat_map (λ u. sp (number u)) (filter p (count (suc u) n))) ≤ 3 * n
        → length (concat_map (λ u. sp (number u)) (keep b u (filter p (count (suc u) n)))) ≤ 3 * suc n
    go true k =
        omega (
          arith,
          most (sp (number u)) (concat_map (λ u. sp (number u)) (filter p (count (suc u) n))) 3 (3 * n) (omega (arith, number_short u (omega arith))) k,
        )
    go false k = omega (arith, k)

pub spare_room : (l : Lent) (n from to : ℕ) → length (spare_text l n from to) ≤ line_limit
unfolding ascii spare_text units_text
spare_room l n from to =
    let units = concat_map (λ u. sp (number u)) (filter (is_spare l n from to) (count 0 64)) in
    omega (
      arith,
      most (ascii "spare" ++ units) (10 ∷ []) 197 1
          (most (ascii "spare") units 5 192 (omega arith) (units_most (is_spare l n from to) 64 0 (omega arith))) (omega arith),
    )

-- what was found has room in a line of 256 bytes
abbrev pub Room : Found → Type 0
Room no_more = Unit {0}
Room (a_line text p) = length text ≤ line_limit

module _ (c : Listing) (a : Assignment) (l : Lent) where
  room_spare : (p : Option (ℕ × ℕ)) (n : ℕ) → Room (spare_found p n l)
  room_spare None n = tt
  room_spare (Some (from, to)) n = spare_room l n from to

  room_entry : (i : ℕ) → Room (entry_found i c.header l)
  unfolding entry_found
  room_entry i = go (is_entry l.ends i)
    where
      go : (b : Bool) → Room (cond b (a_line (entry_at l i) (EntryAt (i + 1))) (spare_found c.header.probe c.header.regs l))
      go true = entry_room (entry_of (get_or l.ends i 0) (get_or l.rests i 0))
      go false = room_spare c.header.probe c.header.regs

  room_at : (p : Place) → Room (found_at p c a l)
  unfolding virt_reg_found
  room_at Head = end_room c.ending c.dequeues
  room_at (VirtReg v) = go (ltb v c.header.virt_regs)
    where
      go : (b : Bool) → Room (cond b (a_line (standing_text v a) (VirtReg (v + 1))) (entry_found 0 c.header l))
      go true = standing_room v a
      go false = room_entry 0
  room_at (EntryAt i) = room_entry i
  room_at End = tt

  -- every line has room
  pub found_room : Room (found c a l)
  unfolding found
  found_room = room_at c.place

-- ---- what `next` answers, on a lent line that is long enough

-- what is left to print, by the answer: nothing; or the front of the lent line, and then the lines from the next position
abbrev pub Told : Listing → List Assignment → Lent → List ℕ → Result (Option (ℕ × Listing)) ℕ → Type 0
Told c rs l t (Ok None) = lines_from c rs l ≡ []
Told c rs l t (Ok (Some (n, next))) = lines_from c rs l ≡ take n t ∷ lines_from next rs l
Told c rs l t (Err n) = ⊥

module _ (c : Listing) (rs : List Assignment) (l : Lent) (s : List ℕ) (long : line_limit ≤ length s) where
  found_told : (f : Found) → Room f → lines_from c rs l ≡ lines_of c rs l f → Told c rs l (printed_on s f) (Ok (step_of c f))
  found_told no_more k e = e
  found_told (a_line text p) k e = e ∙ ap (λ (x : List ℕ). x ∷ lines_from (moved c p) rs l) (sym (front s text (omega (arith, k, long))))

  -- with the record that the position asks about
  pub next_told :
      (t : List ℕ) (r : Result (Option (ℕ × Listing)) ℕ)
      → AnsweredIfLong c (found c (record_at rs c.place) l) s t r
      → Told c rs l t r
  next_told t r a =
      let f = found c (record_at rs c.place) l in
      let b = le-ltb (length s) line_limit long in
      let p' : r ≡ Ok (step_of c f) = a.0 ∙ ap (λ (b : Bool). cond b (Err 15) (Ok (step_of c f))) b in
      let q' : t ≡ printed_on s f = a.1 ∙ ap (λ (b : Bool). cond b s (printed_on s f)) b in
      subst (λ (x : Result (Option (ℕ × Listing)) ℕ). Told c rs l t x) (sym p')
      (subst (λ (x : List ℕ). Told c rs l x (Ok (step_of c f))) (sym q') (found_told f (found_room c (record_at rs c.place) l) (lines_told c rs l)))

-- ---- a longer line, of which the first 256 bytes are lent as an array

set_front : (xs t : List ℕ) (i : ℕ) (ys : List ℕ) → i + length ys ≤ length xs → sets (xs ++ t) i ys ≡ sets xs i ys ++ t
set_front xs t i [] h = refl
set_front xs t i (y ∷ ys) h =
    ap (λ (l : List ℕ). sets l (suc i) ys) (set-append_left xs t i y (omega (arith, h)))
    ∙ set_front (set xs i y) t (suc i) ys (omega (arith, h, length-set xs i y))

front_printed :
    (s : List ℕ) (f : Found)
    → Room f
    → line_limit ≤ length s
    → printed_on (take line_limit s) f ++ drop line_limit s ≡ printed_on s f
front_printed s no_more k long = take-append-drop line_limit s
front_printed s (a_line text p) k long =
    sym (set_front (take line_limit s) (drop line_limit s) 0 text (omega (arith, k, length-take-le line_limit s long)))
    ∙ ap (λ (l : List ℕ). sets l 0 text) (take-append-drop line_limit s)

-- what is answered of the first 256 bytes is answered of the line, which changes there alone
pub front_answered :
    (c : Listing) (a : Assignment) (l : Lent) (s : List ℕ) {w t u : List ℕ} {r : Option (ℕ × Listing)}
    → line_limit ≤ length s
    → w ≡ take line_limit s
    → Answered c (found c a l) w u r
    → t ≡ u ++ drop line_limit s
    → AnsweredIfLong c (found c a l) s t (Ok r)
front_answered c a l s {w} {t} {u} {r} long e p q =
    rw (le-ltb (length s) line_limit long) (
      ap (λ (r : Option (ℕ × Listing)). Ok r) p.0,
      q ∙ ap (λ (u : List ℕ). u ++ drop line_limit s) (p.1 ∙ ap (λ (w : List ℕ). printed_on w (found c a l)) e) ∙ front_printed s (found c a l) (found_room c a l) long,
    )
