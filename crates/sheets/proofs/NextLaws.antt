-- The next line of a sheet whose records stand in words. Assumes nothing.
use Prim.Native.Nat.{ℕ, suc, ◌≤◌, ◌<◌}
use native.Mathlib.Omega.{arith}
use mathlib.Core.Path.{◌≡◌, sym, ap, ◌∙◌, subst}
use mathlib.Core.List.{List}
use mathlib.Core.Bool.{Bool, cond}
use lib.ListN.{length, get_or}
use borrow.Author.Tests.{le-ltb}
use Rattle.allocator.specs.declared.Assignment.{Assignment}
use Rattle.listing.specs.declared.Place.{Place}
use Rattle.listing.specs.declared.Listing.{Listing}
use Rattle.std.specs.Prelude.{Option, Some, None, Result, Ok, Err}
use Rattle.lines.specs.LineTexts.{Lent}
use Rattle.listing.specs.Walk.{line_limit, Found, no_more, a_line, found, step_of, moved, AnsweredIfLong, number_at, record_at, lines_from}
use Rattle.listing.proofs.LineLaws.{number_small, Room, found_room, Told, next_told}
use Rattle.record_words.specs.Words.{record_in, records_in}
use Rattle.record_words.proofs.WordLaws.{record_in_lem}
use Rattle.sheets.specs.Printing.{LeftToPrint, NextLine}

-- the record that a position asks about is that of its number's word
record_asked : (words : List ℕ) (p : Place) → record_in (get_or words (number_at p) 0) ≡ record_at (records_in words) p
record_asked words p = sym (record_in_lem words (number_at p) (number_small p))

module _ (c : Listing) (l : Lent) (words s t : List ℕ) where
  -- the length of a line is within the lent line
  within : (f : Found) (n : ℕ) (after : Listing) → Room f → ◌≡◌ {A = Option (ℕ × Listing)} (Some (n, after)) (step_of c f) → n ≤ line_limit
  within no_more n after k e = absurd (let z : ◌≡◌ {A = ℕ} 0 1 = cc in omega arith)
  within (a_line text p) n after k e =
      let same : ◌≡◌ {A = ℕ × Listing} (n, after) (length text, moved c p) = cc in
      omega (arith, ap (λ (x : ℕ × Listing). x.0) same, k)

  told_left :
      (r : Result (Option (ℕ × Listing)) ℕ)
      → line_limit ≤ length s
      → AnsweredIfLong c (found c (record_at (records_in words) c.place) l) s t r
      → Told c (records_in words) l t r
      → LeftToPrint c l words t r
  told_left (Ok None) long a k = k
  told_left (Ok (Some (n, after))) long a k =
      let f = found c (record_at (records_in words) c.place) l in
      let k' : ◌≡◌ {A = Result (Option (ℕ × Listing)) ℕ} (Ok (Some (n, after))) (Ok (step_of c f)) = a.0 ∙ ap (λ (b : Bool). cond b (Err 15) (Ok (step_of c f))) (le-ltb (length s) line_limit long) in
      let e : ◌≡◌ {A = Option (ℕ × Listing)} (Some (n, after)) (step_of c f) = cc in
      (within f n after (found_room c (record_at (records_in words) c.place) l) e, k)
  told_left (Err n) long a k = absurd k

  pub next_line :
      (r : Result (Option (ℕ × Listing)) ℕ) (n w : ℕ) (a : Assignment)
      → n ≡ number_at c.place
      → w ≡ get_or words n 0
      → a ≡ record_in w
      → AnsweredIfLong c (found c a l) s t r
      → NextLine c l words s t r
  next_line r n w a e f g d =
      let k : AnsweredIfLong c (found c (record_in (get_or words (number_at c.place) 0)) l) s t r =
      subst (λ (x : Assignment). AnsweredIfLong c (found c x l) s t r) (g ∙ ap record_in f ∙ ap (λ (k : ℕ). record_in (get_or words k 0)) e) d in
      let m = subst (λ (x : Assignment). AnsweredIfLong c (found c x l) s t r) (record_asked words c.place) k in
      record { answered = k; left = λ long. told_left r long m (next_told c (records_in words) l s long t r m) }

  -- fewer lines are left after one
  pub next_fewer :
      (r : Result (Option (ℕ × Listing)) ℕ) (n : ℕ) (after : Listing)
      → NextLine c l words s t r
      → r ≡ Ok (Some (n, after))
      → line_limit ≤ length s
      → length (lines_from after (records_in words) l) < length (lines_from c (records_in words) l)
  next_fewer r n after d told long =
      let k : LeftToPrint c l words t (Ok (Some (n, after))) = subst (LeftToPrint c l words t) told (d.left long) in
      let e : length (lines_from c (records_in words) l) ≡ suc (length (lines_from after (records_in words) l)) = ap (λ (x : List (List ℕ)). length x) k.1 in
      omega (arith, e)
