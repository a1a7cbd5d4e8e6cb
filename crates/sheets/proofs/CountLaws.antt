-- The bytes of a sheet's lines counted one line after another: those counted so far and those of the lines left are together all, and few. Assumes
-- nothing.
use Prim.Native.Nat.{ℕ, suc, ◌+◌, ◌-◌, ◌*◌, ◌≤◌, ◌<◌}
use native.Mathlib.Omega.{arith}
use native.Mathlib.Nat.{zero-add}
use mathlib.Core.Path.{◌≡◌, sym, ap, ◌∙◌, subst}
use mathlib.Core.List.{List, [], ◌++◌}
use lib.ListN.{length, take, length-append}
use lib.Seq.{length-sets, length-take-le}
use Rattle.lent.specs.Parts.{part}
use Rattle.lent.proofs.Laws.{inside}
use Rattle.reg_matrix.specs.Lists.{concat_map}
use Rattle.reg_matrix.specs.Lines.{refused_line}
use Rattle.listing.specs.declared.Listing.{Listing}
use Rattle.std.specs.Prelude.{Option, Some, None, Result, Ok}
use Rattle.texts.specs.Texts.{Stored}
use Rattle.texts.proofs.StoreLaws.{room_place}
use Rattle.lines.specs.LineTexts.{Lent}
use Rattle.listing.specs.Walk.{line_limit, lines_from}
use Rattle.listing.proofs.LineLaws.{refused_room, refused_front}
use Rattle.listing.proofs.FewLines.{lines_few}
use Rattle.record_words.specs.Words.{records_in}
use Rattle.sheets.specs.Printing.{LeftToPrint, NextLine}

-- the first n bytes of a line
pub front_part : (n : ℕ) (t : List ℕ) → n ≤ length t → part 0 n t ≡ take n t
front_part n t h = let e : n - 0 ≡ n = omega arith in inside 0 n t (omega arith) h ∙ ap (λ (k : ℕ). take k t) e

-- a refusal's line, stored in a line that is long enough
pub refused_part : (n : ℕ) (s t : List ℕ) (k : ℕ) → line_limit ≤ length s → Stored s 0 (refused_line n) t k → part 0 k t ≡ refused_line n
refused_part n s t k long p =
    let room : 0 + length (refused_line n) ≤ length s = omega (arith, refused_room n, long) in
    let size : k ≡ length (refused_line n) = room_place p room ∙ zero-add (length (refused_line n)) in
    let h : k ≤ length t = omega (arith, size, room, ap (λ (x : List ℕ). length x) p.line, length-sets s 0 (refused_line n)) in
    front_part k t h ∙ ap (λ (i : ℕ). take i t) size ∙ ap (take (length (refused_line n))) p.line ∙ refused_front s n long

module _ (l : Lent) (words : List ℕ) (c₀ : Listing) where
  abbrev lines_of : Listing → List (List ℕ)
  lines_of c = lines_from c (records_in words) l

  abbrev text_of : Listing → List ℕ
  text_of c = concat_map (λ x. x) (lines_of c)

  -- n bytes are counted up to the position c
  pub record Counted (c : Listing) (n : ℕ) : Type 0 where
    pub whole : n + length (text_of c) ≡ length (text_of c₀)
    pub small : n + 256 * length (lines_of c) ≤ 17920000

  pub count_start : c₀.header.virt_regs < 65536 → Counted c₀ 0
  count_start h = record { whole = omega arith; small = omega (arith, lines_few c₀ (records_in words) l h) }

  module _ (c : Listing) (n : ℕ) (so : Counted c n) (s t : List ℕ) (long : line_limit ≤ length s) (same : length t ≡ length s) (r : Result (Option (ℕ × Listing)) ℕ) (d : NextLine c l words s t r) where
    -- nothing is left
    pub count_end : r ≡ Ok None → n ≡ length (text_of c₀)
    unfolding concat_map
    count_end told =
        let none : text_of c ≡ [] = ap (λ (ls : List (List ℕ)). concat_map (λ x. x) ls) (subst (LeftToPrint c l words t) told (d.left long)) in
        omega (arith, so.whole, ap (λ (x : List ℕ). length x) none)

    module _ (k : ℕ) (after : Listing) (told : r ≡ Ok (Some (k, after))) where
      next_left : LeftToPrint c l words t (Ok (Some (k, after)))
      next_left = subst (LeftToPrint c l words t) told (d.left long)

      -- the next line lies in the lent one
      pub line_front : part 0 k t ≡ take k t
      line_front = front_part k t (omega (arith, next_left.0, same, long))

      pub line_size : length (part 0 k t) ≡ k
      line_size = ap (λ (x : List ℕ). length x) line_front ∙ length-take-le k t (omega (arith, next_left.0, same, long))

      -- the count stays small
      pub count_room : n + k < 4294967296
      count_room = omega (arith, next_left.0, so.small)

      pub count_more : Counted after (n + k)
      unfolding concat_map
      count_more =
          let e : text_of c ≡ take k t ++ text_of after = ap (λ (ls : List (List ℕ)). concat_map (λ x. x) ls) next_left.1 in
          let m : length (text_of c) ≡ k + length (text_of after) =
          ap (λ (x : List ℕ). length x) e ∙ length-append (take k t) (text_of after)
          ∙ ap (λ (i : ℕ). i + length (text_of after)) (sym (ap (λ (x : List ℕ). length x) line_front) ∙ line_size) in
          let f : length (lines_of c) ≡ suc (length (lines_of after)) = ap (λ (ls : List (List ℕ)). length ls) next_left.1 in
          record { whole = omega (arith, m, so.whole); small = omega (arith, f, next_left.0, so.small) }
