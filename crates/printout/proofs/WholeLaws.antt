-- Lines that are stored one after another are together the printed sheet. Assumes nothing.
use Prim.Native.Nat.{ℕ, suc, ◌+◌, ◌≤◌, ◌<◌}
use native.Mathlib.Omega.{arith}
use native.Mathlib.Nat.{zero-add}
use mathlib.Core.Path.{◌≡◌, refl, sym, ap, ◌∙◌, subst}
use mathlib.Core.List.{List, [], ◌++◌}
use native.Mathlib.Numerals.{add-one}
use lib.ListN.{length, get_or, set, drop}
use lib.Seq.{sets, drop-cons, drop-length}
use Rattle.lent.specs.Parts.{part}
use Rattle.reg_matrix.specs.Lists.{concat_map}
use Rattle.reg_matrix.specs.Lines.{refused_line}
use Rattle.job.specs.Layout.{JobSlices}
use Rattle.allocator.specs.Layout.{StateBuffers}
use Rattle.lent.proofs.Laws.{sets_append}
use Rattle.listing.specs.declared.Listing.{Listing}
use Rattle.std.specs.Prelude.{Option, Some, None, Result, Ok, Err}
use Rattle.texts.specs.Texts.{Stored}
use Rattle.lines.specs.LineTexts.{Lent, lent}
use Rattle.listing.specs.Walk.{line_limit}
use Rattle.listing.proofs.LineLaws.{refused_room}
use Rattle.sheets.specs.Printing.{lines_lent, shown, LeftToPrint, Begun, NextLine}
use Rattle.sheets.proofs.CountLaws.{refused_part, Counted, count_start, count_end, line_front, line_size, count_room, count_more}
use Rattle.printout.specs.Whole.{Appended, lines_text, LinesPrinted, ShownPrinted, Printed}

-- ---- a text byte by byte: the rest from here is the whole

pub text_more : (s text : List ℕ) (at i : ℕ) → i < length text → sets (set s (at + i) (get_or text i 0)) (at + (i + 1)) (drop (i + 1) text) ≡ sets s (at + i) (drop i text)
text_more s text at i h =
    let e : at + (i + 1) ≡ suc (at + i) = omega arith in
    rw (drop-cons text i 0 h, e, add-one i)

pub text_end : (s text : List ℕ) (at i : ℕ) → length text ≤ i → i ≤ length text → sets s (at + i) (drop i text) ≡ s
text_end s text at i h k = let e : i ≡ length text = omega arith in rw (e, drop-length text)

-- ---- line by line: the rest from here is the whole

module _ (l : Lent) (words : List ℕ) (c₀ : Listing) (out₀ : List ℕ) where
  pub record PrintedTo (c : Listing) (out : List ℕ) (at : ℕ) : Type 0 where
    pub rest : sets out at (lines_text c l words) ≡ sets out₀ 0 (lines_text c₀ l words)
    pub counted : Counted l words c₀ c at
    pub kept : length out ≡ length out₀

  pub print_start : c₀.header.virt_regs < 65536 → PrintedTo c₀ out₀ 0
  print_start h = record { rest = refl; counted = count_start l words c₀ h; kept = refl }

  module _ (c : Listing) (out : List ℕ) (at : ℕ) (so : PrintedTo c out at) (s t : List ℕ) (long : line_limit ≤ length s) (same : length t ≡ length s) (r : Result (Option (ℕ × Listing)) ℕ) (d : NextLine c l words s t r) where
    -- nothing is left
    pub print_end : r ≡ Ok None → LinesPrinted c₀ l words out₀ out at
    unfolding concat_map
    print_end told =
        let none : lines_text c l words ≡ [] = ap (λ (ls : List (List ℕ)). concat_map (λ x. x) ls) (subst (LeftToPrint c l words t) told (d.left long)) in
        record { size = count_end l words c₀ c at so.counted s t long same r d told; stored = sym (ap (sets out at) none) ∙ so.rest }

    -- a lent line that is long enough is not refused
    pub not_refused : (n : ℕ) → r ≡ Err n → ⊥
    not_refused n told = subst (LeftToPrint c l words t) told (d.left long)

    module _ (k : ℕ) (after : Listing) (told : r ≡ Ok (Some (k, after))) (bytes : List ℕ) (e : bytes ≡ part 0 k t) where
      size_is : length bytes ≡ k
      size_is = ap (λ (x : List ℕ). length x) e ∙ line_size l words c₀ c at so.counted s t long same r d k after told

      pub print_room : at + length bytes < 4294967296
      print_room = omega (arith, size_is, count_room l words c₀ c at so.counted s t long same r d k after told)

      pub print_more : (out' : List ℕ) (at' : ℕ) → Appended out at bytes out' at' → length out' ≡ length out → PrintedTo after out' at'
      unfolding concat_map
      print_more out' at' p keeps =
          let y = lines_text after l words in
          let x = (subst (LeftToPrint c l words t) told (d.left long)).1 in
          let whole : bytes ++ y ≡ lines_text c l words =
          ap (λ (z : List ℕ). z ++ y) (e ∙ line_front l words c₀ c at so.counted s t long same r d k after told) ∙ sym (ap (λ (ls : List (List ℕ)). concat_map (λ x. x) ls) x) in
          let place : at + k ≡ at' = omega (arith, size_is, p.place) in
          record {
            rest =
                ap (λ (o : List ℕ). sets o at' y) p.line
                ∙ ap (λ (i : ℕ). sets (sets out at bytes) i y) p.place
                ∙ sym (sets_append out at bytes y)
                ∙ ap (sets out at) whole
                ∙ so.rest;
            counted = subst (Counted l words c₀ after) place (count_more l words c₀ c at so.counted s t long same r d k after told);
            kept = keeps ∙ so.kept;
          }

-- ---- what is to be printed

-- a refusal's line is short
pub refused_small :
    (m : ℕ) (s t : List ℕ) (k : ℕ)
    → line_limit ≤ length s
    → Stored s 0 (refused_line m) t k
    → (bytes : List ℕ)
    → bytes ≡ part 0 k t
    → 0 + length bytes < 4294967296
refused_small m s t k long stored bytes is =
    omega (arith, ap (λ (x : List ℕ). length x) (is ∙ refused_part m s t k long stored), refused_room m)

module _ (p : Result Listing ℕ) (l : Lent) (words out out' : List ℕ) (n : ℕ) where
  -- a refusal's line, from a lent line
  pub refused_printed :
      (m : ℕ)
      → p ≡ Err m
      → (s t : List ℕ) (k : ℕ)
      → line_limit ≤ length s
      → Stored s 0 (refused_line m) t k
      → (bytes : List ℕ)
      → bytes ≡ part 0 k t
      → Appended out 0 bytes out' n
      → ShownPrinted p l words out out' n
  unfolding shown
  refused_printed m told s t k long stored bytes is a =
      let e : bytes ≡ shown p l words = is ∙ refused_part m s t k long stored ∙ sym (ap (λ (x : Result Listing ℕ). shown x l words) told) in
      record { size = a.place ∙ zero-add (length bytes) ∙ ap (λ (x : List ℕ). length x) e; stored = a.line ∙ ap (sets out 0) e }

  pub lines_printed : (c : Listing) → p ≡ Ok c → LinesPrinted c l words out out' n → ShownPrinted p l words out out' n
  unfolding shown
  lines_printed c told k =
      let e : lines_text c l words ≡ shown p l words = sym (ap (λ (x : Result Listing ℕ). shown x l words) told) in
      record { size = k.size ∙ ap (λ (x : List ℕ). length x) e; stored = k.stored ∙ ap (sets out 0) e }

-- ---- the whole, whose lines are read from the job and the table where `begin` left them

pub sheet_printed :
    (bytes : List ℕ) (B : JobSlices) (S : StateBuffers) (W : List ℕ) (B' : JobSlices) (S' : StateBuffers) (W' out out' : List ℕ) (n : ℕ) (r : Result Listing ℕ)
    → Begun bytes B S W B' S' W' r
    → (maps ends rests : List ℕ)
    → maps ≡ B'.j64
    → ends ≡ S'.ends
    → rests ≡ S'.rests
    → ShownPrinted r (lent maps ends rests) W' out out' n
    → Printed bytes B S W B' S' W' out out' n
sheet_printed bytes B S W B' S' W' out out' n r d maps ends rests maps_are ends_are rests_are read =
    let same : lent maps ends rests ≡ lines_lent B' S' = rw (maps_are, ends_are, rests_are) refl in
    let k : ShownPrinted r (lines_lent B' S') W' out out' n = subst (λ (l : Lent). ShownPrinted r l W' out out' n) same read in
    record {
      answer = r;
      begun = d;
      size = k.size ∙ ap (λ (x : List ℕ). length x) d.shows;
      stored = k.stored ∙ ap (sets out 0) d.shows;
      printed_size = λ e. k.size ∙ ap (λ (x : List ℕ). length x) (d.prints e);
      printed_stored = λ e. k.stored ∙ ap (sets out 0) (d.prints e);
    }
