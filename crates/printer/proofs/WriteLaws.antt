-- What was written of a sheet, by what its lines and its writes say. Assumes nothing.
use Prim.Native.Nat.{ℕ, ◌+◌, ◌≤◌, ◌<◌}
use native.Mathlib.Omega.{arith}
use mathlib.Core.Path.{◌≡◌, sym, ap, ◌∙◌, subst}
use mathlib.Core.List.{List}
use mathlib.Core.Bool.{Bool, true, false}
use lib.Dec.{T}
use lib.ListN.{length}
use Rattle.lent.specs.Parts.{part}
use Rattle.reg_matrix.specs.Lines.{refused_line}
use Rattle.reg_matrix.specs.Refusals.{short_buffer}
use Rattle.job.specs.Layout.{JobSlices}
use Rattle.allocator.specs.Layout.{StateBuffers}
use Rattle.allocator.specs.Sheet.{printed}
use Rattle.listing.specs.declared.Listing.{Listing}
use Rattle.std.specs.Prelude.{Option, Some, None, is_some, IfSome, Result, Ok, Err}
use Rattle.std.proofs.Common.{unwrap_or}
use Rattle.listing.specs.Walk.{line_limit}
use Rattle.texts.specs.Texts.{Stored}
use Rattle.lines.specs.LineTexts.{Lent}
use Rattle.sheets.specs.Printing.{sheet_limits, sheet_sizes, lines_lent, shown, Begun, NextLine}
use Rattle.sheets.proofs.CountLaws.{refused_part, Counted, count_end, line_size, count_room, count_more}
use Rattle.printer.specs.declared.Written.{Written}
use Rattle.printer.specs.Writing.{WrittenOf, lines_size}

module _ {n b : ℕ} where
  pub all_written : b ≡ n → WrittenOf n (record { whole = true; bytes = b })
  all_written e = record { all = λ _. e; never_more = omega arith }

  pub part_written : b ≤ n → WrittenOf n (record { whole = false; bytes = b })
  part_written h = record { all = λ z. absurd (subst (λ (x : Bool). T x) (sym z) tt); never_more = h }

-- one write of n bytes
pub front_written : (n : ℕ) (written : Option ℕ) → IfSome written (λ b. b ≡ n) → WrittenOf n (record { whole = is_some written; bytes = unwrap_or written 0 })
front_written n None u = part_written (omega arith)
front_written n (Some b) u = all_written u

-- ---- line by line: n bytes are written up to the position c

module _ (l : Lent) (words : List ℕ) (c₀ c : Listing) (n : ℕ) (so : Counted l words c₀ c n) where
  pub lines_short : WrittenOf (lines_size c₀ l words) (record { whole = false; bytes = n })
  lines_short = part_written (omega (arith, so.whole))

  module _ (s t : List ℕ) (long : line_limit ≤ length s) (same : length t ≡ length s) (r : Result (Option (ℕ × Listing)) ℕ) (d : NextLine c l words s t r) where
    pub lines_end : r ≡ Ok None → WrittenOf (lines_size c₀ l words) (record { whole = true; bytes = n })
    lines_end told = all_written (count_end l words c₀ c n so s t long same r d told)

    -- the next line has k bytes, and b are written
    module _ (k : ℕ) (after : Listing) (told : r ≡ Ok (Some (k, after))) (b : ℕ) (u : b ≡ length (part 0 k t)) where
      pub line_room : n + b < 4294967296
      line_room = omega (arith, u, line_size l words c₀ c n so s t long same r d k after told, count_room l words c₀ c n so s t long same r d k after told)

      pub line_written : Counted l words c₀ after (n + b)
      line_written =
          let size : b ≡ k = u ∙ line_size l words c₀ c n so s t long same r d k after told in
          subst (λ (i : ℕ). Counted l words c₀ after (n + i)) (sym size) (count_more l words c₀ c n so s t long same r d k after told)

-- ---- what is to be printed

module _ (p : Result Listing ℕ) (l : Lent) (words : List ℕ) (w : Written) where
  -- a refusal's line, in a lent line
  pub refusal_written :
      (m : ℕ)
      → p ≡ Err m
      → (s t : List ℕ) (k : ℕ)
      → line_limit ≤ length s
      → Stored s 0 (refused_line m) t k
      → WrittenOf (length (part 0 k t)) w
      → WrittenOf (length (shown p l words)) w
  unfolding shown
  refusal_written m told s t k long stored =
      let e : part 0 k t ≡ refused_line m = refused_part m s t k long stored in
      subst (λ (x : List ℕ). WrittenOf (length x) w) (e ∙ sym (ap (λ (x : Result Listing ℕ). shown x l words) told))

  pub lines_written : (c : Listing) → p ≡ Ok c → WrittenOf (lines_size c l words) w → WrittenOf (length (shown p l words)) w
  unfolding shown
  lines_written c told = subst (λ (x : List ℕ). WrittenOf (length x) w) (sym (ap (λ (x : Result Listing ℕ). shown x l words) told))

-- ---- the whole, of any bytes, with no short buffer

pub sheet_written :
    (bytes : List ℕ) (B : JobSlices) (S : StateBuffers) (W : List ℕ) (B' : JobSlices) (S' : StateBuffers) (W' : List ℕ) (r : Result Listing ℕ)
    → Begun bytes B S W B' S' W' r
    → short_buffer sheet_limits (sheet_sizes B S W) ≡ false
    → (w : Written)
    → WrittenOf (length (shown r (lines_lent B' S') W')) w
    → WrittenOf (length (printed bytes)) w
sheet_written bytes B S W B' S' W' r d lends w = subst (λ (x : List ℕ). WrittenOf (length x) w) (d.prints lends)
