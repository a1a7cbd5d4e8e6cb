-- Results read from lent words: how a virtual register stands, and the sheet's lines by a position that is a number. Assumes nothing.
use Rattle.std.specs.Prelude.{ℕ, ◌≡◌, List, [], ◌∷◌, Bool, cond, ◌||◌, ltb, leb, length, get_or, Option, Some, None, Result, Ok, Err}
use Rattle.std.proofs.lemmas.List.Edits.{sets}
use Rattle.reg_matrix.specs.Layout.{greatest}
use Rattle.listing.specs.declared.Listing.{Listing}
use Rattle.lines.specs.LineTexts.{Lent}
use Rattle.listing.specs.Walk.{Found, no_more, a_line, line_limit, found, printed_on, number_at, lines_from}
use Rattle.result_lines.specs.ResultTexts.{ending_in}
use Rattle.record_words.specs.Words.{record_in, records_in}
use Rattle.words.specs.Words.{words_short, header_in, place_in, place_number, standing_number}

-- 15 where a slice is short, 8 where v is no number, or how its record stands
unfoldable pub standing_found : List ℕ → List ℕ → ℕ → Result ℕ ℕ
standing_found head ws v =
    cond (words_short head ws) (Err 15) (cond (leb (header_in head).virt_regs v) (Err 8) (Ok (standing_number (record_in (get_or ws v 0)))))

-- the same as one number, which C reads
abbrev pub either : Result ℕ ℕ → ℕ
either (Ok n) = n
either (Err n) = n

unfoldable pub standing_answer : List ℕ → List ℕ → ℕ → ℕ
standing_answer head ws v = either (standing_found head ws v)

-- the position in the sheet of a run that answered so
unfoldable pub listing_in : List ℕ → List ℕ → ℕ → Listing
listing_in head answer n = record { ending = ending_in (get_or answer 0 0); dequeues = get_or answer 1 0; header = header_in head; place = place_in n }

-- the line's length and the position after it
abbrev pub next_words : Found → List ℕ
next_words no_more = 0 ∷ greatest ∷ []
next_words (a_line text p) = length text ∷ place_number p ∷ []

-- the same of the line that was stored, and the position after it
abbrev pub step_words : Option (ℕ × Listing) → List ℕ
step_words (Some (n, c)) = n ∷ place_number c.place ∷ []
step_words None = 0 ∷ greatest ∷ []

-- one of the slices is short
abbrev pub line_short : List ℕ → List ℕ → List ℕ → List ℕ → List ℕ → Bool
line_short head ws answer next line = words_short head ws || (ltb (length answer) 2 || (ltb (length next) 2 || ltb (length line) line_limit))

-- what the position finds: a line, or none
abbrev pub found_in : List ℕ → List ℕ → List ℕ → ℕ → Lent → Found
found_in head ws answer n l = found (listing_in head answer n) (record_in (get_or ws (number_at (place_in n)) 0)) l

-- the line that was found, and its words, or a refusal of what is short, which stores nothing
pub record LineCalled (head ws answer : List ℕ) (position : ℕ) (l : Lent) (line next line' next' : List ℕ) (n : ℕ) : Type 0 where
  pub answer_is : n ≡ cond (line_short head ws answer next line) 15 0
  pub line_is : line' ≡ cond (line_short head ws answer next line) line (printed_on line (found_in head ws answer position l))
  pub next_is : next' ≡ cond (line_short head ws answer next line) next (sets next 0 (next_words (found_in head ws answer position l)))

-- ---- the lines from a position on

abbrev pub lines_at : List ℕ → List ℕ → List ℕ → Lent → ℕ → List (List ℕ)
lines_at head ws answer l n = lines_from (listing_in head answer n) (records_in ws) l

-- what was found, and the lines from the position after it
abbrev pub lines_after : List ℕ → List ℕ → List ℕ → Lent → Found → List (List ℕ)
lines_after head ws answer l no_more = []
lines_after head ws answer l (a_line text p) = text ∷ lines_at head ws answer l (place_number p)
