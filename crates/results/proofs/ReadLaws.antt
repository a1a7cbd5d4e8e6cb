-- Results read from lent words. Assumes nothing.
use Prim.Native.Nat.{ℕ, ◌≤◌}
use mathlib.Core.Path.{◌≡◌, refl, sym, ap, ◌∙◌}
use mathlib.Core.List.{List}
use mathlib.Core.Bool.{Bool, true, false, cond, ◌||◌}
use lib.Dec.{ltb}
use lib.ListN.{length, get_or}
use lib.Seq.{sets}
use borrow.Author.Tests.{le-ltb}
use Rattle.allocator.specs.declared.Assignment.{Assignment}
use Rattle.listing.specs.declared.Listing.{Listing}
use Rattle.std.specs.Prelude.{Option, Result, Ok, Err}
use Rattle.lines.specs.LineTexts.{Lent}
use Rattle.listing.specs.Walk.{Found, no_more, a_line, line_limit, found, step_of, printed_on, AnsweredIfLong, number_at}
use Rattle.record_words.specs.Words.{record_in}
use Rattle.words.specs.Words.{words_short, place_in}
use Rattle.results.specs.Reading.{listing_in, next_words, step_words, line_short, found_in, LineCalled}

pub place_is : (head answer : List ℕ) (n : ℕ) → (listing_in head answer n).place ≡ place_in n
unfolding listing_in
place_is head answer n = refl

words_are : (c : Listing) (f : Found) → step_words (step_of c f) ≡ next_words f
words_are c no_more = refl
words_are c (a_line text p) = refl

module _ (head ws answer : List ℕ) (position : ℕ) (l : Lent) (line next : List ℕ) where
  short_is :
      (a b c : Bool) → words_short head ws ≡ a → ltb (length answer) 2 ≡ b → ltb (length next) 2 ≡ c
      → line_short head ws answer next line ≡ (a || (b || (c || ltb (length line) line_limit)))
  short_is a b c ea eb ec = rw (ea, eb, ec) refl

  module _ (h₁ : words_short head ws ≡ false) (h₂ : 2 ≤ length answer) (h₃ : 2 ≤ length next) (c : Listing) (k x : ℕ) (a : Assignment) (line' : List ℕ) where
    found_same : c ≡ listing_in head answer position → k ≡ number_at c.place → x ≡ get_or ws k 0 → a ≡ record_in x → found c a l ≡ found_in head ws answer position l
    found_same ec ek ex ea =
        ap (λ (y : Assignment). found c y l) (ea ∙ ap record_in (ex ∙ ap (λ (i : ℕ). get_or ws i 0) (ek ∙ ap (λ (y : Listing). number_at y.place) ec ∙ ap number_at (place_is head answer position))))
        ∙ ap (λ (y : Listing). found y (record_in (get_or ws (number_at (place_in position)) 0)) l) ec

    short : line_short head ws answer next line ≡ ltb (length line) line_limit
    short = short_is false false false h₁ (le-ltb _ _ h₂) (le-ltb _ _ h₃)

    -- a lent line that is long enough
    pub line_called :
        (next' : List ℕ) (o : Option (ℕ × Listing))
        → c ≡ listing_in head answer position
        → k ≡ number_at c.place
        → x ≡ get_or ws k 0
        → a ≡ record_in x
        → AnsweredIfLong c (found c a l) line line' (Ok o)
        → next' ≡ sets next 0 (step_words o)
        → LineCalled head ws answer position l line next line' next' 0
    line_called next' o ec ek ex ea an st = go (ltb (length line) line_limit) refl
      where
        same : found c a l ≡ found_in head ws answer position l
        same = found_same ec ek ex ea

        go : (b : Bool) → ltb (length line) line_limit ≡ b → LineCalled head ws answer position l line next line' next' 0
        go true e =
            let r : ◌≡◌ {A = Result (Option (ℕ × Listing)) ℕ} (Ok o) (Err 15) = an.0 ∙ rw e refl in
            absurd (cc)
        go false e =
            let s = short ∙ e in
            let r : ◌≡◌ {A = Result (Option (ℕ × Listing)) ℕ} (Ok o) (Ok (step_of c (found c a l))) = an.0 ∙ rw e refl in
            let q : o ≡ step_of c (found c a l) = cc in
            record {
              answer_is = rw s refl;
              line_is =
                  an.1
                  ∙ ap (λ (b : Bool). cond b line (printed_on line (found c a l))) (sym short)
                  ∙ ap (λ (f : Found). cond (line_short head ws answer next line) line (printed_on line f)) same;
              next_is = st ∙ ap (λ y. sets next 0 (step_words y)) q ∙ ap (sets next 0) (words_are c (found c a l)) ∙ rw s (ap (λ (f : Found). sets next 0 (next_words f)) same);
            }
