-- The spare question on lent numbers, in the shape of the code: u is a unit. The law free_stands ties it to Questions.antt. Assumes nothing.
use Rattle.std.specs.Prelude.{ℕ, ◌+◌, ◌*◌, ◌/◌, ◌^◌, Bool, not, ◌&&◌, ltb, leb, eqb, get_or}
use Rattle.reg_matrix.specs.Layout.{max_entries}
use Rattle.reg_matrix.specs.declared.ValueSegment.{ValueSegment}
use Rattle.table_words.specs.Search.{place_of}
use Rattle.entries.specs.Moves.{Words}

-- the first entry of the unit that ends past `from`, if there is one, starts past `to`
unfoldable pub free_at : ℕ → ℕ → ℕ → Words → Bool
free_at u from to w =
    let place = place_of max_entries w.ends (u * 2 ^ 32 + from + 1) in
    not (ltb place max_entries && (eqb (get_or w.ends place 0 / 2 ^ 32) u && leb (get_or w.rests place 0 / 2 ^ 32) to))

abbrev pub range : ℕ → ℕ → ValueSegment
range from to = record { from = from; to = to; value = 0 }
