-- How the table stands in lent numbers (document 01, "Where the Rust's forms give way": sorted entries in lent numbers; "Limits"). An entry is two
-- 64-bit numbers: the first sorts the table, so that it is searched by halves. What is past the last entry is decided too: the greatest number
-- sorts after every entry. Assumes nothing.
use Rattle.std.specs.Prelude.{ℕ, ◌+◌, ◌*◌, ◌^◌, ◌-◌, ◌/◌, ◌%◌, List, map, cond, ltb, eqb}
use Rattle.reg_matrix.specs.Lists.{concat_map, count, padded}
use Rattle.reg_matrix.specs.Table.{Table, fixed_uses}
use Rattle.reg_matrix.specs.declared.Entry.{Entry}
use Rattle.std.specs.Prelude.{Option, Some, None}
use Rattle.reg_matrix.specs.declared.Reservation.{Reservation}
use Rattle.reg_matrix.specs.declared.Reservation.TheVariants.{Held, FixedUse, FixedDef}

-- layout: 01, "Limits": 512 segments on at most 4 units each, and 512 fixed reservations
abbrev pub max_entries : ℕ
max_entries = 2560

-- layout: 01, "Limits": fixed reservations in all
abbrev pub max_fixed : ℕ
max_fixed = 512

-- layout: what stands past the last entry
abbrev pub greatest : ℕ
greatest = 2 ^ 64 - 1

-- layout: unit and end, as 01's "The printed sheet" sorts entries
abbrev pub end_word : Entry → ℕ
end_word e = e.unit * 2 ^ 32 + e.to

-- layout: a fixed index or none, below 2^16
abbrev pub index_word : Option ℕ → ℕ
index_word None = 0
index_word (Some i) = i + 1

-- layout: a def, a use of a value, or who holds it with its index
abbrev pub reservation_word : Reservation → ℕ
reservation_word FixedDef = 0
reservation_word (FixedUse x) = x + 1
reservation_word (Held v i) = (v + 2) * 2 ^ 16 + index_word i

-- layout: start and reservation
abbrev pub rest_word : Entry → ℕ
rest_word e = e.from * 2 ^ 32 + reservation_word e.reservation

-- layout: 01, "Where the Rust's forms give way": "sorted entries per unit in lent numbers", the first slice
unfoldable pub end_words : Table → List ℕ
end_words t = padded max_entries greatest (map end_word t)

-- layout: the second slice
unfoldable pub rest_words : Table → List ℕ
rest_words t = padded max_entries 0 (map rest_word t)

-- ---- the fixed uses of all units, by unit and start

-- layout: the value of a use
abbrev pub use_value : Reservation → ℕ
use_value (Held v i) = 0
use_value (FixedUse x) = x
use_value FixedDef = 0

-- layout: unit, start and value of a fixed use
abbrev pub use_word : Entry → ℕ
use_word e = e.unit * 2 ^ 48 + e.from * 2 ^ 16 + use_value e.reservation

-- layout: the slice of the fixed uses of all units
unfoldable pub use_words : List Entry → List ℕ
use_words fixed = padded max_fixed greatest (map use_word (concat_map (fixed_uses fixed) (count 0 64)))

-- ---- and back: what any two numbers stand for

-- layout: the index that a number stands for
abbrev pub index_from : ℕ → Option ℕ
index_from i = cond (eqb i 0) None (Some (i - 1))

-- layout: the reservation that a number stands for
unfoldable pub reservation_of : ℕ → Reservation
reservation_of w =
    cond (eqb w 0) FixedDef (cond (ltb w (2 ^ 17)) (FixedUse ((w - 1) % 2 ^ 16)) (Held (w / 2 ^ 16 - 2) (index_from (w % 2 ^ 16))))

-- layout: the entry that two numbers stand for
unfoldable pub entry_of : ℕ → ℕ → Entry
entry_of end rest =
    record { unit = end / 2 ^ 32 % 256; from = rest / 2 ^ 32; to = end % 2 ^ 32; reservation = reservation_of (rest % 2 ^ 32) }

-- layout: the fixed use that a number stands for; it ends at from + 2 (01, "The job")
unfoldable pub use_of : ℕ → Entry
use_of w =
    record { unit = w / 2 ^ 48 % 256; from = w / 2 ^ 16 % 2 ^ 32; to = (w / 2 ^ 16 % 2 ^ 32 + 2) % 2 ^ 32; reservation = FixedUse (w % 2 ^ 16) }
