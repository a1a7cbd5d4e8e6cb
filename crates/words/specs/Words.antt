-- What other crates pass by value, in lent words and in numbers: a job's header, a place in the sheet, how a record stands.
-- Assumes nothing.
use Rattle.std.specs.Prelude.{ℕ, ◌+◌, ◌-◌, ◌%◌, ◌^◌, List, [], ◌∷◌, ◌++◌, Bool, cond, ◌||◌, eqb, ltb, length, get_or}
use Rattle.job.specs.declared.JobHeader.{JobHeader}
use Rattle.std.specs.Prelude.{Option, Some, None}
use Rattle.reg_matrix.specs.Layout.{max_entries, greatest}
use Rattle.allocator.specs.declared.Assignment.{Assignment}
use Rattle.allocator.specs.declared.Assignment.TheVariants.{Assigned, Unassigned, Dead}
use Rattle.listing.specs.declared.Place.{Place}
use Rattle.listing.specs.declared.Place.TheVariants.{Head, VirtReg, Entry, End}

-- ---- a job's header

-- layout: the words that a header takes
abbrev pub header_limit : ℕ
header_limit = 8

-- layout: whether there is a probe range, and its points
abbrev pub probe_words : Option (ℕ × ℕ) → List ℕ
probe_words None = 0 ∷ 0 ∷ 0 ∷ []
probe_words (Some (from, to)) = 1 ∷ from ∷ to ∷ []

-- layout: registers, classes, virtual registers, budget, the probe range; the last word is 0
unfoldable pub header_words : JobHeader → List ℕ
header_words h = h.regs ∷ h.classes ∷ h.virt_regs ∷ h.budget ∷ (probe_words h.probe ++ (0 ∷ []))

-- layout: read back, from any words: of each the low bits that its field has room for
unfoldable pub probe_in : ℕ → ℕ → ℕ → Option (ℕ × ℕ)
probe_in has from to = cond (eqb has 0) None (Some (from % 2 ^ 32, to % 2 ^ 32))

unfoldable pub header_in : List ℕ → JobHeader
header_in ws =
    record {
      regs = get_or ws 0 0 % 2 ^ 8;
      classes = get_or ws 1 0 % 2 ^ 8;
      virt_regs = get_or ws 2 0 % 2 ^ 16;
      probe = probe_in (get_or ws 4 0) (get_or ws 5 0) (get_or ws 6 0);
      budget = get_or ws 3 0 % 2 ^ 32;
    }

-- ---- what only firmware lends

-- layout: the words that the records take
abbrev pub records_limit : ℕ
records_limit = 512

-- the header or the records are short
abbrev pub words_short : List ℕ → List ℕ → Bool
words_short head ws = ltb (length head) header_limit || ltb (length ws) records_limit

-- ---- numbers

-- the position of a place in the sheet; past the last entry there is none but the end
abbrev pub place_number : Place → ℕ
place_number Head = 0
place_number (VirtReg v) = 1 + v
place_number (Entry i) = cond (ltb i (max_entries + 1)) (65537 + i) greatest
place_number End = greatest

-- the place of a position, whatever number it is
unfoldable pub place_in : ℕ → Place
place_in n = cond (eqb n 0) Head (cond (ltb n 65537) (VirtReg (n - 1)) (cond (eqb n greatest) End (Entry (n - 65537))))

-- how a record stands: it waits, is left over, or holds a register
abbrev pub standing_number : Assignment → ℕ
standing_number (Assigned f r w) = 256 + r
standing_number (Unassigned f) = 0
standing_number Dead = 1
