-- A record as a word (document 01, "Where the Rust's forms give way": `Assignment`), for callers that hold records in lent numbers. Assumes nothing.
use Rattle.std.specs.Prelude.{ℕ, ◌+◌, ◌*◌, ◌%◌, ◌/◌, ◌≡◌, List, map, cond, Float, get_or}
use Rattle.std.specs.Float.{binary32}
use Rattle.std.specs.Float.Ieee.{to_bits, ne}
use Rattle.reg_matrix.specs.Lists.{count}
use Rattle.job.specs.Model.{Plain}
use Rattle.allocator.specs.declared.Assignment.{Assignment}
use Rattle.allocator.specs.declared.Assignment.TheVariants.{Dead}
use Rattle.records.specs.Fields.{reg_in, record_weight, kind_of, record_by, weight_in}

-- ---- to a word

-- the bits of a weight, or 0 for what is no number
abbrev pub weight_bits : Float → ℕ
weight_bits w = cond (ne w w) 0 (to_bits binary32 w)

-- the three parts of a record in one word: what it is, from bit 8 on its register, from bit 16 on the bits of its weight
abbrev pub record_word : Assignment → ℕ
record_word a = weight_bits (record_weight a) * 65536 + reg_in a * 256 + kind_of a

-- ---- and back

-- every word is a record's
unfoldable pub record_in : ℕ → Assignment
record_in x = record_by (x % 256) (x / 256 % 256) (weight_in (x / 65536 % 4294967296))

-- the 512 records of these words; a missing word is 0
unfoldable pub records_in : List ℕ → List Assignment
records_in ws = map (λ v. record_in (get_or ws v 0)) (count 0 512)

-- the weights with which the numbers hold their registers, 0 where they hold none
unfoldable pub held_in : List ℕ → List Float
held_in ws = map record_weight (records_in ws)

-- ---- records that are the same when they are read again

-- its weight is no NaN and carries no sign, as on every state that calls reach
abbrev pub PlainRecord : Assignment → Type 0
PlainRecord a = Plain (record_weight a)

abbrev pub AllPlain : List Assignment → Type 0
AllPlain rs = (v : ℕ) → PlainRecord (get_or rs v Dead)

-- the words of these records, which read as them
pub record WordsOf (rs : List Assignment) (ws : List ℕ) : Type 0 where
  pub words_are : ws ≡ map record_word rs
  pub read_so : records_in ws ≡ rs
