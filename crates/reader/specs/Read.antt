-- What the code's readers promise, in the terms of the parsers of Load.antt: a position stands for the bytes that follow it, and what was read
-- is stored in lent slices from some place on, where there is room. Assumes nothing.
use Rattle.std.specs.Prelude.{ℕ, ◌+◌, ◌*◌, ◌≤◌, ◌<◌, ◌^◌, ◌≡◌, List, [], ◌∷◌, map, Bool, drop, length, get_or, Result, Ok, Err}
use Rattle.std.proofs.lemmas.List.Edits.{sets}
use Rattle.reg_matrix.specs.Lists.{concat_map}
use Rattle.reg_matrix.specs.Refused.{number_of}
use Rattle.reg_matrix.specs.declared.Refusal.{Refusal}
use Rattle.reg_matrix.specs.declared.ValueSegment.{ValueSegment}
use Rattle.reg_matrix.specs.declared.Entry.{Entry}
use Rattle.reg_matrix.specs.declared.Reservation.{Reservation}
use Rattle.reg_matrix.specs.declared.Reservation.TheVariants.{Held, FixedUse, FixedDef}
use Rattle.reader.specs.declared.read.Reader.{Reader}
use Rattle.job.specs.declared.Hint.{Hint}
use Rattle.job.specs.Model.{VirtReg}
use Rattle.job.specs.Parser.{Parser, Parsed, refused, parsed, little, if_bit, each, ◌>>=◌}
use Rattle.job.specs.Load.{count_of, fixed_fields, fixed_tests}
use Rattle.job.specs.Layout.{starts_from}

-- ---- numbers

-- the number of these bytes, the lowest first
abbrev pub number : List ℕ → ℕ
number [] = 0
number (b ∷ bs) = b + 256 * number bs

-- the bytes that are left to read
abbrev pub left : Reader → List ℕ
left r = drop r.at r.bytes.now

-- what was read and the bytes l left after it, or the number of the refusal
module _ {A : Type 0} where
  abbrev pub read_view : List ℕ → Result A Refusal → Parsed A
  read_view l (Ok a) = parsed a l
  read_view l (Err r) = refused (number_of r)

abbrev pub read_value : Result ℕ Refusal → ℕ
read_value (Ok v) = v
read_value (Err r) = 0

-- the number of n bytes, of l, after which l' is left
pub record Little (l l' : List ℕ) (n : ℕ) (r : Result ℕ Refusal) : Type 0 where
  pub view : read_view l' r ≡ little n l
  pub small : read_value r < 256 ^ n

pub record Field (l l' : List ℕ) (stands : Bool) (n absent : ℕ) (r : Result ℕ Refusal) : Type 0 where
  pub view : read_view l' r ≡ if_bit stands absent (little n) l
  pub small : read_value r < 256 ^ n

-- the answer of the parser p at l, at most `bound`
pub record Num (l l' : List ℕ) (p : Parser ℕ) (bound : ℕ) (r : Result ℕ Refusal) : Type 0 where
  pub view : read_view l' r ≡ p l
  pub small : read_value r ≤ bound

-- ---- tables

-- where the parser answers p: the same refusal, or the bytes l that are left and what is stored
module _ {A : Type 0} where
  abbrev pub Outcome : List ℕ → Parsed A → Result (Unit {0}) Refusal → (A → Type 0) → Type 0
  Outcome l p (Err r) stored = p ≡ refused (number_of r)
  Outcome l p (Ok x) stored = (a : A) × (p ≡ parsed a l) × stored a

  -- the same with the size of what was read, which is at most `room`
  abbrev pub Counted : List ℕ → Parsed A → (A → ℕ) → ℕ → Result ℕ Refusal → (A → Type 0) → Type 0
  Counted l p size room (Err r) stored = p ≡ refused (number_of r)
  Counted l p size room (Ok k) stored = (a : A) × (p ≡ parsed a l) × (size a ≡ k) × (k ≤ room) × stored a

  -- a count of n bytes, and as many, where their bit stands
  abbrev pub table_of : Bool → ℕ → ℕ → (List A → Parser A) → Parser (List A)
  table_of stands n limit p = if_bit stands [] (do k ← count_of n limit; each p k [])

-- the slice b, with a field of each of xs stored from place g on
pub record Stored {A B : Type 0} (f : A → B) (b : List B) (g : ℕ) (xs : List A) (b' : List B) : Type 0 where
  pub is : b' ≡ sets b g (map f xs)

-- ---- classes

abbrev pub all_members : List (List ℕ) → List ℕ
all_members = concat_map (λ (c : List ℕ). c)

pub record ClassesAt (b m b' m' : List ℕ) (cs : List (List ℕ)) : Type 0 where
  pub starts : Stored (λ (x : ℕ). x) b 0 (starts_from length 0 cs) b'
  pub members : Stored (λ (x : ℕ). x) m 0 (all_members cs) m'

-- ---- fixed reservations

-- a reservation, where the last of each unit ends at `ends`
unfoldable pub reservation_after : List ℕ → Parser Entry
reservation_after ends = do
  f ← fixed_fields
  fixed_tests (get_or ends f.unit 0) f

-- a fixed use's value and 1; 0 for any other reservation
abbrev pub use_number : Reservation → ℕ
use_number (Held v i) = 0
use_number (FixedUse x) = x + 1
use_number FixedDef = 0

pub record FixedAt (n f t u n' f' t' u' : List ℕ) (es : List Entry) : Type 0 where
  pub units : Stored (λ (e : Entry). e.unit) n 0 es n'
  pub froms : Stored (λ (e : Entry). e.from) f 0 es f'
  pub tos : Stored (λ (e : Entry). e.to) t 0 es t'
  pub uses : Stored (λ (e : Entry). use_number e.reservation) u 0 es u'

-- ---- virtual registers

abbrev pub hints_of_all : List VirtReg → List Hint
hints_of_all = concat_map (λ (v : VirtReg). v.hints)

abbrev pub segments_of_all : List VirtReg → List ValueSegment
segments_of_all = concat_map (λ (v : VirtReg). v.segments)
