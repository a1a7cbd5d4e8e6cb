-- What reading a fixed reservation promises, in the terms of the parsers of Load.antt: its tests, and what is read and stored. Assumes nothing.
use Rattle.std.specs.Prelude.{ℕ, ◌<◌, ◌≡◌, List, length, Result, Ok, Err}
use Rattle.reg_matrix.specs.Refused.{number_of}
use Rattle.reg_matrix.specs.declared.Entry.{Entry}
use Rattle.reg_matrix.specs.declared.Refusal.{Refusal}
use Rattle.job.specs.Parser.{Parser, Parsed, refused, parsed}
use Rattle.reader.specs.Read.{read_view, reservation_after, FixedAt}
use Rattle.fixed_reader.specs.declared.LentFixed.{LentFixed}

abbrev pub test_view : Result Entry Refusal → List ℕ → Parsed Entry
test_view (Ok e) t = parsed e t
test_view (Err r) t = refused (number_of r)

abbrev pub test_unit : Result Entry Refusal → ℕ
test_unit (Ok e) = e.unit
test_unit (Err r) = 0

-- the tests' answer, and its unit is known
pub record EntryTested (p : Parser Entry) (r : Result Entry Refusal) : Type 0 where
  pub view : (t : List ℕ) → test_view r t ≡ p t
  pub unit : test_unit r < 64

-- the next reservation of l, after which l' is left
pub record EntryAt (l l' ends : List ℕ) (r : Result Entry Refusal) : Type 0 where
  pub view : read_view l' r ≡ reservation_after ends l
  pub unit : test_unit r < 64

-- ---- what is stored

-- the reservations are stored from place 0 on
abbrev pub FixedIn : LentFixed → LentFixed → List Entry → Type 0
FixedIn before after =
    FixedAt before.units.now before.froms.now before.tos.now before.uses.now after.units.now after.froms.now after.tos.now after.uses.now

-- that the same slices are lent, so that what is said of them is said of the caller's, and that each is as long as it was
pub record SameFixed (before after : LentFixed) : Type 0 where
  pub units : after.units.ghost_name ≡ before.units.ghost_name
  pub froms : after.froms.ghost_name ≡ before.froms.ghost_name
  pub tos : after.tos.ghost_name ≡ before.tos.ghost_name
  pub uses : after.uses.ghost_name ≡ before.uses.ghost_name
  pub units_length : length after.units.now ≡ length before.units.now
  pub froms_length : length after.froms.now ≡ length before.froms.now
  pub tos_length : length after.tos.now ≡ length before.tos.now
  pub uses_length : length after.uses.now ≡ length before.uses.now
