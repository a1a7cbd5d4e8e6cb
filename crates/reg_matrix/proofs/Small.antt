-- What loading tests of a reservation by itself: its numbers are small, and a use ends two points on. Assumes nothing.
use Prim.Native.Nat.{◌+◌, ◌^◌, ◌<◌}
use mathlib.Core.Path.{◌≡◌}
use lib.Dec.{T}
use Rattle.reg_matrix.specs.Table.{is_use}
use Rattle.reg_matrix.specs.Layout.{use_value}
use Rattle.reg_matrix.specs.declared.Entry.{Entry}

pub record SmallEntry (e : Entry) : Type 0 where
  pub unit : e.unit < 64
  pub from : e.from < 2 ^ 32
  pub to : e.to < 2 ^ 32
  pub value : use_value e.reservation < 2 ^ 16
  -- a fixed use ends at from + 2
  pub two : T (is_use e.reservation) → e.to ≡ e.from + 2
