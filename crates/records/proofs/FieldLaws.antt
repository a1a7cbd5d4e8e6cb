-- A record by its three parts is the record. Assumes nothing.
use mathlib.Core.Path.{◌≡◌, refl}
use mathlib.Core.Bool.{true, false}
use Rattle.allocator.specs.declared.Assignment.{Assignment}
use Rattle.allocator.specs.declared.Assignment.TheVariants.{Assigned, Unassigned, Dead}
use Rattle.records.specs.Fields.{reg_in, record_weight, kind_of, record_by}

pub record_back : (a : Assignment) → record_by (kind_of a) (reg_in a) (record_weight a) ≡ a
record_back (Assigned true r w) = refl
record_back (Assigned false r w) = refl
record_back (Unassigned true) = refl
record_back (Unassigned false) = refl
record_back Dead = refl
