-- A line that is stored, as the walk answers it. Assumes nothing.
use Prim.Native.Nat.{ℕ, ◌≤◌}
use native.Mathlib.Omega.{arith}
use native.Mathlib.Nat.{zero-add}
use mathlib.Core.Path.{◌≡◌, ap}
use mathlib.Core.List.{List}
use lib.ListN.{length}
use Rattle.std.specs.Prelude.{Some}
use Rattle.listing.specs.declared.Place.{Place}
use Rattle.listing.specs.declared.Listing.{Listing}
use Rattle.texts.specs.Texts.{Stored}
use Rattle.texts.proofs.StoreLaws.{room_place}
use Rattle.allocator.specs.declared.Assignment.{Assignment}
use Rattle.lines.specs.LineTexts.{Lent}
use Rattle.listing.specs.Walk.{line_limit, a_line, moved, Answered, found_at, found}

-- by the place that the position is at
pub found_at_lem : (c : Listing) (a : Assignment) (l : Lent) (p : Place) → c.place ≡ p → found c a l ≡ found_at p c a l
unfolding found
found_at_lem c a l p e = ap (λ (p : Place). found_at p c a l) e

pub told :
    (c : Listing) {s t text : List ℕ} {n : ℕ} {m : Listing} {p : Place}
    → Stored s 0 text t n
    → length text ≤ line_limit
    → line_limit ≤ length s
    → m ≡ moved c p
    → Answered c (a_line text p) s t (Some (n, m))
told c {s} {t} {text} {n} {m} {p} a short long e = (rw (e, room_place a (omega (arith, short, long)), zero-add (length text)), a.line)
