-- Bytes written in hexadecimal, digits 0 .. 9 and A .. F, with spaces between them. Assumes nothing.
use Prim.Native.Nat.{ℕ, ◌+◌, ◌-◌, ◌*◌}
use Prim.Native.String.{String, [] as []ˢ, ◌∷◌ as ◌∷ˢ◌}
use Prim.Native.Char.{code}
use mathlib.Core.List.{List, [], ◌∷◌}
use mathlib.Core.Option.{Option, none, some}
use mathlib.Core.Bool.{Bool, true, false, not, ◌&&◌, ◌||◌, cond}
use lib.Dec.{T, ltb, leb, eqb}
use Rattle.reg_matrix.specs.Lists.{any}

abbrev pub nibble : ℕ → ℕ
nibble c = cond (ltb c 58) (c - 48) (c - 55)

-- high is the first digit of a byte, where one was read
abbrev pub hex_on : Bool → ℕ → Option ℕ → (Option ℕ → List ℕ) → List ℕ
hex_on true c high more = more high
hex_on false c none more = more (some (nibble c))
hex_on false c (some high) more = (16 * high + nibble c) ∷ more none

unfoldable pub hex_from : String → Option ℕ → List ℕ
hex_from []ˢ high = []
hex_from (c ∷ˢ s) high = hex_on (eqb (code c) 32) (code c) high (hex_from s)

unfoldable pub hex : String → List ℕ
hex s = hex_from s none

-- ---- whether a text is such

abbrev pub is_hex_digit : ℕ → Bool
is_hex_digit c = (leb 48 c && ltb c 58) || (leb 65 c && ltb c 71)

abbrev pub even_on : Bool → ℕ → Bool → (Bool → Bool) → Bool
even_on true c half more = more half
even_on false c true more = is_hex_digit c && more false
even_on false c false more = is_hex_digit c && more true

-- `half` where a byte's first digit was read
unfoldable pub is_hex_from : String → Bool → Bool
is_hex_from []ˢ true = false
is_hex_from []ˢ false = true
is_hex_from (c ∷ˢ s) half = even_on (eqb (code c) 32) (code c) half (is_hex_from s)

-- digits and spaces only, and an even number of digits
unfoldable pub is_hex : String → Bool
is_hex s = is_hex_from s false

-- a digit too few, another letter, a small letter, another sign
ill_formed : List String
ill_formed = "0" ∷ "00 0" ∷ "0G" ∷ "0a" ∷ "00,00" ∷ "0x00" ∷ "00\n" ∷ []

none_passes : T (not (any is_hex ill_formed))
unfolding is_hex is_hex_from ill_formed any
none_passes = tt
