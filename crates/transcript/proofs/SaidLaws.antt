-- The lines by what the code is given are those of the definitions. Assumes nothing.
use Prim.Native.Nat.{ℕ}
use mathlib.Core.Path.{◌≡◌, refl, ap}
use mathlib.Core.List.{List, ◌++◌}
use mathlib.Core.Bool.{true}
use lib.Ieee.{Float, binary32, of_bits, to_bits, le}
use Rattle.reg_matrix.specs.Lists.{ascii}
use Rattle.reg_matrix.specs.Lines.{number, sp, line}
use Rattle.allocator.specs.declared.Assignment.{Assignment}
use Rattle.allocator.specs.declared.Assignment.TheVariants.{Assigned, Unassigned, Dead}
use Rattle.allocator.specs.State.{State, record_of}
use Rattle.allocator.specs.Script.{flag_text, record_line, record_text as scripted}
use Rattle.transcript.specs.Said.{bits_of, standing_text, record_text}

bits_are : (w : Float) → le (of_bits binary32 0) w ≡ true → bits_of w ≡ to_bits binary32 w
unfolding bits_of
bits_are w e = rw e refl

-- of a record whose weight, if it has one, is not below 0
abbrev pub WeightNotBelow0 : Assignment → Type 0
WeightNotBelow0 (Assigned f r w) = le (of_bits binary32 0) w ≡ true
WeightNotBelow0 (Unassigned f) = Unit {0}
WeightNotBelow0 Dead = Unit {0}

standing_is : (a : Assignment) → WeightNotBelow0 a → standing_text a ≡ scripted a
unfolding standing_text
standing_is (Assigned f r w) e = ap (λ (b : ℕ). ascii " assigned" ++ flag_text f ++ sp (number r) ++ sp (number b)) (bits_are w e)
standing_is (Unassigned f) e = refl
standing_is Dead e = refl

pub record_is : (s : State) (v : ℕ) → WeightNotBelow0 (record_of s v) → record_text v (record_of s v) ≡ record_line s v
unfolding record_text
record_is s v e = ap (λ (l : List ℕ). line (ascii "s " ++ number v ++ l)) (standing_is (record_of s v) e)
