-- The three lists of fields are the segments again, so a check of them is one of the structs. Assumes nothing.
use Prim.Native.Nat.{ℕ, ◌<◌, min}
use native.Mathlib.Omega.{arith}
use mathlib.Core.Path.{◌≡◌, refl}
use mathlib.Core.List.{List, [], ◌∷◌}
use mathlib.Core.Bool.{Bool}
use lib.Dec.{ltb}
use Rattle.std.proofs.Common.{Err, lt-ltb}
use lib.ListN.{length, take, get_or, length-map}
use Rattle.reg_matrix.specs.Questions.{check_refusal}
use Rattle.reg_matrix.specs.Refused.{or_refused}
use Rattle.reg_matrix.specs.declared.ValueSegment.{ValueSegment}
use Rattle.table_words.specs.Segments.{froms_of, tos_of, values_of}
use Rattle.table_words.proofs.RangeLaws.{segments_back}
use Rattle.matrix.specs.Walk.{Lent, entered}
use Rattle.table_words.specs.declared.buffers.RegMatrix.{RegMatrix}
use Rattle.thin.specs.Answers.{max_segments, unless_long, check_answer, lent_to}

pub check_of_structs : (long : Bool) (regs : List ℕ) (count reg : ℕ) (full : Bool) (ends rests uses : List ℕ) (ys : List ValueSegment)
    → check_answer long regs count reg full ends rests uses (froms_of ys) (tos_of ys) (values_of ys)
    ≡ or_refused
    (unless_long long
    (check_refusal (length regs ∷ length uses ∷ length ends ∷ length rests ∷ length ys ∷ length ys ∷ length ys ∷ []) (take count regs) reg ys))
    (entered ends (froms_of ys) (get_or regs reg 0) full)
unfolding check_answer
check_of_structs long regs count reg full ends rests uses ys =
    rw (segments_back ys, length-map ys (λ (s : ValueSegment). s.from), length-map ys (λ (s : ValueSegment). s.to), length-map ys (λ (s : ValueSegment). s.value))

-- ---- what `next` sees of a slice of segments: the fields of the first 512, and no others

module _ (m : RegMatrix) (ss : List ValueSegment) where
  abbrev pub seen_apart : Lent
  seen_apart = lent_to m (take max_segments ss)

  pub froms_apart : seen_apart.froms ≡ froms_of (take max_segments ss)
  froms_apart = refl

  pub tos_apart : seen_apart.tos ≡ tos_of (take max_segments ss)
  tos_apart = refl

  pub values_apart : seen_apart.values ≡ values_of (take max_segments ss)
  values_apart = refl

-- a check of more than 512 segments is refused with 15, whatever else is lent
pub long_apart : (MAX : ℕ) (ss : List ValueSegment) (regs : List ℕ) (count reg : ℕ) (full : Bool) (ends rests uses froms tos values : List ℕ) → max_segments < length ss
    → check_answer (ltb (min MAX max_segments) (length ss)) regs count reg full ends rests uses froms tos values ≡ Err 15
unfolding check_answer
long_apart MAX ss regs count reg full ends rests uses froms tos values h = rw (lt-ltb (min MAX max_segments) (length ss) (omega arith)) refl
