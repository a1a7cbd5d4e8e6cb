-- What the calls over segment structs answer: that of the call on any list of segments, but that more than 512 segments are refused first. Assumes
-- nothing.
use Rattle.std.specs.Prelude.{ℕ, ◌≡◌, List, [], ◌∷◌, Bool, cond, length, get_or, take, Result}
use Rattle.std.proofs.Math.Option.{Option, some}
use Rattle.reg_matrix.specs.Questions.{check_refusal}
use Rattle.reg_matrix.specs.Refused.{refusal_in, or_refused}
use Rattle.table_words.specs.Segments.{segments_in, froms_of, tos_of, values_of}
use Rattle.matrix.specs.Walk.{Lent, lent_in, entered}
use Rattle.entries.specs.Moves.{Words}
use Rattle.entries.specs.Placing.{move_refusal, sizes, unless_refused, assigning, evicting}
use Rattle.reg_matrix.specs.declared.Refusal.{Refusal}
use Rattle.reg_matrix.specs.declared.ValueSegment.{ValueSegment}
use Rattle.table_words.specs.declared.buffers.RegMatrix.{RegMatrix}
use Rattle.matrix.specs.declared.Cursor.{Cursor}

-- how many segments a call takes: as many as a job has (01, "Limits")
abbrev pub max_segments : ℕ
max_segments = 512

-- what is lent to a check of these segments
abbrev pub lent_to : RegMatrix → List ValueSegment → Lent
lent_to m ss = lent_in m (froms_of ss) (tos_of ss) (values_of ss)

-- 15 where there are too many segments, and else what the call tests
abbrev pub unless_long : Bool → Option ℕ → Option ℕ
unless_long long r = cond long (some 15) r

unfoldable pub check_answer : Bool → List ℕ → ℕ → ℕ → Bool → List ℕ → List ℕ → List ℕ → List ℕ → List ℕ → List ℕ → Result Cursor ℕ
check_answer long regs count reg full ends rests uses froms tos values =
    or_refused
    (unless_long long
    (check_refusal (length regs ∷ length uses ∷ length ends ∷ length rests ∷ length froms ∷ length tos ∷ length values
    ∷ []) (take count regs) reg (segments_in froms tos values)))
    (entered ends froms (get_or regs reg 0) full)

pub record AssignAnswer (long : Bool) (v m : ℕ) (uses froms tos : List ℕ) (w w' : Words) (r : Result (Unit {0}) Refusal) : Type 0 where
  pub answer : refusal_in r ≡ unless_long long (move_refusal (sizes w uses tos) (length froms) v)
  pub after : w' ≡ unless_refused (unless_long long (move_refusal (sizes w uses tos) (length froms) v)) (assigning uses v m froms tos w) w

pub record EvictAnswer (long : Bool) (v m : ℕ) (uses tos : List ℕ) (w w' : Words) (r : Result (Unit {0}) Refusal) : Type 0 where
  pub answer : refusal_in r ≡ unless_long long (move_refusal (sizes w uses tos) (length tos) v)
  pub after : w' ≡ unless_refused (unless_long long (move_refusal (sizes w uses tos) (length tos) v)) (evicting uses v m tos w) w
