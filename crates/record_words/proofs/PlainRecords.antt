-- On a state that calls reach every record is read again as it was: its weight is no NaN and carries no sign. Assumes nothing.
use Prim.Native.Nat.{◌<◌}
use native.Mathlib.Omega.{arith}
use native.Mathlib.Decide.{dec_lt}
use mathlib.Core.Path.{◌≡◌, refl, sym, subst, ◌∙◌}
use mathlib.Core.List.{map}
use mathlib.Core.Option.{Option, none, some}
use mathlib.Core.Bool.{Bool, true, false}
use lib.ListN.{length, get_or, length-map, get_or-eq_default}
use Rattle.reg_matrix.specs.Lists.{count}
use Rattle.reg_matrix.proofs.Places.{from_zero, count_length}
use Rattle.job.specs.Model.{Job, Plain}
use Rattle.allocator.specs.declared.Assignment.TheVariants.{Dead}
use Rattle.allocator.specs.declared.CandidateReg.{CandidateReg}
use Rattle.allocator.specs.State.{State, assignment, is_left_over, flag, held_by, record_of, records}
use Rattle.allocator.specs.Reached.{Reached}
use Rattle.allocator.proofs.Weights.{plain_zero}
use Rattle.allocator.proofs.Good.{good_reached}
use Rattle.record_words.specs.Words.{PlainRecord, AllPlain}

held_plain : (l f : Bool) (o : Option CandidateReg) → ((c : CandidateReg) → o ≡ some c → Plain c.preference_weight) → PlainRecord (assignment l f o)
held_plain true f o h = plain_zero
held_plain false f none h = plain_zero
held_plain false f (some c) h = h c refl

pub plain_records : (j : Job) (s : State) → Reached j s → AllPlain (records s)
unfolding records record_of
plain_records j s reach v = go (dec_lt v 512)
  where
    go : Dec (v < 512) → PlainRecord (get_or (map (record_of s) (count 0 512)) v Dead)
    go (yes h) =
        subst PlainRecord (sym (from_zero (record_of s) Dead 512 v h))
        (held_plain (is_left_over s v) (flag s v) (held_by s v) (λ c q. ((good_reached j s reach).agrees.holder v c q).1.plain))
    go (no h) =
        subst PlainRecord (sym (get_or-eq_default (map (record_of s) (count 0 512)) Dead (omega (arith, h, length-map (count 0 512) (record_of s), count_length 0 512)))) plain_zero

pub records_length : (s : State) → length (records s) ≡ 512
unfolding records
records_length s = length-map (count 0 512) (record_of s) ∙ count_length 0 512
