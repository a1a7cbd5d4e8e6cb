-- What `assign`, `evict` and `is_unit_free` ensure, on reached tables: the call is not refused, and afterwards the slices hold the table of the
-- definition, with what is lent behind it unchanged. Assumes nothing.
use Prim.Native.Nat.{ℕ, ◌+◌, ◌≤◌, ◌<◌}
use native.Mathlib.Omega.{arith}
use mathlib.Core.Path.{◌≡◌, refl, sym, ap, ◌∙◌, subst}
use mathlib.Core.Option.{Option, none}
use mathlib.Core.List.{List, [], ◌++◌, map}
use mathlib.Core.Bool.{Bool, false}
use lib.ListN.{length, length-append, length-map}
use borrow.Author.Tests.{le-ltb, lt-leb}
use Rattle.reg_matrix.specs.Refusals.{refusal, short_buffer}
use Rattle.reg_matrix.specs.Table.{Table}
use Rattle.reg_matrix.specs.Check.{check}
use Rattle.reg_matrix.specs.Assign.{assign, evict}
use Rattle.reg_matrix.specs.Layout.{max_entries, max_fixed, greatest, end_word, rest_word, end_words, rest_words, use_word, use_words}
use Rattle.entries.specs.Moves.{Words}
use Rattle.entries.specs.Placing.{assigning, evicting, move_limits, move_refusal, sizes, unless_refused, Assigned, Evicted}
use Rattle.reg_matrix.specs.declared.ValueSegment.{ValueSegment}
use Rattle.reg_matrix.specs.declared.Entry.{Entry}
use Rattle.std.specs.Prelude.{Result, Ok, Err}
use Rattle.reg_matrix.specs.declared.Refusal.{Refusal}
use Rattle.reg_matrix.specs.Refused.{refusal_in}
use Rattle.reg_matrix.proofs.Places.{padded_length}
use Rattle.reg_matrix.proofs.Cells.{Cell}
use Rattle.reg_matrix.proofs.Chains.{Sound}
use Rattle.reg_matrix.proofs.Whole.{cells}
use Rattle.reg_matrix.proofs.Clear.{Segments}
use Rattle.reg_matrix.proofs.Laws.{Matrix}
use Rattle.placing.proofs.Standing.{Stands}
use Rattle.placing.proofs.Lying.{AllSmall, all_uses, UsesLie}
use Rattle.placing.proofs.Moving.{SmallCells, SmallPoints, assign_stands, evict_stands}

abbrev froms : List ValueSegment → List ℕ
froms ss = map (λ s. s.from) ss

abbrev tos : List ValueSegment → List ℕ
tos ss = map (λ s. s.to) ss

-- an answer without a refusal is that it is done
not_refused : (r : Result (Unit {0}) Refusal) → refusal_in r ≡ none → r ≡ Ok tt
not_refused (Ok a) q = refl
not_refused (Err e) q = cc

-- the answer is that it is done, and the table t stands in the slices afterwards
pub record Carried (t : Table) (et rt : List ℕ) (w : Words) (r : Result (Unit {0}) Refusal) : Type 0 where
  pub done : r ≡ Ok tt
  pub stands : Stands t et rt w

module _ (fixed : List Entry) (ut uses : List ℕ) (lie : UsesLie fixed ut uses) (et rt : List ℕ) (t : Table) (w : Words) (st : Stands t et rt w) where
  -- slices that hold a table and the fixed uses are no short buffers
  long_enough : (n : ℕ) (ts : List ℕ) → n ≤ length ts → short_buffer (move_limits n) (sizes w uses ts) ≡ false
  unfolding short_buffer end_words rest_words use_words
  long_enough n ts h =
      let a : max_entries ≤ length w.ends =
      omega (arith, ap (λ (l : List ℕ). length l) st.ends_are, length-append (end_words t) et, padded_length max_entries greatest (map end_word t) (simp length-map st.few)) in
      let b : max_entries ≤ length w.rests =
      omega (arith, ap (λ (l : List ℕ). length l) st.rests_are, length-append (rest_words t) rt, padded_length max_entries 0 (map rest_word t) (simp length-map st.few)) in
      let c : max_fixed ≤ length uses =
      omega (arith, ap (λ (l : List ℕ). length l) lie.are, length-append (use_words fixed) ut, padded_length max_fixed greatest (map use_word (all_uses fixed)) (simp length-map lie.few)) in
      rw (le-ltb (length w.ends) max_entries a, le-ltb (length w.rests) max_entries b, le-ltb (length uses) max_fixed c, le-ltb (length ts) n h)

  pub accepted : (n v : ℕ) (ts : List ℕ) → n ≤ length ts → v < 512 → move_refusal (sizes w uses ts) n v ≡ none
  unfolding move_refusal refusal
  accepted n v ts h k = rw (long_enough n ts h, lt-leb 512 v k)

  module _ (sd : Sound fixed) (sf : AllSmall fixed) (v m : ℕ) (number : v < 512) (ss : List ValueSegment) (w' : Words) (r : Result (Unit {0}) Refusal) where
    -- what `assign` ensures, after a clear check
    pub assigned :
        Assigned v m uses (froms ss) (tos ss) w w' r
        → (cs : List Cell)
        → Matrix fixed cs t
        → SmallCells cs
        → (full : Bool)
        → Segments fixed ss
        → SmallPoints ss
        → check full fixed t m ss ≡ []
        → length fixed + (length (cells v m ss) + length cs) ≤ max_entries
        → Carried (assign fixed v m ss t) et rt w' r
    assigned a cs mx sc full g sp z room =
        let ok : move_refusal (sizes w uses (tos ss)) (length (froms ss)) v ≡ none = accepted (length (froms ss)) v (tos ss) (simp length-map (omega arith)) number in
        record {
          done = not_refused r (a.answer ∙ ok);
          stands =
              subst (λ (x : Words). Stands (assign fixed v m ss t) et rt x)
              (sym (a.after ∙ ap (λ (o : Option ℕ). unless_refused o (assigning uses v m (froms ss) (tos ss) w) w) ok))
              (assign_stands fixed sd sf ut uses lie et rt cs t mx sc full v m ss g sp z room w st);
        }

    -- what `evict` ensures, where the table has the register's cells
    pub evicted :
        Evicted v m uses (tos ss) w w' r
        → (xs ys : List Cell)
        → Matrix fixed (xs ++ (cells v m ss ++ ys)) t
        → SmallCells (xs ++ (cells v m ss ++ ys))
        → length fixed ≤ max_fixed
        → length fixed + length (xs ++ (cells v m ss ++ ys)) ≤ max_entries
        → Carried (evict fixed v m ss t) et rt w' r
    evicted a xs ys mx sc few room =
        let ok : move_refusal (sizes w uses (tos ss)) (length (tos ss)) v ≡ none = accepted (length (tos ss)) v (tos ss) (omega arith) number in
        record {
          done = not_refused r (a.answer ∙ ok);
          stands =
              subst (λ (x : Words). Stands (evict fixed v m ss t) et rt x)
              (sym (a.after ∙ ap (λ (o : Option ℕ). unless_refused o (evicting uses v m (tos ss) w) w) ok))
              (evict_stands fixed sd sf ut uses lie et rt xs ys t v m ss mx sc number few room w st);
        }
