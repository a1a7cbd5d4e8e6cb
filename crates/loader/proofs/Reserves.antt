-- The fixed reservations of a job from their slices: after them the fresh table stands. Assumes nothing.
use Prim.Native.Nat.{ℕ, ◌≤◌, ◌<◌}
use native.Mathlib.Omega.{arith}
use mathlib.Core.Path.{◌≡◌, refl, ap, ◌∙◌}
use mathlib.Core.List.{List}
use lib.ListN.{length, drop, get_or}
use Rattle.reg_matrix.specs.Lists.{foldl, count}
use Rattle.reg_matrix.specs.Layout.{max_entries, max_fixed, reservation_word}
use Rattle.std.specs.Prelude.{Option}
use Rattle.reg_matrix.specs.declared.Reservation.{Reservation}
use Rattle.reg_matrix.specs.declared.Reservation.TheVariants.{Held, FixedUse, FixedDef}
use Rattle.reg_matrix.proofs.Members.{get_d_in}
use Rattle.reg_matrix.proofs.Chains.{not_held}
use Rattle.job.specs.Model.{Job}
use Rattle.job.proofs.Premises.{Premises}
use Rattle.entries.specs.Reserving.{Lain, cleared, reserving}
use Rattle.placing.proofs.Loaded.{put, In, reserved_all}
use Rattle.reader.specs.Read.{FixedAt, use_number}
use Rattle.job_stores.specs.Storing.{reserving_all}
use Rattle.job_tests.proofs.Places.{fold_at}
use Rattle.job_tests.proofs.WholeTests.{no_entry, stored_at}

word_is : (r : Reservation) → ((v : ℕ) (i : Option ℕ) → r ≡ Held v i → ⊥) → use_number r ≡ reservation_word r
word_is (Held v i) h = absurd (h v i refl)
word_is (FixedUse x) h = refl
word_is FixedDef h = refl

module _ (j : Job) (p : Premises j) {n f t u n' f' t' u' : List ℕ} (h : FixedAt n f t u n' f' t' u' j.fixed) (room : (512 ≤ length n) × (512 ≤ length f) × (512 ≤ length t) × (512 ≤ length u)) where
  one_is : (k : ℕ) (l : Lain) → k < length j.fixed → reserving (get_or n' k 0) (get_or f' k 0) (get_or t' k 0) (get_or u' k 0) l ≡ put l (get_or j.fixed k no_entry)
  one_is k l m =
      let few = p.few_fixed in
      let e = get_or j.fixed k no_entry in
      rw (
        stored_at h.units (omega (arith, few, room.0)) no_entry 0 k m,
        stored_at h.froms (omega (arith, few, room.1)) no_entry 0 k m,
        stored_at h.tos (omega (arith, few, room.2)) no_entry 0 k m,
        stored_at h.uses (omega (arith, few, room.3)) no_entry 0 k m,
        word_is e.reservation (not_held j.fixed p.sound e (get_d_in j.fixed k no_entry m)),
      )

  pub reserved_job :
      (l : Lain) {c : ℕ}
      → length j.fixed ≡ c
      → max_entries ≤ length l.table.ends
      → max_entries ≤ length l.table.rests
      → max_fixed ≤ length l.uses
      → In j.fixed (drop max_entries l.table.ends) (drop max_entries l.table.rests) (drop max_fixed l.uses) (reserving_all n' f' t' u' c (cleared l))
  unfolding reserving_all
  reserved_job l e a b c =
      let q : foldl (λ l k. reserving (get_or n' k 0) (get_or f' k 0) (get_or t' k 0) (get_or u' k 0) l) (cleared l) (count 0 (length j.fixed)) ≡ foldl put (cleared l) j.fixed =
      fold_at no_entry (λ l k. reserving (get_or n' k 0) (get_or f' k 0) (get_or t' k 0) (get_or u' k 0) l) put j.fixed 0 (cleared l)
      (λ k l m. ap (λ (i : ℕ). reserving (get_or n' i 0) (get_or f' i 0) (get_or t' i 0) (get_or u' i 0) l) (omega arith) ∙ one_is k l m) in
      rw (← e, q)
      (reserved_all j.fixed l p.sound p.parted p.small_fixed
      p.few_fixed a b c)
