-- A refusal of loading is no 0, so the answer 0 says that the job was loaded. Assumes nothing.
use Prim.Native.Nat.{ℕ, zero, suc, ◌+◌}
use native.Mathlib.Omega.{arith}
use mathlib.Core.Path.{◌≡◌, ap, ◌∙◌}
use mathlib.Core.List.{List, [], ◌∷◌, ◌++◌}
use mathlib.Core.Bool.{Bool, true, false, not, cond, ◌&&◌, ◌||◌, beq}
use lib.Dec.{ltb, leb, eqb}
use lib.ListN.{length}
use lib.Count.{ones_in}
use Rattle.reg_matrix.specs.Lists.{bit, is_nil}
use Rattle.reg_matrix.specs.Refusals.{short_buffer, bad_slot}
use Rattle.reg_matrix.specs.declared.Entry.{Entry}
use Rattle.reg_matrix.specs.declared.Reservation.{Reservation}
use Rattle.reg_matrix.specs.declared.ValueSegment.{ValueSegment}
use Rattle.job.specs.declared.FixedFields.{FixedFields}
use Rattle.job.specs.Parser.{Parsed, refused, parsed, Parser, and_then, if_bit, each, refuse, little, rest}
use Rattle.job.specs.Model.{Job, VirtReg}
use Rattle.job.specs.Load.{bad_spill_bits, bad_hint_bits, twin, mixed_set, cut_use, count_of, known, register, class, fixed_fields, fixed_range, fixed_tests, reservation, hint, range, segment, hint_count, segment_count, hints, segments, spill_bits, virt_reg_fields, virt_reg_at, virt_reg_after, job_fields, whole_job, Loaded, not_loaded, loaded, as_loaded, load_with}
use Rattle.allocator.specs.Layout.{stage_limits}
use Rattle.allocator.specs.Calls.{load}

module _ {A : Type 0} where
  abbrev Parts : Parsed A → Type 0
  Parts (refused n) = n ≡ 0 → ⊥
  Parts (parsed a s) = Unit {0}

-- a refusal has a number above 0
record Numbered {A : Type 0} (x : Parsed A) : Type 0 where
  parts : Parts x

module _ {A : Type 0} where
  num_done : {a : A} {s : List ℕ} → Numbered (parsed a s)
  num_done = record { parts = tt }

  num_bit : (t : Bool) (d : A) (p : Parser A) (s : List ℕ) → Numbered (p s) → Numbered (if_bit t d p s)
  num_bit true d p s g = g
  num_bit false d p s g = num_done

  num_cond : (t : Bool) (p q : Parser A) (s : List ℕ) → Numbered (p s) → Numbered (q s) → Numbered (cond t p q s)
  num_cond true p q s g h = g
  num_cond false p q s g h = h

module _ {A B : Type 0} where
  num_then : {x : Parsed A} {f : A → Parser B} → Numbered x → ((a : A) (s : List ℕ) → Numbered (f a s)) → Numbered (and_then x f)
  num_then {x = refused n} g k = record { parts = g.parts }
  num_then {x = parsed a s} g k = k a s

num_refuse : (n : ℕ) (t : Bool) (s : List ℕ) → (n ≡ 0 → ⊥) → Numbered (refuse n t s)
num_refuse n true s h = record { parts = h }
num_refuse n false s h = num_done

num_little : (n : ℕ) (s : List ℕ) → Numbered (little n s)
unfolding little
num_little zero s = num_done
num_little (suc n) [] = record { parts = λ z. omega (arith, z) }
num_little (suc n) (x ∷ s) = num_then (num_little n s) (λ h t. num_done)

num_each : {A : Type 0} (p : List A → Parser A) → ((before : List A) (s : List ℕ) → Numbered (p before s)) → (n : ℕ) (before : List A) (s : List ℕ) → Numbered (each p n before s)
unfolding each
num_each p h zero before s = num_done
num_each p h (suc n) before s = num_then (h before s) (λ x t. num_each p h n (before ++ (x ∷ [])) t)

num_count : (n limit : ℕ) (s : List ℕ) → Numbered (count_of n limit s)
unfolding count_of
num_count n limit s = num_then (num_little n s) λ k t. num_then (num_refuse 4 (ltb limit k) t (λ z. omega (arith, z))) λ u t. num_done

num_known : (n limit : ℕ) (s : List ℕ) → Numbered (known n limit s)
unfolding known
num_known n limit s = num_then (num_little n s) λ k t. num_then (num_refuse 8 (leb limit k) t (λ z. omega (arith, z))) λ u t. num_done

num_register : (s : List ℕ) → Numbered (register s)
unfolding register
num_register s = num_then (num_little 8 s) λ m t. num_then (num_refuse 4 (ltb 4 (ones_in 64 m)) t (λ z. omega (arith, z))) λ u t. num_then (num_refuse 5 (eqb m 0) t (λ z. omega (arith, z))) λ u t. num_done

num_class : (regs : ℕ) (s : List ℕ) → Numbered (class regs s)
unfolding class
num_class regs s = num_then (num_count 1 64 s) λ k t. num_each (λ before. known 1 regs) (λ before t. num_known 1 regs t) k [] t

num_fixed_fields : (s : List ℕ) → Numbered (fixed_fields s)
unfolding fixed_fields
num_fixed_fields s =
    num_then (num_little 1 s) λ m t.
    num_then (num_bit (bit 0 m) 0 (little 1) t (num_little 1 t)) λ u t.
    num_then (num_bit (bit 1 m) 0 (little 4) t (num_little 4 t)) λ a t.
    num_then (num_bit (bit 2 m) 0 (little 4) t (num_little 4 t)) λ b t.
    num_then (num_bit (bit 3 m) 0 (little 2) t (num_little 2 t)) λ x t. num_done

num_fixed_range : (past u a b : ℕ) (r : Reservation) (bad : Bool) (s : List ℕ) → Numbered (fixed_range past u a b r bad s)
unfolding fixed_range
num_fixed_range past u a b r bad s =
    num_then (num_refuse 5 (leb b a) s (λ z. omega (arith, z))) λ x t.
    num_then (num_refuse 6 (bad_slot a || bad) t (λ z. omega (arith, z))) λ x t.
    num_then (num_refuse 7 (ltb a past) t (λ z. omega (arith, z))) λ x t.
    num_then (num_refuse 8 (leb 64 u) t (λ z. omega (arith, z))) λ x t. num_done

num_fixed_tests : (past : ℕ) (f : FixedFields) (s : List ℕ) → Numbered (fixed_tests past f s)
unfolding fixed_tests
num_fixed_tests past f s = num_then (num_refuse 3 (leb 16 f.map || beq (bit 2 f.map) (bit 3 f.map)) s (λ z. omega (arith, z))) λ x t. num_cond (bit 2 f.map) _ _ t (num_fixed_range _ _ _ _ _ _ t) (num_fixed_range _ _ _ _ _ _ t)

num_reservation : (before : List Entry) (s : List ℕ) → Numbered (reservation before s)
unfolding reservation
num_reservation before s = num_then (num_fixed_fields s) λ f t. num_fixed_tests _ f t

num_hint : (regs : ℕ) (s : List ℕ) → Numbered (hint regs s)
unfolding hint
num_hint regs s = num_then (num_little 1 s) λ r t. num_then (num_little 4 t) λ w t. num_then (num_refuse 8 (leb regs r) t (λ z. omega (arith, z))) λ x t. num_then (num_refuse 9 (bad_hint_bits w) t (λ z. omega (arith, z))) λ x t. num_done

num_range : (past : ℕ) (value : Parser ℕ) → ((s : List ℕ) → Numbered (value s)) → (s : List ℕ) → Numbered (range past value s)
unfolding range
num_range past value h s =
    num_then (num_little 4 s) λ a t.
    num_then (num_little 4 t) λ b t.
    num_then (h t) λ x t.
    num_then (num_refuse 5 (leb b a) t (λ z. omega (arith, z))) λ y t.
    num_then (num_refuse 6 (bad_slot a || bad_slot b) t (λ z. omega (arith, z))) λ y t.
    num_then (num_refuse 7 (ltb a past) t (λ z. omega (arith, z))) λ y t. num_done

num_segment : (before : List ValueSegment) (s : List ℕ) → Numbered (segment before s)
unfolding segment
num_segment before s = num_range _ (little 2) (λ t. num_little 2 t) s

num_hint_count : (earlier : ℕ) (s : List ℕ) → Numbered (hint_count earlier s)
unfolding hint_count
num_hint_count earlier s = num_then (num_little 1 s) λ k t. num_then (num_refuse 4 (ltb 64 k || ltb 1024 (earlier + k)) t (λ z. omega (arith, z))) λ x t. num_then (num_refuse 5 (eqb k 0) t (λ z. omega (arith, z))) λ x t. num_done

num_segment_count : (earlier : ℕ) (s : List ℕ) → Numbered (segment_count earlier s)
unfolding segment_count
num_segment_count earlier s = num_then (num_little 2 s) λ k t. num_then (num_refuse 4 (ltb 512 (earlier + k)) t (λ z. omega (arith, z))) λ x t. num_then (num_refuse 5 (eqb k 0) t (λ z. omega (arith, z))) λ x t. num_done

num_hints : (regs earlier : ℕ) (s : List ℕ) → Numbered (hints regs earlier s)
unfolding hints
num_hints regs earlier s = num_then (num_hint_count earlier s) λ k t. num_each (λ before. hint regs) (λ before t. num_hint regs t) k [] t

num_segments : (earlier : ℕ) (s : List ℕ) → Numbered (segments earlier s)
unfolding segments
num_segments earlier s = num_then (num_segment_count earlier s) λ k t. num_each segment num_segment k [] t

num_spill_bits : (s : List ℕ) → Numbered (spill_bits s)
unfolding spill_bits
num_spill_bits s = num_then (num_little 4 s) λ b t. num_then (num_refuse 9 (bad_spill_bits b) t (λ z. omega (arith, z))) λ x t. num_done

num_virt_reg_fields : (classes n : ℕ) (s : List ℕ) → Numbered (virt_reg_fields classes n s)
unfolding virt_reg_fields
num_virt_reg_fields classes n s =
    num_then (num_little 1 s) λ m t.
    num_then (num_refuse 3 (leb 64 m) t (λ z. omega (arith, z))) λ x t.
    num_then (num_refuse 5 (not (bit 5 m)) t (λ z. omega (arith, z))) λ x t.
    num_then (num_refuse 8 (not (bit 0 m) && eqb classes 0) t (λ z. omega (arith, z))) λ x t.
    num_then (num_bit (bit 0 m) 0 (known 1 classes) t (num_known 1 classes t)) λ c t.
    num_then (num_bit (bit 1 m) n (known 2 512) t (num_known 2 512 t)) λ x t.
    num_then (num_bit (bit 2 m) 0 spill_bits t (num_spill_bits t)) λ w t.
    num_then (num_bit (bit 3 m) 0 (little 4) t (num_little 4 t)) λ z t. num_done

num_virt_reg : (regs classes n h g : ℕ) (s : List ℕ) → Numbered (virt_reg_at regs classes n h g s)
unfolding virt_reg_at
num_virt_reg regs classes n h g s =
    num_then (num_virt_reg_fields classes n s) λ f t.
    num_then (num_bit (bit 4 f.map) [] (hints regs h) t (num_hints regs h t)) λ hs t.
    num_then (num_segments g t) λ ss t. num_done

num_virt_reg_after : (regs classes : ℕ) (before : List VirtReg) (s : List ℕ) → Numbered (virt_reg_after regs classes before s)
unfolding virt_reg_after
num_virt_reg_after regs classes before s = num_virt_reg _ _ _ _ _ s

num_table : {A : Type 0} (n limit : ℕ) (p : List A → Parser A) → ((before : List A) (s : List ℕ) → Numbered (p before s)) → (s : List ℕ) → Numbered (and_then (count_of n limit s) (λ k. each p k []))
num_table n limit p h s = num_then (num_count n limit s) λ k t. num_each p h k [] t

num_job : (s : List ℕ) → Numbered (job_fields s)
unfolding job_fields
num_job s =
    num_then (num_little 1 s) λ m t.
    num_then (num_refuse 3 (leb 64 m) t (λ z. omega (arith, z))) λ x t.
    num_then (num_bit (bit 0 m) [] _ t (num_table 1 64 (λ before. register) (λ before t. num_register t) t)) λ rs t.
    num_then (num_bit (bit 1 m) [] _ t (num_table 1 16 _ (λ before t. num_class _ t) t)) λ cs t.
    num_then (num_bit (bit 2 m) [] _ t (num_table 2 512 reservation num_reservation t)) λ fs t.
    num_then (num_bit (bit 3 m) [] _ t (num_table 2 512 _ (num_virt_reg_after _ _) t)) λ vs t.
    num_then (num_bit (bit 4 m) _ _ t (num_then (num_range 0 _ (λ t. num_done) t) λ r t. num_done)) λ p t.
    num_then (num_bit (bit 5 m) 100_000 (little 4) t (num_little 4 t)) λ b t. num_done

num_rest : (s : List ℕ) → Numbered (rest s)
num_rest s = num_done

num_whole : (limits lent bytes s : List ℕ) → Numbered (whole_job limits lent bytes s)
unfolding whole_job
num_whole limits lent bytes s =
    num_then (num_refuse 15 (short_buffer limits lent) s (λ z. omega (arith, z))) λ x t.
    num_then (num_refuse 4 (ltb 32_768 (length bytes)) t (λ z. omega (arith, z))) λ x t.
    num_then (num_job t) λ j t.
    num_then (num_rest t) λ tail t.
    num_then (num_refuse 2 (not (is_nil tail)) t (λ z. omega (arith, z))) λ x t.
    num_then (num_refuse 10 (twin j) t (λ z. omega (arith, z))) λ x t.
    num_then (num_refuse 11 (mixed_set j) t (λ z. omega (arith, z))) λ x t.
    num_then (num_refuse 12 (cut_use j) t (λ z. omega (arith, z))) λ x t. num_done {a = j} {s = t}

abbrev number_in : Loaded → ℕ
number_in (not_loaded n) = n
number_in (loaded j) = 1

refused_not_zero : (x : Parsed Job) (m : ℕ) → Numbered x → as_loaded x ≡ not_loaded m → m ≡ 0 → ⊥
refused_not_zero (refused n) m g q z = g.parts (ap number_in q ∙ z)
refused_not_zero (parsed j s) m g q z = let k : ◌≡◌ {A = ℕ} 1 0 = ap number_in q ∙ z in omega (arith, k)

-- a job that is refused is refused with a number above 0
pub not_zero : (lent bytes : List ℕ) (m : ℕ) → load lent bytes ≡ not_loaded m → m ≡ 0 → ⊥
unfolding load load_with
not_zero lent bytes m e z = refused_not_zero (whole_job stage_limits lent bytes bytes) m (num_whole stage_limits lent bytes bytes) e z
