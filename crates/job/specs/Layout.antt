-- How a loaded job stands in lent numbers (document 01, "The job", "Limits"): a list for each field, the virtual registers' by number, at its limit's
-- size; and one slice for each kind of number, with the lists of that kind one after another. What is past a list's last is zero, but for the fixed
-- uses (see reg_matrix). A longer slice keeps its tail. Assumes nothing.
use Rattle.std.specs.Prelude.{ℕ, ◌+◌, List, [], ◌∷◌, ◌++◌, map, Float, length, drop}
use Rattle.std.proofs.Math.Option.{Option, none, some}
use Rattle.reg_matrix.specs.Lists.{concat_map, padded}
use Rattle.reg_matrix.specs.Layout.{use_words}
use Rattle.reg_matrix.specs.Questions.{table_limits}
use Rattle.reg_matrix.specs.declared.ValueSegment.{ValueSegment}
use Rattle.job.specs.declared.Hint.{Hint}
use Rattle.std.specs.Prelude.{Option as Maybe, Some, None}
use Rattle.job.specs.declared.JobHeader.{JobHeader}
use Rattle.job.specs.Model.{Job, VirtReg, zero_weight}

module _ {A : Type 0} where
  -- layout: where each list of a concatenation begins, from `at` on, and where the last ends
  unfoldable pub starts_from : (A → ℕ) → ℕ → List A → List ℕ
  starts_from size at [] = at ∷ []
  starts_from size at (x ∷ xs) = at ∷ starts_from size (at + size x) xs

-- layout: 01, "The job", a list for each field
pub record JobBuffers : Type 0 where
  pub regs : List ℕ
  pub class_starts : List ℕ
  pub class_regs : List ℕ
  pub fixed_uses : List ℕ
  pub classes : List ℕ
  pub value_sets : List ℕ
  pub spill_weights : List Float
  pub sizes : List ℕ
  pub hint_starts : List ℕ
  pub hint_regs : List ℕ
  pub hint_weights : List Float
  pub segment_starts : List ℕ
  pub froms : List ℕ
  pub tos : List ℕ
  pub values : List ℕ

-- layout: the hints of all virtual registers, by number
abbrev pub all_hints : Job → List Hint
all_hints j = concat_map (λ v. v.hints) j.virt_regs

-- layout: the segments of all virtual registers, by number
abbrev pub all_segments : Job → List ValueSegment
all_segments j = concat_map (λ v. v.segments) j.virt_regs

-- layout: the content of each list
unfoldable pub job_buffers : Job → JobBuffers
job_buffers j =
    record {
      regs = padded 64 0 j.regs;
      class_starts = padded 17 0 (starts_from length 0 j.classes);
      class_regs = padded 1024 0 (concat_map (λ c. c) j.classes);
      fixed_uses = use_words j.fixed;
      classes = padded 512 0 (map (λ (v : VirtReg). v.class) j.virt_regs);
      value_sets = padded 512 0 (map (λ (v : VirtReg). v.value_set) j.virt_regs);
      spill_weights = padded 512 zero_weight (map (λ (v : VirtReg). v.spill_weight) j.virt_regs);
      sizes = padded 512 0 (map (λ (v : VirtReg). v.size) j.virt_regs);
      hint_starts = padded 513 0 (starts_from (λ (v : VirtReg). length v.hints) 0 j.virt_regs);
      hint_regs = padded 1024 0 (map (λ (h : Hint). h.reg) (all_hints j));
      hint_weights = padded 1024 zero_weight (map (λ (h : Hint). h.weight) (all_hints j));
      segment_starts = padded 513 0 (starts_from (λ (v : VirtReg). length v.segments) 0 j.virt_regs);
      froms = padded 512 0 (map (λ (s : ValueSegment). s.from) (all_segments j));
      tos = padded 512 0 (map (λ (s : ValueSegment). s.to) (all_segments j));
      values = padded 512 0 (map (λ (s : ValueSegment). s.value) (all_segments j));
    }

-- ---- the slices

-- layout: what is lent for a job, one slice for each kind of number: 64, 32, 16 and 8 bits, and `jf` for weights
pub record JobSlices : Type 0 where
  pub j64 : List ℕ
  pub j32 : List ℕ
  pub j16 : List ℕ
  pub j8 : List ℕ
  pub jf : List Float

-- layout: the five of them
abbrev pub slices : List ℕ → List ℕ → List ℕ → List ℕ → List Float → JobSlices
slices j64 j32 j16 j8 jf = record { j64 = j64; j32 = j32; j16 = j16; j8 = j8; jf = jf }

-- layout: 01, "Limits": the slices' sizes, in that order: those of their lists together
abbrev pub job_limits : List ℕ
job_limits = 576 ∷ 1536 ∷ 2067 ∷ 2560 ∷ 1536 ∷ []

-- layout: 01, "Limits": what loading a job is lent, these and the table
abbrev pub load_limits : List ℕ
load_limits = job_limits ++ table_limits

-- layout: the content of each slice: first the lists that the tests of a whole job ask for
unfoldable pub job_slices : Job → JobSlices
job_slices j =
    let b = job_buffers j in
    record {
      j64 = b.regs ++ b.fixed_uses;
      j32 = b.froms ++ b.tos ++ b.sizes;
      j16 = b.class_starts ++ b.value_sets ++ b.values ++ b.hint_starts ++ b.segment_starts;
      j8 = b.class_regs ++ b.classes ++ b.hint_regs;
      jf = b.spill_weights ++ b.hint_weights;
    }

-- layout: where each list begins, with all that stands behind it
abbrev pub lists_in : JobSlices → JobBuffers
lists_in B =
    record {
      regs = B.j64;
      class_starts = B.j16;
      class_regs = B.j8;
      fixed_uses = drop 64 B.j64;
      classes = drop 1024 B.j8;
      value_sets = drop 17 B.j16;
      spill_weights = B.jf;
      sizes = drop 1024 B.j32;
      hint_starts = drop 1041 B.j16;
      hint_regs = drop 1536 B.j8;
      hint_weights = drop 512 B.jf;
      segment_starts = drop 1554 B.j16;
      froms = B.j32;
      tos = drop 512 B.j32;
      values = drop 529 B.j16;
    }

-- ---- what goes by value

-- layout: 01, "The job", the probe range, by value
abbrev pub probe_of : Option ValueSegment → Maybe (ℕ × ℕ)
probe_of none = None
probe_of (some s) = Some (s.from, s.to)

-- layout: 01, "The job", the header's counts, probe range and budget, by value
unfoldable pub header_of : Job → JobHeader
header_of j =
    record { regs = length j.regs; classes = length j.classes; virt_regs = length j.virt_regs; probe = probe_of j.probe; budget = j.budget }
