-- What the readers of virtual registers promise, in the terms of the parsers of Load.antt. What they store stands in the slices of a job (Layout.antt
-- of the job), where there is room. Assumes nothing.
use Rattle.std.specs.Prelude.{ℕ, ◌+◌, ◌≡◌, List, map, Float, drop, length, set, Result, Ok, Err}
use Rattle.std.proofs.lemmas.List.Edits.{sets}
use Rattle.reg_matrix.specs.Refused.{number_of}
use Rattle.reg_matrix.specs.declared.Refusal.{Refusal}
use Rattle.reg_matrix.specs.declared.ValueSegment.{ValueSegment}
use Rattle.job.specs.declared.Hint.{Hint}
use Rattle.job.specs.declared.VirtRegFields.{VirtRegFields}
use Rattle.job.specs.Model.{VirtReg}
use Rattle.job.specs.Parser.{Parsed, refused, parsed}
use Rattle.job.specs.Layout.{starts_from, JobSlices}
use Rattle.reader.specs.Read.{Stored, hints_of_all, segments_of_all}
use Rattle.fields.specs.declared.totals.Totals.{Totals}

-- a virtual register with these fields, with whose hints and segments the totals before it are those after it
pub record Virt (f : VirtRegFields) (before after : Totals) (v : VirtReg) : Type 0 where
  pub class : v.class ≡ f.class
  pub value_set : v.value_set ≡ f.value_set
  pub spill_weight : v.spill_weight ≡ f.spill_weight
  pub size : v.size ≡ f.size
  pub hints : before.hints + length v.hints ≡ after.hints
  pub segments : before.segments + length v.segments ≡ after.segments

-- ---- what is stored, by the slice of its kind

-- 32-bit numbers: where segments start and end, and sizes
unfoldable pub in32 : List ℕ → List ℕ → List ℕ → List ℕ → List ℕ
in32 w froms tos sizes = sets (sets (sets w 0 froms) 512 tos) 1024 sizes

-- 16-bit numbers: sets, values of segments, and where hints and segments end, behind the place where the first begin
unfoldable pub in16 : List ℕ → List ℕ → List ℕ → List ℕ → List ℕ → List ℕ
in16 h groups values hints segments = sets (sets (sets (sets h 17 groups) 529 values) 1042 hints) 1555 segments

-- bytes: classes, and registers of hints
unfoldable pub in8 : List ℕ → List ℕ → List ℕ → List ℕ
in8 b classes regs = sets (sets b 1024 classes) 1536 regs

-- weights: of spilling, and of hints
unfoldable pub in_weights : List Float → List Float → List Float → List Float
in_weights f spills weights = sets (sets f 0 spills) 512 weights

-- the segments of one virtual register, from place g on
pub record SegmentsAt (g : ℕ) (w h w' h' : List ℕ) (ss : List ValueSegment) : Type 0 where
  pub points : w' ≡ sets (sets w g (map (λ (x : ValueSegment). x.from) ss)) (512 + g) (map (λ (x : ValueSegment). x.to) ss)
  pub values : Stored (λ (x : ValueSegment). x.value) h (529 + g) ss h'

-- its hints, from place h on
pub record HintsAt (h : ℕ) (b : List ℕ) (f : List Float) (b' : List ℕ) (f' : List Float) (hs : List Hint) : Type 0 where
  pub regs : Stored (λ (x : Hint). x.reg) b (1536 + h) hs b'
  pub weights : Stored (λ (x : Hint). x.weight) f (512 + h) hs f'

-- the fields of the virtual register i
pub record FieldsAt (f : VirtRegFields) (i : ℕ) (w h b : List ℕ) (s : List Float) (w' h' b' : List ℕ) (s' : List Float) : Type 0 where
  pub size : w' ≡ set w (1024 + i) f.size
  pub value_set : h' ≡ set h (17 + i) f.value_set
  pub class : b' ≡ set b (1024 + i) f.class
  pub spill_weight : s' ≡ set s i f.spill_weight

-- where the hints of each virtual register end
abbrev pub hint_ends : List VirtReg → List ℕ
hint_ends vs = drop 1 (starts_from (λ (v : VirtReg). length v.hints) 0 vs)

-- and its segments
abbrev pub segment_ends : List VirtReg → List ℕ
segment_ends vs = drop 1 (starts_from (λ (v : VirtReg). length v.segments) 0 vs)

-- virtual registers, all of them
pub record VirtsAt (w h b : List ℕ) (f : List Float) (w' h' b' : List ℕ) (f' : List Float) (vs : List VirtReg) : Type 0 where
  pub j32 :
      w' ≡ in32 w (map (λ (x : ValueSegment). x.from) (segments_of_all vs)) (map (λ (x : ValueSegment). x.to) (segments_of_all vs)) (map (λ (v : VirtReg). v.size) vs)
  pub j16 :
      h' ≡ in16 h (map (λ (v : VirtReg). v.value_set) vs) (map (λ (x : ValueSegment). x.value) (segments_of_all vs)) (hint_ends vs) (segment_ends vs)
  pub j8 : b' ≡ in8 b (map (λ (v : VirtReg). v.class) vs) (map (λ (x : Hint). x.reg) (hints_of_all vs))
  pub jf : f' ≡ in_weights f (map (λ (v : VirtReg). v.spill_weight) vs) (map (λ (x : Hint). x.weight) (hints_of_all vs))

-- ---- the same in a job's slices

abbrev pub SegmentsIn : ℕ → JobSlices → JobSlices → List ValueSegment → Type 0
SegmentsIn g B B' = SegmentsAt g B.j32 B.j16 B'.j32 B'.j16

abbrev pub HintsIn : ℕ → JobSlices → JobSlices → List Hint → Type 0
HintsIn h B B' = HintsAt h B.j8 B.jf B'.j8 B'.jf

abbrev pub FieldsIn : VirtRegFields → ℕ → JobSlices → JobSlices → Type 0
FieldsIn f i B B' = FieldsAt f i B.j32 B.j16 B.j8 B.jf B'.j32 B'.j16 B'.j8 B'.jf

abbrev pub VirtsIn : JobSlices → JobSlices → List VirtReg → Type 0
VirtsIn B B' = VirtsAt B.j32 B.j16 B.j8 B.jf B'.j32 B'.j16 B'.j8 B'.jf

-- ---- the answers, each with the bytes that are left

abbrev pub VirtOut : List ℕ → Parsed VirtReg → Totals → Result (VirtRegFields × Totals) Refusal → (List Hint → Type 0) → (List ValueSegment → Type 0) → Type 0
VirtOut l₁ p before (Err r) hs ss = p ≡ refused (number_of r)
VirtOut l₁ p before (Ok (f, after)) hs ss = (v : VirtReg) × (p ≡ parsed v l₁) × Virt f before after v × hs v.hints × ss v.segments

-- the hints and segments of all
abbrev pub TotalsOf : Totals → List VirtReg → Type 0
TotalsOf t vs = (length (hints_of_all vs) ≡ t.hints) × (length (segments_of_all vs) ≡ t.segments)

abbrev pub VirtsOut : List ℕ → Parsed (List VirtReg) → Result Totals Refusal → (List VirtReg → Type 0) → Type 0
VirtsOut l p (Err r) stored = p ≡ refused (number_of r)
VirtsOut l p (Ok t) stored = (vs : List VirtReg) × (p ≡ parsed vs l) × TotalsOf t vs × stored vs

abbrev pub TableOut : List ℕ → Parsed (List VirtReg) → Result (ℕ × Totals) Refusal → (List VirtReg → Type 0) → Type 0
TableOut l p (Err r) stored = p ≡ refused (number_of r)
TableOut l p (Ok (n, t)) stored = (vs : List VirtReg) × (p ≡ parsed vs l) × (length vs ≡ n) × TotalsOf t vs × stored vs
