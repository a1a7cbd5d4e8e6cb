-- The job, from bytes to what it holds or to the number of the refusal (document 01, "The job", "Order", "Limits"). In each field the tests stand
-- with the lowest number first. Assumes nothing.
use Rattle.std.specs.Prelude.{ℕ, ◌+◌, ◌^◌, ◌<◌, List, [], Bool, false, not, ◌&&◌, ◌||◌, cond, ltb, leb, eqb, length, get_or}
use Rattle.std.proofs.Math.Option.{none, some}
use Rattle.std.specs.Bool.{beq}
use Rattle.std.specs.Int.Count.{ones_in}
use Rattle.std.specs.Float.{binary32}
use Rattle.std.specs.Float.Ieee.{of_bits, nan_bits}
use Rattle.reg_matrix.specs.Lists.{foldl, any, any_pair, same, bit, is_nil}
use Rattle.reg_matrix.specs.Refusals.{short_buffer, bad_slot, at_boundary}
use Rattle.reg_matrix.specs.Table.{units_of}
use Rattle.reg_matrix.specs.declared.ValueSegment.{ValueSegment}
use Rattle.reg_matrix.specs.declared.Entry.{Entry}
use Rattle.reg_matrix.specs.declared.Reservation.{Reservation}
use Rattle.reg_matrix.specs.declared.Reservation.TheVariants.{Held, FixedUse, FixedDef}
use Rattle.job.specs.declared.Hint.{Hint}
use Rattle.job.specs.declared.FixedFields.{FixedFields}
use Rattle.job.specs.declared.VirtRegFields.{VirtRegFields}
use Rattle.job.specs.Model.{VirtReg, Job}
use Rattle.job.specs.Parser.{Parsed, refused, parsed, Parser, ◌>>=◌, ◌>>◌, done, if_bit, each, refuse, little, rest}

-- ---- numbers

-- 01, "What the stage answers", 4: a count, at most `limit`
unfoldable pub count_of : ℕ → ℕ → Parser ℕ
count_of bytes limit = do
  k ← little bytes
  refuse 4 (ltb limit k)
  done k

-- 01, "What the stage answers", 8: a number below `limit`
unfoldable pub known : ℕ → ℕ → Parser ℕ
known bytes limit = do
  k ← little bytes
  refuse 8 (leb limit k)
  done k

-- 01, "What the stage answers", 9, of the bits of a spill weight: "sign bit set or NaN"
abbrev pub bad_spill_bits : ℕ → Bool
bad_spill_bits b = leb (2 ^ 31) b || nan_bits binary32 b

-- 01, "What the stage answers", 9, of the bits of a hint's weight: infinite too
abbrev pub bad_hint_bits : ℕ → Bool
bad_hint_bits b = bad_spill_bits b || eqb b 0x7f80_0000

-- ---- registers and classes

-- 01, "The job": the map of a register's units; "Limits": "each of 1 to 4 units"
unfoldable pub register : Parser ℕ
register = do
  m ← little 8
  refuse 4 (ltb 4 (ones_in 64 m))
  refuse 5 (eqb m 0)
  done m

-- 01, "The job": "a u8 count and u8 register numbers in order, possibly none"
unfoldable pub class : ℕ → Parser (List ℕ)
class regs = do
  k ← count_of 1 64
  each (λ before. known 1 regs) k []

-- ---- fixed reservations: the whole is one field

-- 01, "The job", fixed reservation: "absent unit and from are 0"
unfoldable pub fixed_fields : Parser FixedFields
fixed_fields = do
  m ← little 1
  u ← if_bit (bit 0 m) 0 (little 1)
  a ← if_bit (bit 1 m) 0 (little 4)
  b ← if_bit (bit 2 m) 0 (little 4)
  x ← if_bit (bit 3 m) 0 (little 2)
  done (record { map = m; unit = u; from = a; to = b; value = x })

-- 01, "What the stage answers", 7: where the last reservation of the unit ends; 0 if there is none
unfoldable pub last_end : ℕ → List Entry → ℕ
last_end u before = foldl (λ p e. cond (eqb e.unit u) e.to p) 0 before

-- 01, "Order", of a range from a to b on the unit u, where the last one ends at `past`; `bad` is 6 of a use's start or a def's end
unfoldable pub fixed_range : ℕ → ℕ → ℕ → ℕ → Reservation → Bool → Parser Entry
fixed_range past u a b r bad = do
  refuse 5 (leb b a)
  refuse 6 (bad_slot a || bad)
  refuse 7 (ltb a past)
  refuse 8 (leb 64 u)
  done (record { unit = u; from = a; to = b; reservation = r })

-- 01, "The job": "With a value it is a use and ends at from + 2; with an end it is a def."
unfoldable pub fixed_tests : ℕ → FixedFields → Parser Entry
fixed_tests past f = do
  refuse 3 (leb 16 f.map || beq (bit 2 f.map) (bit 3 f.map))
  cond (bit 2 f.map) (fixed_range past f.unit f.from f.to FixedDef (not (at_boundary f.to))) (fixed_range past f.unit f.from (f.from + 2) (FixedUse f.value) (not (at_boundary f.from)))

-- 01, "Order": a reservation is one field
unfoldable pub reservation : List Entry → Parser Entry
reservation before = do
  f ← fixed_fields
  fixed_tests (last_end f.unit before) f

-- ---- virtual registers

-- 01, "The job": "register u8, weight bits u32"; "Order": one field
unfoldable pub hint : ℕ → Parser Hint
hint regs = do
  r ← little 1
  w ← little 4
  refuse 8 (leb regs r)
  refuse 9 (bad_hint_bits w)
  done (record { reg = r; weight = of_bits binary32 w })

-- 01, "The job": a range of two points; "Order": 5, 6, 7. It may not start before `past`
unfoldable pub range : ℕ → Parser ℕ → Parser ValueSegment
range past value = do
  a ← little 4
  b ← little 4
  x ← value
  refuse 5 (leb b a)
  refuse 6 (bad_slot a || bad_slot b)
  refuse 7 (ltb a past)
  done (record { from = a; to = b; value = x })

-- 01, "What the stage answers", 7: where the last segment ends
unfoldable pub past_of : List ValueSegment → ℕ
past_of = foldl (λ past s. s.to) 0

-- 01, "The job": "from u32, to u32, value u16"
unfoldable pub segment : List ValueSegment → Parser ValueSegment
segment before = range (past_of before) (little 2)

-- 01, "Limits": how many hints the virtual registers have
unfoldable pub hints_in : List VirtReg → ℕ
hints_in = foldl (λ n v. n + length v.hints) 0

-- 01, "Limits": how many segments
unfoldable pub segments_in : List VirtReg → ℕ
segments_in = foldl (λ n v. n + length v.segments) 0

-- 01, "Limits": "hints 64 for one virtual register and 1,024 in all", after `earlier` of the job
unfoldable pub hint_count : ℕ → Parser ℕ
hint_count earlier = do
  k ← little 1
  refuse 4 (ltb 64 k || ltb 1024 (earlier + k))
  refuse 5 (eqb k 0)
  done k

-- 01, "Limits": "segments 512 in all"
unfoldable pub segment_count : ℕ → Parser ℕ
segment_count earlier = do
  k ← little 2
  refuse 4 (ltb 512 (earlier + k))
  refuse 5 (eqb k 0)
  done k

-- 01, "The job", virtual register, bit 4
unfoldable pub hints : ℕ → ℕ → Parser (List Hint)
hints regs earlier = do
  k ← hint_count earlier
  each (λ before. hint regs) k []

-- 01, "The job", virtual register, bit 5
unfoldable pub segments : ℕ → Parser (List ValueSegment)
segments earlier = do
  k ← segment_count earlier
  each segment k []

-- 01, "The job", virtual register, bit 2
unfoldable pub spill_bits : Parser ℕ
spill_bits = do
  b ← little 4
  refuse 9 (bad_spill_bits b)
  done b

-- 01, "The job": what stands before the hints of the virtual register n. "a default is tested at its map byte"
unfoldable pub virt_reg_fields : ℕ → ℕ → Parser VirtRegFields
virt_reg_fields classes n = do
  m ← little 1
  refuse 3 (leb 64 m)
  refuse 5 (not (bit 5 m))
  refuse 8 (not (bit 0 m) && eqb classes 0)
  c ← if_bit (bit 0 m) 0 (known 1 classes)
  t ← if_bit (bit 1 m) n (known 2 512)
  w ← if_bit (bit 2 m) 0 spill_bits
  z ← if_bit (bit 3 m) 0 (little 4)
  done (record { map = m; class = c; value_set = t; spill_weight = of_bits binary32 w; size = z })

-- 01, "The job": the virtual register n, where there are `regs` registers and `classes` classes, after h hints and g segments of the job
unfoldable pub virt_reg_at : ℕ → ℕ → ℕ → ℕ → ℕ → Parser VirtReg
virt_reg_at regs classes n h g = do
  f ← virt_reg_fields classes n
  hs ← if_bit (bit 4 f.map) [] (hints regs h)
  ss ← segments g
  done (record { class = f.class; value_set = f.value_set; spill_weight = f.spill_weight; size = f.size; hints = hs; segments = ss })

-- 01, "The job": the virtual register after these: "its own number" is how many they are
unfoldable pub virt_reg_after : ℕ → ℕ → List VirtReg → Parser VirtReg
virt_reg_after regs classes before = virt_reg_at regs classes (length before) (hints_in before) (segments_in before)

-- ---- the job

-- 01, "The job": "A map byte comes first, then only the fields whose bit stands, lowest bit first; an absent table is empty"
unfoldable pub job_fields : Parser Job
job_fields = do
  m ← little 1
  refuse 3 (leb 64 m)
  rs ← if_bit (bit 0 m) [] (do k ← count_of 1 64; each (λ before. register) k [])
  cs ← if_bit (bit 1 m) [] (do k ← count_of 1 16; each (λ before. class (length rs)) k [])
  fs ← if_bit (bit 2 m) [] (do k ← count_of 2 512; each reservation k [])
  vs ← if_bit (bit 3 m) [] (do k ← count_of 2 512; each (virt_reg_after (length rs) (length cs)) k [])
  p ← if_bit (bit 4 m) none (do r ← range 0 (done 0); done (some r))
  b ← if_bit (bit 5 m) 100_000 (little 4)
  done (record { regs = rs; classes = cs; fixed = fs; virt_regs = vs; probe = p; budget = b })

-- 01, "What the stage answers", 10: two registers with the same units, or a register twice in one class
unfoldable pub twin : Job → Bool
twin j = any_pair (λ m n. same (units_of m) (units_of n)) j.regs || any (any_pair eqb) j.classes

-- 01, "What the stage answers", 11: two virtual registers of one set differ in class
unfoldable pub mixed_set : Job → Bool
mixed_set j = any_pair (λ v w. eqb v.value_set w.value_set && not (eqb v.class w.class)) j.virt_regs

-- 01, "What the stage answers", 12: "strictly inside"
abbrev pub strictly_inside : Entry → ℕ → Bool
strictly_inside e p = ltb e.from p && ltb p e.to

-- 01, "What the stage answers", 12: "a fixed use of the same value"
abbrev pub use_of_value : ℕ → Reservation → Bool
use_of_value x (Held v i) = false
use_of_value x (FixedUse y) = eqb x y
use_of_value x FixedDef = false

-- 01, "What the stage answers", 12, of a segment and a reservation
abbrev pub cuts : ValueSegment → Entry → Bool
cuts s e = use_of_value s.value e.reservation && (strictly_inside e s.from || strictly_inside e s.to)

-- 01, "What the stage answers", 12: "a segment starts or ends strictly inside a fixed use of the same value, on any unit"
unfoldable pub cut_use : Job → Bool
cut_use j = any (λ v. any (λ s. any (cuts s) j.fixed) v.segments) j.virt_regs

-- 01, "Order": "Loading tests 15, then the job's length (4), then fields in byte order, .. then 2, 10, 11, 12." The sizes lent are held to `limits`
unfoldable pub whole_job : List ℕ → List ℕ → List ℕ → Parser Job
whole_job limits lent bytes = do
  refuse 15 (short_buffer limits lent)
  refuse 4 (ltb 32_768 (length bytes))
  j ← job_fields
  tail ← rest
  refuse 2 (not (is_nil tail))
  refuse 10 (twin j)
  refuse 11 (mixed_set j)
  refuse 12 (cut_use j)
  done j

-- 01, "What the stage answers": a refusal's number, or the job
pub data Loaded : Type 0 where
  not_loaded : ℕ → Loaded
  loaded : Job → Loaded

-- 01, "What the stage answers": what the last test leaves
abbrev pub as_loaded : Parsed Job → Loaded
as_loaded (refused n) = not_loaded n
as_loaded (parsed j s) = loaded j

-- 01, "Order": what loading these bytes answers, with buffers of these sizes lent
unfoldable pub load_with : List ℕ → List ℕ → List ℕ → Loaded
load_with limits lent bytes = as_loaded (whole_job limits lent bytes bytes)

-- 01, "The job": the job's bytes are bytes. Over other numbers demand 3 is false: see proofs/NotBytes.antt of the crate corollaries
abbrev pub Bytes : List ℕ → Type 0
Bytes s = (i : ℕ) → get_or s i 0 < 256
