-- Loading's refusals as one computed table over the definitions: each number, each limit met and passed, and the order of the tests (document
-- 01, "What the stage answers", "Order", "Limits", "The job"). Assumes nothing.
use Prim.Native.Nat.{ℕ, zero, suc, ◌+◌, ◌-◌, ◌*◌, ◌/◌, ◌%◌, ◌^◌}
use Prim.Native.String.{String}
use mathlib.Core.List.{List, [], ◌∷◌, ◌++◌, map}
use mathlib.Core.Option.{none, some}
use mathlib.Core.Bool.{Bool, ◌&&◌}
use lib.Dec.{T}
use lib.Ieee.{binary32, to_bits}
use lib.ListN.{length, get_or, set, take, replicate}
use Rattle.reg_matrix.specs.Lists.{all, concat_map, count, same}
use Rattle.reg_matrix.specs.Layout.{use_value}
use Rattle.reg_matrix.specs.declared.ValueSegment.{ValueSegment}
use Rattle.reg_matrix.specs.declared.Entry.{Entry}
use Rattle.job.specs.Model.{Job, virt_reg}
use Rattle.job.specs.Layout.{load_limits}
use Rattle.job.specs.Load.{Loaded, not_loaded, loaded, load_with}
use Rattle.job.proofs.Hex.{hex, is_hex}
use Rattle.job.proofs.Opened.{opened}

-- ---- rows

-- The bytes are those of the texts and then `more`. The answer is a refusal's number, or 0 and what `fields` shows of the job that was loaded.
pub record Row : Type 0 where
  lent : List ℕ
  texts : List String
  more : List ℕ
  fields : Job → List ℕ
  says : List ℕ

abbrev answer : (Job → List ℕ) → Loaded → List ℕ
answer f (not_loaded n) = n ∷ []
answer f (loaded j) = 0 ∷ f j

pub right : Row → Bool
right r = all is_hex r.texts && same (answer r.fields (load_with load_limits r.lent (concat_map hex r.texts ++ r.more))) r.says

-- with buffers of these sizes lent
abbrev lending : List ℕ → List String → List ℕ → ℕ → Row
lending lent texts more n = record { lent = lent; texts = texts; more = more; fields = λ j. []; says = n ∷ [] }

-- text and more bytes; the number
abbrev long : String → List ℕ → ℕ → Row
long text more n = lending load_limits (text ∷ []) more n

abbrev job : String → ℕ → Row
job text n = long text [] n

-- one register, one class of it, and one virtual register, which the text gives
abbrev number : String → ℕ → Row
number text n = lending load_limits ("0B 01 0100000000000000 01 01 00 0100" ∷ text ∷ []) [] n

-- the same, with one fixed reservation before it
abbrev beside : String → String → ℕ → Row
beside fixed text n = lending load_limits ("0F 01 0100000000000000 01 01 00 0100" ∷ fixed ∷ "0100" ∷ text ∷ []) [] n

-- what the job holds
abbrev holds : String → (Job → List ℕ) → List ℕ → Row
holds text f values = record { lent = load_limits; texts = text ∷ []; more = []; fields = f; says = 0 ∷ values }

-- ---- bytes that are built

-- the lowest first
little_endian : ℕ → ℕ → List ℕ
little_endian zero k = []
little_endian (suc n) k = (k % 256) ∷ little_endian n (k / 256)

-- n of them, by their places
places : ℕ → (ℕ → List ℕ) → List ℕ
places n f = concat_map f (count 0 n)

-- n registers of one unit each
registers : ℕ → List ℕ
registers n = places n (λ u. little_endian 8 (2 ^ u))

-- a class of the first n registers
class_of : ℕ → List ℕ
class_of n = n ∷ count 0 n

-- n fixed defs on unit 0
defs : ℕ → List ℕ
defs n = places n (λ i. 6 ∷ little_endian 4 (8 * i) ++ little_endian 4 (8 * i + 4))

-- n segments
segment_bytes : ℕ → List ℕ
segment_bytes n = places n (λ i. little_endian 4 (8 * i) ++ little_endian 4 (8 * i + 4) ++ little_endian 2 1)

-- a virtual register with n segments
plain : ℕ → List ℕ
plain n = 0x20 ∷ little_endian 2 n ++ segment_bytes n

-- a virtual register with n hints for register 0, and one segment
hinted : ℕ → List ℕ
hinted n = 0x30 ∷ n ∷ places n (λ i. 0 ∷ little_endian 4 0) ++ little_endian 2 1 ++ segment_bytes 1

-- the sizes, with one less at the place i
one_less : ℕ → List ℕ
one_less i = set load_limits i (get_or load_limits i 0 - 1)

-- ---- what a loaded job holds

entry_fields : Entry → List ℕ
entry_fields e = e.unit ∷ e.from ∷ e.to ∷ use_value e.reservation ∷ []

-- the virtual register v: class, set, spill weight's bits, size, number of hints
number_fields : ℕ → Job → List ℕ
number_fields v j =
    let x = virt_reg j v in
    x.class ∷ x.value_set ∷ to_bits binary32 x.spill_weight ∷ x.size ∷ length x.hints ∷ []

segment_fields : ValueSegment → List ℕ
segment_fields s = s.from ∷ s.to ∷ s.value ∷ []

probe_fields : Job → List ℕ
probe_fields j = elim j.probe [ none ↦ [] | some s ↦ segment_fields s ]

pub rows : List Row
rows =
    -- ---- 15: the buffers lent
    -- each size is met
    job "00" 0 ∷
    -- each size is passed
    lending (map suc load_limits) ("00" ∷ []) [] 0 ∷
    -- none is lent
    lending [] ("00" ∷ []) [] 15 ∷
    -- the last is missing
    lending (take 6 load_limits) ("00" ∷ []) [] 15 ∷
    -- 15 before 4: the job is too long
    lending (one_less 0) ("00" ∷ []) (replicate 32_768 0) 15 ∷
    -- 15 before any field: before 1
    lending (one_less 0) [] [] 15 ∷
    -- 15 before any field: before 3
    lending (one_less 6) ("40" ∷ []) [] 15 ∷
    -- ---- 4: the length of the job
    -- 32,768 bytes: what follows the header is read
    long "" (replicate 32_768 0) 2 ∷
    -- 32,769 bytes
    long "" (replicate 32_769 0) 4 ∷
    -- before any field: 4 is not the lowest number
    long "" (replicate 32_769 0x40) 4 ∷
    -- ---- the header
    -- no bytes
    job "" 1 ∷
    -- no fields
    job "00" 0 ∷
    -- bit 6
    job "40" 3 ∷
    -- bit 7
    job "80" 3 ∷
    -- 3 at the map byte, before what follows
    job "C1" 3 ∷
    -- ---- registers
    -- no count
    job "01" 1 ∷
    -- a count of 0
    job "01 00" 0 ∷
    -- 64: the count is read, and no register follows
    job "01 40" 1 ∷
    -- 65
    job "01 41" 4 ∷
    -- 64, to the end
    long "01 40" (registers 64) 0 ∷
    -- the bytes end inside a register
    job "01 01 01000000000000" 1 ∷
    -- 4 units
    job "01 01 0F00000000000000" 0 ∷
    -- 5 units
    job "01 01 1F00000000000000" 4 ∷
    -- 5 units, from the lowest to the highest
    job "01 01 0100010001000180" 4 ∷
    -- no units
    job "01 01 0000000000000000" 5 ∷
    -- unit 63
    job "01 01 0000000000000080" 0 ∷
    -- 1 before 5
    job "01 01 00000000000000" 1 ∷
    -- byte order: 5 in a register, before 4 in the count of classes
    job "03 01 0000000000000000 11" 5 ∷
    -- ---- classes
    -- 16: the count is read, and no class follows
    job "02 10" 1 ∷
    -- 17
    job "02 11" 4 ∷
    -- no registers in a class
    job "02 01 00" 0 ∷
    -- 64 registers in a class: the count is read
    job "03 01 0100000000000000 01 40" 1 ∷
    -- 65 registers in a class
    job "03 01 0100000000000000 01 41" 4 ∷
    -- 16 classes of 64 registers, to the end
    long "03 40" (registers 64 ++ 16 ∷ places 16 (λ i. class_of 64)) 0 ∷
    -- the last register
    job "03 02 0100000000000000 0200000000000000 01 01 01" 0 ∷
    -- one past it
    job "03 02 0100000000000000 0200000000000000 01 01 02" 8 ∷
    -- a class names a register, and there are none
    job "02 01 01 00" 8 ∷
    -- byte order: 8 in a class, before 4 in the count of the next
    job "03 01 0100000000000000 02 01 01 41" 8 ∷
    -- ---- fixed reservations
    -- the bytes end inside the count
    job "04 00" 1 ∷
    -- 512: the count is read, and none follows
    job "04 0002" 1 ∷
    -- 513
    job "04 0102" 4 ∷
    -- 9, to the end
    long "04 0900" (defs 9) 0 ∷
    -- neither end nor value
    job "04 0100 03 00 08000000" 3 ∷
    -- both end and value
    job "04 0100 0E 08000000 10000000 0100" 3 ∷
    -- bit 4
    job "04 0100 18 0100" 3 ∷
    -- bit 7
    job "04 0100 86 08000000 10000000" 3 ∷
    -- 1 before 3: the known fields come first
    job "04 0100 1C" 1 ∷
    -- 1 before 5
    job "04 0100 06 08000000 080000" 1 ∷
    -- 1 before 8
    job "04 0100 07 40 08000000 100000" 1 ∷
    -- 3 before 5
    job "04 0100 0E 08000000 08000000 0100" 3 ∷
    -- 3 before 6
    job "04 0100 0E 0B000000 10000000 0100" 3 ∷
    -- 3 before 7
    job "04 0200 06 08000000 10000000 0E 0C000000 14000000 0100" 3 ∷
    -- 3 before 8
    job "04 0100 0F 40 08000000 10000000 0100" 3 ∷
    -- an empty def
    job "04 0100 06 08000000 08000000" 5 ∷
    -- a def that ends before it starts
    job "04 0100 06 08000000 04000000" 5 ∷
    -- 5 before 6: slot 3
    job "04 0100 06 0B000000 08000000" 5 ∷
    -- 5 before 6: a def that ends off Boundary
    job "04 0100 06 08000000 06000000" 5 ∷
    -- 5 before 7
    job "04 0200 06 08000000 10000000 06 0C000000 0C000000" 5 ∷
    -- 5 before 8
    job "04 0100 07 40 08000000 08000000" 5 ∷
    -- a def starts in slot 3
    job "04 0100 06 0B000000 10000000" 6 ∷
    -- a def starts at Normal
    job "04 0100 06 0A000000 10000000" 0 ∷
    -- a def ends in slot 3
    job "04 0100 06 08000000 0B000000" 6 ∷
    -- a def ends at Early
    job "04 0100 06 08000000 09000000" 6 ∷
    -- a def ends at Normal
    job "04 0100 06 08000000 0A000000" 6 ∷
    -- a use starts at Early
    job "04 0100 0A 09000000 0100" 6 ∷
    -- a use starts at Normal
    job "04 0100 0A 0A000000 0100" 6 ∷
    -- a use starts in slot 3
    job "04 0100 0A 0B000000 0100" 6 ∷
    -- 6 before 7
    job "04 0200 06 08000000 10000000 06 0C000000 16000000" 6 ∷
    -- 6 before 8
    job "04 0100 07 40 08000000 0A000000" 6 ∷
    -- the greatest point: 6 and not 5, as from + 2 has no width
    job "04 0100 0A FFFFFFFF 0100" 6 ∷
    -- a use at the greatest Boundary
    job "04 0100 0A FCFFFFFF 0100" 0 ∷
    -- a def from 0 to the greatest Boundary
    job "04 0100 04 FCFFFFFF" 0 ∷
    -- a def starts before the previous one ends
    job "04 0200 06 08000000 10000000 06 0C000000 14000000" 7 ∷
    -- a use starts before a def ends
    job "04 0200 06 08000000 10000000 0A 0C000000 0100" 7 ∷
    -- a def starts before a use ends
    job "04 0200 0A 08000000 0100 06 09000000 10000000" 7 ∷
    -- it starts where the previous one ends
    job "04 0200 06 08000000 10000000 06 10000000 14000000" 0 ∷
    -- the same on another unit
    job "04 0200 06 08000000 10000000 07 01 0C000000 14000000" 0 ∷
    -- the previous one of its unit, not of the job
    job "04 0300 06 08000000 10000000 07 01 04000000 08000000 06 0C000000 14000000" 7 ∷
    -- unit 63
    job "04 0100 07 3F 08000000 10000000" 0 ∷
    -- unit 64
    job "04 0100 07 40 08000000 10000000" 8 ∷
    -- ---- virtual registers: the map byte
    -- 512: the count is read, and none follows
    job "08 0002" 1 ∷
    -- 513
    job "08 0102" 4 ∷
    -- 9, to the end
    long "0B 01 0100000000000000 01 01 00 0900" (places 9 (λ v. plain 1)) 0 ∷
    -- bit 6
    number "60" 3 ∷
    -- bit 7
    number "A0" 3 ∷
    -- no segments
    number "00" 5 ∷
    -- an absent class, and there are no classes
    job "08 0100 20" 8 ∷
    -- a class, and there are none: not at the map byte
    job "08 0100 21" 1 ∷
    -- 3 before 5
    job "08 0100 41" 3 ∷
    -- 3 before 8
    job "08 0100 60" 3 ∷
    -- 5 before 8
    job "08 0100 00" 5 ∷
    -- 3 and what follows
    number "E1 01" 3 ∷
    -- ---- virtual registers: class, set, spill weight, size
    -- class 0
    number "21 00 0100 04000000 08000000 0100" 0 ∷
    -- an unknown class
    number "21 01 0100 04000000 08000000 0100" 8 ∷
    -- set 511
    number "22 FF01 0100 04000000 08000000 0100" 0 ∷
    -- set 512
    number "22 0002 0100 04000000 08000000 0100" 8 ∷
    -- the greatest spill weight, infinity
    number "24 0000807F 0100 04000000 08000000 0100" 0 ∷
    -- the least NaN
    number "24 0100807F 0100 04000000 08000000 0100" 9 ∷
    -- the greatest NaN without a sign
    number "24 FFFFFF7F 0100 04000000 08000000 0100" 9 ∷
    -- minus zero
    number "24 00000080 0100 04000000 08000000 0100" 9 ∷
    -- minus infinity
    number "24 000080FF 0100 04000000 08000000 0100" 9 ∷
    -- the greatest size
    number "28 FFFFFFFF 0100 04000000 08000000 0100" 0 ∷
    -- the bytes end inside the set
    number "22 00" 1 ∷
    -- the bytes end inside the size
    number "28 000000" 1 ∷
    -- byte order: 8 of the class, before 1 of the set
    number "23 01" 8 ∷
    -- byte order: 9 of the spill weight, before 4 of the segments
    number "24 00000080 0102" 9 ∷
    -- ---- virtual registers: hints
    -- 64: the count is read, and none follows
    number "30 40" 1 ∷
    -- 65
    number "30 41" 4 ∷
    -- no hints
    number "30 00 0100 04000000 08000000 0100" 5 ∷
    -- an unknown register
    number "30 01 01 00000000 0100 04000000 08000000 0100" 8 ∷
    -- the greatest finite weight
    number "30 01 00 FFFF7F7F 0100 04000000 08000000 0100" 0 ∷
    -- an infinite weight
    number "30 01 00 0000807F 0100 04000000 08000000 0100" 9 ∷
    -- NaN
    number "30 01 00 0100807F 0100 04000000 08000000 0100" 9 ∷
    -- minus zero
    number "30 01 00 00000080 0100 04000000 08000000 0100" 9 ∷
    -- 8 before 9
    number "30 01 01 0000807F 0100 04000000 08000000 0100" 8 ∷
    -- 1 before 8
    number "30 01 01 000080" 1 ∷
    -- byte order: 9 of a hint, before 8 of the next
    number "30 02 00 0000807F 01 00000000 0100 04000000 08000000 0100" 9 ∷
    -- 64 for one, to the end
    long "0B 01 0100000000000000 01 01 00 0100" (hinted 64) 0 ∷
    -- 1,024 in all, to the end
    long "0B 01 0100000000000000 01 01 00 1000" (places 16 (λ v. hinted 64)) 0 ∷
    -- 1,025 in all
    long "0B 01 0100000000000000 01 01 00 1100" (places 16 (λ v. hinted 64) ++ hinted 1) 4 ∷
    -- a count of 0 after 1,024: not over the limit
    long "0B 01 0100000000000000 01 01 00 1100" (places 16 (λ v. hinted 64) ++ (0x30 ∷ 0 ∷ [])) 5 ∷
    -- ---- virtual registers: segments
    -- 512: the count is read, and none follows
    number "20 0002" 1 ∷
    -- 513
    number "20 0102" 4 ∷
    -- a count of 0
    number "20 0000" 5 ∷
    -- 512 in all, of two: the second's count is read, and none follows
    long "0B 01 0100000000000000 01 01 00 0200" (plain 1 ++ (0x20 ∷ little_endian 2 511)) 1 ∷
    -- 513 in all
    long "0B 01 0100000000000000 01 01 00 0200" (plain 1 ++ (0x20 ∷ little_endian 2 512)) 4 ∷
    -- 9 of one, to the end
    long "0B 01 0100000000000000 01 01 00 0100" (plain 9) 0 ∷
    -- an empty segment
    number "20 0100 08000000 08000000 0100" 5 ∷
    -- a segment that ends before it starts
    number "20 0100 08000000 04000000 0100" 5 ∷
    -- it starts in slot 3
    number "20 0100 07000000 08000000 0100" 6 ∷
    -- it ends in slot 3
    number "20 0100 04000000 07000000 0100" 6 ∷
    -- Early to Normal
    number "20 0100 05000000 06000000 0100" 0 ∷
    -- overlapping segments
    number "20 0200 04000000 0C000000 0100 08000000 10000000 0100" 7 ∷
    -- touching segments
    number "20 0200 04000000 0C000000 0100 0C000000 10000000 0100" 0 ∷
    -- the second before the first
    number "20 0200 0C000000 10000000 0100 04000000 08000000 0100" 7 ∷
    -- 1 before 5
    number "20 0100 08000000 08000000 01" 1 ∷
    -- 5 before 6
    number "20 0100 0B000000 08000000 0100" 5 ∷
    -- 5 before 7
    number "20 0200 04000000 0C000000 0100 08000000 08000000 0100" 5 ∷
    -- 6 before 7
    number "20 0200 04000000 0C000000 0100 08000000 0F000000 0100" 6 ∷
    -- each virtual register by itself: no 7
    job "0B 01 0100000000000000 01 01 00 0200 20 0100 08000000 0C000000 0100 20 0100 04000000 08000000 0100" 0 ∷
    -- ---- probe and budget
    -- a range
    job "10 04000000 08000000" 0 ∷
    -- an empty range
    job "10 04000000 04000000" 5 ∷
    -- it starts in slot 3
    job "10 07000000 08000000" 6 ∷
    -- it ends in slot 3
    job "10 04000000 07000000" 6 ∷
    -- 1 before 5
    job "10 04000000 040000" 1 ∷
    -- 5 before 6
    job "10 07000000 07000000" 5 ∷
    -- the bytes end inside the budget
    job "20 010000" 1 ∷
    -- byte order: 5 of the probe range, before 1 of the budget
    job "30 04000000 04000000" 5 ∷
    -- ---- 2: a tail
    -- after no fields
    job "00 00" 2 ∷
    -- after the budget
    job "20 01000000 00" 2 ∷
    -- 2 before 10
    job "01 02 0100000000000000 0100000000000000 00" 2 ∷
    -- ---- 10: twins
    -- two registers with the same units
    job "01 02 0300000000000000 0300000000000000" 10 ∷
    -- the first and the third
    job "01 03 0100000000000000 0200000000000000 0100000000000000" 10 ∷
    -- one has a unit more
    job "01 02 0100000000000000 0300000000000000" 0 ∷
    -- a register twice in a class
    job "03 01 0100000000000000 01 02 00 00" 10 ∷
    -- the same, in the second class, with one between
    job "03 02 0100000000000000 0200000000000000 02 00 03 00 01 00" 10 ∷
    -- a register in two classes
    job "03 01 0100000000000000 02 01 00 01 00" 0 ∷
    -- 10 before 11
    job "0B 02 0100000000000000 0100000000000000 02 01 00 00 0200 22 0000 0100 04000000 08000000 0100 23 01 0000 0100 04000000 08000000 0100" 10 ∷
    -- 10 before 12
    job "0F 02 0100000000000000 0100000000000000 01 01 00 0100 0A 08000000 0100 0100 20 0100 04000000 09000000 0100" 10 ∷
    -- ---- 11: mixed sets
    -- two of one set, in two classes
    job "0B 01 0100000000000000 02 01 00 00 0200 22 0000 0100 04000000 08000000 0100 23 01 0000 0100 04000000 08000000 0100" 11 ∷
    -- the set of the second is the number of the first
    job "0B 01 0100000000000000 02 01 00 00 0200 20 0100 04000000 08000000 0100 23 01 0000 0100 04000000 08000000 0100" 11 ∷
    -- the set of the first is the number of the second
    job "0B 01 0100000000000000 02 01 00 00 0200 22 0100 0100 04000000 08000000 0100 21 01 0100 04000000 08000000 0100" 11 ∷
    -- of two sets
    job "0B 01 0100000000000000 02 01 00 00 0200 22 0000 0100 04000000 08000000 0100 23 01 0100 0100 04000000 08000000 0100" 0 ∷
    -- of one set, in one class
    job "0B 01 0100000000000000 02 01 00 00 0200 22 0000 0100 04000000 08000000 0100 23 00 0000 0100 04000000 08000000 0100" 0 ∷
    -- 11 before 12
    job "0F 01 0100000000000000 02 01 00 00 0100 0A 08000000 0100 0200 22 0000 0100 04000000 09000000 0100 23 01 0000 0100 04000000 08000000 0100" 11 ∷
    -- ---- 12: cut uses. The use of value 1 is from 8 to 10
    -- a segment ends inside it
    beside "0A 08000000 0100" "20 0100 04000000 09000000 0100" 12 ∷
    -- a segment starts inside it
    beside "0A 08000000 0100" "20 0100 09000000 14000000 0100" 12 ∷
    -- a segment from its start to its inside
    beside "0A 08000000 0100" "20 0100 08000000 09000000 0100" 12 ∷
    -- the second segment
    beside "0A 08000000 0100" "20 0200 04000000 08000000 0100 09000000 14000000 0100" 12 ∷
    -- on any unit
    beside "0B 05 08000000 0100" "20 0100 09000000 0C000000 0100" 12 ∷
    -- a use of another value
    beside "0A 08000000 0100" "20 0100 04000000 09000000 0200" 0 ∷
    -- the whole use
    beside "0A 08000000 0100" "20 0100 08000000 0A000000 0100" 0 ∷
    -- the use and more
    beside "0A 08000000 0100" "20 0100 04000000 14000000 0100" 0 ∷
    -- it ends where the use starts
    beside "0A 08000000 0100" "20 0100 04000000 08000000 0100" 0 ∷
    -- it starts where the use ends
    beside "0A 08000000 0100" "20 0100 0A000000 0C000000 0100" 0 ∷
    -- a def
    beside "06 08000000 10000000" "20 0100 09000000 0C000000 0100" 0 ∷
    -- ---- what an absent field is, and the lowest byte first
    -- the budget, absent
    holds "00" (λ j. j.budget ∷ []) (100_000 ∷ []) ∷
    -- the budget
    holds "20 01020304" (λ j. j.budget ∷ []) (0x0403_0201 ∷ []) ∷
    -- tables and the probe range, absent
    holds "00" (λ j. length j.regs ∷ length j.classes ∷ length j.fixed ∷ length j.virt_regs ∷ probe_fields j) (0 ∷ 0 ∷ 0 ∷ 0 ∷ []) ∷
    -- the probe range
    holds "10 04030201 08030201" probe_fields (0x0102_0304 ∷ 0x0102_0308 ∷ 0 ∷ []) ∷
    -- a register, and the classes in order
    holds "03 02 0180000000000000 0200000000000000 02 02 01 00 00" (λ j. j.regs ++ concat_map (λ c. length c ∷ c) j.classes) (0x8001 ∷ 2 ∷ 2 ∷ 1 ∷ 0 ∷ 0 ∷ []) ∷
    -- a use with nothing but a value: unit 0, from 0 to 2
    holds "04 0100 08 0201" (λ j. concat_map entry_fields j.fixed) (0 ∷ 0 ∷ 2 ∷ 0x0102 ∷ []) ∷
    -- a def
    holds "04 0100 07 05 04030201 08030201" (λ j. concat_map entry_fields j.fixed) (5 ∷ 0x0102_0304 ∷ 0x0102_0308 ∷ 0 ∷ []) ∷
    -- a virtual register, all but segments absent: the set is its own number
    holds "0B 01 0100000000000000 01 01 00 0200 20 0100 04000000 08000000 0100 20 0100 04000000 08000000 0100" (number_fields 1) (0 ∷ 1 ∷ 0 ∷ 0 ∷ 0 ∷ []) ∷
    -- a virtual register with every field
    holds "0B 01 0100000000000000 02 00 00 0100 3F 01 0300 0000803F 01020304 01 00 0000803F 0100 04000000 08000000 0201" (λ j. number_fields 0 j ++ concat_map segment_fields (virt_reg j 0).segments) (1 ∷ 3 ∷ 0x3f80_0000 ∷ 0x0403_0201 ∷ 1 ∷ 4 ∷ 8 ∷ 0x0102 ∷ []) ∷
    -- ---- 15 again: each of the sizes by itself
    map (λ i. lending (one_less i) ("00" ∷ []) [] 15) (count 0 (length load_limits))

pub rows_right : T (all right rows)
unfolding opened right little_endian places registers class_of defs segment_bytes plain hinted one_less entry_fields number_fields segment_fields probe_fields rows
rows_right = tt
