-- The queue's words, in the shape of the code; stage/proofs/QueueLaws.antt ties these to Queue.antt and Layout.antt. Assumes nothing.
use Rattle.std.specs.Prelude.{ℕ, zero, suc, ◌+◌, ◌*◌, ◌^◌, ◌-◌, ◌/◌, ◌%◌, min, max, List, Option as Maybe, Some, None, Bool, cond, eqb, ltb, get_or, set}
use Rattle.std.proofs.Math.Option.{Option, none, some}
use Rattle.allocator.specs.declared.Stage.{Stage}
use Rattle.allocator.specs.declared.Stage.TheVariants.{Evict, Split}
use Rattle.allocator.specs.Queue.{stage_bit, Queued}
use Rattle.queue.specs.declared.Queued.{Queued as Next}

-- the key by its parts
unfoldable pub key_of : ℕ → Bool → ℕ → Stage → ℕ
key_of v hints size q = stage_bit q + cond hints (2 ^ 62) 0 + min size (2 ^ 27 - 1) * 2 ^ 32 + v

-- what a word stands for: 0 for nobody, or a key plus one
unfoldable pub decoded : ℕ → Maybe Next
decoded w = cond (eqb w 0) None (Some (record { number = (w - 1) % 2 ^ 16; stage = cond (ltb (2 ^ 63) w) Evict Split }))

-- the match at word i, played
unfoldable pub play_at : List ℕ → ℕ → List ℕ
play_at q i = set q i (max (get_or q (2 * i) 0) (get_or q (2 * i + 1) 0))

-- the n matches above word i, from below
unfoldable pub climb : ℕ → List ℕ → ℕ → List ℕ
climb zero q i = q
climb (suc n) q i = climb n (play_at q (i / 2)) (i / 2)

unfoldable pub set_word : ℕ → ℕ → List ℕ → List ℕ
set_word v w q = cond (ltb v 512) (climb 9 (set q (512 + v) w) (512 + v)) q

-- the words of the numbers v, v + 1, .., n of them
unfoldable pub leaves_from : (ℕ → ℕ) → ℕ → ℕ → List ℕ → List ℕ
leaves_from f zero v q = q
leaves_from f (suc n) v q = leaves_from f n (suc v) (set q (512 + v) (f v))

-- the matches at the words n, n - 1, .., 1
unfoldable pub play_from : ℕ → List ℕ → List ℕ
play_from zero q = q
play_from (suc n) q = play_from n (play_at q (suc n))

unfoldable pub filled : (ℕ → ℕ) → List ℕ → List ℕ
filled f q = set (play_from 511 (leaves_from f 512 0 q)) 0 0

-- the word of v as loading leaves it, where n virtual registers have these first hints and sizes
unfoldable pub first_word : ℕ → List ℕ → List ℕ → ℕ → ℕ
first_word n starts sizes v = cond (ltb v n) (key_of v (ltb (get_or starts v 0) (get_or starts (v + 1) 0)) (get_or sizes v 0) Evict + 1) 0

abbrev pub next_number : Option Queued → Maybe Next
next_number none = None
next_number (some q) = Some (record { number = q.number; stage = q.stage })
