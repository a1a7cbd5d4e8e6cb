-- The queue (document 01, "Queue"; `Entry::encode`). Assumes nothing.
use Rattle.std.specs.Prelude.{ℕ, suc, ◌+◌, ◌*◌, ◌^◌, ◌-◌, min, List, [], ◌∷◌, cond, ltb}
use Rattle.std.proofs.Math.Option.{Option, none, some}
use Rattle.reg_matrix.specs.Lists.{is_nil}
use Rattle.job.specs.Model.{Job, virt_reg}
use Rattle.allocator.specs.State.{Stage, Evict, Split}

-- 01, "Queue": "stage Evict 2^63"
abbrev pub stage_bit : Stage → ℕ
stage_bit Evict = 2 ^ 63
stage_bit Split = 0

-- 01, "Queue": "stage Evict 2^63, hints present 2^62, the lesser of size and 2^27 − 1 times 2^32, then the number"
unfoldable pub encode : Job → ℕ → Stage → ℕ
encode j v q = stage_bit q + cond (is_nil (virt_reg j v).hints) 0 (2 ^ 62) + min (virt_reg j v).size (2 ^ 27 - 1) * 2 ^ 32 + v

-- 01, "Queue": a number in the queue, its stage and its key
pub record Queued : Type 0 where
  pub number : ℕ
  pub stage : Stage
  pub key : ℕ

-- 01, "Queue": the greater of two keys
abbrev pub ahead : Queued → Option Queued → Option Queued
ahead q none = some q
ahead q (some r) = cond (ltb r.key q.key) (some q) (some r)

-- 01, "Queue": v against the best of the others, where it is queued
abbrev pub or_ahead : Job → ℕ → Option Stage → Option Queued → Option Queued
or_ahead j v none r = r
or_ahead j v (some q) r = ahead (record { number = v; stage = q; key = encode j v q }) r

-- 01, "Queue": "Greatest u64 first", among the numbers from v on, who stand so in the queue
unfoldable pub next_from : Job → ℕ → List (Option Stage) → Option Queued
next_from j v [] = none
next_from j v (q ∷ qs) = or_ahead j v q (next_from j (suc v) qs)
