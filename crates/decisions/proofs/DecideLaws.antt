-- A dequeue's decision in the code, end by end: what each function returns there is what the definition says. Assumes nothing.
use Prim.Native.Nat.{ℕ}
use mathlib.Core.Path.{◌≡◌, ap}
use mathlib.Core.List.{List}
use mathlib.Core.Bool.{Bool, true, false, not, ◌&&◌}
use lib.Ieee.{Float, lt, eq}
use Rattle.matrix.specs.Walk.{Lent}
use Rattle.job.specs.Layout.{JobBuffers}
use Rattle.allocator.specs.declared.CandidateReg.{CandidateReg}
use Rattle.allocator.specs.declared.Stage.{Stage}
use Rattle.allocator.specs.declared.Stage.TheVariants.{Evict, Split}
use Rattle.allocator.specs.Order.{highest_preference}
use Rattle.allocator.specs.Evict.{infinite}
use Rattle.std.proofs.Common.{Option as Maybe, Some, None}
use Rattle.order.specs.OrderWalk.{hints_of, hinted_of, last_of, offers_from}
use Rattle.stage.specs.AllocateWalk.{available_in, evict_in, prefer_in}
use Rattle.stage.specs.declared.allocate.Best.{Best}
use Rattle.stage.specs.declared.allocate.Available.{Available}
use Rattle.stage.specs.declared.allocate.Available.TheVariants.{Clear, NoneClear, NoCandidates}
use Rattle.job_parts.specs.Shares.{share_of}
use Rattle.decisions.specs.Deciding.{Leaves, Takes, Evicts, Splits, Fails, last_in, preferred_or, clear_in, evicted_or, none_clear_in, found_in, in_order, hinted_in}

-- ---- a clear candidate

module _ (W : Lent) (maps : List ℕ) (ws : List Float) (ss : List Float) (hs : List CandidateReg) (flag : Bool) (c : CandidateReg) (t : Bool) (p : t ≡ (lt c.preference_weight (highest_preference hs) && not flag)) where
  -- no other is preferred
  pub clear_taken : t ≡ false → Takes c ≡ clear_in W maps ws ss hs flag c
  unfolding clear_in
  clear_taken e = rw (← p, e)

  -- the search for a preferred one decides
  pub clear_searched : t ≡ true → (b : Maybe Best) → b ≡ prefer_in W maps ws ss c hs → preferred_or c b ≡ clear_in W maps ws ss hs flag c
  unfolding clear_in
  clear_searched e b q = rw (← p, e) (ap (preferred_or c) q)

module _ (c : CandidateReg) (o : Maybe Best) where
  pub preferred_found : (b : Best) → o ≡ Some b → Evicts b.to true b.holders ≡ preferred_or c o
  preferred_found b e = rw e

  pub preferred_none : o ≡ None → Takes c ≡ preferred_or c o
  preferred_none e = rw e

-- ---- no candidate is clear

module _ (W : Lent) (maps : List ℕ) (ws : List Float) (ss : List Float) (flag : Bool) (own : Float) (cs : List CandidateReg) (q : Stage) where
  pub none_at_split : q ≡ Split → Leaves ≡ none_clear_in W maps ws ss flag own cs q
  unfolding none_clear_in
  none_at_split e = rw e

  pub none_at_evict : q ≡ Evict → (b : Maybe Best) → b ≡ evict_in W maps ws ss flag own None cs → evicted_or own b ≡ none_clear_in W maps ws ss flag own cs q
  unfolding none_clear_in
  none_at_evict e b p = rw e (ap (evicted_or own) p)

module _ (own : Float) (o : Maybe Best) where
  pub evicted_found : (b : Best) → o ≡ Some b → Evicts b.to (not (lt b.cost.spill_weight own)) b.holders ≡ evicted_or own o
  evicted_found b e = rw e

  pub evicted_fails : o ≡ None → eq own infinite ≡ true → Fails ≡ evicted_or own o
  evicted_fails e t = rw (e, t)

  pub evicted_splits : o ≡ None → eq own infinite ≡ false → Splits ≡ evicted_or own o
  evicted_splits e t = rw (e, t)

-- ---- by what was found of the candidates

module _ (W : Lent) (maps : List ℕ) (ws : List Float) (ss : List Float) (hs : List CandidateReg) (flag : Bool) (own : Float) (cs : List CandidateReg) (q : Stage) (a : Available) where
  pub found_no_candidates : a ≡ NoCandidates → Leaves ≡ found_in W maps ws ss hs flag own cs q a
  unfolding found_in
  found_no_candidates e = rw e

  pub found_clear : (c : CandidateReg) → a ≡ Clear c → clear_in W maps ws ss hs flag c ≡ found_in W maps ws ss hs flag own cs q a
  unfolding found_in
  found_clear c e = rw e

  pub found_none_clear : a ≡ NoneClear → none_clear_in W maps ws ss flag own cs q ≡ found_in W maps ws ss hs flag own cs q a
  unfolding found_in
  found_none_clear e = rw e

pub order_found :
    (W : Lent) (maps : List ℕ) (ws : List Float) (ss : List Float) (hs : List CandidateReg) (class : List ℕ) (flag : Bool) (own : Float) (q : Stage)
    → (a : Available) → a ≡ available_in W maps false (offers_from hs class 0) → found_in W maps ws ss hs flag own (offers_from hs class 0) q a ≡ in_order W maps ws ss hs class flag own q
unfolding in_order
order_found W maps ws ss hs class flag own q a p = ap (found_in W maps ws ss hs flag own (offers_from hs class 0) q) p

-- ---- over the job's buffers

-- the hinted candidates of what was read for v
pub hinted_read : (B : JobBuffers) (last : List ℕ) (v : ℕ) (hr : List ℕ) (hw : List Float) (la : Maybe ℕ)
    → hr ≡ share_of B.hint_starts v B.hint_regs
    → hw ≡ share_of B.hint_starts v B.hint_weights
    → la ≡ last_in last B.value_sets v
    → hinted_of (hints_of hr hw) (last_of la) ≡ hinted_in B last v
unfolding hinted_in
hinted_read B last v hr hw la a b c = rw (a, b, c)
