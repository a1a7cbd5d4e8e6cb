-- Laws of a dequeue's decision in the code. Assumes nothing.
use Prim.Native.Nat.{ℕ, ◌+◌, ◌≤◌, ◌<◌}
use mathlib.Core.Path.{◌≡◌, refl, ap, sym, ◌∙◌}
use mathlib.Core.List.{List}
use mathlib.Core.Bool.{Bool, true, false, not, cond}
use lib.Ieee.{Float}
use lib.ListN.{length, get_or, drop, drop_of_length-le}
use lib.Seq.{drop-cons}
use native.Mathlib.Numerals.{add-one}
use Rattle.reg_matrix.specs.Lists.{is_nil, foldl}
use Rattle.matrix.specs.Walk.{Lent, remaining, heard, entered}
use Rattle.reg_matrix.specs.declared.Interference.{Interference}
use Rattle.matrix.specs.declared.Cursor.{Cursor}
use Rattle.std.proofs.Common.{Option as Maybe, Some, None, is_some}
use Rattle.allocator.specs.declared.CandidateReg.{CandidateReg}
use Rattle.stage.specs.EvictWalk.{tried_below}
use Rattle.stage.specs.declared.evict.Tried.{Tried}
use Rattle.stage.specs.declared.evict.Limit.{Limit}
use Rattle.stage.specs.declared.allocate.Best.{Best}
use Rattle.order.specs.OrderWalk.{no_candidate, offer_at, offers_from}
use Rattle.stage.specs.AllocateWalk.{reports_on, clear_on, none_of, available_in, cost_so_far, by_cost, by_weight, tried_on, taking, improves, better_of, better_in, evict_in, prefers, preferred_of, prefer_in}
use Rattle.stage.specs.declared.allocate.Available.TheVariants.{Clear}
use Rattle.order.proofs.OrderLaws.{offers_step, offers_past}

-- the first report of a check decides whether it is clear
pub clear_is_none : (W : Lent) (units : ℕ) (c : Cursor) (x : Maybe (Interference × Cursor)) (b : Bool) → c ≡ entered W.ends W.froms units false → remaining W c ≡ heard W x
    → not b ≡ is_some x → b ≡ is_nil (reports_on W units)
unfolding reports_on
clear_is_none W units c x b starts told is = go x b told is ∙ ap (λ (d : Cursor). is_nil (remaining W d)) starts
  where
    go : (x : Maybe (Interference × Cursor)) (b : Bool) → remaining W c ≡ heard W x → not b ≡ is_some x → b ≡ is_nil (remaining W c)
    go None true e p = rw e refl
    go None false e p = cc
    go (Some (r, d)) true e p = cc
    go (Some (r, d)) false e p = rw e refl

-- a test of the units that were read for a candidate's register
pub clear_is : (W : Lent) (maps : List ℕ) (c : CandidateReg) (units : ℕ) (b t : Bool) → units ≡ get_or maps c.reg 0 → b ≡ is_nil (reports_on W units) → b ≡ t → clear_on W maps c ≡ t
unfolding clear_on
clear_is W maps c units b t q r e = rw (← q, ← r) e

-- ---- one place of the walk for a clear one: the rest from here is the whole

module _ (W : Lent) (maps : List ℕ) (hs : List CandidateReg) (class : List ℕ) (i : ℕ) (t : Bool) where
  pub available_skip : None ≡ offer_at hs class i → available_in W maps t (offers_from hs class (i + 1)) ≡ available_in W maps t (offers_from hs class i)
  available_skip q = rw (offers_step hs class i, ← q)

  module _ (c : CandidateReg) (q : Some c ≡ offer_at hs class i) where
    pub available_clear : clear_on W maps c ≡ true → Clear c ≡ available_in W maps t (offers_from hs class i)
    unfolding available_in
    available_clear p = rw (offers_step hs class i, ← q, p)

    pub available_not : clear_on W maps c ≡ false → available_in W maps true (offers_from hs class (i + 1)) ≡ available_in W maps t (offers_from hs class i)
    unfolding available_in
    available_not p = rw (offers_step hs class i, ← q, p)

  -- past the end
  pub available_past : length hs + length class ≤ i → none_of t ≡ available_in W maps t (offers_from hs class i)
  unfolding available_in
  available_past h = rw (offers_past hs class i h)

-- what was tried on the units that were read for a candidate's register
pub tried_is : (l l' : Limit) (W : Lent) (maps : List ℕ) (ws : List Float) (ss : List Float) (c : CandidateReg) (units : ℕ) (t : Maybe Tried)
    → l ≡ l' → units ≡ get_or maps c.reg 0 → t ≡ tried_below l ws ss (reports_on W units) → t ≡ tried_on l' W maps ws ss c
unfolding tried_on
tried_is l l' W maps ws ss c units t e q r = r ∙ rw (e, q)

-- ---- one candidate of the search for a register to evict from

module _ (W : Lent) (maps : List ℕ) (ws : List Float) (ss : List Float) (flag : Bool) (own : Float) (hs : List CandidateReg) (class : List ℕ) (i : ℕ) (b : Maybe Best) where
  pub evict_skip : None ≡ offer_at hs class i → evict_in W maps ws ss flag own b (offers_from hs class (i + 1)) ≡ evict_in W maps ws ss flag own b (offers_from hs class i)
  evict_skip q = rw (offers_step hs class i, ← q)

  pub evict_past : length hs + length class ≤ i → b ≡ evict_in W maps ws ss flag own b (offers_from hs class i)
  unfolding evict_in foldl
  evict_past h = rw (offers_past hs class i h)

  module _ (c : CandidateReg) (q : Some c ≡ offer_at hs class i) (o : Maybe Tried) (e : o ≡ tried_on (by_cost flag own c (cost_so_far b)) W maps ws ss c) where
    here : evict_in W maps ws ss flag own (better_of flag own c o b) (offers_from hs class (i + 1)) ≡ evict_in W maps ws ss flag own b (offers_from hs class i)
    unfolding evict_in foldl better_in
    here = rw (offers_step hs class i, ← q, e)

    abbrev then_from : Maybe Best → Maybe Best
    then_from x = evict_in W maps ws ss flag own x (offers_from hs class (i + 1))

    pub evict_out : o ≡ None → evict_in W maps ws ss flag own b (offers_from hs class (i + 1)) ≡ evict_in W maps ws ss flag own b (offers_from hs class i)
    evict_out n = ap (λ (x : Maybe Tried). then_from (better_of flag own c x b)) (sym n) ∙ here

    module _ (t : Tried) (n : o ≡ Some t) where
      pub evict_better : improves flag own c t (cost_so_far b) ≡ true
          → evict_in W maps ws ss flag own (Some (taking c t)) (offers_from hs class (i + 1)) ≡ evict_in W maps ws ss flag own b (offers_from hs class i)
      evict_better p =
          ap (λ (z : Bool). then_from (cond z (Some (taking c t)) b)) (sym p) ∙ ap (λ (x : Maybe Tried). then_from (better_of flag own c x b)) (sym n) ∙ here

      pub evict_not : improves flag own c t (cost_so_far b) ≡ false
          → evict_in W maps ws ss flag own b (offers_from hs class (i + 1)) ≡ evict_in W maps ws ss flag own b (offers_from hs class i)
      evict_not p =
          ap (λ (z : Bool). then_from (cond z (Some (taking c t)) b)) (sym p) ∙ ap (λ (x : Maybe Tried). then_from (better_of flag own c x b)) (sym n) ∙ here

-- ---- one hinted candidate of the search for a preferred one

module _ (W : Lent) (maps : List ℕ) (ws : List Float) (ss : List Float) (clear : CandidateReg) (hs : List CandidateReg) (i : ℕ) where
  pub prefer_end : length hs ≤ i → None ≡ prefer_in W maps ws ss clear (drop i hs)
  unfolding prefer_in
  prefer_end h = rw (drop_of_length-le hs h)

  module _ (h : i < length hs) (c : CandidateReg) (q : c ≡ get_or hs i no_candidate) (o : Maybe Tried) (e : o ≡ tried_on (by_weight c) W maps ws ss c) where
    abbrev rest : Maybe Best
    rest = prefer_in W maps ws ss clear (drop (i + 1) hs)

    hinted_here : prefer_in W maps ws ss clear (drop i hs) ≡ preferred_of clear c o rest
    unfolding prefer_in
    hinted_here = rw (e, q, add-one, drop-cons hs i no_candidate)

    pub prefer_out : o ≡ None → prefer_in W maps ws ss clear (drop (i + 1) hs) ≡ prefer_in W maps ws ss clear (drop i hs)
    prefer_out n = ap (λ (x : Maybe Tried). preferred_of clear c x rest) (sym n) ∙ sym hinted_here

    module _ (t : Tried) (n : o ≡ Some t) where
      pub prefer_yes : prefers clear c t ≡ true → Some (taking c t) ≡ prefer_in W maps ws ss clear (drop i hs)
      prefer_yes p =
          ap (λ (z : Bool). cond z (Some (taking c t)) rest) (sym p) ∙ ap (λ (x : Maybe Tried). preferred_of clear c x rest) (sym n) ∙ sym hinted_here

      pub prefer_no : prefers clear c t ≡ false → prefer_in W maps ws ss clear (drop (i + 1) hs) ≡ prefer_in W maps ws ss clear (drop i hs)
      prefer_no p =
          ap (λ (z : Bool). cond z (Some (taking c t)) rest) (sym p) ∙ ap (λ (x : Maybe Tried). preferred_of clear c x rest) (sym n) ∙ sym hinted_here
