-- Stopping at a report after which a candidate can no longer win changes nothing: a weight added never lowers a sum, and a greatest spill weight
-- never falls, so the rest of the reports would not help it. Assumes nothing.
use Prim.Native.Nat.{ℕ, ◌≤◌, ◌<◌}
use native.Mathlib.Omega.{arith}
use mathlib.Core.Path.{◌≡◌, refl, ap, sym, ◌∙◌, subst}
use mathlib.Core.Logic.{◌⊎◌, inl, inr}
use mathlib.Core.List.{List, [], ◌∷◌}
use mathlib.Core.Bool.{Bool, true, false, ◌&&◌, ◌||◌, cond, and-false}
use lib.Dec.{T, ltb, eqb}
use lib.Ieee.{Float, binary32, of_bits, of_fields, odd, fits, add, lt}
use lib.Ieee.Fits.{add-fits}
use lib.Ieee.Bits.{of_bits-fits}
use lib.ListN.{get_or, set, replicate}
use lib.Seq.{set-get_or}
use Rattle.std.proofs.Common.{Option as Maybe, Some, None}
use borrow.Author.Tests.{le-ltb, ltb-true, ltb-false, eq-eqb, eqb-true}
use Rattle.reg_matrix.specs.declared.Interference.{Interference}
use Rattle.reg_matrix.specs.declared.InterferenceKind.{InterferenceKind}
use Rattle.reg_matrix.specs.declared.InterferenceKind.TheVariants.{Fixed, VirtReg}
use Rattle.job.specs.Model.{Plain, zero_weight}
use Rattle.allocator.specs.declared.CandidateReg.{CandidateReg}
use Rattle.allocator.specs.declared.EvictCost.{EvictCost}
use Rattle.allocator.specs.Evict.{cheaper, max_weight}
use Rattle.allocator.proofs.Weights.{signed, plain_zero, plain_cond, plain_add}
use Rattle.evict_costs.specs.Costs.{add_holder, with_holder}
use Rattle.stage.specs.EvictWalk.{weight_in, zero_cost, on_kind, try_reports, tried_of, can_win, try_below, tried_below}
use Rattle.stage.specs.AllocateWalk.{cost_so_far, taking, better_of, preferred_of, by_cost, by_weight}
use Rattle.stage.specs.declared.evict.Tried.{Tried}
use Rattle.stage.specs.declared.evict.Limit.{Limit}
use Rattle.stage.specs.declared.evict.Limit.TheVariants.{ByCost, ByWeight}
use Rattle.stage.specs.declared.allocate.Best.{Best}
use Rattle.stage.proofs.WeightOrder.{key, lt_key, eq_key, add_up, not_above, not_both}

-- ---- sums and costs that grow

-- a sum of weights
pub record GoodSum (w : Float) : Type 0 where
  pub plain : Plain w
  pub fits_in : T (fits binary32 w)

pub zero_sum : GoodSum zero_weight
zero_sum = record { plain = plain_zero; fits_in = of_bits-fits binary32 0 }

pub plain_infinite : Plain (of_bits binary32 0x7F80_0000)
unfolding of_bits of_fields odd
plain_infinite = refl

pub more_sum : (w h : Float) → GoodSum w → Plain h → GoodSum (add binary32 w h)
more_sum w h g p = record { plain = plain_add binary32 w h g.plain p; fits_in = add-fits binary32 w h }

pub record GoodCost (k : EvictCost) : Type 0 where
  pub sum : GoodSum k.preference_weight
  pub spill : Plain k.spill_weight

-- a weight more never lowers a sum
sum_back : (w h z : Float) → GoodSum w → Plain h → lt (add binary32 w h) z ≡ true → lt w z ≡ true
sum_back w h z g p k =
    let m = more_sum w h g p in
    not_above w (add binary32 w h) z g.plain m.plain
    (lt_key binary32 (add binary32 w h) w m.plain g.plain m.fits_in g.fits_in ∙ le-ltb _ _ (add_up binary32 w h g.plain p g.fits_in)) k

-- nor does a spill weight more lower the greatest
spill_back : (a b z : Float) → Plain a → Plain b → lt (max_weight a b) z ≡ true → lt a z ≡ true
spill_back a b z p q k = go (lt a b) refl k
  where
    go : (t : Bool) → lt a b ≡ t → lt (cond t b a) z ≡ true → lt a z ≡ true
    go true e k = not_above a b z p q (not_both a b p q e) k
    go false e k = k

or_in : (a b c d : Bool) → (a ≡ true → c ≡ true) → (b ≡ true → d ≡ true) → (a || b) ≡ true → (c || d) ≡ true
or_in true b c d f g e = rw (f refl) refl
or_in false b true d f g e = refl
or_in false b false d f g e = g e

-- a cost that is less with one holder more was less before
cheaper_back : (k best : EvictCost) (h s : Float) → GoodCost k → GoodSum best.preference_weight → Plain h → Plain s
    → cheaper (add_holder k h s) best ≡ true → cheaper k best ≡ true
cheaper_back k best h s g b ph ps e =
    rw (lt_key binary32 _ _ g.sum.plain b.plain g.sum.fits_in b.fits_in, eq_key binary32 _ _ g.sum.plain b.plain g.sum.fits_in b.fits_in)
    (go (ltb K B) refl (rw (lt_key binary32 _ _ m.plain b.plain m.fits_in b.fits_in, eq_key binary32 _ _ m.plain b.plain m.fits_in b.fits_in) at e))
  where
    m : GoodSum (add binary32 k.preference_weight h)
    m = more_sum k.preference_weight h g.sum ph

    K : ℕ
    K = key binary32 k.preference_weight

    K' : ℕ
    K' = key binary32 (add binary32 k.preference_weight h)

    B : ℕ
    B = key binary32 best.preference_weight

    up : K ≤ K'
    up = add_up binary32 k.preference_weight h g.sum.plain ph g.sum.fits_in

    both : (x y : Bool) → (x && y) ≡ true → (x ≡ true) × (y ≡ true)
    both true y e = (refl, e)
    both false y e = absurd (signed (sym e))

    go : (t : Bool) → ltb K B ≡ t
        → (ltb K' B || (eqb K' B && lt (max_weight k.spill_weight s) best.spill_weight)) ≡ true
        → (t || (eqb K B && lt k.spill_weight best.spill_weight)) ≡ true
    go true q e = refl
    go false q e =
        let l : B ≤ K = ltb-false K B q in
        let d = both (eqb K' B) (lt (max_weight k.spill_weight s) best.spill_weight) (rw (le-ltb K' B (omega (arith, up, l))) at e) in
        let x : K' ≡ B = eqb-true K' B d.0 in
        let y : K ≡ B = omega (arith, up, l, x) in
        rw (eq-eqb K B y, spill_back k.spill_weight s best.spill_weight g.spill ps d.1) refl

-- ---- what a search wants of a candidate

-- the best so far costs a sum of weights
abbrev pub GoodLimit : Limit → Type 0
GoodLimit (ByCost w f own best) = GoodSum best.preference_weight
GoodLimit (ByWeight w) = Unit {0}

module _ (l : Limit) (best_good : GoodLimit l) where
  -- what wins with one holder more won before
  win_back : (k : EvictCost) (w h s : Float) → GoodCost k → GoodSum w → Plain h → Plain s
      → (seen : Bool) → can_win l (with_holder k seen h s) (add binary32 w h) ≡ true → can_win l k w ≡ true
  win_back k w h s g gw ph ps seen e = go l best_good seen e
    where
      all : (a b c d : Bool) → (a ≡ true → c ≡ true) → (b ≡ true → d ≡ true) → (a && b) ≡ true → (c && d) ≡ true
      all true b c d f h e = rw (f refl) (h e)
      all false b c d f h e = absurd (signed (sym e))

      go : (l : Limit) → GoodLimit l → (seen : Bool) → can_win l (with_holder k seen h s) (add binary32 w h) ≡ true → can_win l k w ≡ true
      go (ByCost lw f own best) gl true e = e
      go (ByCost lw f own best) gl false e =
          all _ _ _ _ (or_in _ _ _ _ (spill_back k.spill_weight s own g.spill ps) (λ q. q)) (cheaper_back k best h s g gl ph ps) e
      go (ByWeight lw) gl seen e = sum_back w h lw gw ph e

  lost_stays : (k : EvictCost) (w h s : Float) → GoodCost k → GoodSum w → Plain h → Plain s
      → (seen : Bool) → can_win l k w ≡ false → can_win l (with_holder k seen h s) (add binary32 w h) ≡ false
  lost_stays k w h s g gw ph ps seen e = go (can_win l (with_holder k seen h s) (add binary32 w h)) refl
    where
      go : (t : Bool) → can_win l (with_holder k seen h s) (add binary32 w h) ≡ t → t ≡ false
      go true q = sym (win_back k w h s g gw ph ps seen q) ∙ e
      go false q = refl

  more_cost : (k : EvictCost) (h s : Float) → GoodCost k → Plain h → Plain s → (seen : Bool) → GoodCost (with_holder k seen h s)
  more_cost k h s g ph ps true = g
  more_cost k h s g ph ps false =
      record { sum = more_sum k.preference_weight h g.sum ph; spill = plain_cond (lt k.spill_weight s) s k.spill_weight ps g.spill }

  -- ---- the whole walk and the one that stops

  module _ (ws : List Float) (ss : List Float) (held : (v : ℕ) → v < 512 → Plain (weight_in ws v)) (spills : (v : ℕ) → v < 512 → Plain (get_or ss v zero_weight)) where
    -- one report of a holder in the whole walk
    one_holder : (xs : List Interference) (k : EvictCost) (w : Float) (seen : List Bool) (v : ℕ) (b : Bool) → get_or seen v false ≡ b
        → cond b (try_reports ws ss xs k (add binary32 w (weight_in ws v)) seen) (try_reports ws ss xs (add_holder k (weight_in ws v) (get_or ss v zero_weight)) (add binary32 w (weight_in ws v)) (set seen v true))
        ≡ try_reports ws ss xs (with_holder k b (weight_in ws v) (get_or ss v zero_weight)) (add binary32 w (weight_in ws v)) (set seen v true)
    one_holder xs k w seen v true e =
        ap (λ (l : List Bool). try_reports ws ss xs k (add binary32 w (weight_in ws v)) l) (sym (subst (λ (t : Bool). set seen v t ≡ seen) e (set-get_or seen v false)))
    one_holder xs k w seen v false e = refl

    -- the candidate does not win in the end
    abbrev pub Lost : Maybe Tried → Type 0
    Lost None = Unit {0}
    Lost (Some t) = can_win l t.cost t.every_report ≡ false

    abbrev NextCost : EvictCost → List Bool → ℕ → EvictCost
    NextCost k seen v = with_holder k (get_or seen v false) (weight_in ws v) (get_or ss v zero_weight)

    stays_lost : (xs : List Interference) (k : EvictCost) (w : Float) (seen : List Bool) → GoodCost k → GoodSum w → can_win l k w ≡ false
        → Lost (try_reports ws ss xs k w seen)
    unfolding try_reports
    stays_lost [] k w seen g gw e = e
    stays_lost (x ∷ xs) k w seen g gw e = step x.kind (λ k w seen g gw e. stays_lost xs k w seen g gw e)
      where
        Rest : Type 0
        Rest = (k : EvictCost) (w : Float) (seen : List Bool) → GoodCost k → GoodSum w → can_win l k w ≡ false → Lost (try_reports ws ss xs k w seen)

        small : Rest → (v : ℕ) (t : Bool) → ltb v 512 ≡ t
            → Lost
            (cond t
            (cond (get_or seen v false) (try_reports ws ss xs k (add binary32 w (weight_in ws v)) seen) (try_reports ws ss xs (add_holder k (weight_in ws v) (get_or ss v zero_weight)) (add binary32 w (weight_in ws v)) (set seen v true)))
            (try_reports ws ss xs k w seen))
        small go v true q =
            let b = ltb-true v 512 q in
            subst Lost (sym (one_holder xs k w seen v (get_or seen v false) refl))
            (go (NextCost k seen v) (add binary32 w (weight_in ws v)) (set seen v true) (more_cost k _ _ g (held v b) (spills v b) (get_or seen v false))
            (more_sum w _ gw (held v b)) (lost_stays k w _ _ g gw (held v b) (spills v b) (get_or seen v false) e))
        small go v false q = go k w seen g gw e

        step : (kd : InterferenceKind) → Rest
            → Lost
            (on_kind kd
            (λ v.
            cond (ltb v 512)
            (cond (get_or seen v false) (try_reports ws ss xs k (add binary32 w (weight_in ws v)) seen) (try_reports ws ss xs (add_holder k (weight_in ws v) (get_or ss v zero_weight)) (add binary32 w (weight_in ws v)) (set seen v true)))
            (try_reports ws ss xs k w seen)))
        step Fixed go = tt
        step (VirtReg v) go = small go v (ltb v 512) refl

    -- the walk that stops finds the same, or it stopped, and then the candidate does not win
    abbrev pub SameOrLost : Maybe Tried → Maybe Tried → Type 0
    SameOrLost t' t = (t' ≡ t) ⊎ ((t' ≡ None) × Lost t)

    same_or_lost : (xs : List Interference) (k : EvictCost) (w : Float) (seen : List Bool) → GoodCost k → GoodSum w
        → SameOrLost (try_below l ws ss xs k w seen) (try_reports ws ss xs k w seen)
    unfolding try_reports try_below
    same_or_lost [] k w seen g gw = inl refl
    same_or_lost (x ∷ xs) k w seen g gw = step x.kind (λ k w seen g gw. same_or_lost xs k w seen g gw)
      where
        Rest : Type 0
        Rest = (k : EvictCost) (w : Float) (seen : List Bool) → GoodCost k → GoodSum w → SameOrLost (try_below l ws ss xs k w seen) (try_reports ws ss xs k w seen)

        next : (v : ℕ) → v < 512 → Rest → (z : Bool) → can_win l (NextCost k seen v) (add binary32 w (weight_in ws v)) ≡ z
            → SameOrLost
            (cond z (try_below l ws ss xs (NextCost k seen v) (add binary32 w (weight_in ws v)) (set seen v true)) None)
            (try_reports ws ss xs (NextCost k seen v) (add binary32 w (weight_in ws v)) (set seen v true))
        next v b go true q = go (NextCost k seen v) (add binary32 w (weight_in ws v)) (set seen v true) (more_cost k _ _ g (held v b) (spills v b) (get_or seen v false)) (more_sum w _ gw (held v b))
        next v b go false q =
            inr (
              refl,
              stays_lost xs (NextCost k seen v) (add binary32 w (weight_in ws v)) (set seen v true) (more_cost k _ _ g (held v b) (spills v b) (get_or seen v false)) (more_sum w _ gw (held v b)) q,
            )

        small : Rest → (v : ℕ) (t : Bool) → ltb v 512 ≡ t
            → SameOrLost
            (cond t
            (cond (can_win l (NextCost k seen v) (add binary32 w (weight_in ws v))) (try_below l ws ss xs (NextCost k seen v) (add binary32 w (weight_in ws v)) (set seen v true)) None)
            (try_below l ws ss xs k w seen))
            (cond t
            (cond (get_or seen v false) (try_reports ws ss xs k (add binary32 w (weight_in ws v)) seen) (try_reports ws ss xs (add_holder k (weight_in ws v) (get_or ss v zero_weight)) (add binary32 w (weight_in ws v)) (set seen v true)))
            (try_reports ws ss xs k w seen))
        small go v true q =
            subst (SameOrLost (cond (can_win l (NextCost k seen v) (add binary32 w (weight_in ws v))) (try_below l ws ss xs (NextCost k seen v) (add binary32 w (weight_in ws v)) (set seen v true)) None))
            (sym (one_holder xs k w seen v (get_or seen v false) refl))
            (next v (ltb-true v 512 q) go (can_win l (NextCost k seen v) (add binary32 w (weight_in ws v))) refl)
        small go v false q = go k w seen g gw

        step : (kd : InterferenceKind) → Rest
            → SameOrLost
            (on_kind kd
            (λ v.
            cond (ltb v 512)
            (cond (can_win l (NextCost k seen v) (add binary32 w (weight_in ws v))) (try_below l ws ss xs (NextCost k seen v) (add binary32 w (weight_in ws v)) (set seen v true)) None)
            (try_below l ws ss xs k w seen)))
            (on_kind kd
            (λ v.
            cond (ltb v 512)
            (cond (get_or seen v false) (try_reports ws ss xs k (add binary32 w (weight_in ws v)) seen) (try_reports ws ss xs (add_holder k (weight_in ws v) (get_or ss v zero_weight)) (add binary32 w (weight_in ws v)) (set seen v true)))
            (try_reports ws ss xs k w seen)))
        step Fixed go = inl refl
        step (VirtReg v) go = small go v (ltb v 512) refl

    pub stopped : (xs : List Interference) → SameOrLost (tried_below l ws ss xs) (tried_of ws ss xs)
    unfolding tried_below tried_of
    stopped xs = same_or_lost xs zero_cost zero_weight (replicate 512 false) (record { sum = zero_sum; spill = plain_zero }) zero_sum

-- ---- so the searches choose the same

module _ (ws : List Float) (ss : List Float) (held : (v : ℕ) → v < 512 → Plain (weight_in ws v)) (spills : (v : ℕ) → v < 512 → Plain (get_or ss v zero_weight))
    (xs : List Interference) where
  -- by cost
  pub better_same : (flag : Bool) (own : Float) (c : CandidateReg) (b : Maybe Best) → GoodSum (cost_so_far b).preference_weight
      → better_of flag own c (tried_below (by_cost flag own c (cost_so_far b)) ws ss xs) b ≡ better_of flag own c (tried_of ws ss xs) b
  better_same flag own c b g =
      go (tried_below (by_cost flag own c (cost_so_far b)) ws ss xs) (tried_of ws ss xs) (stopped (by_cost flag own c (cost_so_far b)) g ws ss held spills xs)
    where
      lost : (t : Maybe Tried) → Lost (by_cost flag own c (cost_so_far b)) g ws ss held spills t → better_of flag own c t b ≡ b
      lost None e = refl
      lost (Some t) e = ap (λ (z : Bool). cond z (Some (taking c t)) b) e

      go : (t' t : Maybe Tried) → SameOrLost (by_cost flag own c (cost_so_far b)) g ws ss held spills t' t → better_of flag own c t' b ≡ better_of flag own c t b
      go t' t (inl e) = ap (λ (t : Maybe Tried). better_of flag own c t b) e
      go t' t (inr (r, e)) = ap (λ (t : Maybe Tried). better_of flag own c t b) r ∙ sym (lost t e)

  -- by weight
  pub preferred_same : (clear c : CandidateReg) (b : Maybe Best)
      → preferred_of clear c (tried_below (by_weight c) ws ss xs) b ≡ preferred_of clear c (tried_of ws ss xs) b
  preferred_same clear c b = go (tried_below (by_weight c) ws ss xs) (tried_of ws ss xs) (stopped (by_weight c) tt ws ss held spills xs)
    where
      first : Bool
      first = lt clear.preference_weight c.preference_weight

      lost : (t : Maybe Tried) → Lost (by_weight c) tt ws ss held spills t → preferred_of clear c t b ≡ b
      lost None e = refl
      lost (Some t) e = ap (λ (z : Bool). cond z (Some (taking c t)) b) (ap (λ (z : Bool). first && z) e ∙ and-false first)

      go : (t' t : Maybe Tried) → SameOrLost (by_weight c) tt ws ss held spills t' t → preferred_of clear c t' b ≡ preferred_of clear c t b
      go t' t (inl e) = ap (λ (t : Maybe Tried). preferred_of clear c t b) e
      go t' t (inr (r, e)) = ap (λ (t : Maybe Tried). preferred_of clear c t b) r ∙ sym (lost t e)
