-- Laws of an eviction's cost: what the code's walk over a check's reports finds is the rule's. Assumes nothing.
use Prim.Native.Nat.{ℕ, ◌<◌}
use native.Mathlib.Omega.{arith}
use mathlib.Core.Path.{◌≡◌, refl, ap, sym, ◌∙◌}
use mathlib.Core.List.{List, [], ◌∷◌, ◌++◌}
use mathlib.Core.Bool.{Bool, true, false, not, ◌||◌, cond}
use lib.Dec.{ltb, eqb}
use lib.Ieee.{Float, binary32, add}
use lib.ListN.{length, get_or, set, replicate, length-set, length-replicate, get_or-replicate}
use lib.Seq.{get_or-set_same, get_or-set_other}
use borrow.Author.Tests.{lt-ltb, eqb-true, eqb-false}
use Rattle.reg_matrix.specs.Lists.{foldl, concat_map, any, has, keep}
use Rattle.reg_matrix.specs.declared.Interference.{Interference}
use Rattle.reg_matrix.specs.declared.InterferenceKind.{InterferenceKind}
use Rattle.reg_matrix.specs.declared.InterferenceKind.TheVariants.{Fixed, VirtReg}
use Rattle.matrix.specs.Walk.{Lent, remaining, heard}
use Rattle.matrix.specs.declared.Cursor.{Cursor}
use Rattle.std.proofs.Common.{Option as Maybe, Some, None}
use Rattle.job.specs.Model.{Job, zero_weight}
use Rattle.allocator.specs.State.{State, held_by, weight_of}
use Rattle.allocator.specs.Evict.{ruled_out, is_fixed, holder, holders, firsts, max_weight, spill_weight, weights, greatest_spill, cost_of}
use Rattle.allocator.specs.declared.EvictCost.{EvictCost}
use Rattle.evict_costs.specs.Costs.{with_holder}
use Rattle.stage.specs.EvictWalk.{weight_in, holder_cost, zero_cost, tried, on_kind, try_reports, tried_of, can_win, try_below}
use Rattle.stage.specs.declared.evict.Tried.{Tried}
use Rattle.stage.specs.declared.evict.Limit.{Limit}

-- ---- who was seen

-- 512 places, and those of the numbers vs are on
pub record Seen (seen : List Bool) (vs : List ℕ) : Type 0 where
  pub size : length seen ≡ 512
  pub place : (v : ℕ) → v < 512 → get_or seen v false ≡ has v vs

pub none_seen : Seen (replicate 512 false) []
unfolding has
none_seen = record { size = length-replicate 512 false; place = λ v h. get_or-replicate 512 v false false h }

seen_more : (seen : List Bool) (vs : List ℕ) (v : ℕ) → v < 512 → Seen seen vs → Seen (set seen v true) (v ∷ vs)
unfolding has
seen_more seen vs v h f = record { size = simp length-set f.size; place = λ w b. go w (eqb w v) refl (f.place w b) }
  where
    go : (w : ℕ) (e : Bool) → eqb w v ≡ e → get_or seen w false ≡ has w vs → get_or (set seen v true) w false ≡ (e || has w vs)
    go w true e g = let p : w ≡ v = eqb-true w v e in rw p (get_or-set_same seen v true false (omega (arith, f.size)))
    go w false e g = get_or-set_other seen v w true false (eqb-false w v e) ∙ g

seen_again : (seen : List Bool) (vs : List ℕ) (v : ℕ) → get_or seen v false ≡ true → Seen seen vs → Seen seen (v ∷ vs)
unfolding has
seen_again seen vs v t f = record { size = f.size; place = λ w b. go w (eqb w v) refl (f.place w b) }
  where
    go : (w : ℕ) (e : Bool) → eqb w v ≡ e → get_or seen w false ≡ has w vs → get_or seen w false ≡ (e || has w vs)
    go w true e g = let p : w ≡ v = eqb-true w v e in rw (p, t)
    go w false e g = g

-- ---- the walk over the reports

-- every holder is below 512
abbrev pub Small : List ℕ → Type 0
Small [] = Unit {0}
Small (v ∷ vs) = (v < 512) × Small vs

-- numbers before others, for the sake of who was seen: the last seen first
abbrev pub before : List ℕ → List ℕ → List ℕ
before [] vs = vs
before (w ∷ ws) vs = before ws (w ∷ vs)

module _ (ws : List Float) (ss : List Float) where
  -- the cost of these holders, one after another
  abbrev pub cost_over : EvictCost → List ℕ → EvictCost
  cost_over k vs = foldl (holder_cost ws ss) k vs

  -- and their weights, added one after another
  abbrev pub sum_over : Float → List ℕ → Float
  sum_over w vs = foldl (λ w v. add binary32 w (weight_in ws v)) w vs

  -- what the walk over reports of the holders hs finds, after those of vs
  pub record Rule (hs : List ℕ) (k : EvictCost) (w : Float) (vs : List ℕ) (o : Maybe Tried) : Type 0 where
    pub t : Tried
    pub is : o ≡ Some t
    pub cost : t.cost ≡ cost_over k (firsts vs hs)
    pub every : t.every_report ≡ sum_over w hs
    pub who : Seen t.holders (before hs vs)

  -- what one report of the holder v adds
  abbrev more : List Interference → EvictCost → Float → List Bool → ℕ → Maybe Tried
  more xs k w seen v =
      cond (ltb v 512)
      (cond (get_or seen v false) (try_reports ws ss xs k (add binary32 w (weight_in ws v)) seen) (try_reports ws ss xs (holder_cost ws ss k v) (add binary32 w (weight_in ws v)) (set seen v true)))
      (try_reports ws ss xs k w seen)

  -- where no report is fixed: the cost of the holders not seen before, each at its first report, and all of them are seen then
  pub rule : (xs : List Interference) (k : EvictCost) (w : Float) (seen : List Bool) (vs : List ℕ) → Small (holders xs) → Seen seen vs → ruled_out xs ≡ false
      → Rule (holders xs) k w vs (try_reports ws ss xs k w seen)
  unfolding try_reports holders concat_map firsts ruled_out any foldl
  rule [] k w seen vs s f r = record { t = tried k w seen; is = refl; cost = refl; every = refl; who = f }
  rule (x ∷ xs) k w seen vs s f r = step x.kind s r (λ k w seen vs m f q. rule xs k w seen vs m f q)
    where
      Rest : Type 0
      Rest =
          (k : EvictCost) (w : Float) (seen : List Bool) (vs : List ℕ) → Small (holders xs) → Seen seen vs → ruled_out xs ≡ false
          → Rule (holders xs) k w vs (try_reports ws ss xs k w seen)

      one : (v : ℕ) → v < 512 → Small (holders xs) → ruled_out xs ≡ false → Rest → (b : Bool) → get_or seen v false ≡ b
          → Rule (v ∷ holders xs) k w vs (cond (ltb v 512) (cond b (try_reports ws ss xs k (add binary32 w (weight_in ws v)) seen) (try_reports ws ss xs (holder_cost ws ss k v) (add binary32 w (weight_in ws v)) (set seen v true))) (try_reports ws ss xs k w seen))
      one v h m q go true e =
          let again = go k (add binary32 w (weight_in ws v)) seen (v ∷ vs) m (seen_again seen vs v e f) q in
          let known : has v vs ≡ true = sym (f.place v h) ∙ e in
          rw (lt-ltb v 512 h) (record { t = again.t; is = again.is; cost = rw known again.cost; every = again.every; who = again.who })
      one v h m q go false e =
          let later = go (holder_cost ws ss k v) (add binary32 w (weight_in ws v)) (set seen v true) (v ∷ vs) m (seen_more seen vs v h f) q in
          let new : has v vs ≡ false = sym (f.place v h) ∙ e in
          rw (lt-ltb v 512 h) (record { t = later.t; is = later.is; cost = rw new later.cost; every = later.every; who = later.who })

      step : (kd : InterferenceKind) → Small (holder kd ++ holders xs) → (is_fixed kd || ruled_out xs) ≡ false → Rest
          → Rule (holder kd ++ holders xs) k w vs (on_kind kd (more xs k w seen))
      step Fixed s r go = let z : ◌≡◌ {A = ℕ} 0 1 = cc in absurd (omega arith)
      step (VirtReg v) s r go = one v s.0 s.1 r go (get_or seen v false) refl

  -- where one is fixed, the walk says so
  pub rule_out : (xs : List Interference) (k : EvictCost) (w : Float) (seen : List Bool) → ruled_out xs ≡ true → try_reports ws ss xs k w seen ≡ None
  unfolding try_reports ruled_out any
  rule_out [] k w seen r = let z : ◌≡◌ {A = ℕ} 0 1 = cc in absurd (omega arith)
  rule_out (x ∷ xs) k w seen r = step x.kind r (λ k w seen q. rule_out xs k w seen q)
    where
      Rest : Type 0
      Rest = (k : EvictCost) (w : Float) (seen : List Bool) → ruled_out xs ≡ true → try_reports ws ss xs k w seen ≡ None

      either_way : (b : Bool) (t u : Maybe Tried) → t ≡ None → u ≡ None → cond b t u ≡ None
      either_way true t u p q = p
      either_way false t u p q = q

      step : (kd : InterferenceKind) → (is_fixed kd || ruled_out xs) ≡ true → Rest → on_kind kd (more xs k w seen) ≡ None
      step Fixed r go = refl
      step (VirtReg v) r go =
          either_way (ltb v 512) _ _ (either_way (get_or seen v false) _ _ (go k (add binary32 w (weight_in ws v)) seen r) (go (holder_cost ws ss k v) (add binary32 w (weight_in ws v)) (set seen v true) r)) (go k w seen r)

-- ---- the rule's cost and evictees

-- a number stands among those before others exactly if it is one of them
has_before : (v : ℕ) (hs vs : List ℕ) → has v (before hs vs) ≡ (has v hs || has v vs)
unfolding has
has_before v [] vs = refl
has_before v (w ∷ ws) vs = has_before v ws (w ∷ vs) ∙ turned (eqb v w) (has v ws) (has v vs)
  where
    turned : (a b c : Bool) → (b || (a || c)) ≡ ((a || b) || c)
    turned true true c = refl
    turned true false c = refl
    turned false b c = refl

module _ (j : Job) (s : State) (ws : List Float) (ss : List Float)
    (held : (v : ℕ) → v < 512 → weight_in ws v ≡ weight_of (held_by s v))
    (spill : (v : ℕ) → v < 512 → get_or ss v zero_weight ≡ spill_weight j v) where
  abbrev rule_cost : EvictCost → List ℕ → EvictCost
  rule_cost k vs =
      record {
        preference_weight = foldl (λ w v. add binary32 w (weight_of (held_by s v))) k.preference_weight vs;
        spill_weight = foldl (λ w v. max_weight w (spill_weight j v)) k.spill_weight vs;
      }

  cost_over_lem : (k : EvictCost) (vs : List ℕ) → Small vs → cost_over ws ss k vs ≡ rule_cost k vs
  unfolding foldl
  cost_over_lem k [] m = refl
  cost_over_lem k (v ∷ vs) m =
      let one : holder_cost ws ss k v ≡ record { preference_weight = add binary32 k.preference_weight (weight_of (held_by s v)); spill_weight = max_weight k.spill_weight (spill_weight j v) } =
      rw (held v m.0, spill v m.0) in
      cost_over_lem (holder_cost ws ss k v) vs m.1 ∙ ap (λ (c : EvictCost). rule_cost c vs) one

  sum_over_lem : (w : Float) (vs : List ℕ) → Small vs → sum_over ws ss w vs ≡ foldl (λ w v. add binary32 w (weight_of (held_by s v))) w vs
  unfolding foldl
  sum_over_lem w [] m = refl
  sum_over_lem w (v ∷ vs) m = rw (held v m.0) (sum_over_lem (add binary32 w (weight_of (held_by s v))) vs m.1)

  first_small : (seen hs : List ℕ) → Small hs → Small (firsts seen hs)
  unfolding firsts
  first_small seen [] m = tt
  first_small seen (v ∷ hs) m = kept (not (has v seen)) (first_small (v ∷ seen) hs m.1)
    where
      kept : (b : Bool) → Small (firsts (v ∷ seen) hs) → Small (keep b v (firsts (v ∷ seen) hs))
      kept true r = (m.0, r)
      kept false r = r

  -- what the code's walk over the reports finds, where none is fixed
  pub record Found (xs : List Interference) (o : Maybe Tried) : Type 0 where
    pub t : Tried
    pub is : o ≡ Some t
    pub cost : t.cost ≡ cost_of j s xs
    pub every : t.every_report ≡ weights s (holders xs)
    pub who : (v : ℕ) → v < 512 → get_or t.holders v false ≡ has v (holders xs)

  pub found : (xs : List Interference) → Small (holders xs) → ruled_out xs ≡ false → Found xs (tried_of ws ss xs)
  unfolding tried_of cost_of weights greatest_spill has
  found xs m r =
      let q = rule ws ss xs zero_cost zero_weight (replicate 512 false) [] m none_seen r in
      record {
        t = q.t;
        is = q.is;
        cost = q.cost ∙ cost_over_lem zero_cost (firsts [] (holders xs)) (first_small [] (holders xs) m);
        every = q.every ∙ sum_over_lem zero_weight (holders xs) m;
        who = λ v h. q.who.place v h ∙ has_before v (holders xs) [] ∙ or_none v;
      }
    where
      or_none : (v : ℕ) → (has v (holders xs) || has v []) ≡ has v (holders xs)
      or_none v = go (has v (holders xs))
        where
          go : (b : Bool) → (b || false) ≡ b
          go true = refl
          go false = refl

-- ---- one report of the code's loop: the rest of the walk from here is the whole

module _ (W : Lent) (c : Cursor) (x : Maybe (Interference × Cursor)) (told : remaining W c ≡ heard W x) (r : Interference) (d : Cursor) (q : x ≡ Some (r, d)) where
  pub next_is : remaining W c ≡ r ∷ remaining W d
  next_is = told ∙ rw q

module _ (l : Limit) (ws : List Float) (ss : List Float) (W : Lent) (c : Cursor) (x : Maybe (Interference × Cursor)) (k : EvictCost) (w : Float) (seen : List Bool) (told : remaining W c ≡ heard W x) where
  pub below_end : x ≡ None → Some (tried k w seen) ≡ try_below l ws ss (remaining W c) k w seen
  unfolding try_below
  below_end q = rw (told, q)

  module _ (r : Interference) (d : Cursor) (q : x ≡ Some (r, d)) where
    pub below_fixed : r.kind ≡ Fixed → None ≡ try_below l ws ss (remaining W c) k w seen
    unfolding try_below
    below_fixed p = rw (next_is W c x told r d q, p)

    module _ (v : ℕ) (p : r.kind ≡ VirtReg v) where
      pub below_far : ltb v 512 ≡ false → try_below l ws ss (remaining W d) k w seen ≡ try_below l ws ss (remaining W c) k w seen
      unfolding try_below
      below_far h = rw (next_is W c x told r d q, p, h)

      module _ (small : ltb v 512 ≡ true) (k' : EvictCost) (w' : Float)
          (ek : k' ≡ with_holder k (get_or seen v false) (weight_in ws v) (get_or ss v zero_weight)) (ew : w' ≡ add binary32 w (weight_in ws v)) where
        pub below_more : can_win l k' w' ≡ true → try_below l ws ss (remaining W d) k' w' (set seen v true) ≡ try_below l ws ss (remaining W c) k w seen
        unfolding try_below
        below_more n = rw (next_is W c x told r d q, p, small, ← ek, ← ew, n)

        pub below_stop : can_win l k' w' ≡ false → None ≡ try_below l ws ss (remaining W c) k w seen
        unfolding try_below
        below_stop n = rw (next_is W c x told r d q, p, small, ← ek, ← ew, n)
