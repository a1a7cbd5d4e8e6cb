-- A dequeue's searches on a state that calls reach: what the code finds clear, best to evict from or preferred is what the rules find, and whom it
-- would evict are the rule's evictees. Assumes nothing.
use Prim.Native.Nat.{ℕ, ◌+◌, ◌-◌, ◌≤◌, ◌<◌}
use native.Mathlib.Omega.{arith}
use mathlib.Core.Path.{◌≡◌, refl, sym, ap, ◌∙◌, subst}
use mathlib.Core.List.Memᴰ
use mathlib.Core.List.{List, [], ◌∷◌, ◌++◌, map, append-nil}
use mathlib.Core.Option.{Option, none, some}
use mathlib.Core.Bool.{Bool, true, false, not, ◌&&◌, ◌||◌, cond}
use lib.Dec.{T}
use Rattle.std.proofs.Common.{Option as Maybe, Some, None}
use lib.Ieee.{Float, binary32, add, lt, eq}
use lib.Ieee.Bits.{of_bits-fits}
use lib.ListN.{length, get_or, length-map, get_or-map}
use Rattle.reg_matrix.specs.Lists.{filter, first, or_else, foldl, count, has, is_nil}
use Rattle.reg_matrix.specs.Check.{check}
use Rattle.reg_matrix.specs.declared.Interference.{Interference}
use Rattle.reg_matrix.specs.declared.InterferenceKind.{InterferenceKind}
use Rattle.reg_matrix.specs.declared.InterferenceKind.TheVariants.{Fixed, VirtReg}
use Rattle.reg_matrix.proofs.Members.{◌∈◌, filter_none, concat_out, count_out, get_d_in}
use Rattle.reg_matrix.proofs.Places.{padded_read, from_zero, filter_append, count_append}
use Rattle.reg_matrix.proofs.Laws.{report_cell}
use Rattle.matrix.specs.Walk.{Lent}
use Rattle.job.specs.Model as model
use Rattle.job.specs.Model.{Job, virt_reg, no_virt_reg, class_of, segments_of, unit_map, zero_weight, Plain}
use Rattle.job.specs.Layout.{job_buffers}
use Rattle.job.proofs.Premises.{IsNumber}
use Rattle.job.proofs.Lists.{filter_same}
use Rattle.allocator.specs.State.{State, held_by, is_left_over, flag, last_given, weight_of, check_of, assignment, record_of, records}
use Rattle.allocator.specs.declared.Assignment.{Assignment}
use Rattle.allocator.specs.declared.Assignment.TheVariants.{Dead}
use Rattle.allocator.specs.declared.CandidateReg.{CandidateReg}
use Rattle.allocator.specs.declared.EvictCost.{EvictCost}
use Rattle.allocator.specs.declared.Stage.{Stage}
use Rattle.allocator.specs.Order.{hinted_order, order}
use Rattle.allocator.specs.Evict.{holder, ruled_out, holders, firsts, evictees, weights, spill_weight, cost_of, allowed, cheaper, Eviction, best_cost, better, try_evict, preferred}
use Rattle.allocator.specs.Dequeue.{Decision, leaves, evictees_of, none_clear, by_clear, is_clear, by_candidates, decide}
use Rattle.allocator.proofs.Holders.{cell_out}
use Rattle.allocator.proofs.Agrees.{last_named}
use Rattle.allocator.proofs.Decisions.{Candidates, candidates_out, hinted_good, order_good, has_out}
use Rattle.allocator.proofs.Capacity.{hinted_length, held_plain, spill_plain}
use Rattle.allocator.proofs.Rebuilt.{named_known}
use Rattle.allocator.proofs.Good.{Good}
use Rattle.allocator.proofs.Records.{held_record}
use Rattle.stage.specs.EvictWalk.{weight_in, tried_of}
use Rattle.records.specs.Fields.{record_weight}
use Rattle.stage.specs.AllocateWalk.{reports_on, clear_on, none_of, available_in, cost_so_far, taking, tried_on, improves, better_of, better_in, evict_in, prefers, preferred_of, prefer_in}
use Rattle.stage.specs.declared.evict.Tried.{Tried}
use Rattle.stage.specs.declared.allocate.Best.{Best}
use Rattle.stage.specs.declared.allocate.Available.{Available}
use Rattle.stage.specs.declared.allocate.Available.TheVariants.{Clear, NoneClear, NoCandidates}
use Rattle.stage.proofs.EvictLaws.{Small, rule_out, Found, found}
use Rattle.stage.proofs.StopLaws.{GoodSum, zero_sum, more_sum, plain_infinite, better_same, preferred_same}
use Rattle.stage.proofs.Reached.{held_cells, LaidOut, reports_are}

-- ---- candidates

-- their registers have places among the 64 maps
abbrev pub SmallRegs : List CandidateReg → Type 0
SmallRegs cs = (c : CandidateReg) → c ∈ cs → c.reg < 64

module _ (j : Job) (s : State) (g : Good j s) (v : ℕ) (b : IsNumber j v) where
  -- the hinted candidates of v
  abbrev pub own_hinted : List CandidateReg
  own_hinted = hinted_order (virt_reg j v) (last_given j s v)

  hinted_are : Candidates j v own_hinted
  hinted_are = hinted_good j g.premises v b (last_given j s v) (λ r e. last_named j g.premises s g.holding g.agrees v r b e)

  small_regs : (cs : List CandidateReg) → Candidates j v cs → SmallRegs cs
  small_regs cs a c m =
      omega (arith, named_known j g.premises v c.reg b (candidates_out j v cs a c m).names, g.premises.few_regs)

  pub hinted_small : SmallRegs own_hinted
  hinted_small = small_regs own_hinted hinted_are

  pub order_small : SmallRegs (order j v own_hinted)
  order_small = small_regs (order j v own_hinted) (order_good j g.premises v b own_hinted hinted_are)

  -- at most 65 hinted ones, and with the class 129
  pub hinted_few : length own_hinted ≤ 65
  hinted_few = omega (arith, hinted_length (virt_reg j v) (last_given j s v), g.premises.few_own_hints v b)

  pub candidates_few : length own_hinted + length (class_of j v) ≤ 129
  candidates_few =
      omega (arith, hinted_few, g.premises.small_classes (class_of j v) (get_d_in j.classes (virt_reg j v).class [] (g.premises.a_class v b)))

-- ---- what else is lent to a search

-- the record of v among the 512
pub record_read : (s : State) (d : Assignment) (v : ℕ) → v < 512 → get_or (records s) v d ≡ record_of s v
unfolding records
record_read s d v h = from_zero (record_of s) d 512 v h

-- the registers' maps and the spill weights, as loading leaves them with whatever is lent behind, and the weights held
pub record SearchLent (j : Job) (s : State) (maps : List ℕ) (ws : List Float) (ss : List Float) : Type 0 where
  pub maps_behind : List ℕ
  pub spills_behind : List Float
  pub maps_are : maps ≡ (job_buffers j).regs ++ maps_behind
  pub held_are : ws ≡ map record_weight (records s)
  pub spills_are : ss ≡ (job_buffers j).spill_weights ++ spills_behind

module _ (j : Job) (s : State) (g : Good j s) (maps : List ℕ) (ws : List Float) (ss : List Float) (S : SearchLent j s maps ws ss) where
  pub map_read : (r : ℕ) → r < 64 → get_or maps r 0 ≡ unit_map j r
  unfolding job_buffers
  map_read r h = rw S.maps_are (padded_read 64 0 j.regs S.maps_behind r g.premises.few_regs h)

  pub spill_read : (v : ℕ) → v < 512 → get_or ss v zero_weight ≡ spill_weight j v
  unfolding job_buffers virt_reg
  spill_read v h =
      rw S.spills_are
      (padded_read 512 zero_weight (map (λ (x : model.VirtReg). x.spill_weight) j.virt_regs) S.spills_behind v
      (simp length-map g.premises.few_numbers) h
      ∙ get_or-map (λ (x : model.VirtReg). x.spill_weight) j.virt_regs v no_virt_reg)

  pub held_read : (v : ℕ) → v < 512 → weight_in ws v ≡ weight_of (held_by s v)
  unfolding record_of
  held_read v h =
      ap (λ (l : List Float). get_or l v zero_weight) S.held_are ∙ get_or-map record_weight (records s) v Dead ∙ ap record_weight (record_read s Dead v h)
      ∙ go (held_by s v) refl
    where
      nothing : (l : Bool) → record_weight (assignment l (flag s v) none) ≡ zero_weight
      nothing true = refl
      nothing false = refl

      go : (o : Option CandidateReg) → held_by s v ≡ o → record_weight (record_of s v) ≡ weight_of o
      go none q = ap (λ (o : Option CandidateReg). record_weight (assignment (is_left_over s v) (flag s v) o)) q ∙ nothing (is_left_over s v)
      go (some c) q = ap record_weight (held_record j s g v c q)

-- ---- who is reported

module _ (j : Job) (s : State) (g : Good j s) (v r : ℕ) where
  -- a number of the job
  pub reported_known : (w : ℕ) → w ∈ holders (check_of j s v r) → IsNumber j w
  unfolding holders check_of
  reported_known w m =
      let k = concat_out (λ (x : Interference). holder x.kind) (check false j.fixed s.table (unit_map j r) (segments_of j v)) m in
      let c = report_cell j.fixed g.premises.sound (held_cells j s g) s.table g.agrees.table false (unit_map j r) (segments_of j v)
      k.0 w k.1 (is_holder k.0.kind k.2) in
      subst (λ (n : ℕ). IsNumber j n) c.2 (cell_out j g.holding c.0 c.1).known
    where
      is_holder : (k : InterferenceKind) → w ∈ holder k → k ≡ VirtReg w
      is_holder Fixed n = elim n [ ]
      is_holder (VirtReg u) n = ap (λ (x : ℕ). VirtReg x) (sym (Memᴰ.eq_of_singleton n))

  reported_small : Small (holders (check_of j s v r))
  reported_small = go (holders (check_of j s v r)) (λ w m. omega (arith, reported_known w m, g.premises.few_numbers))
    where
      go : (ws : List ℕ) → ((w : ℕ) → w ∈ ws → w < 512) → Small ws
      go [] h = tt
      go (w ∷ ws) h = (h w (Memᴰ.head refl), go ws (λ u m. h u (Memᴰ.tail m)))

  -- the marked numbers of 512, ascending, are the rule's evictees
  pub marked_evictees :
      (marks : List Bool)
      → ((w : ℕ) → w < 512 → get_or marks w false ≡ has w (holders (check_of j s v r)))
      → filter (λ w. get_or marks w false) (count 0 512) ≡ evictees j (check_of j s v r)
  unfolding evictees
  marked_evictees marks h =
      filter_same (λ w. get_or marks w false) is_reported (count 0 512) (λ w m. h w (omega (arith, (count_out 0 512 w m).1)))
      ∙ ap (λ (n : ℕ). filter is_reported (count 0 n)) whole
      ∙ ap (filter is_reported) (count_append 0 n (512 - n))
      ∙ filter_append is_reported (count 0 n) (count (0 + n) (512 - n))
      ∙ ap (λ (l : List ℕ). filter is_reported (count 0 n) ++ l) (filter_none is_reported (count (0 + n) (512 - n)) unknown)
      ∙ append-nil (filter is_reported (count 0 n))
    where
      n : ℕ
      n = length j.virt_regs

      is_reported : ℕ → Bool
      is_reported w = has w (holders (check_of j s v r))

      whole : 512 ≡ n + (512 - n)
      whole = omega (arith, g.premises.few_numbers)

      unknown : (w : ℕ) → w ∈ count (0 + n) (512 - n) → T (is_reported w) → ⊥
      unknown w m t = omega (arith, reported_known w (has_out w (holders (check_of j s v r)) t), (count_out (0 + n) (512 - n) w m).0)

-- ---- the searches

abbrev weight : CandidateReg → Float
weight c = c.preference_weight

module _ (j : Job) (s : State) (g : Good j s) (v : ℕ) (b : IsNumber j v) (W : Lent) (L : LaidOut j s v W)
    (maps : List ℕ) (ws : List Float) (ss : List Float) (S : SearchLent j s maps ws ss) where
  -- what the rule's check lists for a candidate, and its cost
  abbrev reported : CandidateReg → List Interference
  reported c = check_of j s v c.reg

  abbrev costs : CandidateReg → EvictCost
  costs c = cost_of j s (reported c)

  -- what all its reports say, in the code; and the best with it, as far as it may still win
  abbrev tried : CandidateReg → Maybe Tried
  tried c = tried_of ws ss (reports_on W (get_or maps c.reg 0))

  abbrev better_here : Maybe Best → CandidateReg → Maybe Best
  better_here = better_in W maps ws ss (flag s v) (spill_weight j v)

  reports_read : (c : CandidateReg) → c.reg < 64 → reports_on W (get_or maps c.reg 0) ≡ reported c
  reports_read c h = ap (reports_on W) (map_read j s g maps ws ss S c.reg h) ∙ reports_are j s g v b W L c.reg

  -- ---- a clear candidate

  -- a candidate is clear in the code exactly if the rule finds it clear
  pub clear_found : (c : CandidateReg) → c.reg < 64 → clear_on W maps c ≡ is_clear j s v c
  unfolding clear_on is_clear
  clear_found c h = ap (λ (l : List Interference). is_nil l) (reports_read c h)

  -- what the search answers where this is the first clear one, and some were tried or not
  abbrev pub as_available : Bool → Option CandidateReg → Available
  as_available t none = none_of t
  as_available t (some c) = Clear c

  -- the first clear candidate
  pub available_found :
      (t : Bool) (cs : List CandidateReg)
      → SmallRegs cs
      → available_in W maps t cs ≡ as_available (t || not (is_nil cs)) (first (is_clear j s v) cs)
  unfolding available_in first
  available_found true [] h = refl
  available_found false [] h = refl
  available_found t (c ∷ cs) h =
      ap (λ (z : Bool). cond z (Clear c) (available_in W maps true cs)) (clear_found c (h c (Memᴰ.head refl)))
      ∙ go t (is_clear j s v c) (available_found true cs (λ d m. h d (Memᴰ.tail m)))
    where
      go :
          (t z : Bool)
          → available_in W maps true cs ≡ as_available true (first (is_clear j s v) cs)
          → cond z (Clear c) (available_in W maps true cs) ≡ as_available (t || true) (or_else z c (first (is_clear j s v) cs))
      go true true e = refl
      go false true e = refl
      go true false e = e
      go false false e = e

  -- what the dequeue decides, by what the search for a clear candidate answered
  abbrev pub by_available : List CandidateReg → List CandidateReg → Stage → Available → Decision
  by_available hinted cs q NoCandidates = leaves
  by_available hinted cs q NoneClear = none_clear j s v cs q
  by_available hinted cs q (Clear c) = by_clear j s v hinted cs q (some c)

  pub decide_found :
      (q : Stage)
      → decide j s v q
      ≡ by_available (own_hinted j s g v b) (order j v (own_hinted j s g v b)) q (available_in W maps false (order j v (own_hinted j s g v b)))
  unfolding decide first
  decide_found q =
      go (order j v hinted) ∙ ap (by_available hinted (order j v hinted) q) (sym (available_found false (order j v hinted) (order_small j s g v b)))
    where
      hinted : List CandidateReg
      hinted = own_hinted j s g v b

      some_tried :
          (c : CandidateReg) (cs : List CandidateReg) (o : Option CandidateReg)
          → by_clear j s v hinted (c ∷ cs) q o ≡ by_available hinted (c ∷ cs) q (as_available true o)
      some_tried c cs none = refl
      some_tried c cs (some d) = refl

      go : (cs : List CandidateReg) → by_candidates j s v hinted cs q ≡ by_available hinted cs q (as_available (not (is_nil cs)) (first (is_clear j s v) cs))
      go [] = refl
      go (c ∷ cs) = some_tried c cs (first (is_clear j s v) (c ∷ cs))

  -- ---- what the reports say of a candidate

  abbrev pub FoundOn : CandidateReg → Type 0
  FoundOn c = Found j s ws ss (held_read j s g maps ws ss S) (spill_read j s g maps ws ss S) (reported c) (tried c)

  -- its cost, the sum at every report and its holders, where no report is fixed
  pub tried_found : (c : CandidateReg) → c.reg < 64 → ruled_out (reported c) ≡ false → FoundOn c
  tried_found c h q =
      subst
      (λ (xs : List Interference). Found j s ws ss (held_read j s g maps ws ss S) (spill_read j s g maps ws ss S) (reported c) (tried_of ws ss xs))
      (sym (reports_read c h))
      (found j s ws ss (held_read j s g maps ws ss S) (spill_read j s g maps ws ss S) (reported c) (reported_small j s g v c.reg) q)

  -- a fixed report rules it out
  pub ruled_out_found : (c : CandidateReg) → c.reg < 64 → ruled_out (reported c) ≡ true → tried c ≡ None
  unfolding tried_of
  ruled_out_found c h q = rule_out ws ss (reports_on W (get_or maps c.reg 0)) _ _ _ (ap ruled_out (reports_read c h) ∙ q)

  -- ---- the search for a register to evict from

  -- it found the candidate c: at what cost, and whom c evicts
  pub record Finds (best : Maybe Best) (c : CandidateReg) : Type 0 where
    pub it : Best
    pub found : best ≡ Some it
    pub to : it.to ≡ c
    pub cost : it.cost ≡ costs c
    pub evicts : filter (λ w. get_or it.holders w false) (count 0 512) ≡ evictees_of j s v c

  takes_it : (c : CandidateReg) → FoundOn c → (t : Tried) → tried c ≡ Some t → Finds (Some (taking c t)) c
  takes_it c f t e =
      let same : t ≡ f.t = cc (sym e ∙ f.is) in
      record {
        it = taking c t;
        found = refl;
        to = refl;
        cost = rw same f.cost;
        evicts = marked_evictees j s g v c.reg t.holders (λ w m. rw same (f.who w m));
      }

  -- nothing found, or an eviction
  abbrev pub BestIs : Maybe Best → Option Eviction → Type 0
  BestIs best none = best ≡ None
  BestIs best (some e) = Finds best e.to × (cost_so_far best ≡ e.cost)

  turned : (w f l : Bool) → (l || (not f && not w)) ≡ ((not w && not f) || l)
  turned true true true = refl
  turned true true false = refl
  turned true false true = refl
  turned true false false = refl
  turned false true true = refl
  turned false true false = refl
  turned false false true = refl
  turned false false false = refl

  -- whether a candidate that nothing rules out is better
  improves_is : (c : CandidateReg) (t : Tried) (best : EvictCost) → t.cost ≡ costs c
      → improves (flag s v) (spill_weight j v) c t best ≡ (allowed j s v c (costs c) && cheaper (costs c) best)
  improves_is c t best e =
      subst
      (λ (d : EvictCost). improves (flag s v) (spill_weight j v) c t best ≡ (allowed j s v c d && cheaper d best)) e
      (ap (λ (z : Bool). z && cheaper t.cost best) (turned (eq (weight c) zero_weight) (flag s v) (lt t.cost.spill_weight (spill_weight j v))))

  best_cost_lem : (best : Maybe Best) (o : Option Eviction) → BestIs best o → cost_so_far best ≡ best_cost o
  best_cost_lem best none q = ap cost_so_far q
  best_cost_lem best (some e) q = q.1

  -- the weights that are added and compared
  held_plain_here : (w : ℕ) → w < 512 → Plain (weight_in ws w)
  held_plain_here w h =
      subst (λ (x : Float). Plain x) (sym (held_read j s g maps ws ss S w h)) (held_plain j g.premises s g.holding g.agrees w (held_by s w) refl)

  spill_plain_here : (w : ℕ) → w < 512 → Plain (get_or ss w zero_weight)
  spill_plain_here w h =
      subst (λ (x : Float). Plain x) (sym (spill_read j s g maps ws ss S w h)) (spill_plain j g.premises s g.holding g.agrees w)

  weights_good : (vs : List ℕ) → GoodSum (weights s vs)
  unfolding weights foldl
  weights_good vs = go vs zero_weight zero_sum
    where
      go : (vs : List ℕ) (w : Float) → GoodSum w → GoodSum (foldl (λ w v. add binary32 w (weight_of (held_by s v))) w vs)
      go [] w b = b
      go (u ∷ us) w b =
          go us (add binary32 w (weight_of (held_by s u))) (more_sum w (weight_of (held_by s u)) b (held_plain j g.premises s g.holding g.agrees u (held_by s u) refl))

  best_good : (best : Maybe Best) (o : Option Eviction) → BestIs best o → GoodSum (cost_so_far best).preference_weight
  unfolding cost_of
  best_good best none q =
      subst (λ (x : Maybe Best). GoodSum (cost_so_far x).preference_weight) (sym q) (record { plain = plain_infinite; fits_in = of_bits-fits binary32 0x7F80_0000 })
  best_good best (some e) q =
      let k : cost_so_far best ≡ costs e.to = ap cost_so_far q.0.found ∙ q.0.cost in
      subst (λ (k : EvictCost). GoodSum k.preference_weight) (sym k) (weights_good (firsts [] (holders (reported e.to))))

  -- stopping early changes nothing
  better_whole : (best : Maybe Best) (o : Option Eviction) (c : CandidateReg) → BestIs best o
      → better_here best c ≡ better_of (flag s v) (spill_weight j v) c (tried c) best
  unfolding better_in tried_on
  better_whole best o c q =
      better_same ws ss held_plain_here spill_plain_here (reports_on W (get_or maps c.reg 0)) (flag s v) (spill_weight j v) c best (best_good best o q)

  better_is : (best : Maybe Best) (o : Option Eviction) (c : CandidateReg) → c.reg < 64 → BestIs best o → BestIs (better_here best c) (better j s v o c)
  unfolding better
  better_is best o c h q = subst (λ (x : Maybe Best). BestIs x (better j s v o c)) (sym (better_whole best o c q)) (go (ruled_out (reported c)) refl)
    where
      wins : Bool
      wins = allowed j s v c (costs c) && cheaper (costs c) (best_cost o)

      by_tried : Maybe Tried → Maybe Best
      by_tried x = better_of (flag s v) (spill_weight j v) c x best

      last : (t : Tried) → Finds (Some (taking c t)) c → t.cost ≡ costs c → (z : Bool)
          → BestIs (cond z (Some (taking c t)) best) (cond z (some (record { to = c; cost = costs c })) o)
      last t f k true = (f, k)
      last t f k false = q

      open_one : (f : FoundOn c) → BestIs (by_tried (Some f.t)) (cond wins (some (record { to = c; cost = costs c })) o)
      open_one f =
          let e : improves (flag s v) (spill_weight j v) c f.t (cost_so_far best) ≡ wins =
          improves_is c f.t (cost_so_far best) f.cost ∙ ap (λ (k : EvictCost). allowed j s v c (costs c) && cheaper (costs c) k) (best_cost_lem best o q) in
          subst (λ (z : Bool). BestIs (cond z (Some (taking c f.t)) best) (cond wins (some (record { to = c; cost = costs c })) o)) (sym e)
          (last f.t (takes_it c f f.t f.is) f.cost wins)

      go : (z : Bool) → ruled_out (reported c) ≡ z → BestIs (by_tried (tried c)) (cond (not z && wins) (some (record { to = c; cost = costs c })) o)
      go true e = subst (λ (x : Maybe Tried). BestIs (by_tried x) o) (sym (ruled_out_found c h e)) q
      go false e =
          let f = tried_found c h e in
          subst (λ (x : Maybe Tried). BestIs (by_tried x) (cond wins (some (record { to = c; cost = costs c })) o)) (sym f.is) (open_one f)

  -- the best eviction
  pub eviction_found : (cs : List CandidateReg) → SmallRegs cs → BestIs (evict_in W maps ws ss (flag s v) (spill_weight j v) None cs) (try_evict j s v cs)
  unfolding evict_in try_evict foldl
  eviction_found cs h = go cs h None none refl
    where
      go :
          (cs : List CandidateReg)
          → SmallRegs cs
          → (best : Maybe Best) (o : Option Eviction)
          → BestIs best o
          → BestIs (foldl better_here best cs) (foldl (better j s v) o cs)
      go [] h best o q = q
      go (c ∷ cs) h best o q =
          go cs (λ d m. h d (Memᴰ.tail m)) (better_here best c) (better j s v o c) (better_is best o c (h c (Memᴰ.head refl)) q)

  -- ---- the search for a preferred register

  abbrev pub PreferredIs : Maybe Best → Option CandidateReg → Type 0
  PreferredIs best none = best ≡ None
  PreferredIs best (some c) = Finds best c

  -- the first preferred candidate
  pub preferred_found :
      (clear : CandidateReg) (cs : List CandidateReg)
      → SmallRegs cs
      → PreferredIs (prefer_in W maps ws ss clear cs) (first (preferred j s v clear) cs)
  unfolding prefer_in first preferred tried_on
  preferred_found clear [] h = refl
  preferred_found clear (c ∷ cs) h =
      subst (λ (x : Maybe Best). PreferredIs x (first (preferred j s v clear) (c ∷ cs)))
      (sym (preferred_same ws ss held_plain_here spill_plain_here (reports_on W (get_or maps c.reg 0)) clear c (prefer_in W maps ws ss clear cs)))
      (go (ruled_out (reported c)) refl (preferred_found clear cs (λ d m. h d (Memᴰ.tail m))))
    where
      small : c.reg < 64
      small = h c (Memᴰ.head refl)

      rest : Maybe Best
      rest = prefer_in W maps ws ss clear cs

      first_here : Bool
      first_here = lt (weight clear) (weight c)

      outweighs : Bool
      outweighs = lt (weights s (holders (reported c))) (weight c)

      last : (t : Tried) → Finds (Some (taking c t)) c → PreferredIs rest (first (preferred j s v clear) cs) → (z : Bool)
          → PreferredIs (cond z (Some (taking c t)) rest) (or_else z c (first (preferred j s v clear) cs))
      last t f ih true = f
      last t f ih false = ih

      open_one : (f : FoundOn c) → PreferredIs rest (first (preferred j s v clear) cs)
          → PreferredIs (preferred_of clear c (Some f.t) rest) (or_else (first_here && outweighs) c (first (preferred j s v clear) cs))
      open_one f ih =
          let e : prefers clear c f.t ≡ (first_here && outweighs) = ap (λ (w : Float). first_here && lt w (weight c)) f.every in
          subst (λ (z : Bool). PreferredIs (cond z (Some (taking c f.t)) rest) (or_else (first_here && outweighs) c (first (preferred j s v clear) cs))) (sym e)
          (last f.t (takes_it c f f.t f.is) ih (first_here && outweighs))

      none_here : (z : Bool) → (z && false) ≡ false
      none_here true = refl
      none_here false = refl

      go : (z : Bool) → ruled_out (reported c) ≡ z
          → PreferredIs rest (first (preferred j s v clear) cs)
          → PreferredIs (preferred_of clear c (tried c) rest) (or_else (first_here && (not z && outweighs)) c (first (preferred j s v clear) cs))
      go true e ih =
          subst (λ (x : Maybe Tried). PreferredIs (preferred_of clear c x rest) (or_else (first_here && false) c (first (preferred j s v clear) cs)))
          (sym (ruled_out_found c small e))
          (subst (λ (z : Bool). PreferredIs rest (or_else z c (first (preferred j s v clear) cs))) (sym (none_here first_here)) ih)
      go false e ih =
          let f = tried_found c small e in
          subst (λ (x : Maybe Tried). PreferredIs (preferred_of clear c x rest) (or_else (first_here && outweighs) c (first (preferred j s v clear) cs))) (sym f.is) (open_one f ih)
