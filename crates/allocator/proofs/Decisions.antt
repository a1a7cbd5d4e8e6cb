-- What a dequeue decides: a register that it takes is one that class or hints name, with a weight that is no NaN and has no sign; no fixed
-- reservation is in the way, and every holder in the way is evicted. Assumes nothing.
use Prim.Native.Nat.{ℕ}
use native.Mathlib.Omega.{arith}
use mathlib.Core.Path.{◌≡◌, refl, sym, subst}
use mathlib.Core.List.Memᴰ
use mathlib.Core.List.{List, [], ◌∷◌, ◌++◌, map}
use mathlib.Core.Option.{Option, none, some}
use mathlib.Core.Bool.{Bool, true, false, not, ◌&&◌, ◌||◌, cond}
use lib.Dec.{T, eqb, eqb→eq, eqb_refl, T_not}
use lib.Ieee.{binary32, lt}
use lib.ListN.{length}
use Rattle.reg_matrix.specs.Lists.{any, first, or_else, put_before, insert_by, has, foldl, is_nil}
use Rattle.reg_matrix.specs.declared.Interference.{Interference}
use Rattle.reg_matrix.specs.declared.InterferenceKind.{InterferenceKind}
use Rattle.reg_matrix.specs.declared.InterferenceKind.TheVariants.{Fixed, VirtReg}
use Rattle.reg_matrix.proofs.Tests.{both, both_in, or_left, or_right, eqb_in}
use Rattle.reg_matrix.proofs.Members.{◌∈◌, filter_out, filter_in, any_in, get_d_in, concat_in, count_in}
use Rattle.job.specs.declared.Hint.{Hint}
use Rattle.job.specs.Model as model
use Rattle.job.specs.Model.{Job, virt_reg, no_virt_reg, class_of, zero_weight}
use Rattle.job.proofs.Premises.{Premises, IsNumber, Plain}
use Rattle.allocator.specs.State.{State, CandidateReg, Stage, Evict, Split, flag, last_given, check_of}
use Rattle.allocator.specs.Order.{candidate, grow, add_hint, by_weight, has_reg, or_last, hinted_order, order, highest_preference}
use Rattle.allocator.specs.Evict.{is_fixed, holder, ruled_out, holders, evictees, weights, spill_weight, cost_of, allowed, cheaper, Eviction, best_cost, better, try_evict, preferred}
use Rattle.allocator.specs.Dequeue.{Decision, leaves, takes, splits, fails, is_infinite, evictees_of, by_eviction, none_clear, or_preferred, by_clear, is_clear, by_candidates, decide}
use Rattle.allocator.specs.Calls.{named}
use Rattle.allocator.proofs.Agrees.{Candidate}
use Rattle.allocator.proofs.Weights.{finite_plain, plain_zero, plain_add}

-- ---- lists

first_out : {A : Type 0} (p : A → Bool) (xs : List A) (y : A) → first p xs ≡ some y → (y ∈ xs) × T (p y)
unfolding first
first_out p [] y q = absurd (let z : ◌≡◌ {A = ℕ} 0 1 = cc in omega arith)
first_out {A} p (x ∷ xs) y q = go (p x) refl q (λ e. first_out p xs y e)
  where
    go : (b : Bool) → p x ≡ b → or_else b x (first p xs) ≡ some y → (first p xs ≡ some y → (y ∈ xs) × T (p y)) → (y ∈ x ∷ xs) × T (p y)
    go true e r ih = let z : x ≡ y = cc in (Memᴰ.head (sym z), subst (λ (a : A). T (p a)) z (subst T (sym e) tt))
    go false e r ih = let k = ih r in (Memᴰ.tail k.0, k.1)

pub has_in : (n : ℕ) {xs : List ℕ} → n ∈ xs → T (has n xs)
unfolding has
has_in n (Memᴰ.head {x = x} {xs = xs} q) = or_left (eqb n x) (has n xs) (eqb_in q)
has_in n (Memᴰ.tail {x = x} {xs = xs} m) = or_right (eqb n x) (has n xs) (has_in n m)

pub has_out : (n : ℕ) (xs : List ℕ) → T (has n xs) → n ∈ xs
unfolding has
has_out n [] t = absurd t
has_out n (x ∷ xs) t = go (eqb n x) refl t (λ k. has_out n xs k)
  where
    go : (b : Bool) → eqb n x ≡ b → T (b || has n xs) → (T (has n xs) → n ∈ xs) → n ∈ x ∷ xs
    go true q h ih = Memᴰ.head (eqb→eq n x (subst T (sym q) tt))
    go false q h ih = Memᴰ.tail (ih h)

nil_out : {A : Type 0} (xs : List A) → T (is_nil xs) → (x : A) → x ∈ xs → ⊥
nil_out [] t x m = elim m [ ]
nil_out (y ∷ ys) t x m = t

-- ---- what it is to take a register

-- v may take the register of c once the numbers vs are evicted
pub record Takes (j : Job) (s : State) (v : ℕ) (c : CandidateReg) (vs : List ℕ) : Type 0 where
  pub good : Candidate j v c
  pub evictable : (x : Interference) → x ∈ check_of j s v c.reg → x.kind ≡ Fixed → ⊥
  pub away : (x : Interference) (w : ℕ) → IsNumber j w → x ∈ check_of j s v c.reg → x.kind ≡ VirtReg w → w ∈ vs

abbrev pub Fits : Job → State → ℕ → Decision → Type 0
Fits j s v leaves = Unit {0}
Fits j s v (takes c f vs) = Takes j s v c vs
Fits j s v splits = Unit {0}
Fits j s v fails = Unit {0}

holders_in : (rs : List Interference) (x : Interference) (w : ℕ) → x ∈ rs → x.kind ≡ VirtReg w → w ∈ holders rs
unfolding holders
holders_in rs x w m q = concat_in (λ (r : Interference). holder r.kind) m (subst (λ (k : InterferenceKind). w ∈ holder k) (sym q) (Memᴰ.head refl))

no_fixed : (rs : List Interference) → T (not (ruled_out rs)) → (x : Interference) → x ∈ rs → x.kind ≡ Fixed → ⊥
unfolding ruled_out
no_fixed rs t x m q =
    T_not (any (λ (r : Interference). is_fixed r.kind) rs) t
    (any_in (λ (r : Interference). is_fixed r.kind) (subst (λ (k : InterferenceKind). T (is_fixed k)) (sym q) tt) m)

module _ (j : Job) (s : State) (v : ℕ) (c : CandidateReg) (good : Candidate j v c) where
  -- a candidate that is clear
  takes_clear : T (is_clear j s v c) → Takes j s v c []
  unfolding is_clear
  takes_clear t =
      record { good = good; evictable = λ x m q. nil_out (check_of j s v c.reg) t x m; away = λ x w b m q. absurd (nil_out (check_of j s v c.reg) t x m) }

  -- a candidate that no fixed report rules out
  takes_evicting : T (not (ruled_out (check_of j s v c.reg))) → Takes j s v c (evictees_of j s v c)
  unfolding evictees
  takes_evicting t =
      record {
        good = good;
        evictable = no_fixed (check_of j s v c.reg) t;
        away = λ x w b m q.
            filter_in (λ (w : ℕ). has w (holders (check_of j s v c.reg))) (has_in w (holders_in (check_of j s v c.reg) x w m q))
            (count_in 0 (length j.virt_regs) w (omega arith) (omega (arith, b)));
      }

-- ---- candidates

module _ (j : Job) (v : ℕ) where
  abbrev pub Candidates : List CandidateReg → Type 0
  Candidates [] = Unit {0}
  Candidates (c ∷ cs) = Candidate j v c × Candidates cs

  pub record GoodHint (h : Hint) : Type 0 where
    pub names : T (named j v h.reg)
    pub plain : Plain h.weight

  abbrev GoodReg : ℕ → Type 0
  GoodReg r = T (named j v r)

  pub candidates_out : (cs : List CandidateReg) → Candidates cs → (c : CandidateReg) → c ∈ cs → Candidate j v c
  candidates_out [] a c x'' = elim x'' [ ]
  candidates_out (x ∷ xs) a c (Memᴰ.head q) = subst (λ (y : CandidateReg). Candidate j v y) (sym q) a.0
  candidates_out (x ∷ xs) a c (Memᴰ.tail m) = candidates_out xs a.1 c m

  add_good : (cs : List CandidateReg) (h : Hint) → Candidates cs → GoodHint h → Candidates (add_hint cs h)
  unfolding add_hint
  add_good [] h a g = (record { names = g.names; plain = plain_add binary32 zero_weight h.weight plain_zero g.plain }, tt)
  add_good (c ∷ cs) h a g = go (eqb c.reg h.reg) (add_good cs h a.1 g)
    where
      go : (b : Bool) → Candidates (add_hint cs h) → Candidates (grow b h c cs (add_hint cs h))
      go true ih = (record { names = a.0.names; plain = plain_add binary32 c.preference_weight h.weight a.0.plain g.plain }, a.1)
      go false ih = (a.0, ih)

  -- in whatever order
  insert_good : (before : CandidateReg → CandidateReg → Bool) (cs : List CandidateReg) (c : CandidateReg) → Candidates cs → Candidate j v c → Candidates (insert_by before c cs)
  unfolding insert_by
  insert_good before [] c a g = (g, tt)
  insert_good before (d ∷ ds) c a g = go (before c d) (insert_good before ds c a.1 g)
    where
      go : (b : Bool) → Candidates (insert_by before c ds) → Candidates (put_before b c d ds (insert_by before c ds))
      go true ih = (g, a)
      go false ih = (a.0, ih)

  fold_good : {A : Type 0} (P : A → Type 0) (f : List CandidateReg → A → List CandidateReg) → ((cs : List CandidateReg) (x : A) → Candidates cs → P x → Candidates (f cs x)) → (xs : List A) → ((x : A) → x ∈ xs → P x) → (cs : List CandidateReg) → Candidates cs → Candidates (foldl f cs xs)
  unfolding foldl
  fold_good P f k [] p cs a = a
  fold_good P f k (x ∷ xs) p cs a = fold_good P f k xs (λ y m. p y (Memᴰ.tail m)) (f cs x) (k cs x a (p x (Memᴰ.head refl)))

  append_good : (cs ds : List CandidateReg) → Candidates cs → Candidates ds → Candidates (cs ++ ds)
  append_good [] ds a b = b
  append_good (c ∷ cs) ds a b = (a.0, append_good cs ds a.1 b)

  last_good : (cs : List CandidateReg) (o : Option ℕ) → Candidates cs → ((r : ℕ) → o ≡ some r → GoodReg r) → Candidates (or_last cs o)
  last_good cs none a p = a
  last_good cs (some r) a p = go (has_reg r cs)
    where
      go : (b : Bool) → Candidates (cond b cs (cs ++ (candidate r zero_weight ∷ [])))
      go true = a
      go false = append_good cs (candidate r zero_weight ∷ []) a (record { names = p r refl; plain = plain_zero }, tt)

  class_good : (rs : List ℕ) → ((r : ℕ) → r ∈ rs → GoodReg r) → Candidates (map (λ r. candidate r zero_weight) rs)
  class_good [] p = tt
  class_good (r ∷ rs) p = (record { names = p r (Memᴰ.head refl); plain = plain_zero }, class_good rs (λ q m. p q (Memᴰ.tail m)))

-- ---- names

module _ (j : Job) (p : Premises j) (v : ℕ) (b : IsNumber j v) where
  named_class : (r : ℕ) → r ∈ class_of j v → T (named j v r)
  unfolding named
  named_class r m = or_left (has r (class_of j v)) _ (has_in r m)

  named_hint : (h : Hint) → h ∈ (virt_reg j v).hints → T (named j v h.reg)
  unfolding named virt_reg
  named_hint h m =
      or_right (has h.reg (class_of j v)) (any q j.virt_regs)
      (any_in q
      (both_in (eqb (virt_reg j v).value_set (virt_reg j v).value_set) (any r (virt_reg j v).hints) (eqb_refl (virt_reg j v).value_set) (any_in r (eqb_refl h.reg) m))
      (get_d_in j.virt_regs v no_virt_reg b))
    where
      r : Hint → Bool
      r k = eqb k.reg h.reg

      q : model.VirtReg → Bool
      q x = eqb x.value_set (virt_reg j v).value_set && any r x.hints

  good_hints : (h : Hint) → h ∈ (virt_reg j v).hints → GoodHint j v h
  unfolding virt_reg
  good_hints h m = record { names = named_hint h m; plain = finite_plain h.weight (p.finite_hints (virt_reg j v) (get_d_in j.virt_regs v no_virt_reg b) h m) }

  -- the hinted candidates and all candidates, where the register last given to the set is named
  pub hinted_good : (o : Option ℕ) → ((r : ℕ) → o ≡ some r → T (named j v r)) → Candidates j v (hinted_order (virt_reg j v) o)
  unfolding hinted_order by_weight
  hinted_good o l =
      let sums = foldl add_hint [] (virt_reg j v).hints in
      let a = fold_good j v (GoodHint j v) add_hint (add_good j v) (virt_reg j v).hints good_hints [] tt in
      last_good j v (foldl by_weight [] sums) o (fold_good j v (Candidate j v) by_weight (λ cs c. insert_good j v _ cs c) sums (candidates_out j v sums a) [] tt) l

  pub order_good : (hinted : List CandidateReg) → Candidates j v hinted → Candidates j v (order j v hinted)
  unfolding order
  order_good hinted a =
      append_good j v hinted _ a
      (class_good j v _ (λ r m. named_class r (filter_out (λ (r : ℕ). not (has_reg r hinted)) (class_of j v) m).1))

-- ---- the decision

module _ (j : Job) (p : Premises j) (s : State) (v : ℕ) (b : IsNumber j v) (l : (r : ℕ) → last_given j s v ≡ some r → T (named j v r)) where
  -- of the best eviction so far
  abbrev Best : Option Eviction → Type 0
  Best none = Unit {0}
  Best (some e) = Candidate j v e.to × T (not (ruled_out (check_of j s v e.to.reg)))

  better_best : (o : Option Eviction) (c : CandidateReg) → Best o → Candidate j v c → Best (better j s v o c)
  unfolding better
  better_best o c g n = go (not (ruled_out rs) && rest) refl
    where
      rs : List Interference
      rs = check_of j s v c.reg

      rest : Bool
      rest = allowed j s v c (cost_of j s rs) && cheaper (cost_of j s rs) (best_cost o)

      go : (z : Bool) → (not (ruled_out rs) && rest) ≡ z → Best (cond z (some (record { to = c; cost = cost_of j s rs })) o)
      go true q = (n, (both (not (ruled_out rs)) rest (subst T (sym q) tt)).0)
      go false q = g

  fold_best : (cs : List CandidateReg) (o : Option Eviction) → Best o → Candidates j v cs → Best (foldl (better j s v) o cs)
  unfolding foldl
  fold_best [] o g a = g
  fold_best (c ∷ cs) o g a = fold_best cs (better j s v o c) (better_best o c g a.0) a.1

  eviction_fits : (o : Option Eviction) → Best o → Fits j s v (by_eviction j s v o)
  eviction_fits none g = go (is_infinite (spill_weight j v))
    where
      go : (z : Bool) → Fits j s v (cond z fails splits)
      go true = tt
      go false = tt
  eviction_fits (some e) g = takes_evicting j s v e.to g.0 g.1

  none_clear_fits : (cs : List CandidateReg) (q : Stage) → Candidates j v cs → Fits j s v (none_clear j s v cs q)
  unfolding try_evict
  none_clear_fits cs Evict a = eviction_fits (try_evict j s v cs) (fold_best cs none tt a)
  none_clear_fits cs Split a = tt

  preferred_open : (clear c : CandidateReg) → T (preferred j s v clear c) → T (not (ruled_out (check_of j s v c.reg)))
  unfolding preferred
  preferred_open clear c t =
      let rs = check_of j s v c.reg in
      let below = lt (weights s (holders rs)) c.preference_weight in
      (both (not (ruled_out rs)) below (both (lt clear.preference_weight c.preference_weight) (not (ruled_out rs) && below) t).1).0

  preferred_fits : (hinted : List CandidateReg) (c : CandidateReg) (z : Bool) → Candidates j v hinted → Takes j s v c [] → Fits j s v (or_preferred j s v c (cond z (first (preferred j s v c) hinted) none))
  preferred_fits hinted c false a t = t
  preferred_fits hinted c true a t = go (first (preferred j s v c) hinted) refl
    where
      go : (o : Option CandidateReg) → first (preferred j s v c) hinted ≡ o → Fits j s v (or_preferred j s v c o)
      go none q = t
      go (some d) q =
          let k = first_out (preferred j s v c) hinted d q in
          takes_evicting j s v d (candidates_out j v hinted a d k.0) (preferred_open c d k.1)

  clear_fits : (hinted cs : List CandidateReg) (q : Stage) → Candidates j v hinted → Candidates j v cs → (o : Option CandidateReg) → first (is_clear j s v) cs ≡ o → Fits j s v (by_clear j s v hinted cs q o)
  clear_fits hinted cs q a d none e = none_clear_fits cs q d
  clear_fits hinted cs q a d (some c) e =
      let k = first_out (is_clear j s v) cs c e in
      preferred_fits hinted c (lt c.preference_weight (highest_preference hinted) && not (flag s v)) a
      (takes_clear j s v c (candidates_out j v cs d c k.0) k.1)

  candidates_fit : (hinted cs : List CandidateReg) (q : Stage) → Candidates j v hinted → Candidates j v cs → Fits j s v (by_candidates j s v hinted cs q)
  candidates_fit hinted [] q a d = tt
  candidates_fit hinted (c ∷ cs) q a d = clear_fits hinted (c ∷ cs) q a d (first (is_clear j s v) (c ∷ cs)) refl

  pub decide_fits : (q : Stage) → Fits j s v (decide j s v q)
  unfolding decide
  decide_fits q =
      let hinted = hinted_order (virt_reg j v) (last_given j s v) in
      let a = hinted_good j p v b (last_given j s v) l in
      candidates_fit hinted (order j v hinted) q a (order_good j p v b hinted a)
