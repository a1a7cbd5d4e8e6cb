-- What stays true of a state and of who holds what (`Agrees`), and that every change of the state keeps it: a number gets a register or loses
-- it, is queued again, is left over. Assumes nothing.
use Prim.Native.Nat.{ℕ, ◌<◌, ◌≤◌, ◌+◌, ◌-◌}
use native.Mathlib.Omega.{arith}
use mathlib.Core.Path.{◌≡◌, refl, sym, ap, ◌∙◌, subst, fun_ext}
use mathlib.Core.Logic.{◌⊎◌, inl, inr}
use mathlib.Core.List.{List, [], ◌++◌}
use mathlib.Core.Option.{Option, none, some}
use mathlib.Core.Bool.{Bool, true, false, not, ◌||◌}
use lib.Dec.{T, T_not, not_T}
use lib.ListN.{length, get_or, set, replicate, length-append, length-replicate, length-set}
use lib.Seq.{get_or-set_same, get_or-set_other, get_or-append-add}
use Rattle.reg_matrix.specs.Lists.{padded}
use Rattle.reg_matrix.proofs.Tests.{less_equal_greater}
use Rattle.reg_matrix.proofs.Places.{replicate_default}
use Rattle.job.specs.Model.{Job, virt_reg}
use Rattle.job.proofs.Premises.{Premises, IsNumber, Plain}
use Rattle.allocator.specs.State.{State, CandidateReg, Stage, Evict, fresh_state, held_by, is_left_over, flag, last_given, check_of, give, lose, lose_held, evict_number, requeue, leave}
use Rattle.allocator.specs.Calls.{named}
use Rattle.allocator.specs.Holding.{Holding, nothing_held, but}
use Rattle.allocator.proofs.Holders.{same_or_not, none_some, same_some, but_cases, but_same, but_other, TableOf, fresh_holds_nothing, table_gets, table_loses}

-- ---- the statement

-- the register of what is held
abbrev pub reg_held : Option CandidateReg → Option ℕ
reg_held none = none
reg_held (some c) = some c.reg

abbrev pub queued_at : State → ℕ → Option Stage
queued_at s v = get_or s.queued v none

-- a register that v may take: its class or a hint of its set names it, and its weight is no NaN and has no sign
pub record Candidate (j : Job) (v : ℕ) (c : CandidateReg) : Type 0 where
  pub names : T (named j v c.reg)
  pub plain : Plain c.preference_weight

-- v is a number that holds nothing and is not left over
pub record Waiting (j : Job) (s : State) (h : Holding) (v : ℕ) : Type 0 where
  pub known : IsNumber j v
  pub idle : h v ≡ none
  pub stays : T (not (is_left_over s v))

-- the class or a hint of the set t names r: that of one of its members
pub record SetNames (j : Job) (t r : ℕ) : Type 0 where
  pub member : ℕ
  pub known : IsNumber j member
  pub in_set : (virt_reg j member).value_set ≡ t
  pub names : T (named j member r)

-- every list has 512 places
pub record Sizes (s : State) : Type 0 where
  pub held : length s.held ≡ 512
  pub left_over : length s.left_over ≡ 512
  pub flags : length s.flags ≡ 512
  pub queued : length s.queued ≡ 512
  pub last : length s.last ≡ 512

pub record Agrees (j : Job) (s : State) (h : Holding) : Type 0 where
  pub sizes : Sizes s
  -- the table has the cells of the holders
  pub table : TableOf j h s.table
  -- the registers on record are those held, by numbers that may have them
  pub regs : (v : ℕ) → reg_held (held_by s v) ≡ h v
  pub holder : (v : ℕ) (c : CandidateReg) → held_by s v ≡ some c → IsNumber j v × Candidate j v c
  -- who is left over holds nothing; who is queued holds nothing either, and is not left over
  pub left : (v : ℕ) → T (is_left_over s v) → h v ≡ none
  pub queue : (v : ℕ) (q : Stage) → queued_at s v ≡ some q → Waiting j s h v
  -- the register last given to a set is one that its members may have
  pub last : (t r : ℕ) → get_or s.last t none ≡ some r → SetNames j t r

-- who holds a register, as Holding says it, has it on record
pub on_record : (j : Job) (s : State) (h : Holding) → Agrees j s h → (v r : ℕ) → h v ≡ some r → (c : CandidateReg) × (held_by s v ≡ some c) × (c.reg ≡ r)
on_record j s h a v r q = go (held_by s v) refl (a.regs v ∙ q)
  where
    go : (o : Option CandidateReg) → held_by s v ≡ o → reg_held o ≡ some r → (c : CandidateReg) × (held_by s v ≡ some c) × (c.reg ≡ r)
    go none e k = absurd (none_some k)
    go (some c) e k = (c, e, same_some k)

-- and is a number that may have it
pub holder_known : (j : Job) (s : State) (h : Holding) → Agrees j s h → (v r : ℕ) → h v ≡ some r → IsNumber j v × T (named j v r)
holder_known j s h a v r q =
    let k = on_record j s h a v r q in
    let l = a.holder v k.0 k.1 in
    (l.0, subst (λ (x : ℕ). T (named j v x)) k.2 l.1.names)

-- numbers of one set share a class, so what names a register for one of them does for all
set_names : (j : Job) → Premises j → (v w r : ℕ) → IsNumber j v → IsNumber j w → (virt_reg j v).value_set ≡ (virt_reg j w).value_set → T (named j w r) → T (named j v r)
unfolding named
set_names j p v w r b c q t = rw (p.one_class v w b c q, q) t

pub last_named : (j : Job) → Premises j → (s : State) (h : Holding) → Agrees j s h → (v r : ℕ) → IsNumber j v → last_given j s v ≡ some r → T (named j v r)
last_named j p s h a v r b q =
    let k = a.last (virt_reg j v).value_set r q in
    set_names j p v k.member r b k.known (sym k.in_set) k.names

-- ---- lists

module _ {A : Type 0} where
  -- a list after a store
  pub set_cases : (l : List A) (i k : ℕ) (a d : A) → i < length l → ((k ≡ i) × (get_or (set l i a) k d ≡ a)) ⊎ ((k ≡ i → ⊥) × (get_or (set l i a) k d ≡ get_or l k d))
  set_cases l i k a d b = go (same_or_not k i)
    where
      go : (k ≡ i) ⊎ (k ≡ i → ⊥) → ((k ≡ i) × (get_or (set l i a) k d ≡ a)) ⊎ ((k ≡ i → ⊥) × (get_or (set l i a) k d ≡ get_or l k d))
      go (inl e) = inl (e, ap (λ (n : ℕ). get_or (set l i a) n d) e ∙ get_or-set_same l i a d b)
      go (inr n) = inr (n, get_or-set_other l i k a d n)

-- ---- the fresh job

-- who is queued as loading leaves it is a number
padded_queue : (n v : ℕ) (q : Stage) → get_or (padded 512 none (replicate n (some Evict))) v none ≡ some q → v < n
unfolding padded
padded_queue n v q e = go (less_equal_greater v n)
  where
    xs : List (Option Stage)
    xs = replicate n (some Evict)

    ys : List (Option Stage)
    ys = replicate (512 - length xs) none

    past : n ≤ v → get_or (xs ++ ys) v none ≡ none
    past h =
        let k : v ≡ length xs + (v - n) = omega (arith, length-replicate n (some Evict)) in
        ap (λ (i : ℕ). get_or (xs ++ ys) i none) k ∙ get_or-append-add xs ys (v - n) none ∙ replicate_default (512 - length xs) (v - n) none

    go : (v < n) ⊎ ((v ≡ n) ⊎ (n < v)) → v < n
    go (inl h) = h
    go (inr (inl h)) = absurd (none_some (sym (past (omega arith)) ∙ e))
    go (inr (inr h)) = absurd (none_some (sym (past (omega arith)) ∙ e))

module _ (j : Job) (p : Premises j) where
  fresh_length : length (fresh_state j).queued ≡ 512
  unfolding fresh_state padded
  fresh_length = simp (length-append, length-replicate) (omega (arith, p.few_numbers))

  pub fresh_agrees : Agrees j (fresh_state j) nothing_held
  unfolding fresh_state
  fresh_agrees =
      record {
        sizes = record { held = simp length-replicate; left_over = simp length-replicate; flags = simp length-replicate; queued = fresh_length; last = simp length-replicate };
        table = fresh_holds_nothing j p;
        regs = λ v. ap reg_held (replicate_default 512 v none);
        holder = λ v c q. absurd (none_some (sym (replicate_default 512 v none) ∙ q));
        left = λ v t. refl;
        queue = λ v q e. record { known = padded_queue (length j.virt_regs) v q e; idle = refl; stays = subst (λ (b : Bool). T (not b)) (sym (replicate_default 512 v false)) tt };
        last = λ t r q. absurd (none_some (sym (replicate_default 512 t none) ∙ q));
      }

-- ---- a change of one number

-- the records after a store, beside Holding
stored : (l : List (Option CandidateReg)) (h : Holding) (v : ℕ) (o : Option CandidateReg) → v < length l → ((x : ℕ) → reg_held (get_or l x none) ≡ h x) → (x : ℕ) → reg_held (get_or (set l v o) x none) ≡ but h v (reg_held o) x
stored l h v o b q x = go (set_cases l v x o none b)
  where
    go : ((x ≡ v) × (get_or (set l v o) x none ≡ o)) ⊎ ((x ≡ v → ⊥) × (get_or (set l v o) x none ≡ get_or l x none)) → reg_held (get_or (set l v o) x none) ≡ but h v (reg_held o) x
    go (inl k) = ap reg_held k.1 ∙ sym (but_same h v (reg_held o)) ∙ ap (but h v (reg_held o)) (sym k.0)
    go (inr k) = ap reg_held k.1 ∙ q x ∙ sym (but_other h v (reg_held o) x k.0)

module _ (j : Job) (p : Premises j) (s : State) (h : Holding) (a : Agrees j s h) (v : ℕ) (b : IsNumber j v) where
  -- a number has its place in every list
  place : (n : ℕ) → n ≡ 512 → v < n
  place n q = omega (arith, p.few_numbers)

  -- ---- v gets a register

  module _ (c : CandidateReg) (f : Bool) (w : Waiting j s h v) (good : Candidate j v c) (clear : check_of j s v c.reg ≡ []) where
    new : Holding
    new = but h v (some c.reg)

    given : State
    given = give j v c f s

    give_holder : (x : ℕ) (d : CandidateReg) → held_by given x ≡ some d → IsNumber j x × Candidate j x d
    unfolding given give
    give_holder x d q = go (set_cases s.held v x (some c) none (place _ a.sizes.held))
      where
        go : ((x ≡ v) × (held_by given x ≡ some c)) ⊎ ((x ≡ v → ⊥) × (held_by given x ≡ held_by s x)) → IsNumber j x × Candidate j x d
        go (inl k) = subst (λ (y : ℕ). IsNumber j y × Candidate j y d) (sym k.0) (b, subst (λ (e : CandidateReg). Candidate j v e) (same_some (sym k.1 ∙ q)) good)
        go (inr k) = a.holder x d (sym k.1 ∙ q)

    give_left : (x : ℕ) → T (is_left_over s x) → new x ≡ none
    unfolding new
    give_left x t = go (but_cases h v (some c.reg) x)
      where
        go : ((x ≡ v) × (new x ≡ some c.reg)) ⊎ ((x ≡ v → ⊥) × (new x ≡ h x)) → new x ≡ none
        go (inl k) = absurd (T_not (is_left_over s v) w.stays (subst (λ (y : ℕ). T (is_left_over s y)) k.0 t))
        go (inr k) = k.1 ∙ a.left x t

    give_queue : (x : ℕ) (q : Stage) → queued_at given x ≡ some q → Waiting j given new x
    unfolding given give new
    give_queue x q e = go (set_cases s.queued v x none none (place _ a.sizes.queued))
      where
        go : ((x ≡ v) × (queued_at given x ≡ none)) ⊎ ((x ≡ v → ⊥) × (queued_at given x ≡ queued_at s x)) → Waiting j given new x
        go (inl k) = absurd (none_some (sym k.1 ∙ e))
        go (inr k) =
            let o = a.queue x q (sym k.1 ∙ e) in
            record { known = o.known; idle = but_other h v (some c.reg) x k.0 ∙ o.idle; stays = o.stays }

    give_last : (t r : ℕ) → get_or given.last t none ≡ some r → SetNames j t r
    unfolding given give
    give_last t r e = go (set_cases s.last (virt_reg j v).value_set t (some c.reg) none (omega (arith, p.small_sets v b, a.sizes.last)))
      where
        go :
            ((t ≡ (virt_reg j v).value_set) × (get_or given.last t none ≡ some c.reg))
            ⊎ ((t ≡ (virt_reg j v).value_set → ⊥) × (get_or given.last t none ≡ get_or s.last t none))
            → SetNames j t r
        go (inl k) = record { member = v; known = b; in_set = sym k.0; names = subst (λ (y : ℕ). T (named j v y)) (same_some (sym k.1 ∙ e)) good.names }
        go (inr k) = a.last t r (sym k.1 ∙ e)

    pub give_agrees : Agrees j (give j v c f s) (but h v (some c.reg))
    unfolding given give new check_of
    give_agrees =
        record {
          sizes =
              record {
                held = length-set s.held v (some c) ∙ a.sizes.held;
                left_over = a.sizes.left_over;
                flags = length-set s.flags v (f || flag s v) ∙ a.sizes.flags;
                queued = length-set s.queued v none ∙ a.sizes.queued;
                last = length-set s.last (virt_reg j v).value_set (some c.reg) ∙ a.sizes.last;
              };
          table = table_gets j p h s.table a.table v c.reg b w.idle clear;
          regs = stored s.held h v (some c) (place _ a.sizes.held) a.regs;
          holder = give_holder;
          left = give_left;
          queue = give_queue;
          last = give_last;
        }

  -- ---- v loses its register

  module _ (c : CandidateReg) (e : held_by s v ≡ some c) where
    lost : State
    lost = lose j v c.reg s

    holds_it : h v ≡ some c.reg
    holds_it = sym (a.regs v) ∙ ap reg_held e

    lose_holder : (x : ℕ) (d : CandidateReg) → held_by lost x ≡ some d → IsNumber j x × Candidate j x d
    unfolding lost lose
    lose_holder x d q = go (set_cases s.held v x none none (place _ a.sizes.held))
      where
        go : ((x ≡ v) × (held_by lost x ≡ none)) ⊎ ((x ≡ v → ⊥) × (held_by lost x ≡ held_by s x)) → IsNumber j x × Candidate j x d
        go (inl k) = absurd (none_some (sym k.1 ∙ q))
        go (inr k) = a.holder x d (sym k.1 ∙ q)

    idle_still : (x : ℕ) → h x ≡ none → but h v none x ≡ none
    idle_still x q = go (but_cases h v none x)
      where
        go : ((x ≡ v) × (but h v none x ≡ none)) ⊎ ((x ≡ v → ⊥) × (but h v none x ≡ h x)) → but h v none x ≡ none
        go (inl k) = k.1
        go (inr k) = k.1 ∙ q

    lose_queue : (x : ℕ) (q : Stage) → queued_at lost x ≡ some q → Waiting j lost (but h v none) x
    unfolding lost lose
    lose_queue x q d = go (set_cases s.queued v x (some Evict) none (place _ a.sizes.queued))
      where
        go : ((x ≡ v) × (queued_at lost x ≡ some Evict)) ⊎ ((x ≡ v → ⊥) × (queued_at lost x ≡ queued_at s x)) → Waiting j lost (but h v none) x
        go (inl k) =
            subst (λ (y : ℕ). Waiting j lost (but h v none) y) (sym k.0)
            (record { known = b; idle = but_same h v none; stays = not_T (is_left_over s v) (λ t. none_some (sym (a.left v t) ∙ holds_it)) })
        go (inr k) =
            let o = a.queue x q (sym k.1 ∙ d) in
            record { known = o.known; idle = idle_still x o.idle; stays = o.stays }

    pub lose_agrees : Agrees j (lose j v c.reg s) (but h v none)
    unfolding lost lose
    lose_agrees =
        record {
          sizes =
              record {
                held = length-set s.held v none ∙ a.sizes.held;
                left_over = a.sizes.left_over;
                flags = a.sizes.flags;
                queued = length-set s.queued v (some Evict) ∙ a.sizes.queued;
                last = a.sizes.last;
              };
          table = table_loses j p h s.table a.table v c.reg b holds_it;
          regs = stored s.held h v none (place _ a.sizes.held) a.regs;
          holder = lose_holder;
          left = λ x t. idle_still x (a.left x t);
          queue = lose_queue;
          last = a.last;
        }

  -- ---- v is queued again, or left over

  module _ (w : Waiting j s h v) where
    pub requeue_agrees : (q : Option Stage) → Agrees j (requeue v q s) h
    unfolding requeue
    requeue_agrees q =
        record {
          sizes =
              record {
                held = a.sizes.held;
                left_over = a.sizes.left_over;
                flags = a.sizes.flags;
                queued = length-set s.queued v q ∙ a.sizes.queued;
                last = a.sizes.last;
              };
          table = a.table;
          regs = a.regs;
          holder = a.holder;
          left = a.left;
          queue = queue;
          last = a.last;
        }
      where
        queue : (x : ℕ) (y : Stage) → queued_at (requeue v q s) x ≡ some y → Waiting j (requeue v q s) h x
        queue x y e = go (set_cases s.queued v x q none (place _ a.sizes.queued))
          where
            same : Waiting j s h x → Waiting j (requeue v q s) h x
            same o = record { known = o.known; idle = o.idle; stays = o.stays }

            go : ((x ≡ v) × (queued_at (requeue v q s) x ≡ q)) ⊎ ((x ≡ v → ⊥) × (queued_at (requeue v q s) x ≡ queued_at s x)) → Waiting j (requeue v q s) h x
            go (inl k) = same (subst (λ (y : ℕ). Waiting j s h y) (sym k.0) w)
            go (inr k) = same (a.queue x y (sym k.1 ∙ e))

    pub leave_agrees : Agrees j (leave v s) h
    unfolding leave
    leave_agrees =
        record {
          sizes =
              record {
                held = a.sizes.held;
                left_over = length-set s.left_over v true ∙ a.sizes.left_over;
                flags = a.sizes.flags;
                queued = length-set s.queued v none ∙ a.sizes.queued;
                last = a.sizes.last;
              };
          table = a.table;
          regs = a.regs;
          holder = a.holder;
          left = left;
          queue = queue;
          last = a.last;
        }
      where
        left : (x : ℕ) → T (is_left_over (leave v s) x) → h x ≡ none
        left x t = go (set_cases s.left_over v x true false (place _ a.sizes.left_over))
          where
            go : ((x ≡ v) × (is_left_over (leave v s) x ≡ true)) ⊎ ((x ≡ v → ⊥) × (is_left_over (leave v s) x ≡ is_left_over s x)) → h x ≡ none
            go (inl k) = ap h k.0 ∙ w.idle
            go (inr k) = a.left x (subst T k.1 t)

        queue : (x : ℕ) (y : Stage) → queued_at (leave v s) x ≡ some y → Waiting j (leave v s) h x
        queue x y e = go (set_cases s.queued v x none none (place _ a.sizes.queued))
          where
            go : ((x ≡ v) × (queued_at (leave v s) x ≡ none)) ⊎ ((x ≡ v → ⊥) × (queued_at (leave v s) x ≡ queued_at s x)) → Waiting j (leave v s) h x
            go (inl k) = absurd (none_some (sym k.1 ∙ e))
            go (inr k) =
                let o = a.queue x y (sym k.1 ∙ e) in
                record {
                  known = o.known;
                  idle = o.idle;
                  stays = subst (λ (b : Bool). T (not b)) (sym (get_or-set_other s.left_over v x true false k.0)) o.stays;
                }

-- ---- v is evicted, if it holds a register

-- nothing changes for who holds nothing
pub but_none : (h : Holding) (v : ℕ) → h v ≡ none → but h v none ≡ h
but_none h v e = fun_ext (λ x. go x (but_cases h v none x))
  where
    go : (x : ℕ) → ((x ≡ v) × (but h v none x ≡ none)) ⊎ ((x ≡ v → ⊥) × (but h v none x ≡ h x)) → but h v none x ≡ h x
    go x (inl k) = k.1 ∙ sym e ∙ ap h (sym k.0)
    go x (inr k) = k.1

pub evict_agrees : (j : Job) → Premises j → (s : State) (h : Holding) → Agrees j s h → (v : ℕ) → Agrees j (evict_number j s v) (but h v none)
unfolding evict_number
evict_agrees j p s h a v = go (held_by s v) refl
  where
    go : (o : Option CandidateReg) → held_by s v ≡ o → Agrees j (lose_held j v s o) (but h v none)
    go none q = subst (λ (g : Holding). Agrees j s g) (sym (but_none h v (sym (a.regs v) ∙ ap reg_held q))) a
    go (some c) q = lose_agrees j p s h a v (a.holder v c q).0 c q
