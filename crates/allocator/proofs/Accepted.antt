-- When a direct call is accepted: exactly when none of its tests refuses it. Assumes nothing.
use Prim.Native.Nat.{ℕ, ◌<◌}
use native.Mathlib.Omega.{arith}
use mathlib.Core.Path.{◌≡◌, refl, sym, subst}
use mathlib.Core.Logic.{◌↔◌}
use mathlib.Core.List.{List, [], ◌∷◌}
use mathlib.Core.Option.{none}
use mathlib.Core.Bool.{Bool, true, false, not, ◌||◌}
use lib.Dec.{T, leb, not_T, leb→le, nleb→lt}
use lib.Ieee.{Float}
use lib.ListN.{length}
use Rattle.reg_matrix.specs.Lists.{is_nil, is_some}
use Rattle.reg_matrix.specs.Refusals.{Test, refusal, ◌if◌, short_buffer}
use Rattle.job.specs.Model.{Job}
use Rattle.job.proofs.Premises.{IsNumber, IsReg}
use Rattle.job.proofs.Weights.{neither}
use Rattle.allocator.specs.State.{State, held_by, is_unassigned, check_of}
use Rattle.allocator.specs.Layout.{stage_limits}
use Rattle.allocator.specs.Calls.{placing, evicting, running, unknown_number, named, bad_weight, refusal_of}
use Rattle.allocator.proofs.Holders.{none_some}

-- ---- tests

-- the first test passes, and so do the others
pub all_pass : (n : ℕ) (b : Bool) (ts : List Test) → refusal (n if b ∷ ts) ≡ none → T (not b) × (refusal ts ≡ none)
unfolding refusal
all_pass n true ts q = absurd (none_some (sym q))
all_pass n false ts q = (tt, q)

pub pass_all : (n : ℕ) (b : Bool) (ts : List Test) → T (not b) → refusal ts ≡ none → refusal (n if b ∷ ts) ≡ none
unfolding refusal
pass_all n true ts t q = absurd t
pass_all n false ts t q = q

no_test : refusal [] ≡ none
unfolding refusal
no_test = refl

or_not : (a b : Bool) → T (not a) → T (not b) → T (not (a || b))
or_not true b s t = absurd s
or_not false b s t = t

not_not : (b : Bool) → T (not (not b)) → T b
not_not true t = tt
not_not false t = absurd t

twice_not : (b : Bool) → T b → T (not (not b))
twice_not true t = tt
twice_not false t = absurd t

below : (n v : ℕ) → v < n → T (not (leb n v))
below n v h = not_T (leb n v) (λ t. omega (arith, leb→le n v t))

nil_is : {A : Type 0} (xs : List A) → T (is_nil xs) → xs ≡ []
nil_is [] t = refl
nil_is (x ∷ xs) t = absurd t

is_nil_lem : {A : Type 0} (xs : List A) → xs ≡ [] → T (is_nil xs)
is_nil_lem {A} xs q = subst (λ (l : List A). T (is_nil l)) (sym q) tt

-- ---- direct placements

-- tests 15, 8, 9, 13, 14
pub record Placeable (j : Job) (s : State) (lent : List ℕ) (v r : ℕ) (w : Float) : Type 0 where
  pub lends : T (not (short_buffer stage_limits lent))
  pub known : IsNumber j v
  pub reg : IsReg j r
  pub names : T (named j v r)
  pub weight : T (not (bad_weight w))
  pub unassigned : T (is_unassigned s v)
  pub clear : check_of j s v r ≡ []

pub placing_accepted : (j : Job) (s : State) (lent : List ℕ) (v r : ℕ) (w : Float) → (refusal_of j s (placing lent v r w) ≡ none) ↔ Placeable j s lent v r w
unfolding refusal_of
placing_accepted j s lent v r w = (out, into)
  where
    unknown : Bool
    unknown = leb (length j.regs) r || not (named j v r)

    out : refusal_of j s (placing lent v r w) ≡ none → Placeable j s lent v r w
    out q =
        let a = all_pass 15 (short_buffer stage_limits lent) _ q in
        let b = all_pass 8 (unknown_number j v || unknown) _ a.1 in
        let c = all_pass 9 (bad_weight w) _ b.1 in
        let d = all_pass 13 (not (is_unassigned s v)) _ c.1 in
        let e = all_pass 14 (not (is_nil (check_of j s v r))) _ d.1 in
        let f = neither (unknown_number j v) unknown b.0 in
        let g = neither (leb (length j.regs) r) (not (named j v r)) f.1 in
        record {
          lends = a.0;
          known = nleb→lt (length j.virt_regs) v f.0;
          reg = nleb→lt (length j.regs) r g.0;
          names = not_not (named j v r) g.1;
          weight = c.0;
          unassigned = not_not (is_unassigned s v) d.0;
          clear = nil_is (check_of j s v r) (not_not (is_nil (check_of j s v r)) e.0);
        }

    into : Placeable j s lent v r w → refusal_of j s (placing lent v r w) ≡ none
    into k =
        pass_all 15 (short_buffer stage_limits lent) _ k.lends
        (pass_all 8 (unknown_number j v || unknown) _
        (or_not (unknown_number j v) unknown (below (length j.virt_regs) v k.known)
        (or_not (leb (length j.regs) r) (not (named j v r)) (below (length j.regs) r k.reg) (twice_not (named j v r) k.names)))
        (pass_all 9 (bad_weight w) _ k.weight
        (pass_all 13 (not (is_unassigned s v)) _ (twice_not (is_unassigned s v) k.unassigned)
        (pass_all 14 (not (is_nil (check_of j s v r))) [] (twice_not (is_nil (check_of j s v r)) (is_nil_lem (check_of j s v r) k.clear)) no_test))))

-- ---- direct evictions

-- tests 15, 8, 13
pub record Evictable (j : Job) (s : State) (lent : List ℕ) (v : ℕ) : Type 0 where
  pub lends : T (not (short_buffer stage_limits lent))
  pub known : IsNumber j v
  pub assigned : T (is_some (held_by s v))

pub evicting_accepted : (j : Job) (s : State) (lent : List ℕ) (v : ℕ) → (refusal_of j s (evicting lent v) ≡ none) ↔ Evictable j s lent v
unfolding refusal_of
evicting_accepted j s lent v = (out, into)
  where
    out : refusal_of j s (evicting lent v) ≡ none → Evictable j s lent v
    out q =
        let a = all_pass 15 (short_buffer stage_limits lent) _ q in
        let b = all_pass 8 (unknown_number j v) _ a.1 in
        let c = all_pass 13 (not (is_some (held_by s v))) _ b.1 in
        record { lends = a.0; known = nleb→lt (length j.virt_regs) v b.0; assigned = not_not (is_some (held_by s v)) c.0 }

    into : Evictable j s lent v → refusal_of j s (evicting lent v) ≡ none
    into k =
        pass_all 15 (short_buffer stage_limits lent) _ k.lends
        (pass_all 8 (unknown_number j v) _ (below (length j.virt_regs) v k.known)
        (pass_all 13 (not (is_some (held_by s v))) [] (twice_not (is_some (held_by s v)) k.assigned) no_test))

-- ---- runs: test 15 alone

pub running_accepted : (j : Job) (s : State) (lent : List ℕ) (b : ℕ) → T (not (short_buffer stage_limits lent)) → refusal_of j s (running lent b) ≡ none
unfolding refusal_of
running_accepted j s lent b t = pass_all 15 (short_buffer stage_limits lent) [] t no_test
