-- Records, queue and table agree with Holding after every list of calls, and the tests of direct calls on standing (13) are Holding's.
-- Assumes nothing.
use Prim.Native.Nat.{ℕ}
use native.Mathlib.Omega.{arith}
use mathlib.Core.Path.{◌≡◌, refl, sym, ap, ◌∙◌, subst}
use mathlib.Core.Logic.{◌⊎◌, inl, inr}
use mathlib.Core.List.{List}
use mathlib.Core.Option.{Option, none, some}
use mathlib.Core.Bool.{Bool, true, false, not, ◌&&◌}
use lib.Dec.{T}
use Rattle.reg_matrix.specs.Lists.{is_some}
use Rattle.reg_matrix.specs.Table.{units_of}
use Rattle.reg_matrix.specs.Assign.{fixed_index}
use Rattle.std.specs.Prelude.{Option as Maybe}
use Rattle.reg_matrix.specs.declared.ValueSegment.{ValueSegment}
use Rattle.reg_matrix.specs.declared.Entry.{Entry}
use Rattle.reg_matrix.specs.declared.Reservation.TheVariants.{Held}
use Rattle.reg_matrix.proofs.Members.{◌∈◌}
use Rattle.reg_matrix.proofs.Cells.{entry_for, Laid, reserved, cell}
use Rattle.reg_matrix.proofs.Whole.{cell_of}
use Rattle.job.specs.Model.{Job, segments_of, unit_map}
use Rattle.job.proofs.Premises.{Premises}
use Rattle.allocator.specs.declared.CandidateReg.{CandidateReg}
use Rattle.allocator.specs.declared.Assignment.TheVariants.{Assigned}
use Rattle.allocator.specs.State.{State, held_by, is_left_over, flag, assignment, record_of}
use Rattle.allocator.specs.Calls.{Call, evicted, reg_of, or_refused, answer_of, after_all}
use Rattle.allocator.specs.Holding.{Holding, holds}
use Rattle.allocator.specs.Corollaries.{HasUnit, AssignedTo, HeldEntry, Agreement, AgreementAfter}
use Rattle.allocator.proofs.Holders.{none_some, cells_of, cell_in, cell_out}
use Rattle.allocator.proofs.Agrees.{reg_held, Agrees, on_record, holder_known}
use Rattle.allocator.proofs.Accepted.{evicting_accepted}
use Rattle.allocator.proofs.Runs.{after_agrees}
use Rattle.allocator.proofs.Loading.{stage_premises}

module _ (j : Job) (s : State) (h : Holding) (a : Agrees j s h) where
  same_some_test : (v : ℕ) → is_some (held_by s v) ≡ is_some (h v)
  same_some_test v = go (held_by s v) ∙ ap (λ (o : Option ℕ). is_some o) (a.regs v)
    where
      go : (o : Option CandidateReg) → is_some o ≡ is_some (reg_held o)
      go none = refl
      go (some c) = refl

  record_out : (v r : ℕ) → AssignedTo (record_of s v) r → h v ≡ some r
  unfolding record_of
  record_out v r k = sym (a.regs v) ∙ go (is_left_over s v) (held_by s v) k.stands
    where
      go : (l : Bool) (o : Option CandidateReg) → assignment l (flag s v) o ≡ Assigned k.flag r k.weight → reg_held o ≡ some r
      go true o q = absurd (let z : ◌≡◌ {A = ℕ} 0 1 = cc in omega arith)
      go false none q = absurd (let z : ◌≡◌ {A = ℕ} 0 1 = cc in omega arith)
      go false (some c) q = let z : c.reg ≡ r = cc in ap (λ (n : ℕ). some n) z

  record_in_lem : (v r : ℕ) → h v ≡ some r → AssignedTo (record_of s v) r
  unfolding record_of
  record_in_lem v r q = go (is_left_over s v) refl (on_record j s h a v r q)
    where
      go : (l : Bool) → is_left_over s v ≡ l → (c : CandidateReg) × (held_by s v ≡ some c) × (c.reg ≡ r) → AssignedTo (assignment l (flag s v) (held_by s v)) r
      go true e k = absurd (none_some (sym (a.left v (subst T (sym e) tt)) ∙ q))
      go false e k =
          record {
            flag = flag s v;
            weight = k.0.preference_weight;
            stands = ap (assignment false (flag s v)) k.1 ∙ ap (λ (n : ℕ). Assigned (flag s v) n k.0.preference_weight) k.2;
          }

  -- the entry of a cell, and its index
  table_has :
      (v u : ℕ) → HasUnit j h v u → (x : ValueSegment) → x ∈ segments_of j v
      → (i : Maybe ℕ) × (record { unit = u; from = x.from; to = x.to; reservation = Held v i } ∈ s.table)
  unfolding entry_for
  table_has v u k x m =
      let c = cell_of v u x in
      let known = (holder_known j s h a v k.reg k.holds).0 in (
        fixed_index j.fixed u x j.fixed,
        a.table.table.into (entry_for j.fixed c)
            (cell c (cell_in j h c (record { reg = k.reg; holds = k.holds; known = known; unit = k.unit; segment = m })) refl),
      )

  table_only : (e : Entry) → Laid j.fixed (cells_of j h) e → (e ∈ j.fixed) ⊎ HeldEntry j h e
  unfolding entry_for
  table_only e (reserved m r) = inl m
  table_only e (cell c m q) =
      let k = cell_out j h c m in
      let at : e.unit ≡ c.u = ap (λ (x : Entry). x.unit) q in
      inr
      (record {
        number = c.v;
        segment = c.s;
        index = fixed_index j.fixed c.u c.s j.fixed;
        has = record { reg = k.reg; holds = k.holds; unit = subst (λ (u : ℕ). u ∈ units_of (unit_map j k.reg)) (sym at) k.unit };
        among = k.segment;
        stands = q ∙ ap (λ (u : ℕ). record { unit = u; from = c.s.from; to = c.s.to; reservation = Held c.v (fixed_index j.fixed c.u c.s j.fixed) }) (sym at);
      })

  pub states_agree : Agreement j s h
  unfolding answer_of
  states_agree =
      record {
        table_has = table_has;
        table_only = λ e m. table_only e (a.table.table.out e m);
        records = λ v r. (record_out v r, record_in_lem v r);
        queue = λ v q e. let w = a.queue v q e in (w.known, w.idle, w.stays);
        evictions = λ lent v. (
          (λ q. let k = (evicting_accepted j s lent v).0 q in record { lends = k.lends; known = k.known; holds = subst T (same_some_test v) k.assigned }),
          λ k. (evicting_accepted j s lent v).1 (record { lends = k.lends; known = k.known; assigned = subst T (sym (same_some_test v)) k.holds }),
        );
        eviction_answers = λ lent v r q e.
            let k = on_record j s h a v r e in
            ap (λ (o : Option ℕ). or_refused o (evicted (reg_of (held_by s v)))) q ∙ ap (λ (o : Option CandidateReg). evicted (reg_of o)) k.1 ∙ ap (λ (n : ℕ). evicted n) k.2;
        standing = λ v. ap (λ (b : Bool). not b && not (is_left_over s v)) (same_some_test v);
      }

-- of a job with what loading tested
pub agree_premises : (j : Job) → Premises j → (cs : List Call) → Agreement j (after_all j cs) (holds j cs)
agree_premises j p cs = states_agree j (after_all j cs) (holds j cs) (after_agrees j p cs)

pub agree : AgreementAfter
agree lent bytes j b e = agree_premises j (stage_premises lent bytes j b e)
