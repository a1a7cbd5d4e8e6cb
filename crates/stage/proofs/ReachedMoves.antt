-- Placing and evicting on a state that calls reach: afterwards the slices hold the table of the state that the rules give, and what is lent behind it
-- is unchanged. Assumes nothing.
use Prim.Native.Nat.{ℕ, suc, ◌+◌, ◌-◌, ◌^◌, ◌≤◌, ◌<◌}
use native.Mathlib.Omega.{arith}
use native.Mathlib.Numerals.{add-one}
use mathlib.Core.Path.{◌≡◌, sym, ap, ◌∙◌, subst}
use mathlib.Core.List.{List, [], ◌++◌, map}
use mathlib.Core.Option.{Option, none, some}
use mathlib.Core.Bool.{Bool, true, false}
use lib.ListN.{length, get_or}
use Rattle.reg_matrix.specs.Lists.{keep, filter, count, foldl}
use Rattle.reg_matrix.specs.Questions.{is_unit_free}
use Rattle.reg_matrix.specs.Layout.{max_entries, end_words, rest_words, use_words}
use Rattle.reg_matrix.proofs.Cells.{Cell}
use Rattle.reg_matrix.proofs.Whole.{cells}
use Rattle.reg_matrix.proofs.Laws.{Matrix}
use Rattle.entries.specs.Moves.{Words, words}
use Rattle.entries.specs.Placing.{Assigned, Evicted}
use Rattle.unit_free.specs.Spare.{free_at, range}
use Rattle.std.proofs.Common.{Result}
use Rattle.reg_matrix.specs.declared.Refusal.{Refusal}
use Rattle.table_words.proofs.Decode.{fits_word}
use Rattle.placing.proofs.Standing.{Stands}
use Rattle.placing.proofs.Lying.{UsesLie}
use Rattle.placing.proofs.Moving.{SmallCells}
use Rattle.placing.proofs.Asked.{free_stands}
use Rattle.placing.proofs.Answered.{Carried, assigned, evicted}
use Rattle.job.specs.Model.{Job, segments_of, unit_map}
use Rattle.job.proofs.Premises.{IsNumber}
use Rattle.allocator.specs.State.{State, held_by, check_of, give, lose, evict_number}
use Rattle.allocator.specs.Dequeue.{evict_all}
use Rattle.allocator.specs.declared.CandidateReg.{CandidateReg}
use Rattle.allocator.specs.Holding.{but}
use Rattle.allocator.proofs.Holders.{cells_if, ahead, behind, split_at, cells_more}
use Rattle.allocator.proofs.Agrees.{reg_held, Candidate, give_agrees}
use Rattle.allocator.proofs.Capacity.{few_cells}
use Rattle.allocator.proofs.Good.{Good, Idle, idle_waiting}
use Rattle.stage.proofs.Reached.{held_cells, small_fixed, small_held, cells_fit, entries_fit, uses_fit, walkable, small_points}

module _ (j : Job) (s : State) (g : Good j s) where
  -- the table stands in slices that are its layout and whatever is lent behind
  pub table_stands : (es rs et rt : List ℕ) → es ≡ end_words s.table ++ et → rs ≡ rest_words s.table ++ rt → Stands s.table et rt (words es rs)
  table_stands es rs et rt p q = record { few = entries_fit j s g; ends_are = p; rests_are = q }

  -- and the fixed uses lie in theirs
  pub uses_lie : (us ut : List ℕ) → us ≡ use_words j.fixed ++ ut → UsesLie j.fixed ut us
  uses_lie us ut p = record { few = uses_fit j s g; are = p }

  -- the spare question on the slices is the question on the table
  pub spare_found_lem :
      (et rt : List ℕ) (w : Words)
      → Stands s.table et rt w
      → (u from to : ℕ)
      → u < 64
      → from < 2 ^ 32
      → free_at u from to w ≡ is_unit_free s.table u (range from to)
  spare_found_lem et rt w st u from to a b =
      let k = walkable j s g in
      free_stands s.table et rt w st k.sorted (λ e m. record { unit = (k.small e m).unit; to = (k.small e m).to })
      (λ e m. fits_word e.reservation (k.small e m).reservation) u from to a b

  module _ (et rt ut uses : List ℕ) (w w' : Words) (st : Stands s.table et rt w) (lie : UsesLie j.fixed ut uses) (v m : ℕ) (fs ts : List ℕ)
      (ends : ts ≡ map (λ x. x.to) (segments_of j v)) (c : CandidateReg) (units : m ≡ unit_map j c.reg) (r : Result (Unit {0}) Refusal) where
    -- `assign` where the number is idle and the candidate clear: the table is that of `give`
    pub assign_gives :
        fs ≡ map (λ x. x.from) (segments_of j v)
        → Idle j s v
        → Candidate j v c
        → check_of j s v c.reg ≡ []
        → Assigned v m uses fs ts w w' r
        → (f : Bool)
        → Carried (give j v c f s).table et rt w' r
    unfolding give check_of
    assign_gives starts i k z a f =
        assigned j.fixed ut uses lie et rt s.table w st g.premises.sound (small_fixed j s g) v (unit_map j c.reg)
        (omega (arith, i.known, g.premises.few_numbers))
        (segments_of j v) w' r
        (subst (λ (l : List ℕ). Assigned v (unit_map j c.reg) uses (map (λ x. x.from) (segments_of j v)) l w w' r) ends
        (subst (λ (l : List ℕ). Assigned v (unit_map j c.reg) uses l ts w w' r) starts (subst (λ (n : ℕ). Assigned v n uses fs ts w w' r) units a)))
        (held_cells j s g) g.agrees.table (small_held j s g) false (g.premises.segments v i.known) (small_points j s g v i.known) z room
      where
        room : length j.fixed + (length (cells v (unit_map j c.reg) (segments_of j v)) + length (held_cells j s g)) ≤ max_entries
        room =
            omega (
              arith,
              g.premises.few_fixed,
              cells_more j g.holding v c.reg i.known (idle_waiting j s g v i).idle,
              few_cells j g.premises (give j v c f s) (but g.holding v (some c.reg))
                  (give_agrees j g.premises s g.holding g.agrees v i.known c f (idle_waiting j s g v i) k z),
            )

    -- `evict` where the number holds the register: the table is that of `lose`
    pub evict_loses : held_by s v ≡ some c → Evicted v m uses ts w w' r → Carried (lose j v c.reg s).table et rt w' r
    unfolding lose
    evict_loses e a =
        evicted j.fixed ut uses lie et rt s.table w st g.premises.sound (small_fixed j s g) v (unit_map j c.reg)
        (omega (arith, known, g.premises.few_numbers))
        (segments_of j v) w' r
        (subst (λ (l : List ℕ). Evicted v (unit_map j c.reg) uses l w w' r) ends (subst (λ (n : ℕ). Evicted v n uses ts w w' r) units a))
        (ahead j g.holding v) (behind j g.holding v)
        (subst (λ (cs : List Cell). Matrix j.fixed cs s.table) its_cells g.agrees.table)
        (subst SmallCells its_cells (small_held j s g))
        g.premises.few_fixed
        (subst (λ (cs : List Cell). length j.fixed + length cs ≤ max_entries) its_cells (cells_fit j s g))
      where
        known : IsNumber j v
        known = (g.agrees.holder v c e).0

        its_cells : held_cells j s g ≡ ahead j g.holding v ++ (cells v (unit_map j c.reg) (segments_of j v) ++ behind j g.holding v)
        its_cells =
            split_at j g.holding v known
            ∙ ap (λ (o : Option ℕ). ahead j g.holding v ++ (cells_if j v o ++ behind j g.holding v)) (sym (g.agrees.regs v) ∙ ap reg_held e)

-- ---- the evictions of a dequeue, one after another: those from here on are the whole

-- who holds a register loses it
pub evict_held : (j : Job) (s : State) (v : ℕ) (c : CandidateReg) → held_by s v ≡ some c → evict_number j s v ≡ lose j v c.reg s
unfolding evict_number
evict_held j s v c e = rw e

-- who holds nothing stays
pub evict_nothing : (j : Job) (s : State) (v : ℕ) → held_by s v ≡ none → evict_number j s v ≡ s
unfolding evict_number
evict_nothing j s v e = rw e

module _ (j : Job) (marks : List Bool) (i : ℕ) (s : State) where
  -- the marked numbers from k on are evicted
  abbrev pub evict_marked : ℕ → State → State
  evict_marked k t = evict_all j (filter (λ w. get_or marks w false) (count k (512 - k))) t

  marked_here :
      i < 512
      → (b : Bool)
      → get_or marks i false ≡ b
      → evict_marked i s ≡ evict_all j (keep b i (filter (λ w. get_or marks w false) (count (i + 1) (512 - (i + 1))))) s
  unfolding filter count
  marked_here h b q =
      let e : 512 - i ≡ suc (512 - (i + 1)) = omega arith in
      rw (e, q, add-one i)

  pub marked_yes : i < 512 → get_or marks i false ≡ true → evict_marked (i + 1) (evict_number j s i) ≡ evict_marked i s
  unfolding evict_all foldl
  marked_yes h q = sym (marked_here h true q)

  pub marked_no : i < 512 → get_or marks i false ≡ false → evict_marked (i + 1) s ≡ evict_marked i s
  marked_no h q = sym (marked_here h false q)

  pub marked_end : 512 ≤ i → s ≡ evict_marked i s
  unfolding evict_all foldl filter count
  marked_end h = let e : 512 - i ≡ 0 = omega arith in rw e
