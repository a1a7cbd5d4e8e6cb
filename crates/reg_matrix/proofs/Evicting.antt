-- Evicting one cell takes it off the table's cells: its entry goes, and the fixed uses that it replaced come back. Assumes nothing.
use Prim.Native.Nat.{ℕ, ◌<◌, ◌≤◌}
use native.Mathlib.Omega.{arith}
use mathlib.Core.Path.{◌≡◌, refl, sym, ap, ◌∙◌, subst}
use mathlib.Core.Logic.{◌⊎◌, inl, inr}
use mathlib.Core.List.Memᴰ
use mathlib.Core.List.{List, ◌∷◌}
use mathlib.Core.Bool.{Bool, true, false, not, ◌&&◌, cond}
use lib.ListN.{drop}
use lib.Dec.{T, ltb, eqb, ltb→lt, lt→ltb, eqb→eq, eqb_refl, T_not, not_T}
use Rattle.reg_matrix.specs.Lists.{filter, any, first}
use Rattle.reg_matrix.specs.Table.{Table, fixed_uses, insert_all}
use Rattle.reg_matrix.specs.Assign.{replaced, first_use, fixed_index, held_by, entry_of, index_of, uses_from, put_back, evict_segment}
use Rattle.reg_matrix.specs.declared.Entry.{Entry}
use Rattle.std.specs.Prelude.{Option, Some, None}
use Rattle.reg_matrix.proofs.Tests.{both, both_in, passes_or_not}
use Rattle.reg_matrix.proofs.Members.{◌∈◌, filter_out, filter_in, any_in, first_of, drop_out, fixed_uses_out, fixed_uses_in}
use Rattle.reg_matrix.proofs.Sorted.{Sorted, sorted_filter, Ordered, OrderedTo, ordered_by_ends, insert_all_out, insert_all_old, insert_all_new, insert_all_sorted}
use Rattle.reg_matrix.proofs.Cells.{Disjoint, Inside, replaced→, →replaced, →overlaps, Cell, entry_for, Laid, reserved, cell, IsTable, Free, only_here}
use Rattle.reg_matrix.proofs.Chains.{Chain, chain_filter, chain_drop, chain_parted, from_first_in, from_first_out, Sound, uses_nonempty}

module _ (fixed : List Entry) (cs : List Cell) (t : Table) (c : Cell) (sd : Sound fixed) (it : IsTable fixed (c ∷ cs) t) (fr : Free fixed cs c) where
  abbrev us : List Entry
  us = fixed_uses fixed c.u

  abbrev covered : Entry → Bool
  covered = replaced c.u c.s

  abbrev mine : Entry → Bool
  mine = entry_of c.v c.u c.s

  -- ---- the uses that come back are those that the cell replaces

  back : List Entry
  back = uses_from us c.s (fixed_index fixed c.u c.s fixed)

  in_reach : (e : Entry) → e ∈ us → c.s.from ≤ e.from → e.from < c.s.to → T (covered e)
  in_reach e m a b =
      let k = fixed_uses_out fixed c.u e m in
      →replaced c.u c.s e k.1 (fr.covers e k.0 k.1 (→overlaps c.s e b (omega (arith, sd.nonempty e k.0))))

  back_out : (e : Entry) → e ∈ back → (e ∈ fixed) × T (covered e)
  unfolding back fixed_index
  back_out e m = go (any covered fixed) m
    where
      go : (b : Bool) → e ∈ uses_from us c.s (cond b (Some (first_use us c.s)) None) → (e ∈ fixed) × T (covered e)
      go true n =
          let k = filter_out (λ (f : Entry). ltb f.from c.s.to) (drop (first_use us c.s) us) n in
          let l = drop_out (first_use us c.s) us k.1 in (
            (fixed_uses_out fixed c.u e l).0,
            in_reach e l (from_first_out c.s us (uses_nonempty fixed sd c.u) (sd.chain c.u) e k.1) (ltb→lt _ _ k.0),
          )
      go false n = elim n [ ]

  back_in : (e : Entry) → e ∈ fixed → T (covered e) → e ∈ back
  unfolding back fixed_index
  back_in e m r = go (any covered fixed) (any_in covered r m)
    where
      a : (e.unit ≡ c.u) × Inside c.s e
      a = replaced→ c.u c.s e r

      go : (b : Bool) → T b → e ∈ uses_from us c.s (cond b (Some (first_use us c.s)) None)
      go true h =
          filter_in (λ (f : Entry). ltb f.from c.s.to) (lt→ltb e.from c.s.to (omega (arith, a.1.ahead, sd.nonempty e m)))
          (from_first_in c.s us (uses_nonempty fixed sd c.u) (sd.chain c.u) e (fixed_uses_in fixed c.u e m a.0 a.1.isuse) a.1.after)
      go false h = absurd h

  back_chain : Chain back
  unfolding back
  back_chain = go (fixed_index fixed c.u c.s fixed)
    where
      go : (i : Option ℕ) → Chain (uses_from us c.s i)
      go (Some i) = chain_filter (λ (f : Entry). ltb f.from c.s.to) (drop i us) (chain_drop i us (sd.chain c.u))
      go None = tt

  -- ---- the cell's own entry

  own : Entry
  own = entry_for fixed c

  mine_own : T (mine own)
  unfolding own entry_for
  mine_own =
      both_in (eqb c.u c.u) (eqb c.s.to c.s.to && eqb c.v c.v) (eqb_refl c.u)
      (both_in (eqb c.s.to c.s.to) (eqb c.v c.v) (eqb_refl c.s.to) (eqb_refl c.v))

  mine→ : (e : Entry) → T (mine e) → (e.unit ≡ c.u) × (e.to ≡ c.s.to) × T (held_by c.v e.reservation)
  mine→ e h =
      let k = both (eqb e.unit c.u) (eqb e.to c.s.to && held_by c.v e.reservation) h in
      let l = both (eqb e.to c.s.to) (held_by c.v e.reservation) k.1 in
      (eqb→eq _ _ k.0, eqb→eq _ _ l.0, l.1)

  -- another cell's entry is not mine
  not_other : (e : Entry) (d : Cell) → d ∈ cs → e ≡ entry_for fixed d → T (mine e) → ⊥
  unfolding entry_for
  not_other e d n q h = go (fr.alone d n (sym (ap (λ (x : Entry). x.unit) q) ∙ k.0))
    where
      k : (e.unit ≡ c.u) × (e.to ≡ c.s.to) × T (held_by c.v e.reservation)
      k = mine→ e h

      to_is : e.to ≡ d.s.to
      to_is = ap (λ (x : Entry). x.to) q

      go : Disjoint d.s c.s → ⊥
      go (inl a) = omega (arith, k.1, to_is, fr.nonempty)
      go (inr a) = omega (arith, k.1, to_is, it.nonempty d (Memᴰ.tail n))

  mine_is : (e : Entry) → e ∈ t → T (mine e) → e ≡ own
  unfolding own
  mine_is e m h = go (it.out e m)
    where
      pick : (d : Cell) → d ∈ c ∷ cs → e ≡ entry_for fixed d → e ≡ own
      pick d (Memᴰ.head p) q = q ∙ ap (entry_for fixed) p
      pick d (Memᴰ.tail n) q = absurd (not_other e d n q h)

      go : Laid fixed (c ∷ cs) e → e ≡ own
      go (reserved f w) = absurd (sd.free e f c.v (mine→ e h).2)
      go (cell d n q) = pick d n q

  own_in : own ∈ t
  unfolding own
  own_in = it.into own (cell c (Memᴰ.head refl) refl)

  back_is : put_back us c.s (first mine t) ≡ back
  unfolding back own entry_for
  back_is =
      let k = first_of mine t (any_in mine mine_own own_in) in
      ap (put_back us c.s) k.1 ∙ ap (λ (e : Entry). uses_from us c.s (index_of e.reservation)) (mine_is k.0 k.2 k.3)

  -- ---- the table without it

  stays : Entry → Bool
  stays e = not (mine e)

  rest : Table
  rest = filter stays t

  evict_is : evict_segment fixed c.v c.u t c.s ≡ insert_all back rest
  unfolding evict_segment rest stays
  evict_is = ap (λ (bs : List Entry). insert_all bs (filter (λ e. not (mine e)) t)) back_is

  -- an entry that stays is a reservation that no cell replaces, or another cell's
  rest_out : (e : Entry) → e ∈ rest → Laid fixed (c ∷ cs) e × (e ≡ own → ⊥)
  unfolding rest stays
  rest_out e m =
      let k = filter_out stays t m in
      (it.out e k.1, λ q. T_not (mine e) k.0 (subst (λ (x : Entry). T (mine x)) (sym q) mine_own))

  rest_ordered : (b : Entry) → b ∈ back → OrderedTo b rest
  unfolding own entry_for
  rest_ordered b n e m = go (rest_out e m).0 (rest_out e m).1
    where
      k : (b ∈ fixed) × T (covered b)
      k = back_out b n

      a : (b.unit ≡ c.u) × Inside c.s b
      a = replaced→ c.u c.s b k.1

      far : (b ≡ e) ⊎ ((b.to ≤ e.from) ⊎ (e.to ≤ b.from)) → e ∈ fixed → (b ≡ e → ⊥) → (b.to < e.to) ⊎ (e.to < b.to)
      far (inl q) f w = absurd (w q)
      far (inr (inl h)) f w = inl (omega (arith, sd.nonempty e f))
      far (inr (inr h)) f w = inr (omega (arith, sd.nonempty b k.0))

      split : (d : Cell) → d ∈ c ∷ cs → e ≡ entry_for fixed d → (e ≡ own → ⊥) → (b.unit ≡ e.unit) → (b.to < e.to) ⊎ (e.to < b.to)
      split d (Memᴰ.head p) q w u = absurd (w (q ∙ ap (entry_for fixed) p))
      split d (Memᴰ.tail o) q w u = side (fr.alone d o (sym (ap (λ (x : Entry). x.unit) q) ∙ sym u ∙ a.0))
        where
          to_is : e.to ≡ d.s.to
          to_is = ap (λ (x : Entry). x.to) q

          side : Disjoint d.s c.s → (b.to < e.to) ⊎ (e.to < b.to)
          side (inl h) = inr (omega (arith, to_is, a.1.after, sd.nonempty b k.0))
          side (inr h) = inl (omega (arith, to_is, a.1.ahead, it.nonempty d (Memᴰ.tail o)))

      go : Laid fixed (c ∷ cs) e → (e ≡ own → ⊥) → Ordered b e
      go (reserved f w) x =
          ordered_by_ends b e
          (λ u. far (sd.apart b e k.0 f u) f (λ q. w c (Memᴰ.head refl) (subst (λ (z : Entry). T (covered z)) q k.1)))
      go (cell d o q) x = ordered_by_ends b e (λ u. split d o q x u)

  evict_out : (e : Entry) → e ∈ insert_all back rest → Laid fixed cs e
  unfolding own
  evict_out e m = go (insert_all_out back rest e m)
    where
      other : (d : Cell) → d ∈ c ∷ cs → e ≡ entry_for fixed d → (e ≡ own → ⊥) → Laid fixed cs e
      other d (Memᴰ.head p) q w = absurd (w (q ∙ ap (entry_for fixed) p))
      other d (Memᴰ.tail o) q w = cell d o q

      old : Laid fixed (c ∷ cs) e → (e ≡ own → ⊥) → Laid fixed cs e
      old (reserved f h) w = reserved f (λ d n. h d (Memᴰ.tail n))
      old (cell d o q) w = other d o q w

      go : (e ∈ back) ⊎ (e ∈ rest) → Laid fixed cs e
      go (inl n) = let k = back_out e n in reserved k.0 (only_here fixed cs c sd.nonempty fr e k.0 k.1)
      go (inr n) = old (rest_out e n).0 (rest_out e n).1

  rest_in : (e : Entry) → Laid fixed (c ∷ cs) e → (T (mine e) → ⊥) → e ∈ rest
  unfolding rest stays
  rest_in e l h = filter_in stays (not_T (mine e) h) (it.into e l)

  evict_in_lem : (e : Entry) → Laid fixed cs e → e ∈ insert_all back rest
  evict_in_lem e (reserved f h) = go (passes_or_not (covered e))
    where
      by_none : T (not (covered e)) → (d : Cell) → d ∈ c ∷ cs → T (replaced d.u d.s e) → ⊥
      by_none q d (Memᴰ.head p) r = T_not (covered e) q (subst (λ (x : Cell). T (replaced x.u x.s e)) p r)
      by_none q d (Memᴰ.tail n) r = h d n r

      go : T (covered e) ⊎ T (not (covered e)) → e ∈ insert_all back rest
      go (inl q) = insert_all_new back rest e (back_in e f q)
      go (inr q) = insert_all_old back rest e (rest_in e (reserved f (by_none q)) (λ m. sd.free e f c.v (mine→ e m).2))
  evict_in_lem e (cell d n q) = insert_all_old back rest e (rest_in e (cell d (Memᴰ.tail n) q) (not_other e d n q))

  rest_sorted : Sorted rest
  unfolding rest
  rest_sorted = sorted_filter stays t it.sorted

  back_nonempty : (e : Entry) → e ∈ back → e.from < e.to
  back_nonempty e m = sd.nonempty e (back_out e m).0

  -- evicting a cell takes it off
  pub evict_cell : IsTable fixed cs (evict_segment fixed c.v c.u t c.s)
  evict_cell =
      subst (λ (x : Table). IsTable fixed cs x) (sym evict_is)
      (record {
        sorted = insert_all_sorted back rest (chain_parted back back_nonempty back_chain) rest_ordered rest_sorted;
        out = evict_out;
        into = evict_in_lem;
        nonempty = λ d n. it.nonempty d (Memᴰ.tail n);
      })
