-- What a step of the check reads of a table that is laid out, and what it then does. Assumes nothing.
use Prim.Native.Nat.{ℕ, ◌-◌, ◌<◌, ◌≤◌}
use native.Mathlib.Omega.{arith}
use mathlib.Core.Path.{◌≡◌, sym, ap, ◌∙◌}
use mathlib.Core.List.{List, [], ◌∷◌, ◌++◌, map}
use mathlib.Core.Bool.{cond}
use lib.Dec.{leb, eqb}
use lib.ListN.{length, take, drop, get_or, replicate, length-map}
use lib.Seq.{get_or-take}
use lib.Count.{count_trailing_zeros}
use borrow.Author.Tests.{le-leb, lt-leb, eq-eqb, ne_eqb}
use Rattle.reg_matrix.specs.Lists.{padded}
use Rattle.reg_matrix.specs.Table.{Table, fixed_uses, on_unit}
use Rattle.reg_matrix.specs.Layout.{max_entries, max_fixed, greatest, end_word, rest_word, use_word, end_words, rest_words, use_words, entry_of}
use Rattle.table_words.specs.Segments.{segment_at}
use Rattle.matrix.specs.Walk.{Lent, entry_at, entry_step, use_step, meeting_step, leave_unit, unit_step, step_of}
use Rattle.reg_matrix.specs.declared.ValueSegment.{ValueSegment}
use Rattle.reg_matrix.specs.declared.Entry.{Entry}
use Rattle.std.specs.Prelude.{Some, None}
use Rattle.reg_matrix.specs.declared.Reservation.TheVariants.{Held}
use Rattle.matrix.specs.declared.Cursor.{Cursor}
use Rattle.matrix.specs.declared.Move.TheVariants.{Ends}
use Rattle.reg_matrix.proofs.Members.{◌∈◌}
use Rattle.reg_matrix.proofs.Sorted.{Sorted}
use Rattle.reg_matrix.proofs.Chains.{Chain}
use Rattle.matrix.proofs.Walks.{cond_by}
use Rattle.placing.proofs.Lying.{all_uses}
use Rattle.table_words.proofs.Decode.{Small, SmallUse, entry_back, drop_inside, drop_past, word_at, word_past}

-- what is lent holds the table and the fixed uses
pub record Holds (fixed : List Entry) (t : Table) (W : Lent) : Type 0 where
  pub ends : take max_entries W.ends ≡ end_words t
  pub rests : take max_entries W.rests ≡ rest_words t
  pub uses : take max_fixed W.uses ≡ use_words fixed

-- a table whose entries are sorted, apart on each unit and fit their fields, with fixed uses that do
pub record Walkable (fixed : List Entry) (t : Table) : Type 0 where
  pub sorted : Sorted t
  pub room : length t ≤ max_entries
  pub small : (e : Entry) → e ∈ t → Small e
  pub nonempty : (e : Entry) → e ∈ t → e.from < e.to
  pub chain : (u : ℕ) → Chain (on_unit u t)
  pub index : (e : Entry) → e ∈ t → (v i : ℕ) → e.reservation ≡ Held v (Some i) → i ≤ length (fixed_uses fixed e.unit)
  pub few_uses : length (all_uses fixed) ≤ max_fixed
  pub small_uses : (u : ℕ) (f : Entry) → f ∈ fixed_uses fixed u → SmallUse f
  pub use_chain : (u : ℕ) → Chain (fixed_uses fixed u)

-- ---- what is read

module _ (fixed : List Entry) (t : Table) (W : Lent) (L : Holds fixed t W) (P : Walkable fixed t) where
  end_read : (i : ℕ) → i < max_entries → get_or W.ends i 0 ≡ get_or (map end_word t ++ replicate (max_entries - length (map end_word t)) greatest) i 0
  unfolding end_words padded
  end_read i h = sym (get_or-take max_entries W.ends i 0 h) ∙ ap (λ l. get_or l i 0) L.ends

  rest_read : (i : ℕ) → i < max_entries → get_or W.rests i 0 ≡ get_or (map rest_word t ++ replicate (max_entries - length (map rest_word t)) 0) i 0
  unfolding rest_words padded
  rest_read i h = sym (get_or-take max_entries W.rests i 0 h) ∙ ap (λ l. get_or l i 0) L.rests

  use_read : (i : ℕ) → i < max_fixed → get_or W.uses i 0 ≡ get_or (map use_word (all_uses fixed) ++ replicate (max_fixed - length (map use_word (all_uses fixed))) greatest) i 0
  unfolding use_words padded
  use_read i h = sym (get_or-take max_fixed W.uses i 0 h) ∙ ap (λ l. get_or l i 0) L.uses

  -- an entry of the table
  pub entry_here : (i : ℕ) (x : Entry) (xs : List Entry) → drop i t ≡ x ∷ xs → x ∈ t → entry_at W i ≡ x
  entry_here i x xs q m =
      let h : i < max_entries = omega (arith, drop_inside i t x xs q, P.room) in
      rw (end_read i h ∙ word_at end_word _ i t x xs q, rest_read i h ∙ word_at rest_word _ i t x xs q) (entry_back x (P.small x m))

  -- past the last entry: a unit that is none
  pub entry_past : (i : ℕ) → drop i t ≡ [] → i < max_entries → (entry_at W i).unit ≡ 255
  unfolding entry_of
  entry_past i q h =
      let g : get_or W.ends i 0 ≡ greatest = end_read i h ∙ rw (length-map t end_word) (word_past end_word greatest (max_entries - length t) i t (drop_past i t q) (omega (arith, drop_past i t q))) in
      rw g (omega arith)

  pub use_here : (i : ℕ) (f : Entry) (fs : List Entry) → drop i (all_uses fixed) ≡ f ∷ fs → get_or W.uses i 0 ≡ use_word f
  use_here i f fs q =
      let h : i < max_fixed = omega (arith, drop_inside i (all_uses fixed) f fs q, P.few_uses) in
      use_read i h ∙ word_at use_word _ i (all_uses fixed) f fs q

  pub use_past : (i : ℕ) → drop i (all_uses fixed) ≡ [] → i < max_fixed → get_or W.uses i 0 ≡ greatest
  use_past i q h =
      use_read i h
      ∙ rw (length-map (all_uses fixed) use_word) (word_past use_word greatest (max_fixed - length (all_uses fixed)) i (all_uses fixed) (drop_past i (all_uses fixed) q) (omega (arith, drop_past i (all_uses fixed) q)))

-- ---- one step, where it is known what is read

module _ (W : Lent) (c : Cursor) (z : c.units ≡ 0 → ⊥) where
  pub step_no_segment : length W.froms ≤ c.segment → step_of W c ≡ leave_unit W.ends W.froms c
  unfolding step_of
  step_no_segment h = rw (ne_eqb _ _ z, le-leb _ _ h)

  pub step_no_entry : max_entries ≤ c.entry → step_of W c ≡ leave_unit W.ends W.froms c
  unfolding step_of
  step_no_entry h =
      cond_by (λ m. cond (eqb c.units 0) Ends m ≡ leave_unit W.ends W.froms c) (leb (length W.froms) c.segment) _ _ (λ q. rw (ne_eqb _ _ z))
      (λ q. rw (ne_eqb _ _ z, le-leb _ _ h))

  module _ (a : c.segment < length W.froms) (b : c.entry < max_entries) (x : Entry) (q : entry_at W c.entry ≡ x) where
    here : ValueSegment
    here = segment_at W.froms W.tos W.values c.segment

    step_unit : step_of W c ≡ unit_step W c x here
    unfolding step_of here
    step_unit = rw (ne_eqb _ _ z, lt-leb _ _ a, lt-leb _ _ b, q)

    pub step_other : (x.unit ≡ count_trailing_zeros 64 c.units → ⊥) → step_of W c ≡ leave_unit W.ends W.froms c
    unfolding unit_step
    step_other h = step_unit ∙ rw (ne_eqb _ _ h)

    pub step_entry : x.unit ≡ count_trailing_zeros 64 c.units → c.inner ≡ None → step_of W c ≡ entry_step W.uses c x (segment_at W.froms W.tos W.values c.segment)
    unfolding unit_step meeting_step here
    step_entry h i = step_unit ∙ rw (eq-eqb _ _ h, i)

    pub step_use : x.unit ≡ count_trailing_zeros 64 c.units → (p : ℕ) → c.inner ≡ Some p → step_of W c ≡ use_step W.uses c p x (segment_at W.froms W.tos W.values c.segment)
    unfolding unit_step meeting_step here
    step_use h p i = step_unit ∙ rw (eq-eqb _ _ h, i)
