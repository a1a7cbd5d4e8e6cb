-- The reports on one unit, entry by entry: what the check lists (Check.antt) is the same whether an entry that can bring nothing more is there
-- or not, so that one pass over segments and entries lists it. Assumes nothing.
use Prim.Native.Nat.{ℕ, suc, ◌<◌, ◌≤◌}
use mathlib.Core.Path.{◌≡◌, refl, sym, ap, ◌∙◌}
use mathlib.Core.Logic.{◌⊎◌, inl, inr}
use mathlib.Core.List.Memᴰ
use mathlib.Core.List.{List, [], ◌∷◌, ◌++◌, append_assoc}
use mathlib.Core.Bool.{Bool, true, false, not, ◌&&◌, ◌||◌, and-false}
use lib.Dec.{ltb}
use borrow.Author.Tests.{lt-ltb, le-ltb}
use Rattle.reg_matrix.specs.Lists.{keep, filter, any, concat_map}
use Rattle.reg_matrix.specs.Check.{overlaps, indexed, reports_of, counts, check_on}
use Rattle.reg_matrix.specs.declared.ValueSegment.{ValueSegment}
use Rattle.reg_matrix.specs.declared.Entry.{Entry}
use Rattle.reg_matrix.specs.declared.Interference.{Interference}
use Rattle.reg_matrix.proofs.Members.{◌∈◌}

-- ---- where ranges lie

pub ahead : (s : ValueSegment) (e : Entry) → e.to ≤ s.from → overlaps s e ≡ false
ahead s e h = ap (λ b. ltb e.from s.to && b) (le-ltb _ _ h) ∙ and-false (ltb e.from s.to)

pub behind : (s : ValueSegment) (e : Entry) → s.to ≤ e.from → overlaps s e ≡ false
behind s e h = ap (λ b. b && ltb s.from e.to) (le-ltb _ _ h)

pub meets : (s : ValueSegment) (e : Entry) → e.from < s.to → s.from < e.to → overlaps s e ≡ true
meets s e h k = ap (λ b. b && ltb s.from e.to) (lt-ltb _ _ h) ∙ lt-ltb _ _ k

-- ---- which segments count

module _ (full : Bool) (e : Entry) where
  -- once passed over, always passed over
  counts_no_more : (s : ValueSegment) (earlier : List ValueSegment) → counts full earlier e ≡ false → counts full (s ∷ earlier) e ≡ false
  unfolding any
  counts_no_more s earlier q = go full (indexed e.reservation) (overlaps s e) (any (λ d. overlaps d e) earlier) q
    where
      go : (f i o a : Bool) → (f || (i || not a)) ≡ false → (f || (i || not (o || a))) ≡ false
      go true i o a p = p
      go false true o a p = p
      go false false true a p = refl
      go false false false a p = p

  -- a segment that does not overlap changes nothing
  pub counts_same : (s : ValueSegment) (earlier : List ValueSegment) → overlaps s e ≡ false → counts full (s ∷ earlier) e ≡ counts full earlier e
  unfolding any
  counts_same s earlier q = ap (λ o. full || (indexed e.reservation || not (o || any (λ d. overlaps d e) earlier))) q

  -- an entry that stays counts always
  pub counts_stay : (earlier : List ValueSegment) → (full || indexed e.reservation) ≡ true → counts full earlier e ≡ true
  counts_stay earlier q = go full (indexed e.reservation) (not (any (λ d. overlaps d e) earlier)) q
    where
      go : (f i o : Bool) → (f || i) ≡ true → (f || (i || o)) ≡ true
      go true i o p = refl
      go false i o p = ap (λ b. b || o) p

  -- one that does not stay counts no more after a segment that it overlaps
  pub counts_once : (s : ValueSegment) (earlier : List ValueSegment) → (full || indexed e.reservation) ≡ false → overlaps s e ≡ true → counts full (s ∷ earlier) e ≡ false
  unfolding any
  counts_once s earlier q o = go full (indexed e.reservation) (overlaps s e) (any (λ d. overlaps d e) earlier) q o
    where
      go : (f i o a : Bool) → (f || i) ≡ false → o ≡ true → (f || (i || not (o || a))) ≡ false
      go true i o a p r = p
      go false i o a p r = ap (λ b. b || not (o || a)) p ∙ ap (λ b. not (b || a)) r

-- ---- one segment

module _ (full : Bool) (us : List Entry) where
  row : ℕ → ValueSegment → List ValueSegment → List Entry → List Interference
  row n s earlier es = concat_map (λ e. reports_of us n s e e.reservation) (filter (λ e. overlaps s e && counts full earlier e) es)

  row_out : (n : ℕ) (s : ValueSegment) (earlier : List ValueSegment) (e : Entry) (es : List Entry) → (overlaps s e && counts full earlier e) ≡ false → row n s earlier (e ∷ es) ≡ row n s earlier es
  unfolding row filter
  row_out n s earlier e es q =
      ap
      (λ b. concat_map (λ e. reports_of us n s e e.reservation) (keep b e (filter (λ e. overlaps s e && counts full earlier e) es)))
      q

  row_in : (n : ℕ) (s : ValueSegment) (earlier : List ValueSegment) (e : Entry) (es : List Entry) → (overlaps s e && counts full earlier e) ≡ true → row n s earlier (e ∷ es) ≡ reports_of us n s e e.reservation ++ row n s earlier es
  unfolding row filter concat_map
  row_in n s earlier e es q =
      ap
      (λ b. concat_map (λ e. reports_of us n s e e.reservation) (keep b e (filter (λ e. overlaps s e && counts full earlier e) es)))
      q

  row_none : (n : ℕ) (s : ValueSegment) (earlier : List ValueSegment) (es : List Entry) → ((e : Entry) → e ∈ es → overlaps s e ≡ false) → row n s earlier es ≡ []
  unfolding row filter concat_map
  row_none n s earlier [] h = refl
  row_none n s earlier (e ∷ es) h =
      row_out n s earlier e es (ap (λ b. b && counts full earlier e) (h e (Memᴰ.head refl))) ∙ row_none n s earlier es (λ x m. h x (Memᴰ.tail m))

  -- ---- all segments

  check_row : (es : List Entry) (n : ℕ) (earlier : List ValueSegment) (s : ValueSegment) (ss : List ValueSegment) → check_on full us es n earlier (s ∷ ss) ≡ row n s earlier es ++ check_on full us es (suc n) (s ∷ earlier) ss
  unfolding check_on row
  check_row es n earlier s ss = refl

  pub check_end : (es : List Entry) (n : ℕ) (earlier : List ValueSegment) → check_on full us es n earlier [] ≡ []
  unfolding check_on
  check_end es n earlier = refl

  pub check_empty : (n : ℕ) (earlier ss : List ValueSegment) → check_on full us [] n earlier ss ≡ []
  unfolding check_on filter concat_map
  check_empty n earlier [] = refl
  check_empty n earlier (s ∷ ss) = check_empty (suc n) (s ∷ earlier) ss

  -- an entry that overlaps no segment, or does not count, may go
  skip :
      (e : Entry) (es : List Entry) (n : ℕ) (earlier ss : List ValueSegment)
      → (((s : ValueSegment) → s ∈ ss → overlaps s e ≡ false) ⊎ (counts full earlier e ≡ false))
      → check_on full us (e ∷ es) n earlier ss ≡ check_on full us es n earlier ss
  skip e es n earlier [] h = check_end (e ∷ es) n earlier ∙ sym (check_end es n earlier)
  skip e es n earlier (s ∷ ss) h =
      check_row (e ∷ es) n earlier s ss
      ∙ (ap (λ l. l ++ check_on full us (e ∷ es) (suc n) (s ∷ earlier) ss) (row_out n s earlier e es (out h))
      ∙ (ap (λ l. row n s earlier es ++ l) (skip e es (suc n) (s ∷ earlier) ss (later h)) ∙ sym (check_row es n earlier s ss)))
    where
      out : ((r : ValueSegment) → r ∈ s ∷ ss → overlaps r e ≡ false) ⊎ (counts full earlier e ≡ false) → (overlaps s e && counts full earlier e) ≡ false
      out (inl f) = ap (λ b. b && counts full earlier e) (f s (Memᴰ.head refl))
      out (inr q) = ap (λ b. overlaps s e && b) q ∙ and-false (overlaps s e)

      later :
          ((r : ValueSegment) → r ∈ s ∷ ss → overlaps r e ≡ false) ⊎ (counts full earlier e ≡ false)
          → ((r : ValueSegment) → r ∈ ss → overlaps r e ≡ false) ⊎ (counts full (s ∷ earlier) e ≡ false)
      later (inl f) = inl (λ r m. f r (Memᴰ.tail m))
      later (inr q) = inr (counts_no_more full e s earlier q)

  -- ---- one pass

  -- the entry ends ahead of all segments
  pub pass_entry :
      (e : Entry) (es : List Entry) (n : ℕ) (earlier ss : List ValueSegment)
      → ((s : ValueSegment) → s ∈ ss → e.to ≤ s.from)
      → check_on full us (e ∷ es) n earlier ss ≡ check_on full us es n earlier ss
  pass_entry e es n earlier ss h = skip e es n earlier ss (inl (λ s m. ahead s e (h s m)))

  -- all entries start behind the segment
  pub pass_segment :
      (es : List Entry) (n : ℕ) (earlier : List ValueSegment) (s : ValueSegment) (ss : List ValueSegment)
      → ((e : Entry) → e ∈ es → s.to ≤ e.from)
      → check_on full us es n earlier (s ∷ ss) ≡ check_on full us es (suc n) (s ∷ earlier) ss
  pass_segment es n earlier s ss h =
      check_row es n earlier s ss ∙ ap (λ l. l ++ check_on full us es (suc n) (s ∷ earlier) ss) (row_none n s earlier es (λ e m. behind s e (h e m)))

  module _ (e : Entry) (es : List Entry) (n : ℕ) (earlier : List ValueSegment) (s : ValueSegment) (ss : List ValueSegment) (o : overlaps s e ≡ true) (c : counts full earlier e ≡ true) where
    in_row : (overlaps s e && counts full earlier e) ≡ true
    in_row = ap (λ b. b && counts full earlier e) o ∙ c

    -- the entry stays, and the later ones start behind the segment
    pub pass_stay :
        ((x : Entry) → x ∈ es → s.to ≤ x.from)
        → check_on full us (e ∷ es) n earlier (s ∷ ss) ≡ reports_of us n s e e.reservation ++ check_on full us (e ∷ es) (suc n) (s ∷ earlier) ss
    pass_stay h =
        check_row (e ∷ es) n earlier s ss
        ∙ (ap (λ l. l ++ check_on full us (e ∷ es) (suc n) (s ∷ earlier) ss) (row_in n s earlier e es in_row)
        ∙ (append_assoc (reports_of us n s e e.reservation) (row n s earlier es) (check_on full us (e ∷ es) (suc n) (s ∷ earlier) ss)
        ∙ ap (λ l. reports_of us n s e e.reservation ++ (l ++ check_on full us (e ∷ es) (suc n) (s ∷ earlier) ss)) (row_none n s earlier es (λ x m. behind s x (h x m)))))

    -- the entry is done with
    pub pass_on :
        ((r : ValueSegment) → r ∈ ss → e.to ≤ r.from) ⊎ (counts full (s ∷ earlier) e ≡ false)
        → check_on full us (e ∷ es) n earlier (s ∷ ss) ≡ reports_of us n s e e.reservation ++ check_on full us es n earlier (s ∷ ss)
    pass_on h =
        check_row (e ∷ es) n earlier s ss
        ∙ (ap (λ l. l ++ check_on full us (e ∷ es) (suc n) (s ∷ earlier) ss) (row_in n s earlier e es in_row)
        ∙ (append_assoc (reports_of us n s e e.reservation) (row n s earlier es) (check_on full us (e ∷ es) (suc n) (s ∷ earlier) ss)
        ∙ (ap (λ l. reports_of us n s e e.reservation ++ (row n s earlier es ++ l)) (skip e es (suc n) (s ∷ earlier) ss (gone h))
        ∙ ap (λ l. reports_of us n s e e.reservation ++ l) (sym (check_row es n earlier s ss)))))
      where
        gone :
            ((r : ValueSegment) → r ∈ ss → e.to ≤ r.from) ⊎ (counts full (s ∷ earlier) e ≡ false)
            → ((r : ValueSegment) → r ∈ ss → overlaps r e ≡ false) ⊎ (counts full (s ∷ earlier) e ≡ false)
        gone (inl f) = inl (λ r m. ahead r e (f r m))
        gone (inr q) = inr q
