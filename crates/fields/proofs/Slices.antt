-- The slices of a job as its virtual registers are stored: one more of each list that stands there. Assumes nothing.
use Prim.Native.Nat.{ℕ, ◌+◌, ◌≤◌, ◌<◌}
use native.Mathlib.Omega.{arith}
use mathlib.Core.Path.{◌≡◌, ap, sym, ◌∙◌}
use mathlib.Core.List.{List, [], ◌∷◌, ◌++◌, map, map-append}
use lib.Ieee.{Float}
use lib.ListN.{length, set, length-map}
use lib.Seq.{sets, length-sets}
use Rattle.lent.proofs.Laws.{sets_append, set_sets, sets_sets}
use Rattle.reg_matrix.specs.declared.ValueSegment.{ValueSegment}
use Rattle.reader.specs.Read.{Stored}
use Rattle.fields.specs.Virt.{in32, in16, in8, in_weights, SegmentsAt}

module _ {A : Type 0} where
  -- more of the last list of a slice
  last_more : (l : List A) (a : ℕ) (xs : List A) {k : ℕ} (zs : List A) → a + length xs ≡ k → sets (sets l a xs) k zs ≡ sets l a (xs ++ zs)
  last_more l a xs zs e = rw (← e) (sym (sets_append l a xs zs))

  -- and of one that stands before another
  first_more : (l : List A) (a : ℕ) (xs : List A) (m : ℕ) (ys : List A) {k : ℕ} (zs : List A) → a + length xs ≡ k → k + length zs ≤ m → sets (sets (sets l a xs) m ys) k zs ≡ sets (sets l a (xs ++ zs)) m ys
  first_more l a xs m ys {k} zs e h = sets_sets (sets l a xs) k zs m ys h ∙ ap (λ (z : List A). sets z m ys) (last_more l a xs zs e)

-- ---- the segments of one virtual register

module _ {g : ℕ} {w h w' h' : List ℕ} {ss : List ValueSegment} (v : SegmentsAt g w h w' h' ss) where
  pub points_length : length w' ≡ length w
  points_length = rw v.points (length-sets (sets w g (map (λ (x : ValueSegment). x.from) ss)) (512 + g) (map (λ (x : ValueSegment). x.to) ss) ∙ length-sets w g (map (λ (x : ValueSegment). x.from) ss))

  pub more_segments :
      (x : ValueSegment) {i count : ℕ} {w₁ w₂ h₁ : List ℕ}
      → length ss ≡ i
      → i < count
      → g + count ≤ 512
      → w₁ ≡ set w' (g + i) x.from
      → w₂ ≡ set w₁ (512 + g + i) x.to
      → Stored (λ (x : ValueSegment). x.value) h (529 + g) (ss ++ (x ∷ [])) h₁
      → SegmentsAt g w h w₂ h₁ (ss ++ (x ∷ []))
  more_segments x {i} n lt few e q st =
      let fs : List ℕ = map (λ (x : ValueSegment). x.from) ss in
      let ts : List ℕ = map (λ (x : ValueSegment). x.to) ss in
      let lf : length fs ≡ i = simp length-map n in
      let lt' : length ts ≡ i = simp length-map n in
      record {
        points =
            q
            ∙ ap (λ (y : List ℕ). set y (512 + g + i) x.to) (e ∙ ap (λ (y : List ℕ). set y (g + i) x.from) v.points ∙ first_more w g fs (512 + g) ts (x.from ∷ []) (omega arith) (omega arith))
            ∙ last_more (sets w g (fs ++ (x.from ∷ []))) (512 + g) ts (x.to ∷ []) (omega arith)
            ∙ rw (map-append (λ (x : ValueSegment). x.from) ss (x ∷ []), map-append (λ (x : ValueSegment). x.to) ss (x ∷ []));
        values = st;
      }

-- ---- all of them

module _ (w froms tos sizes : List ℕ) where
  -- the points of more segments, and one more size
  pub more_32 :
      {g i : ℕ} (fs ts : List ℕ) (z : ℕ) {w₁ w₂ : List ℕ}
      → length froms ≡ g
      → length tos ≡ g
      → length sizes ≡ i
      → g + length fs ≤ 512
      → g + length ts ≤ 512
      → w₁ ≡ sets (sets (in32 w froms tos sizes) g fs) (512 + g) ts
      → w₂ ≡ set w₁ (1024 + i) z
      → w₂ ≡ in32 w (froms ++ fs) (tos ++ ts) (sizes ++ (z ∷ []))
  unfolding in32
  more_32 {g} {i} fs ts z a b c m n e q =
      let l : List ℕ = sets (sets w 0 froms) 512 tos in
      q
      ∙ ap (λ (y : List ℕ). set y (1024 + i) z) (e ∙ ap (λ (y : List ℕ). sets y (512 + g) ts) (sets_sets l g fs 1024 sizes (omega arith) ∙ ap (λ (y : List ℕ). sets y 1024 sizes) (first_more w 0 froms 512 tos fs (omega arith) m)) ∙ first_more (sets w 0 (froms ++ fs)) 512 tos 1024 sizes ts (omega arith) (omega arith))
      ∙ last_more (sets (sets w 0 (froms ++ fs)) 512 (tos ++ ts)) 1024 sizes (z ∷ []) (omega arith)

module _ (h groups values hints segments : List ℕ) where
  -- the values of more segments, one more set, and where its hints and segments end
  pub more_16 :
      {g i : ℕ} (vs : List ℕ) (x y z : ℕ) {h₁ h₂ h₃ h₄ : List ℕ}
      → length values ≡ g
      → length groups ≡ i
      → length hints ≡ i
      → length segments ≡ i
      → g + length vs ≤ 512
      → i < 512
      → h₁ ≡ sets (in16 h groups values hints segments) (529 + g) vs
      → h₂ ≡ set h₁ (17 + i) x
      → h₃ ≡ set h₂ (1042 + i) y
      → h₄ ≡ set h₃ (1555 + i) z
      → h₄ ≡ in16 h (groups ++ (x ∷ [])) (values ++ vs) (hints ++ (y ∷ [])) (segments ++ (z ∷ []))
  unfolding in16
  more_16 {g} {i} vs x y z a b c d m n e₁ e₂ e₃ e₄ = e₄ ∙ ap (λ (q : List ℕ). set q (1555 + i) z) (e₃ ∙ ap (λ (q : List ℕ). set q (1042 + i) y) (e₂ ∙ ap (λ (q : List ℕ). set q (17 + i) x) (e₁ ∙ first) ∙ second) ∙ third) ∙ last_more G₃ 1555 segments (z ∷ []) (omega arith)
    where
      G : List ℕ
      G = sets h 17 groups

      G₁ : List ℕ
      G₁ = sets G 529 (values ++ vs)

      G₂ : List ℕ
      G₂ = sets (sets h 17 (groups ++ (x ∷ []))) 529 (values ++ vs)

      G₃ : List ℕ
      G₃ = sets G₂ 1042 (hints ++ (y ∷ []))

      first : sets (sets (sets (sets G 529 values) 1042 hints) 1555 segments) (529 + g) vs ≡ sets (sets G₁ 1042 hints) 1555 segments
      first = sets_sets (sets (sets G 529 values) 1042 hints) (529 + g) vs 1555 segments (omega arith) ∙ ap (λ (q : List ℕ). sets q 1555 segments) (first_more G 529 values 1042 hints vs (omega arith) (omega arith))

      second : set (sets (sets G₁ 1042 hints) 1555 segments) (17 + i) x ≡ sets (sets G₂ 1042 hints) 1555 segments
      second =
          set_sets (sets G₁ 1042 hints) (17 + i) x 1555 segments (omega arith)
          ∙ ap (λ (q : List ℕ). sets q 1555 segments) (set_sets G₁ (17 + i) x 1042 hints (omega arith) ∙ ap (λ (q : List ℕ). sets q 1042 hints) (first_more h 17 groups 529 (values ++ vs) (x ∷ []) (omega arith) (omega arith)))

      third : set (sets (sets G₂ 1042 hints) 1555 segments) (1042 + i) y ≡ sets G₃ 1555 segments
      third = first_more G₂ 1042 hints 1555 segments (y ∷ []) (omega arith) (omega arith)

module _ (b classes regs : List ℕ) where
  -- the registers of more hints, and one more class
  pub more_8 :
      {h i : ℕ} (rs : List ℕ) (c : ℕ) {b₁ b₂ : List ℕ}
      → length regs ≡ h
      → length classes ≡ i
      → i < 512
      → b₁ ≡ sets (in8 b classes regs) (1536 + h) rs
      → b₂ ≡ set b₁ (1024 + i) c
      → b₂ ≡ in8 b (classes ++ (c ∷ [])) (regs ++ rs)
  unfolding in8
  more_8 {i} rs c a d n e q =
      q
      ∙ ap (λ (y : List ℕ). set y (1024 + i) c) (e ∙ last_more (sets b 1024 classes) 1536 regs rs (omega arith))
      ∙ first_more b 1024 classes 1536 (regs ++ rs) (c ∷ []) (omega arith) (omega arith)

module _ (f spills weights : List Float) where
  -- the weights of more hints, and one more spill weight
  pub more_weights :
      {h i : ℕ} (ws : List Float) (s : Float) {f₁ f₂ : List Float}
      → length weights ≡ h
      → length spills ≡ i
      → i < 512
      → f₁ ≡ sets (in_weights f spills weights) (512 + h) ws
      → f₂ ≡ set f₁ i s
      → f₂ ≡ in_weights f (spills ++ (s ∷ [])) (weights ++ ws)
  unfolding in_weights
  more_weights {i} ws s a d n e q =
      q
      ∙ ap (λ (y : List Float). set y i s) (e ∙ last_more (sets f 0 spills) 512 weights ws (omega arith))
      ∙ first_more f 0 spills 512 (weights ++ ws) (s ∷ []) (omega arith) (omega arith)
