-- What a number's own part of a loaded job's slices is: its segments, its hints, a class's registers, whatever is lent behind. Assumes nothing.
use Prim.Native.Nat.{ℕ, zero, suc, ◌+◌, ◌-◌, ◌<◌}
use native.Mathlib.Omega.{arith}
use native.Mathlib.Numerals.{add-one}
use mathlib.Core.Path.{◌≡◌, refl, sym, ap, ◌∙◌}
use mathlib.Core.List.{List, [], ◌∷◌, ◌++◌, map, append_assoc}
use lib.Ieee.{Float}
use lib.ListN.{length, take, get_or, replicate, length-append, length-map}
use lib.Seq.{take_at, drop_at}
use borrow.Table.Elements.{map_app}
use Rattle.lent.specs.Parts.{part}
use Rattle.lent.proofs.Laws.{inside}
use Rattle.reg_matrix.specs.Lists.{concat_map, padded}
use Rattle.reg_matrix.specs.declared.ValueSegment.{ValueSegment}
use Rattle.job.specs.declared.Hint.{Hint}
use Rattle.job.specs.Model.{Job, VirtReg, no_virt_reg, virt_reg, segments_of, zero_weight}
use Rattle.job.specs.Layout.{starts_from, job_buffers}
use Rattle.job.proofs.Premises.{IsNumber}
use Rattle.job_parts.specs.Shares.{share_of}

-- the middle of three parts
middle : {C : Type 0} (ps os rest : List C) (a b : ℕ) → length ps ≡ a → a + length os ≡ b → part a b (ps ++ (os ++ rest)) ≡ os
middle ps os rest a b p q =
    inside a b (ps ++ (os ++ rest)) (omega arith) (omega (arith, length-append ps (os ++ rest), length-append os rest))
    ∙ ap (take (b - a)) (drop_at ps (os ++ rest) a p)
    ∙ take_at os rest (b - a) (omega arith)

-- the first starts where all do
starts_first : {A : Type 0} (size : A → ℕ) (at : ℕ) (xs : List A) (r : List ℕ) → get_or (starts_from size at xs ++ r) 0 0 ≡ at
unfolding starts_from
starts_first size at [] r = refl
starts_first size at (x ∷ xs) r = refl

module _ {A B C : Type 0} (f : A → List B) (g : B → C) (d : A) where
  abbrev starts : ℕ → List A → List ℕ
  starts at xs = starts_from (λ x. length (f x)) at xs

  -- ps is what stands before
  own_part : (xs : List A) (i at : ℕ) (ps u : List C) (r : List ℕ) → length ps ≡ at → i < length xs
      → part (get_or (starts at xs ++ r) i 0) (get_or (starts at xs ++ r) (suc i) 0) (ps ++ (map g (concat_map f xs) ++ u)) ≡ map g (f (get_or xs i d))
  unfolding starts_from concat_map
  own_part [] i at ps u r p h = absurd (omega arith)
  own_part (x ∷ xs) zero at ps u r p h =
      let k : map g (f x ++ concat_map f xs) ++ u ≡ map g (f x) ++ (map g (concat_map f xs) ++ u) = ap (λ (l : List C). l ++ u) (map_app g (f x) (concat_map f xs)) ∙ append_assoc (map g (f x)) (map g (concat_map f xs)) u in
      ap (λ (n : ℕ). part at n (ps ++ (map g (f x ++ concat_map f xs) ++ u))) (starts_first (λ (x : A). length (f x)) (at + length (f x)) xs r)
      ∙ ap (λ (l : List C). part at (at + length (f x)) (ps ++ l)) k
      ∙ middle ps (map g (f x)) (map g (concat_map f xs) ++ u) at (at + length (f x)) p (omega (arith, length-map (f x) g))
  own_part (x ∷ xs) (suc i) at ps u r p h =
      let k : ps ++ (map g (f x ++ concat_map f xs) ++ u) ≡ (ps ++ map g (f x)) ++ (map g (concat_map f xs) ++ u) =
      ap (λ (l : List C). ps ++ l) (ap (λ (l : List C). l ++ u) (map_app g (f x) (concat_map f xs)) ∙ append_assoc (map g (f x)) (map g (concat_map f xs)) u)
      ∙ sym (append_assoc ps (map g (f x)) (map g (concat_map f xs) ++ u)) in
      ap (part (get_or (starts (at + length (f x)) xs ++ r) i 0) (get_or (starts (at + length (f x)) xs ++ r) (suc i) 0)) k
      ∙ own_part xs i (at + length (f x)) (ps ++ map g (f x)) u r (omega (arith, p, length-append ps (map g (f x)), length-map (f x) g)) (omega arith)

  -- in slices as long as their limits or longer
  pub share_is : (n m : ℕ) (e : C) (xs : List A) (i : ℕ) (t : List ℕ) (u : List C) → i < length xs
      → share_of (padded n 0 (starts 0 xs) ++ t) i (padded m e (map g (concat_map f xs)) ++ u) ≡ map g (f (get_or xs i d))
  unfolding share_of padded
  share_is n m e xs i t u h =
      rw (add-one i, append_assoc (starts 0 xs) (replicate (n - length (starts 0 xs)) 0) t, append_assoc (map g (concat_map f xs)) (replicate (m - length (map g (concat_map f xs))) e) u)
      (own_part xs i 0 [] (replicate (m - length (map g (concat_map f xs))) e ++ u) (replicate (n - length (starts 0 xs)) 0 ++ t) refl h)

-- ---- of a job

module _ (j : Job) (v : ℕ) (h : IsNumber j v) (t : List ℕ) where
  pub froms_share : (u : List ℕ) → share_of ((job_buffers j).segment_starts ++ t) v ((job_buffers j).froms ++ u) ≡ map (λ (s : ValueSegment). s.from) (segments_of j v)
  unfolding job_buffers virt_reg
  froms_share u = share_is (λ (x : VirtReg). x.segments) (λ (s : ValueSegment). s.from) no_virt_reg 513 512 0 j.virt_regs v t u h

  pub tos_share : (u : List ℕ) → share_of ((job_buffers j).segment_starts ++ t) v ((job_buffers j).tos ++ u) ≡ map (λ (s : ValueSegment). s.to) (segments_of j v)
  unfolding job_buffers virt_reg
  tos_share u = share_is (λ (x : VirtReg). x.segments) (λ (s : ValueSegment). s.to) no_virt_reg 513 512 0 j.virt_regs v t u h

  pub values_share : (u : List ℕ) → share_of ((job_buffers j).segment_starts ++ t) v ((job_buffers j).values ++ u) ≡ map (λ (s : ValueSegment). s.value) (segments_of j v)
  unfolding job_buffers virt_reg
  values_share u = share_is (λ (x : VirtReg). x.segments) (λ (s : ValueSegment). s.value) no_virt_reg 513 512 0 j.virt_regs v t u h

  pub hint_regs_share : (u : List ℕ) → share_of ((job_buffers j).hint_starts ++ t) v ((job_buffers j).hint_regs ++ u) ≡ map (λ (h : Hint). h.reg) (virt_reg j v).hints
  unfolding job_buffers virt_reg
  hint_regs_share u = share_is (λ (x : VirtReg). x.hints) (λ (h : Hint). h.reg) no_virt_reg 513 1024 0 j.virt_regs v t u h

  pub hint_weights_share : (u : List Float) → share_of ((job_buffers j).hint_starts ++ t) v ((job_buffers j).hint_weights ++ u) ≡ map (λ (h : Hint). h.weight) (virt_reg j v).hints
  unfolding job_buffers virt_reg
  hint_weights_share u = share_is (λ (x : VirtReg). x.hints) (λ (h : Hint). h.weight) no_virt_reg 513 1024 zero_weight j.virt_regs v t u h

-- the registers of a class
pub class_share : (j : Job) (c : ℕ) → c < length j.classes → (t u : List ℕ) → share_of ((job_buffers j).class_starts ++ t) c ((job_buffers j).class_regs ++ u) ≡ get_or j.classes c []
unfolding job_buffers
class_share j c h t u =
    ap (λ (l : List ℕ). share_of (padded 17 0 (starts_from length 0 j.classes) ++ t) c (padded 1024 0 l ++ u)) (sym (map_same (concat_map (λ (c : List ℕ). c) j.classes)))
    ∙ share_is (λ (c : List ℕ). c) (λ (r : ℕ). r) [] 17 1024 0 j.classes c t u h
    ∙ map_same (get_or j.classes c [])
  where
    map_same : (l : List ℕ) → map (λ r. r) l ≡ l
    map_same [] = refl
    map_same (x ∷ l) = ap (λ (m : List ℕ). x ∷ m) (map_same l)
