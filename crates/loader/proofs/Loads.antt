-- Loading's answer, test by test, and what it leaves. Assumes nothing.
use Prim.Native.Nat.{ℕ, ◌+◌, ◌-◌, ◌≤◌, ◌<◌}
use native.Mathlib.Omega.{arith}
use mathlib.Core.Path.{◌≡◌, refl, ap, sym, subst, ◌∙◌}
use mathlib.Core.List.{List, ◌++◌, append-nil}
use mathlib.Core.Bool.{Bool, true, false, not}
use lib.ListN.{length, take, drop, length-drop, drop_of_length-le}
use lib.Seq.{drop-drop, length-sets}
use borrow.Rule.Slice.PartMut.{mid_of, put_mid}
use Rattle.lent.specs.Parts.{filled}
use Rattle.lent.proofs.Laws.{all_from}
use borrow.Author.Tests.{lt-ltb, le-ltb}
use Rattle.std.specs.Prelude.{Ok, Err}
use Rattle.reg_matrix.specs.Lists.{is_nil}
use Rattle.reg_matrix.specs.Refused.{number_of}
use Rattle.reg_matrix.specs.declared.Refusal.{Refusal}
use Rattle.reg_matrix.specs.declared.Refusal.TheVariants.{OverLimit, ShortBuffer}
use Rattle.reg_matrix.specs.Refusals.{short_buffer}
use Rattle.reg_matrix.specs.Layout.{max_entries, max_fixed}
use Rattle.job.specs.declared.JobHeader.{JobHeader}
use Rattle.job.specs.Model.{Job}
use Rattle.job.specs.Parser.{Parsed, refused, parsed, and_then, ◌>>◌, done, refuse}
use Rattle.job.specs.Load.{Bytes, job_fields, twin, mixed_set, cut_use, whole_job, as_loaded, not_loaded, loaded, load_with}
use Rattle.job.specs.Layout.{JobSlices, load_limits, header_of}
use Rattle.job.proofs.Loads.{loads_premises}
use Rattle.entries.specs.Reserving.{Lain, lain, cleared}
use Rattle.placing.proofs.Loaded.{In}
use Rattle.whole_fields.specs.declared.TableSizes.{TableSizes}
use Rattle.reader.specs.Read.{FixedAt}
use Rattle.whole_fields.specs.Whole.{SizesOf}
use Rattle.job_stores.specs.Storing.{Stores, reserving_all}
use Rattle.loader.specs.Loading.{Lent, lent, sizes_of, Sized, tested_job, later, LoadDone}
use Rattle.loader.proofs.Reserves.{reserved_job}
use Rattle.loader.proofs.Laying.{room, front_kept, all_later}

-- ---- what passed the tests was read

module _ (j : Job) (t : List ℕ) where
  passed : (k : Job) (u : List ℕ) (a b c d : Bool) → (refuse 2 a >> (refuse 10 b >> (refuse 11 c >> (refuse 12 d >> done k)))) u ≡ parsed j t → parsed k u ≡ parsed j t
  passed k u true b c d e = absurd (let z : ◌≡◌ {A = ℕ} 0 1 = cc in omega arith)
  passed k u false true c d e = absurd (let z : ◌≡◌ {A = ℕ} 0 1 = cc in omega arith)
  passed k u false false true d e = absurd (let z : ◌≡◌ {A = ℕ} 0 1 = cc in omega arith)
  passed k u false false false true e = absurd (let z : ◌≡◌ {A = ℕ} 0 1 = cc in omega arith)
  passed k u false false false false e = e

  was_read : (p : Parsed Job) → and_then p (λ k u. (refuse 2 (not (is_nil u)) >> (refuse 10 (twin k) >> (refuse 11 (mixed_set k) >> (refuse 12 (cut_use k) >> done k)))) u) ≡ parsed j t → p ≡ parsed j t
  was_read (refused n) e = absurd (let z : ◌≡◌ {A = ℕ} 0 1 = cc in omega arith)
  was_read (parsed k u) e = passed k u (not (is_nil u)) (twin k) (mixed_set k) (cut_use k) e

  fields_read : (s : List ℕ) → tested_job s ≡ parsed j t → job_fields s ≡ parsed j t
  unfolding tested_job
  fields_read s e = was_read (job_fields s) e

-- ---- loading's answer

module _ (s : List ℕ) (b : Lent) where
  refused_done : {e : Refusal} → load_with load_limits (sizes_of b) s ≡ not_loaded (number_of e) → LoadDone s b b (Err e)
  refused_done e = record { parts = rw e (refl, refl) }

  loaded_done : (b' : Lent) (j : Job) {h : JobHeader} → load_with load_limits (sizes_of b) s ≡ loaded j → h ≡ header_of j → b' ≡ later j b → LoadDone s b b' (Ok h)
  loaded_done b' j e d q = record { parts = rw e (ap Ok d, q) }

-- the rest of a slice, put back
rest_put : (xs ys : List ℕ) → put_mid 64 (length xs - 64) xs ys ≡ take 64 xs ++ ys
rest_put xs ys =
    ap (λ (l : List ℕ). take 64 xs ++ (ys ++ l)) (drop-drop (length xs - 64) 64 xs ∙ drop_of_length-le xs {i = 64 + (length xs - 64)} (omega arith))
    ∙ ap (λ (l : List ℕ). take 64 xs ++ l) (append-nil ys)

module _ (s : List ℕ) (b : Lent) {r : Bool} (q : r ≡ short_buffer load_limits (sizes_of b)) where
  pub short_done : r ≡ true → LoadDone s b b (Err ShortBuffer)
  unfolding load_with whole_job
  short_done e = refused_done s b (rw (sym q ∙ e))

  pub long_done : r ≡ false → 32_768 < length s → LoadDone s b b (Err OverLimit)
  unfolding load_with whole_job
  long_done e h = refused_done s b (rw (sym q ∙ e, lt-ltb 32_768 (length s) h))

module _ (s : List ℕ) (b : Lent) (sized : Sized s b) where
  -- there is room for the registers' maps
  pub has_uses : 64 ≤ length b.job.j64
  has_uses = omega (arith, (room b sized.sizes).j64)

  tested_loads : load_with load_limits (sizes_of b) s ≡ as_loaded (tested_job s)
  unfolding load_with whole_job tested_job
  tested_loads = rw (sized.sizes, le-ltb 32_768 (length s) sized.bytes)

  pub tests_done : {e : Refusal} → tested_job s ≡ refused (number_of e) → LoadDone s b b (Err e)
  tests_done f = refused_done s b (tested_loads ∙ ap as_loaded f)

  -- and still where the job is stored
  pub still_uses : (B : JobSlices) (j : Job) (t : List ℕ) → tested_job s ≡ parsed j t → Stores s b.job B → 64 ≤ length B.j64
  unfolding filled
  still_uses B j t e st = rw (st.stored j t (fields_read j t s e)).regs (simp length-sets has_uses)

  kept_job :
      (B : JobSlices) (W ends rests : List ℕ) (j : Job) (t : List ℕ) {h : JobHeader} (z : TableSizes) {n f g u n' f' g' u' : List ℕ}
      → Bytes s
      → tested_job s ≡ parsed j t
      → h ≡ header_of j
      → SizesOf z j
      → FixedAt n f g u n' f' g' u' j.fixed
      → (512 ≤ length n) × (512 ≤ length f) × (512 ≤ length g) × (512 ≤ length u)
      → Stores s b.job B
      → lain ends rests W ≡ reserving_all n' f' g' u' z.fixed (cleared (lain b.ends b.rests (drop 64 B.j64)))
      → LoadDone s b (lent (record { j64 = take 64 B.j64 ++ W; j32 = B.j32; j16 = B.j16; j8 = B.j8; jf = B.jf }) ends rests) (Ok h)
  kept_job B W ends rests j t z bytes e d y fx roomy st re =
      let a : load_with load_limits (sizes_of b) s ≡ loaded j = tested_loads ∙ ap as_loaded e in
      let p = loads_premises load_limits (sizes_of b) s j bytes a in
      let m = room b sized.sizes in
      let k = st.stored j t (fields_read j t s e) in
      let w = front_kept j p b m y.few_class_regs k in
      let v : max_fixed ≤ length (drop 64 B.j64) = rw w.1 (simp length-drop (omega (arith, m.j64))) in
      loaded_done s b _ j a d
      (all_later j p b m y.few_class_regs k W ends rests
      (subst (λ (l : Lain). In j.fixed (drop max_entries b.ends) (drop max_entries b.rests) (drop max_fixed (drop 64 B.j64)) l) (sym re)
      (reserved_job j p fx roomy (lain b.ends b.rests (drop 64 B.j64)) y.fixed m.ends m.rests v)))

  -- the fixed uses were lent the rest of the first slice
  pub job_done :
      (B : JobSlices) (W ends rests : List ℕ) (j : Job) (t : List ℕ) {h : JobHeader} (z : TableSizes) {n f g u n' f' g' u' : List ℕ}
      → Bytes s
      → tested_job s ≡ parsed j t
      → h ≡ header_of j
      → SizesOf z j
      → FixedAt n f g u n' f' g' u' j.fixed
      → (512 ≤ length n) × (512 ≤ length f) × (512 ≤ length g) × (512 ≤ length u)
      → Stores s b.job B
      → lain ends rests W ≡ reserving_all n' f' g' u' z.fixed (cleared (lain b.ends b.rests (mid_of 64 (length B.j64 - 64) B.j64)))
      → LoadDone s b (lent (record { j64 = put_mid 64 (length B.j64 - 64) B.j64 W; j32 = B.j32; j16 = B.j16; j8 = B.j8; jf = B.jf }) ends rests) (Ok h)
  job_done B W ends rests j t {h} z {n} {f} {g} {u} {n'} {f'} {g'} {u'} bytes e d y fx roomy st re =
      let w = rest_put B.j64 W in
      subst (λ (v : List ℕ). LoadDone s b (lent (record { j64 = v; j32 = B.j32; j16 = B.j16; j8 = B.j8; jf = B.jf }) ends rests) (Ok h)) (sym w)
      (kept_job B W ends rests j t z bytes e d y fx roomy st (re ∙ ap (λ (v : List ℕ). reserving_all n' f' g' u' z.fixed (cleared (lain b.ends b.rests v))) (all_from 64 B.j64)))
