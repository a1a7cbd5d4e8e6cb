-- Loading a stage whose header and records stand in lent words. Assumes nothing.
use Prim.Native.Nat.{ℕ}
use mathlib.Core.Path.{◌≡◌, refl, sym, ap, ◌∙◌}
use mathlib.Core.List.{List, map}
use mathlib.Core.Bool.{true, false}
use lib.Seq.{sets}
use Rattle.job.specs.Load.{Loaded, not_loaded, loaded}
use Rattle.job.specs.Layout.{JobSlices, header_of}
use Rattle.allocator.specs.Layout.{StateBuffers}
use Rattle.allocator.specs.Calls.{load}
use Rattle.job.specs.declared.JobHeader.{JobHeader}
use Rattle.allocator.specs.declared.Assignment.{Assignment}
use Rattle.std.specs.Prelude.{Result, Ok, Err}
use Rattle.reg_matrix.specs.declared.Refusal.{Refusal}
use Rattle.reg_matrix.specs.Refused.{number_of, numbered}
use Rattle.calls.specs.Calling.{sizes_of}
use Rattle.stage_loader.specs.StageLoading.{StageLoadParts, StageLoadDone}
use Rattle.records.specs.Fields.{first_records}
use Rattle.record_words.specs.Words.{record_word}
use Rattle.words.specs.Words.{words_short, header_words}
use Rattle.pezhkadu.specs.Loading.{LoadParts, LoadCalled}

module _ (bytes head ws : List ℕ) (B : JobSlices) (S : StateBuffers) where
  pub load_short : words_short head ws ≡ true → LoadCalled bytes head ws B S head ws B S 15
  load_short e = record { parts = rw e (refl, refl, refl, refl, refl) }

  module _ (long : words_short head ws ≡ false) (B' : JobSlices) (S' : StateBuffers) (r : Result JobHeader Refusal) (d : StageLoadDone bytes B S B' S' r) where
    pub load_refused : (n : Refusal) → r ≡ Err n → LoadCalled bytes head ws B S head ws B' S' (number_of n)
    load_refused n e = record { parts = rw long (go (load (sizes_of B S) bytes) d.parts) }
      where
        go : (o : Loaded) → StageLoadParts B S B' S' r o → LoadParts head ws B S head ws B' S' (number_of n) o
        go (not_loaded m) p =
            let q : ◌≡◌ {A = Result JobHeader ℕ} (Err (number_of n)) (Err m) = sym (ap numbered e) ∙ p.0 in
            let same : number_of n ≡ m = cc in
            (same, refl, refl, p.1, p.2)
        go (loaded j) p = let q : ◌≡◌ {A = Result JobHeader Refusal} (Err n) (Ok (header_of j)) = sym e ∙ p.0 in absurd (cc)

    -- the header and the records as they start out stand in the words
    pub load_stored :
        (h : JobHeader) (rs : List Assignment) (head' ws' : List ℕ)
        → r ≡ Ok h
        → head' ≡ sets head 0 (header_words h)
        → rs ≡ first_records
        → ws' ≡ sets ws 0 (map record_word rs)
        → LoadCalled bytes head ws B S head' ws' B' S' 0
    load_stored h rs head' ws' e eh er ew = record { parts = rw long (go (load (sizes_of B S) bytes) d.parts) }
      where
        go : (o : Loaded) → StageLoadParts B S B' S' r o → LoadParts head ws B S head' ws' B' S' 0 o
        go (not_loaded m) p = let q = p.0 in absurd (cc)
        go (loaded j) p =
            let q = p.0 in
            let same : h ≡ header_of j = cc in (
              refl,
              eh ∙ ap (λ (x : JobHeader). sets head 0 (header_words x)) same,
              ew ∙ ap (λ (x : List Assignment). sets ws 0 (map record_word x)) er,
              p.1,
              p.2,
            )
