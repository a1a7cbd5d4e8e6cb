-- Storing a job, in the shape of the code: its lists over zeros, and its fixed reservations one after another. Assumes nothing.
use Rattle.std.specs.Prelude.{ℕ, ◌≡◌, List, get_or}
use Rattle.lent.specs.Parts.{filled}
use Rattle.reg_matrix.specs.Lists.{foldl, count}
use Rattle.job.specs.Model.{Job, zero_weight}
use Rattle.job.specs.Parser.{parsed}
use Rattle.job.specs.Load.{job_fields}
use Rattle.job.specs.Layout.{JobSlices}
use Rattle.entries.specs.Reserving.{Lain, reserving}
use Rattle.whole_fields.specs.Whole.{JobAt}

-- zeros where a job is laid out, but for its fixed uses
abbrev pub cleared : JobSlices → JobSlices
cleared B =
    record {
      j64 = filled 64 0 B.j64;
      j32 = filled 1536 0 B.j32;
      j16 = filled 2067 0 B.j16;
      j8 = filled 2560 0 B.j8;
      jf = filled 1536 zero_weight B.jf;
    }

-- where the bytes are a job's, its tables are stored over zeros
pub record Stores (s : List ℕ) (B B' : JobSlices) : Type 0 where
  pub stored : (j : Job) (t : List ℕ) → job_fields s ≡ parsed j t → JobAt (cleared B) B' (λ es. Unit {0}) j

-- the first n reservations of the four slices go in, one after another
unfoldable pub reserving_all : List ℕ → List ℕ → List ℕ → List ℕ → ℕ → Lain → Lain
reserving_all units froms tos uses n l = foldl (λ l k. reserving (get_or units k 0) (get_or froms k 0) (get_or tos k 0) (get_or uses k 0) l) l (count 0 n)
