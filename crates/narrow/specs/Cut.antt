-- A wide number where a narrower type is asked for. Assumes nothing.
use Rattle.std.specs.Prelude.{ℕ, cond, ltb}

-- every number above the greatest of the type is that one. No job has a virtual register 65,535 or a register 255, and no weight that is a number has
-- the bits 0xFFFFFFFF, so what does not fit is refused as such a number is
unfoldable pub cut : ℕ → ℕ → ℕ
cut top n = cond (ltb n top) n top
