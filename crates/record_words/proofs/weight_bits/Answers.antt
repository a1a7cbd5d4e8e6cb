use mathlib.Core.Path.{sym}
use Rattle.record_words.proofs.WordLaws.{bits_of_nan, bits_of_number, weight_back}
use mathlib.Core.Path.{refl}
use Rattle.record_words.proofs.weight_bits.Goals as goal

pub returns-then-is_nan : goal.returns-then-is_nan
returns-then-is_nan c = bits_of_nan _ (sym c.if-is_nan.ensures.value)

pub returns-else-is_nan : goal.returns-else-is_nan
returns-else-is_nan c = (bits_of_number _ (sym c.if-is_nan.ensures.value), weight_back _ c.well_formed.0.1 _ refl)
