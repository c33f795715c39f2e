-- What document 01 says of `max` and of the root, as theorems about the definitions.
use Rattle.std.proofs.Common.{◌≡◌, true, false, pos, refl}
use lib.Ieee.{Float, nan, inf, fin, add, mul, div, lt, le, eq, is_nan, of_bits, to_bits}
use Rattle.numbers.specs.Binary32.{max_of, is_minus}
use Rattle.numbers.specs.Root.{sqrt_of}

-- "`max` of a NaN and a number is the number"
pub max_of_nan : (b : Float) → max_of nan b ≡ b
unfolding max_of is_nan
max_of_nan b = refl

pub max_with_nan : (a : Float) → max_of a nan ≡ a
unfolding max_of is_nan
max_with_nan nan = refl
max_with_nan (inf s) = refl
max_with_nan (fin s m e) = refl

-- "of two zeros of unlike sign it is plus zero"
abbrev plus : Float
plus = fin false 0 (pos 0)

abbrev minus : Float
minus = fin true 0 (pos 0)

pub max_of_zeros : (max_of minus plus ≡ plus) × (max_of plus minus ≡ plus)
unfolding max_of is_nan lt is_minus
max_of_zeros = (refl, refl)

-- the root: "of infinity it is NaN"
pub root_of_infinity : sqrt_of (inf false) ≡ nan
unfolding sqrt_of is_nan lt le eq add mul div of_bits to_bits
root_of_infinity = refl
