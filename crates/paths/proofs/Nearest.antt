-- The float that specs/ gives by its bits is the binary32 number nearest its decimal.
use mathlib.Core.Path.{◌≡◌, refl}
use lib.Ieee.{of_bits, round}
use Rattle.numbers.specs.Decimal.{decimal}
use Rattle.paths.specs.Comparator.{least_op}

pub literals : least_op ≡ decimal 25 3
unfolding of_bits round
literals = refl
