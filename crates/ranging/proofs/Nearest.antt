-- The constant that specs/ gives by its bits is the binary32 number nearest its decimal. By computation.
use mathlib.Core.Path.{◌≡◌, refl}
use lib.Ieee.{of_bits, round}
use Rattle.numbers.specs.Decimal.{decimal}
use Rattle.ranging.specs.Change.{tenth}

pub literals : tenth ≡ decimal 1 1
unfolding of_bits round
literals = refl
