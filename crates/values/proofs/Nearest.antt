-- The float that specs/ gives by its bits is the binary32 number nearest its decimal. By computation.
use mathlib.Core.Path.{◌≡◌, refl}
use lib.Ieee.{of_bits, round}
use Rattle.numbers.specs.Decimal.{decimal}
use Rattle.values.specs.Energy.{hour_ms}

pub hour_is : hour_ms ≡ decimal 3600000 0
unfolding of_bits round
hour_is = refl
