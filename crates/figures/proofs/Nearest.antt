-- Each constant that specs/ gives by its bits is the number nearest its decimal, or 2^63: in binary32, and 3.6e6 in binary64. By computation.
use mathlib.Core.Bool.{false}
use mathlib.Core.List.{[], ◌∷◌}
use mathlib.Core.Path.{◌≡◌, refl}
use Prim.Native.Nat.{◌^◌}
use lib.Ieee.{binary32, binary64, of_bits, round}
use Rattle.numbers.specs.Decimal.{decimal}
use Rattle.figures.specs.Acc.{two63, thousand, watt_hour}
use Rattle.figures.specs.Load.{two}
use Rattle.figures.specs.Smoothing.{twentieth}
use Rattle.figures.specs.Tally.{milli}

pub literals : two ∷ twentieth ∷ thousand ∷ milli ∷ two63 ∷ [] ≡ decimal 2 0 ∷ decimal 5 2 ∷ decimal 1000 0 ∷ decimal 1 3 ∷ round binary32 false (2 ^ 63) 1 ∷ []
unfolding of_bits round
literals = refl

pub watt_hour_is : watt_hour ≡ round binary64 false 3600000 1
unfolding of_bits round
watt_hour_is = refl
