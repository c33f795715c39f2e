-- Each float that specs/ gives by its bits is the binary32 number nearest its decimal. By computation, once over the list.
use mathlib.Core.Path.{◌≡◌, refl}
use mathlib.Core.List.{[], ◌∷◌}
use lib.Ieee.{of_bits, round}
use Rattle.numbers.specs.Decimal.{decimal}
use Rattle.takes.specs.Scales.{micro}
use Rattle.takes.specs.Readings.{full_volts, ad1_gain}
use Rattle.takes.specs.Take.{root_most}
use Rattle.takes.specs.Parts.{a15, a25, a35, a50, hundredth}

pub literals : micro ∷ full_volts ∷ ad1_gain ∷ a15 ∷ a25 ∷ a35 ∷ a50 ∷ hundredth ∷ root_most ∷ []
    ≡ decimal 1 6 ∷ decimal 125 2 ∷ decimal 9 1 ∷ decimal 15 2 ∷ decimal 25 2 ∷ decimal 35 2 ∷ decimal 5 1 ∷ decimal 1 2 ∷ decimal 262144 0 ∷ []
unfolding of_bits round
literals = refl
