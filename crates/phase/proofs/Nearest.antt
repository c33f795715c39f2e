-- Each float that specs/ gives by its bits is the binary32 number nearest its decimal. By computation, once over the list.
use mathlib.Core.Path.{◌≡◌, refl}
use mathlib.Core.List.{[], ◌∷◌}
use lib.Ieee.{of_bits, round}
use Rattle.numbers.specs.Decimal.{decimal}
use Rattle.phase.specs.Phase.{most_steps, least_slope}

pub literals : most_steps ∷ least_slope ∷ [] ≡ decimal 12749 2 ∷ decimal 1 7 ∷ []
unfolding of_bits round
literals = refl
