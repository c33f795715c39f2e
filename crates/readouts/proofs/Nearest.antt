-- Each float that specs/ gives by its bits is the binary32 number nearest its decimal. By computation, once over the list.
use mathlib.Core.Path.{◌≡◌, refl}
use mathlib.Core.List.{[], ◌∷◌}
use lib.Ieee.{of_bits, round}
use Rattle.numbers.specs.Decimal.{decimal}
use Rattle.readouts.specs.Bluetooth.{no_value_count, tenth, held_count}

pub literals : no_value_count ∷ tenth ∷ held_count ∷ [] ≡ decimal 65535 0 ∷ decimal 1 1 ∷ decimal 65534 0 ∷ []
unfolding of_bits round
literals = refl
