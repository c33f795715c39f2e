-- Each float that specs/ gives by its bits is the binary32 number nearest its decimal. By computation, once over the list.
use mathlib.Core.Path.{◌≡◌, refl}
use mathlib.Core.List.{[], ◌∷◌}
use lib.Ieee.{of_bits, round}
use Rattle.numbers.specs.Decimal.{decimal}
use Rattle.steps.specs.Verdict.{three_f, sqrt2}

-- the root of two as the code writes it, and to 50 digits: one float
pub literals : three_f ∷ sqrt2 ∷ sqrt2 ∷ [] ≡ decimal 3 0 ∷ decimal 141421356 8 ∷ decimal 14142135623730950488016887242096980785696718753769 49 ∷ []
unfolding of_bits round
literals = refl
