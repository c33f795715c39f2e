-- Each float that specs/ gives by its bits is the binary32 number nearest its decimal. By computation, once over the list.
use mathlib.Core.Path.{◌≡◌, refl}
use mathlib.Core.List.{[], ◌∷◌}
use lib.Ieee.{of_bits, round}
use Rattle.numbers.specs.Decimal.{decimal}
use Rattle.formats.specs.Formats.{ten, hundred, nine_thousand, hundred_thousand, full_scale_margin}
use Rattle.formats.specs.Readout.{half}

pub literals : ten ∷ hundred ∷ nine_thousand ∷ hundred_thousand ∷ full_scale_margin ∷ half ∷ []
    ≡ decimal 10 0 ∷ decimal 100 0 ∷ decimal 9000 0 ∷ decimal 100000 0 ∷ decimal 105 2 ∷ decimal 5 1 ∷ []
unfolding of_bits round
literals = refl
