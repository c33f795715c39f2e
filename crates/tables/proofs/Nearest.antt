-- Each constant that specs/ gives by its bits is the binary32 number nearest its decimal. By computation, once over the list.
use mathlib.Core.Path.{◌≡◌, refl}
use mathlib.Core.Bool.{false}
use mathlib.Core.List.{[], ◌∷◌}
use Prim.Native.Nat.{◌^◌}
use lib.Ieee.{binary32, of_bits, round, div}
use Rattle.numbers.specs.Binary32.{one_f}
use Rattle.numbers.specs.Decimal.{decimal}
use Rattle.tables.specs.Constants.{code, i_cont_default, i_floor, floor_i, noise_v, noise_i, zero_max_rms, vcal_min, vcal_max_ac, vcal_max_dc, vcal_peak_max, vcal_spread, cal_pf_max, float_constants}
use Rattle.tables.specs.Decided.{decided_floats, ad1_div, floor_v}
use Rattle.tables.specs.Description.{least, most}
use Rattle.tables.specs.Calibration.{million}
use Rattle.tables.specs.Gain.{gain_least, gain_most}
use Rattle.tables.specs.Window.{margin, reach}

pub named : code ∷ i_cont_default ∷ i_floor ∷ floor_i ∷ noise_v ∷ noise_i ∷ zero_max_rms ∷ vcal_min ∷ vcal_max_ac ∷ vcal_max_dc ∷ vcal_peak_max ∷ vcal_spread ∷ cal_pf_max ∷ ad1_div ∷ floor_v ∷ [] ≡ float_constants
unfolding float_constants decided_floats of_bits round div
named = refl

pub literals : least ∷ most ∷ million ∷ one_f ∷ gain_least ∷ gain_most ∷ margin ∷ reach ∷ []
    ≡ round binary32 false 1 (2 ^ 20) ∷ round binary32 false (2 ^ 20) 1 ∷ decimal 1000000 0 ∷ decimal 1 0 ∷ decimal 9 1 ∷ decimal 11 1 ∷ decimal 6 3 ∷ decimal 9 1 ∷ []
unfolding of_bits round
literals = refl
