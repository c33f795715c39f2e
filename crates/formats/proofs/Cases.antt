-- An energy by one test for each bound.
use mathlib.Core.Path.{◌≡◌, refl}
use mathlib.Core.Bool.{Bool, true, false, cond, not, ◌&&◌, ◌||◌}
use lib.Ieee.{Float, lt, of_bits}
use Rattle.numbers.specs.Binary32.{one_f, abs_of}
use Rattle.numbers.proofs.Order.{lt_trans}
use Rattle.figures.specs.Acc.{thousand}
use Rattle.figures.specs.Tally.{milli}
use Rattle.formats.specs.declared.format.Format.{Format}
use Rattle.formats.specs.declared.units.Unit.TheVariants.{WattHour, MilliwattHour, KilowattHour, VoltAmpereHour, KilovoltAmpereHour}
use Rattle.formats.specs.Formats.{hundred_thousand, scaled, energy_at, energy_format}

-- 1000 < 100,000
bounds : lt thousand hundred_thousand ≡ true
unfolding lt of_bits
bounds = refl

-- with t, u and v for "below 1", "below 1000" and "below 100,000"
apparent : (t u v : Bool) (a b c : Format) → (u ≡ true → v ≡ true) → cond (t && not true) a (cond (u || (true && v)) b c) ≡ cond v b c
apparent true true v a b c h = rw (h refl)
apparent true false v a b c h = refl
apparent false true v a b c h = rw (h refl)
apparent false false v a b c h = refl

active : (t u v : Bool) (a b c : Format) → cond (t && not false) a (cond (u || (false && v)) b c) ≡ cond t a (cond u b c)
active true u v a b c = refl
active false true v a b c = refl
active false false v a b c = refl

-- of an apparent energy the source tests 1000 and 100,000: below the one is below the other
pub vah_is : (vah : Float) → energy_format vah true ≡ cond (lt (abs_of vah) hundred_thousand) (scaled vah one_f VoltAmpereHour) (scaled vah milli KilovoltAmpereHour)
unfolding energy_format energy_at
vah_is vah =
    apparent (lt (abs_of vah) one_f) (lt (abs_of vah) thousand) (lt (abs_of vah) hundred_thousand) (scaled vah thousand MilliwattHour) (scaled vah one_f VoltAmpereHour)
    (scaled vah milli KilovoltAmpereHour) (λ h. lt_trans (abs_of vah) thousand hundred_thousand h bounds)

pub wh_is : (wh : Float)
    → energy_format wh false
    ≡ cond (lt (abs_of wh) one_f) (scaled wh thousand MilliwattHour) (cond (lt (abs_of wh) thousand) (scaled wh one_f WattHour) (scaled wh milli KilowattHour))
unfolding energy_format energy_at
wh_is wh =
    active (lt (abs_of wh) one_f) (lt (abs_of wh) thousand) (lt (abs_of wh) hundred_thousand) (scaled wh thousand MilliwattHour) (scaled wh one_f WattHour)
    (scaled wh milli KilowattHour)
