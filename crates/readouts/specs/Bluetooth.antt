-- `bt_mode_byte` and `bt_main` of the source, for "the stock phone protocol", which has "no power function and no unit field".
use Rattle.std.specs.Prelude.{Bool, true, if◌then◌else◌, not, ◌||◌, ℕ, zero, suc, ◌+◌, ◌-◌, ◌*◌, Float}
use Rattle.std.specs.Float.{binary32}
use Rattle.std.specs.Float.Ieee.{le, of_bits}
use Rattle.numbers.specs.Binary32.{◌+f◌, ◌*f◌, is_finite, abs_of, signum_of}
use Rattle.tables.specs.Bounds.{at_most}
use Rattle.figures.specs.Acc.{thousand}
use Rattle.formats.specs.declared.format.Format.{Format}
use Rattle.formats.specs.declared.readout.Val.{Val}
use Rattle.formats.specs.declared.units.Unit.{Unit}
use Rattle.formats.specs.declared.units.Unit.TheVariants.{Volt, Milliwatt, Kilowatt, Millivolt}
use Rattle.formats.specs.Formats.{p_format}
use Rattle.formats.specs.Readout.{over_val, tens, half, shown}
use Rattle.values.specs.declared.power_vals.PowerVals.{PowerVals}
use Rattle.readouts.specs.declared.bluetooth.Fitted.{Fitted}
use Rattle.readouts.specs.Readings.{full_scale, main_si, any_over}

-- `(if v_auto { 5 } else { vr.min(3) + 1 }) << 3`
unfoldable pub bt_mode_byte : Bool → ℕ → ℕ
bt_mode_byte vAuto vr = (if vAuto then 5 else at_most 3 vr + 1) * 8

-- "W -> "V", mW -> "mV", kW -> "V" with the decimals moved". The logic's `◌-◌` stops at 0, as `saturating_sub`
abbrev pub volts_for : Unit → Format → Format
volts_for Milliwatt f = record f { unit = Millivolt }
volts_for Kilowatt f = record { number = f.number *f thousand; decimals = f.decimals - 3; unit = Volt }
volts_for u f = record f { unit = Volt }

unfoldable pub volt_group : Format → Format
volt_group f = volts_for f.unit f

abbrev pub no_value_count : Float
no_value_count = of_bits binary32 0x477f_ff00  -- 65535.0

-- `x.abs() * k + 0.5 >= 65535.0`
unfoldable pub too_large : Float → Float → Bool
too_large x k = le no_value_count (abs_of x *f k +f half)

abbrev pub tenth : Float
tenth = of_bits binary32 0x3dcc_cccd  -- 0.1

-- "with as many of its decimals as fit": `while dec > 0 && .. { dec -= 1; k *= 0.1 }`
unfoldable pub decimals_that_fit : Float → Float → ℕ → Fitted
decimals_that_fit x k zero = record { k = k; dec = 0 }
decimals_that_fit x k (suc dec) = if too_large x k then decimals_that_fit x (k *f tenth) dec else record { k = k; dec = suc dec }

abbrev pub held_count : Float
held_count = of_bits binary32 0x477f_fe00  -- 65534.0

-- "at most 65534 counts (0xFFFF = no value)": `x.signum() * 65534.0`
unfoldable pub held_number : Float → Float → Float
held_number x k = if too_large x k then signum_of x *f held_count else x

unfoldable pub bt_val : Format → Val
bt_val f =
    let fit = decimals_that_fit f.number (tens f.decimals) f.decimals in
    shown (record { number = held_number f.number fit.k; decimals = fit.dec; unit = f.unit })

-- over where voltage or current is, or the number is not finite
unfoldable pub bt_main : PowerVals → Val
bt_main pv =
    let f = volt_group (p_format (full_scale pv.ranges) (main_si pv) true) in
    if any_over pv.limits || not (is_finite f.number) then over_val f.decimals f.unit else bt_val f
