-- `v_gain_factory` and `Pw::v_gain` of the source.
use Rattle.std.specs.Prelude.{Bool, if◌then◌else◌, List, ℕ, ◌+◌, ◌*◌, eqb, get_or, Float}
use Rattle.std.specs.Float.{nan, binary32}
use Rattle.std.specs.Float.Ieee.{lt, of_bits}
use Rattle.numbers.specs.Binary32.{◌*f◌, ◌/f◌, zero_f, one_f}
use Rattle.tables.specs.declared.calibration.Calibration.{Calibration}
use Rattle.tables.specs.Calibration.{factor}
use Rattle.tables.specs.Bounds.{at_most, within}

-- "0.9 and 1.1 as bounds of a gain", both allowed
abbrev pub gain_least : Float
gain_least = of_bits binary32 0x3f66_6666  -- 0.9

abbrev pub gain_most : Float
gain_most = of_bits binary32 0x3f8c_cccd  -- 1.1

unfoldable pub plausible : Float → Bool
plausible g = within gain_least gain_most g

-- range 0: the word at byte 04 times the one at 38 over the one at 08; range r: the word at byte 34 + 4 r; all hex
unfoldable pub factory_words : Calibration → ℕ → Float
factory_words c r = if eqb r 0 then factor c 0x04 *f factor c 0x38 /f factor c 0x08 else factor c (0x34 + 4 * r)

-- the factory's gain, or 1.0 where it is not plausible; a range above 3 counts as 3
unfoldable pub v_gain_factory : Calibration → ℕ → Float
v_gain_factory c vr = if plausible (factory_words c (at_most 3 vr)) then factory_words c (at_most 3 vr) else one_f

-- the gain in force: the stored one where it is above zero, else the factory's
unfoldable pub v_gain : Calibration → List Float → ℕ → Float
v_gain c vgain vr = if lt zero_f (get_or vgain (at_most 3 vr) nan) then get_or vgain (at_most 3 vr) nan else v_gain_factory c vr
