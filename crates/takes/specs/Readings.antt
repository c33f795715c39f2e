-- What a conversion's codes say before any smoothing, in the source's order of operations, each rounded to binary32.
use Rattle.std.specs.Prelude.{Bool, if◌then◌else◌, ℕ, ◌+◌, ◌*◌, min, ℤ, pos, Float}
use Rattle.std.specs.Float.{nan, binary32}
use Rattle.std.specs.Float.Ieee.{of_bits, of_int}
use Rattle.numbers.specs.Binary32.{◌-f◌, ◌*f◌, ◌/f◌, zero_f, max_of}
use Rattle.tables.specs.Bounds.{entry_at}
use Rattle.tables.specs.Constants.{code}
use Rattle.tables.specs.Decided.{k_acv, ad1_div}
use Rattle.tables.specs.Ranges.{iu_ir, cal_index}
use Rattle.tables.specs.declared.calibration.Calibration.{Calibration}
use Rattle.tables.specs.declared.description.Description.{Description}
use Rattle.tables.specs.Calibration.{factor, offset}
use Rattle.state.specs.declared.Ranges.{Ranges}
use Rattle.takes.specs.declared.scales.Instrument.{Instrument}
use Rattle.takes.specs.Scales.{us, mv_div, shunt, i_scale, v_scale, g_i, g_il, zero_x, zero_d, code_less, gain}

-- ---- the power row (`pw_take`) and the V part of the DC row (`pw_poll_dc`)

-- `sq * s_v`
unfoldable pub ac_volts : Float → ℕ → Float → Float
ac_volts root vr g = root *f v_scale vr g

-- `(lpf - zy) as f32 * s_v`
unfoldable pub dc_volts : ℤ → ℤ → ℕ → Float → Float
dc_volts lpf zero vr g = code_less lpf zero *f v_scale vr g

-- `rms as f32 * s_i * g_i * s_v`
unfoldable pub power : Instrument → Ranges → ℤ → Float
power w r rms = of_int binary32 rms *f i_scale w.description r.ik *f g_i w.calibration r.ik *f v_scale r.vr (gain w r.vr)

-- `sq * s_i * g_i`
unfoldable pub ac_amps : Description → Calibration → ℕ → Float → Float
ac_amps d c ik root = root *f i_scale d ik *f g_i c ik

-- `(lpf - zx) as f32 * s_i * g_il`
unfoldable pub dc_amps : Instrument → ℕ → ℤ → Float
dc_amps w ik lpf = code_less lpf (zero_x w.corrections ik) *f i_scale w.description ik *f g_il w.calibration ik

-- ---- the alternating rows (`pw_take_alt`): gains and offsets of the factory's AC V and AC A

-- `(sq * s * cal(0x34 + 4 r) - cal(0x44 + 4 r)).max(0.0)` with `s = K_ACV[r] * CODE`
unfoldable pub alt_volts : Calibration → ℕ → Float → Float
alt_volts c vr root =
    let r = min vr 3 in
    max_of (root *f (entry_at nan k_acv vr *f code) *f factor c (0x34 + 4 * r) -f offset c (0x44 + 4 * r)) zero_f

-- `(sq * s * cal(0xC4 + 4 ci) - cal(0xDC + 4 ci) * us).max(0.0)`: the power row's AC amperes, less an offset
unfoldable pub alt_amps : Description → Calibration → ℕ → Float → Float
alt_amps d c ik root = max_of (ac_amps d c ik root -f offset c (0xdc + 4 * cal_index ik) *f us (iu_ir ik).iu) zero_f

-- `lpf as f32 * s * cal(0xF4 + 4 ci) - cal(0x10C + 4 ci) * us`
unfoldable pub alt_dc_amps : Description → Calibration → ℕ → ℤ → Float
alt_dc_amps d c ik lpf = code_less lpf (pos 0) *f i_scale d ik *f factor c (0xf4 + 4 * cal_index ik) -f offset c (0x10c + 4 * cal_index ik) *f us (iu_ir ik).iu

-- ---- the current of the DC row (`pw_poll_dc`)

-- 1.25 and 0.9
abbrev pub full_volts : Float
full_volts = of_bits binary32 0x3fa0_0000

abbrev pub ad1_gain : Float
ad1_gain = of_bits binary32 0x3f66_6666

-- `off`: the word at byte ACh + 4 ci, 0.0 once a zero is stored
unfoldable pub ad1_offset : Calibration → Bool → ℕ → Float
ad1_offset c zeroOk ik = if zeroOk then zero_f else offset c (0xac + 4 * cal_index ik)

-- `(code * 1.25 / (SHUNT[iu] * MV_DIV[ir] * 0.9) / AD1_DIV * cal(0x94 + 4 ci) - off) * us` with `code = (ad1 - zd) as f32`
unfoldable pub ad1_amps : Instrument → ℕ → ℤ → Float
ad1_amps w ik ad1 =
    (code_less ad1 (zero_d w.corrections ik) *f full_volts /f (shunt w.description ik *f mv_div w.description ik *f ad1_gain) /f ad1_div
    *f factor w.calibration (0x94 + 4 * cal_index ik) -f ad1_offset w.calibration w.corrections.zero_ok ik) *f us (iu_ir ik).iu
