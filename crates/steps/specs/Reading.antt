-- What a ready frame says at its step: the readings of `pw_job_poll` in the source's order of operations, each rounded to binary32, and the zero job's test for a signal.
use Rattle.std.specs.Prelude.{Bool, false, if◌then◌else◌, ◌||◌, List, ℕ, ◌+◌, ◌-◌, ◌*◌, ltb, ℤ, pos, nat_abs, ◌-ℤ◌, get_or, Float, Result, Ok, Err}
use Rattle.std.specs.Float.{nan}
use Rattle.std.specs.Float.Ieee.{lt}
use Rattle.numbers.specs.Binary32.{◌-f◌, ◌*f◌, ◌/f◌, zero_f, max_of}
use Rattle.codes.specs.declared.Codes.{Codes}
use Rattle.tables.specs.Bounds.{at_most, entry_at}
use Rattle.tables.specs.Constants.{code, kv, zero_max_rms, zero_max_lpf, zero_max_ad1}
use Rattle.tables.specs.Decided.{k_acv, ad1_div, dcv_negk}
use Rattle.tables.specs.declared.calibration.Calibration.{Calibration}
use Rattle.tables.specs.Calibration.{factor, offset}
use Rattle.state.specs.declared.Corrections.{Corrections}
use Rattle.takes.specs.Scales.{code_less, rms_root}
use Rattle.takes.specs.Readings.{full_volts, ad1_gain}
use Rattle.steps.specs.declared.error.JobError.{JobError}
use Rattle.steps.specs.declared.error.JobError.TheVariants.{Signal}
use Rattle.steps.specs.declared.place.Place.{Place}
use Rattle.steps.specs.declared.place.Place.TheVariants.{ZeroX, ZeroD, ZeroY, Raw, RefDc, RefAc}
use Rattle.steps.specs.declared.reading.Reading.{Reading}

-- ---- the zeros in force

-- none, or the stored ones: `zx` and `zd` by current range, and `zy`
pub data Zeros : Type 0 where
  none : Zeros
  kept : List ℤ → List ℤ → ℤ → Zeros

-- "zeros with their mark": none while `zero_ok` is off
unfoldable pub zeros_in : Corrections → Zeros
zeros_in c = if c.zero_ok then kept c.zx c.zd c.zy else none

-- "the old zero (0 while none is stored)" of a step of the zero job. The source has it from the job's copies of `zx` and `zd`, which are the stored ones until the step has ended
abbrev pub old_of : Zeros → ℕ → ℤ
old_of none s = pos 0
old_of (kept zx zd zy) s = if ltb s 6 then get_or zx s (pos 0) else if ltb s 12 then get_or zd (s - 6) (pos 0) else zy

-- the voltage's, which the gain job takes off
abbrev pub zy_of : Zeros → ℤ
zy_of none = pos 0
zy_of (kept zx zd zy) = zy

-- ---- readings: the main value and the second value

abbrev pub alone : Float → Reading
alone x = record { x = x; y = zero_f }

-- `lpf as f32` and `ad1 as f32`: a code less no zero
abbrev as_float : ℤ → Float
as_float c = code_less c (pos 0)

-- `sq * CODE * KV[r]` and `(lpf - zy) as f32 * CODE * KV[r]`
unfoldable pub raw_reading : ℕ → ℤ → Codes → Reading
raw_reading vr zy f = record { x = rms_root f.rms *f code *f entry_at nan kv vr; y = code_less f.lpf zy *f code *f entry_at nan kv vr }

-- `ad1 as f32 * K_ACV[r] * (1.25 / 0.9) / AD1_DIV * cal(0x04 + 4 r, 1.0) - cal(0x14 + 4 r, 0.0)`
unfoldable pub ad1_volts : Calibration → ℕ → ℤ → Float
ad1_volts c vr ad1 =
    as_float ad1 *f entry_at nan k_acv vr *f (full_volts /f ad1_gain) /f ad1_div *f factor c (0x04 + 4 * at_most 3 vr) -f offset c (0x14 + 4 * at_most 3 vr)

-- the DC reference: `if v < 0.0 { v *= DCV_NEGK[r] }`
unfoldable pub dc_reference : Calibration → ℕ → ℤ → Float
dc_reference c vr ad1 = if lt (ad1_volts c vr ad1) zero_f then ad1_volts c vr ad1 *f entry_at nan dcv_negk vr else ad1_volts c vr ad1

-- the AC reference: `(sq * K_ACV[r] * CODE * cal(0x34 + 4 r, 1.0) - cal(0x44 + 4 r, 0.0)).max(0.0)`
unfoldable pub ac_reference : Calibration → ℕ → Float → Float
ac_reference c vr root =
    max_of (root *f entry_at nan k_acv vr *f code *f factor c (0x34 + 4 * at_most 3 vr) -f offset c (0x44 + 4 * at_most 3 vr)) zero_f

unfoldable pub reading_of : Place → Calibration → ℕ → Zeros → Codes → Reading
reading_of ZeroX c vr z f = alone (as_float f.lpf)
reading_of ZeroD c vr z f = alone (as_float f.ad1)
reading_of ZeroY c vr z f = alone (as_float f.lpf)
reading_of Raw c vr z f = raw_reading vr (zy_of z) f
reading_of RefDc c vr z f = alone (dc_reference c vr f.ad1)
reading_of RefAc c vr z f = alone (ac_reference c vr (rms_root f.rms))

-- ---- "a counted reading with root above 400, or further from the old zero .. than 4000 (20,000 for AD1), ends with `JR_SIGNAL`"

-- `(x as i32 - old).abs()`
unfoldable pub distance : ℤ → ℤ → ℕ
distance c old = nat_abs (c -ℤ old)

-- `sq > ZERO_MAX_RMS || (x as i32 - old).abs() > ZERO_MAX_LPF`
unfoldable pub lpf_signal : ℤ → Codes → Bool
lpf_signal old f = lt zero_max_rms (rms_root f.rms) || ltb zero_max_lpf (distance f.lpf old)

-- by place; the AD1 steps have no root (`sq` is 0.0), the gain job has no such test
unfoldable pub signal : Place → ℤ → Codes → Bool
signal ZeroX old f = lpf_signal old f
signal ZeroD old f = ltb zero_max_ad1 (distance f.ad1 old)
signal ZeroY old f = lpf_signal old f
signal Raw old f = false
signal RefDc old f = false
signal RefAc old f = false

-- what a frame counts for at step s: `JR_SIGNAL` where it is a signal, else its reading
abbrev pub counted_reading : Place → ℕ → Calibration → ℕ → Zeros → Codes → Result Reading JobError
counted_reading p s c vr z f = if signal p (old_of z s) f then Err Signal else Ok (reading_of p c vr z f)
