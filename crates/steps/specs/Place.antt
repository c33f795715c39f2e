-- What each step of a job measures, and how: `pw_job_step` of the source, the tests of `pw_job_poll` before its readings, and `stat` as `pw_write_config` sets it.
use Rattle.std.specs.Prelude.{Bool, true, false, if◌then◌else◌, ℕ, ◌%◌, ltb, eqb}
use Rattle.codes.specs.Flags.{holds_ad1, holds_rms_lpf}
use Rattle.tables.specs.Constants.{job_zero, job_vcal, job_skip, alt_v_skip, settle_ms, vcal_dc_settle_ms, vcal_ac_settle_ms, r34_xx, r34_yy}
use Rattle.state.specs.declared.Ranges.{Ranges}
use Rattle.steps.specs.declared.place.Kind.{Kind}
use Rattle.steps.specs.declared.place.Kind.TheVariants.{Zero, Gain}
use Rattle.steps.specs.declared.place.Place.{Place}
use Rattle.steps.specs.declared.place.Place.TheVariants.{ZeroX, ZeroD, ZeroY, Raw, RefDc, RefAc}

-- `JOB_ZERO` and `JOB_VCAL`
abbrev pub kind_number : Kind → ℕ
kind_number Zero = job_zero
kind_number Gain = job_vcal

-- the kind of a running job by its number, which is 1 or 2; any other counts as the gain job's
unfoldable pub kind_of : ℕ → Kind
kind_of job = if eqb job job_zero then Zero else Gain

-- the order of a job's steps: the gain job has one for each kind of voltage
pub data Layout : Type 0 where
  zero_steps : Layout
  dc_steps : Layout
  ac_steps : Layout

abbrev pub layout_of : Kind → Bool → Layout
layout_of Zero dc = zero_steps
layout_of Gain true = dc_steps
layout_of Gain false = ac_steps

-- "The zero job has 13 steps": LPF of the current by range, AD1 by range (`(6..12).contains(&job_step)`), LPF of the voltage. "The gain job has 4, raw and reference in turn"
abbrev pub place_of : Layout → ℕ → Place
place_of zero_steps s = if ltb s 6 then ZeroX else if ltb s 12 then ZeroD else ZeroY
place_of dc_steps s = if eqb (s % 2) 0 then Raw else RefDc
place_of ac_steps s = if eqb (s % 2) 0 then Raw else RefAc

-- "Each step drops 1 ready frame (4 for the AC reference)": `JOB_SKIP`, `ALT_V_SKIP`
abbrev pub drops_of : Place → ℕ
drops_of ZeroX = job_skip
drops_of ZeroD = job_skip
drops_of ZeroY = job_skip
drops_of Raw = job_skip
drops_of RefDc = job_skip
drops_of RefAc = alt_v_skip

-- how long the row settles: `SETTLE_MS`, 450, `VCAL_AC_SETTLE_MS`
abbrev pub settle_of : Place → ℕ
settle_of ZeroX = settle_ms
settle_of ZeroD = settle_ms
settle_of ZeroY = settle_ms
settle_of Raw = settle_ms
settle_of RefDc = vcal_dc_settle_ms
settle_of RefAc = vcal_ac_settle_ms

-- `stat`: XX in steps 0 to 5 of the zero job, YY in all others
abbrev pub stat_of : Place → ℕ
stat_of ZeroX = r34_xx
stat_of ZeroD = r34_yy
stat_of ZeroY = r34_yy
stat_of Raw = r34_yy
stat_of RefDc = r34_yy
stat_of RefAc = r34_yy

-- "A frame is ready if its flags hold the AD1 bit (zero steps 6 to 11, DC reference) or both RMS and LPF bits (the rest)"
unfoldable pub ready : Place → ℕ → Bool
ready ZeroX flags = holds_rms_lpf flags
ready ZeroD flags = holds_ad1 flags
ready ZeroY flags = holds_rms_lpf flags
ready Raw flags = holds_rms_lpf flags
ready RefDc flags = holds_ad1 flags
ready RefAc flags = holds_rms_lpf flags

-- `if job == JOB_ZERO && job_step < 12 { ik = job_step % 6 }`
abbrev pub step_ranges : Kind → ℕ → Ranges → Ranges
step_ranges Zero s r = record r { ik = if ltb s 12 then s % 6 else r.ik }
step_ranges Gain s r = r
