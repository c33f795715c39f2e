-- The phase calibration: the source's `pw_cal_start`, `cal_outcome`, and the last part of its accounting step. `cal` is 0 while none runs, else the round; any number but 0 and 1 counts as 2.
use Rattle.std.specs.Prelude.{Bool, true, if◌then◌else◌, not, ◌&&◌, ℕ, eqb, leb, ℤ, pos, negsuc, ◌+ℤ◌, Float, Result, Ok, Err}
use Rattle.std.specs.Result.{result_unwrap_or}
use Rattle.std.specs.Int.Signed.{lt_z}
use Rattle.std.specs.Float.{nan, binary32}
use Rattle.std.specs.Float.Ieee.{lt, neg, of_bits, of_int, to_signed}
use Rattle.numbers.specs.Binary32.{◌-f◌, ◌/f◌, zero_f, is_finite, abs_of}
use Rattle.numbers.specs.Convert.{half_away}
use Rattle.tables.specs.Bounds.{within}
use Rattle.tables.specs.Constants.{cal_run, cal_ok, cal_flat, cal_not_reactive, cal_range, cal_pf_max}
use Rattle.state.specs.declared.PhaseCal.{PhaseCal}
use Rattle.phase.specs.declared.CalError.{CalError}
use Rattle.phase.specs.declared.CalError.TheVariants.{Flat, NotReactive, Range}
use Rattle.phase.specs.declared.PhaseStep.{PhaseStep}

-- ---- the outcome

-- 127.49
abbrev pub most_steps : Float
most_steps = of_bits binary32 0x42fe_fae1

-- `cal_outcome`: `Err(CAL_FLAT)` where s is not finite, `Err(CAL_RANGE)` outside `-127.49..=127.49`, else `Ok((if s < 0.0 { s - 0.5 } else { s + 0.5 }) as i8)`
unfoldable pub cal_outcome : Float → Result ℤ CalError
cal_outcome s = if is_finite s then (if within (neg most_steps) most_steps s then Ok (to_signed 7 (half_away s)) else Err Range) else Err Flat

-- `CAL_FLAT`, `CAL_NOT_REACTIVE` and `CAL_RANGE`
abbrev pub error_number : CalError → ℕ
error_number Flat = cal_flat
error_number NotReactive = cal_not_reactive
error_number Range = cal_range

-- the number of each case: `Ok(v) => (v, CAL_OK)`, and the `e` of `Err(e) => (pw.cal_s0, e)`
abbrev pub cal_number : Result ℤ CalError → ℕ
cal_number (Ok v) = cal_ok
cal_number (Err e) = error_number e

-- ---- start and stop

-- `pw_cal_start`: `cal = 1; cal_n = 0; cal_acc = 0.0; cal_s0 = sph; cal_res = CAL_RUN`
unfoldable pub cal_started : PhaseCal → PhaseCal
cal_started c =
    record c {
      cal = 1;
      cal_n = 0;
      cal_acc = zero_f;
      cal_s0 = c.sph;
      cal_res = cal_run;
    }

-- Document 01: "A job start sets `cal` to 0 and leaves `sph` as it is"
unfoldable pub cal_off : PhaseCal → PhaseCal
cal_off c =
    record c { cal = 0 }

-- ---- a round's end

-- `cal_s0 as i16 + d` with `d = if cal_s0 > 79 { -48 } else { 48 }`
unfoldable pub trial_steps : ℤ → ℤ
trial_steps s0 = if lt_z (pos 79) s0 then s0 +ℤ negsuc 47 else s0 +ℤ pos 48

-- `slope = (m - cal_pa) / d` with `d = sph as f32 - cal_s0 as f32`
unfoldable pub slope_of : PhaseCal → Float → Float
slope_of c m = (m -f c.cal_pa) /f (of_int binary32 c.sph -f of_int binary32 c.cal_s0)

-- 1e-7
abbrev pub least_slope : Float
least_slope = of_bits binary32 0x33d6_bf95

-- `if slope.abs() > 1e-7 { cal_s0 as f32 - cal_pa / slope } else { f32::NAN }`
unfoldable pub null_of : PhaseCal → Float → Float
null_of c m = if lt least_slope (abs_of (slope_of c m)) then of_int binary32 c.cal_s0 -f c.cal_pa /f slope_of c m else nan

-- each end of a round has `cal_n = 0; cal_acc = 0.0`; here also `cal = 0; cal_res = CAL_NOT_REACTIVE`
unfoldable pub not_reactive : PhaseCal → PhaseCal
not_reactive c =
    record c {
      cal = 0;
      cal_n = 0;
      cal_acc = zero_f;
      cal_res = cal_not_reactive;
    }

-- `cal_pa = m; cal = 2`, and `sph` at the trial step
unfoldable pub on_trial : PhaseCal → Float → PhaseCal
on_trial c m =
    record c {
      sph = trial_steps c.cal_s0;
      cal = 2;
      cal_n = 0;
      cal_acc = zero_f;
      cal_pa = m;
    }

-- `cal = 0`, and `(sph, cal_res)` by `cal_outcome(s)`: the `v` of `Ok(v) => (v, CAL_OK)`, and `pw.cal_s0` in `Err(e) => (pw.cal_s0, e)`
unfoldable pub finished : PhaseCal → Float → PhaseCal
finished c m =
    let outcome = cal_outcome (null_of c m) in
    record c {
      sph = result_unwrap_or outcome c.cal_s0;
      cal = 0;
      cal_n = 0;
      cal_acc = zero_f;
      cal_res = cal_number outcome;
    }

-- `m = cal_acc / cal_n as f32`
unfoldable pub round_mean : PhaseCal → Float
round_mean c = c.cal_acc /f of_int binary32 (pos c.cal_n)

-- `m.abs() > CAL_PF_MAX`
unfoldable pub too_active : PhaseCal → Bool
too_active c = lt cal_pf_max (abs_of (round_mean c))

-- `if cal == 1 && m.abs() > CAL_PF_MAX { .. } else if cal == 1 { .. } else { .. }`: all but the first have `cal_req = true`
unfoldable pub round_ended : PhaseCal → Bool → PhaseStep
round_ended c req =
    if eqb c.cal 1 then
    (if too_active c then record { phase_cal = not_reactive c; cal_req = req }
    else record { phase_cal = on_trial c (round_mean c); cal_req = true })
    else record { phase_cal = finished c (round_mean c); cal_req = true }

-- `cal != 0 && cal_n >= 8`
unfoldable pub round_full : PhaseCal → Bool
round_full c = not (eqb c.cal 0) && leb 8 c.cal_n

-- the accounting step's part
unfoldable pub cal_accounted : PhaseCal → Bool → PhaseStep
cal_accounted c req = if round_full c then round_ended c req else record { phase_cal = c; cal_req = req }
