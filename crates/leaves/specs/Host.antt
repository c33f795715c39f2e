-- What a C program is handed: plain structs of numbers.
use Rattle.refusals.specs.declared.Refusal.{Refusal}
use Rattle.refusals.specs.Number.{told_number}
use Rattle.tables.specs.declared.calibration.Calibration.{Calibration}
use Rattle.tables.specs.Calibration.{no_calibration}
use Rattle.figures.specs.declared.acc.Acc.{Acc}
use Rattle.figures.specs.declared.acc.Sum.{Sum}
use Rattle.figures.specs.Acc.{added_acc, added_whole}
use Rattle.figures.specs.declared.tally.Tally.{Tally}
use Rattle.figures.specs.declared.tally.Counted.{Counted}
use Rattle.figures.specs.Tally.{accounted_tally, accounted_whole}
use Rattle.std.specs.Prelude.{false, if◌then◌else◌, ℕ, eqb, ℤ, pos, Result}
use Rattle.std.specs.Result.{result_unwrap_or}
use Rattle.codes.specs.declared.Frame.{Frame}
use Rattle.state.specs.declared.Pw.{Pw}
use Rattle.state.specs.Fresh.{at_time, stamp_of}
use Rattle.ranging.specs.declared.apply.Keep.{Keep}
use Rattle.ranging.specs.declared.apply.Keep.TheVariants.{Nothing, Voltage, Current}
use Rattle.ranging.specs.declared.apply.Applied.{Applied}
use Rattle.paths.specs.declared.measuring.Outcome.{Outcome}
use Rattle.paths.specs.Whole.{with_outcome}
use Rattle.phase.specs.declared.CalError.{CalError}
use Rattle.phase.specs.Phase.{cal_number}
use Rattle.jobs.specs.declared.whole.Started.{Started}
use Rattle.jobs.specs.declared.whole.Polled.{Polled}
use Rattle.leaves.specs.declared.jobbed.HostOutcome.{HostOutcome}
use Rattle.leaves.specs.declared.jobbed.StartedPw.{StartedPw}
use Rattle.leaves.specs.declared.jobbed.PolledPw.{PolledPw}
use Rattle.leaves.specs.declared.measured.MeasuredPw.{MeasuredPw}
use Rattle.leaves.specs.declared.figured.NumberedSum.{NumberedSum}
use Rattle.leaves.specs.declared.figured.NumberedTally.{NumberedTally}
use Rattle.leaves.specs.declared.tabled.NumberedCalibration.{NumberedCalibration}

-- a calibration, or the refusal by document 01's number: no valid word stands then
abbrev pub numbered : Result Calibration Refusal → NumberedCalibration
numbered answer = record { refusal = told_number answer; calibration = result_unwrap_or answer no_calibration }

-- the answer of an add to a, and of an accounting step from t, by document 01's number: refused, each is as it was, and nothing was added
abbrev pub numbered_sum : Acc → Result Sum Refusal → NumberedSum
numbered_sum a answer = record { refusal = told_number answer; acc = added_acc a answer; whole = added_whole answer }

abbrev pub numbered_tally : Tally → Result Counted Refusal → NumberedTally
numbered_tally t answer = record { refusal = told_number answer; tally = accounted_tally t answer; whole = accounted_whole answer }

-- the source's `keep`: 2 keeps the voltage's parts, 4 the current's, and any other number none
unfoldable pub keep_of : ℕ → Keep
keep_of keep = if eqb keep 2 then Voltage else if eqb keep 4 then Current else Nothing

-- a frame of these codes
abbrev pub frame_at : ℕ → ℕ → ℤ → ℤ → ℤ → Frame
frame_at now flags ad1 lpf rms = record { flags = flags; codes = record { ad1 = ad1; lpf = lpf; rms = rms }; now = now }

-- a meter after a frame, and after an apply, with the mark to the host
abbrev pub measured_pw : Pw → Frame → Outcome → MeasuredPw
measured_pw m f o = record { pw = with_outcome m f o; mark = stamp_of o.mark; to_values = o.to_values }

abbrev pub applied_pw : Pw → Applied → MeasuredPw
applied_pw m a =
    record {
      pw = record {
        description = m.description;
        calibration = m.calibration;
        mode = m.mode;
        ranges = m.ranges;
        barred = m.barred;
        cycle = a.cycle;
        parts = m.parts;
        powers = m.powers;
        tally = m.tally;
        clock = m.clock;
        over_t0 = m.over_t0;
        settings = m.settings;
        phase_cal = m.phase_cal;
        corrections = m.corrections;
        job = m.job;
        comparator = a.comparator;
        ring = m.ring;
      };
      mark = at_time a.deadline;
      to_values = false;
    }

-- a job's start, and a frame in a job, with the mark to the host
abbrev pub started_pw : Started → StartedPw
started_pw s = record { pw = s.pw; mark = stamp_of s.mark }

abbrev pub polled_pw : Polled → PolledPw
polled_pw p = record { pw = p.pw; mark = stamp_of p.mark; used = p.used }

-- the outcome by its number, with its steps; 0 steps stand where there are none
unfoldable pub host_outcome : Result ℤ CalError → HostOutcome
host_outcome o = record { number = cal_number o; steps = result_unwrap_or o (pos 0) }
