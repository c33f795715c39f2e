-- A frame in a job: the first half of `pw_job_poll`.
use Rattle.std.specs.Prelude.{Bool, if◌then◌else◌, ℕ, ◌-◌, ltb, Result, Ok, Err}
use Rattle.numbers.specs.Binary32.{◌+f◌}
use Rattle.codes.specs.declared.Codes.{Codes}
use Rattle.tables.specs.Constants.{job_n, jr_signal}
use Rattle.tables.specs.declared.calibration.Calibration.{Calibration}
use Rattle.state.specs.Counting.{count_up}
use Rattle.steps.specs.declared.error.JobError.{JobError}
use Rattle.steps.specs.declared.reading.Reading.{Reading}
use Rattle.steps.specs.Error.{error_number}
use Rattle.steps.specs.Place.{ready}
use Rattle.steps.specs.Reading.{zeros_in, old_of, reading_of, signal}
use Rattle.steps.specs.Verdict.{mean_of}
use Rattle.jobs.specs.declared.bench.Bench.{Bench}
use Rattle.jobs.specs.declared.bench.Served.{Served}
use Rattle.jobs.specs.With.{with_sums, with_used, with_job, with_cycle, with_skip}
use Rattle.jobs.specs.Bench.{kind_in, place_in, unmarked}
use Rattle.jobs.specs.Step.{ended_unmarked, step_done}

-- `job_a += x; job_b += y; job_n += 1`
abbrev pub summed : Reading → Bench → Bench
summed r t = with_job t (with_sums t.job (count_up t.job.job_n) (t.job.job_a +f r.x) (t.job.job_b +f r.y))

-- "then counts 3": `if job_n < JOB_N { return }`, else the step is done with the means
unfoldable pub counted : ℕ → Reading → Bench → Served
counted now r t =
    let s = summed r t in
    if ltb s.job.job_n job_n then unmarked s else step_done now (kind_in s.job) (mean_of s.job.job_a) (mean_of s.job.job_b) s

-- `Ok` is counted, an error ends the job with its number
abbrev pub by_reading : ℕ → Result Reading JobError → Bench → Served
by_reading now (Ok r) t = counted now r t
by_reading now (Err e) t = ended_unmarked (error_number e) t

-- one of the frames that a step drops: neither tested nor counted
abbrev pub dropped : Bench → Bench
dropped t = with_cycle t (with_skip t.cycle (t.cycle.skip - 1))

-- a ready frame, by its reading and whether it is a signal where none may be
unfoldable pub served_by : ℕ → Bool → Reading → Bench → Served
served_by now sig r t = if ltb 0 t.cycle.skip then unmarked (dropped t) else if sig then ended_unmarked jr_signal t else counted now r t

-- "The answer reports how many ready frames the job has used, dropped ones included"
abbrev pub one_used : Bench → Bench
one_used t = with_job t (with_used t.job (count_up t.job.used))

unfoldable pub served : ℕ → Calibration → Codes → Bench → Served
served now c f t =
    served_by now (signal (place_in t.job) (old_of (zeros_in t.corrections) t.job.job_step) f)
    (reading_of (place_in t.job) c t.ranges.vr (zeros_in t.corrections) f) t

-- a frame that is not ready changes nothing here
unfoldable pub job_frame : ℕ → Calibration → ℕ → Codes → Bench → Served
job_frame now c flags f t = if ready (place_in t.job) flags then served now c f (one_used t) else unmarked t
