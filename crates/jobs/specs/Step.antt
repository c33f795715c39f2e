-- What a step's two means do to the job: the second half of `pw_job_poll`, once `job_n < JOB_N` holds no longer.
use Rattle.std.specs.Prelude.{Bool, true, if◌then◌else◌, ℕ, ◌-◌, ◌/◌, ◌%◌, ltb, eqb, ℤ, get_or, set, Float, Result, Ok, Err}
use Rattle.std.specs.Float.{nan}
use Rattle.tables.specs.Bounds.{at_most}
use Rattle.tables.specs.Constants.{jr_ok}
use Rattle.steps.specs.declared.error.JobError.{JobError}
use Rattle.steps.specs.declared.place.Kind.{Kind}
use Rattle.steps.specs.declared.place.Kind.TheVariants.{Zero, Gain}
use Rattle.steps.specs.Error.{error_number}
use Rattle.steps.specs.Verdict.{zero_mean, is_dc, part, raw_verdict, gain_verdict}
use Rattle.jobs.specs.declared.bench.Bench.{Bench}
use Rattle.jobs.specs.declared.bench.Served.{Served}
use Rattle.jobs.specs.With.{with_zx, with_zd, with_raw, with_ref, with_job, with_corrections, with_zeros, with_vgain}
use Rattle.jobs.specs.Bench.{unmarked, ended, next}

-- the job has ended so; the call gives no mark
abbrev pub ended_unmarked : ℕ → Bench → Served
ended_unmarked res t = unmarked (ended res t)

-- ---- the zero job

-- a mean of steps 0 to 5, and of steps 6 to 11, is kept with the job
abbrev pub zx_noted : ℤ → Bench → Bench
zx_noted z t = with_job t (with_zx t.job (set t.job.job_zx t.job.job_step z))

abbrev pub zd_noted : ℤ → Bench → Bench
zd_noted z t = with_job t (with_zd t.job (set t.job.job_zd (t.job.job_step - 6) z))

-- "the 13 means .. become the zeros": the twelve kept with the job and the last, with the mark
abbrev pub zeros_stored : ℤ → Bench → Bench
zeros_stored z t = with_corrections t (with_zeros t.corrections t.job.job_zx t.job.job_zd z true)

unfoldable pub zero_done : ℕ → ℤ → Bench → Served
zero_done now z t =
    if ltb t.job.job_step 6 then next now (zx_noted z t)
    else if ltb t.job.job_step 12 then next now (zd_noted z t)
    else ended_unmarked jr_ok (zeros_stored z t)

-- ---- the gain job

-- `step / 2`: the round, 0 or 1
abbrev pub round_of : Bench → ℕ
round_of t = at_most 1 (t.job.job_step / 2)

abbrev pub by_raw : ℕ → Result (Unit {0}) JobError → Bench → Served
by_raw now (Ok x) t = next now t
by_raw now (Err e) t = ended_unmarked (error_number e) t

-- the kind, and the part that counts as `job_raw` of the round
abbrev pub raw_noted : Bool → Float → Float → Bench → Bench
raw_noted dc a b t = with_job t (with_raw t.job dc (set t.job.job_raw (round_of t) (part dc a b)))

-- a raw step: both are noted whatever the verdict
unfoldable pub raw_done : ℕ → Bool → Float → Float → Bench → Served
raw_done now dc a b t = by_raw now (raw_verdict dc t.ranges.vr a b) (raw_noted dc a b t)

-- "or the half sum the gain of the range that the source gives the job": `vgain[r] = g`
abbrev pub gain_stored : Float → Bench → Bench
gain_stored g t = with_corrections t (with_vgain t.corrections (set t.corrections.vgain (at_most 3 t.ranges.vr) g))

abbrev pub by_gain : Result Float JobError → Bench → Served
by_gain (Ok g) t = ended_unmarked jr_ok (gain_stored g t)
by_gain (Err e) t = ended_unmarked (error_number e) t

abbrev pub ref_noted : Float → Bench → Bench
ref_noted a t = with_job t (with_ref t.job (set t.job.job_ref (round_of t) a))

-- the verdict on both rounds
abbrev pub verdict_in : Bench → Result Float JobError
verdict_in t = gain_verdict (get_or t.job.job_raw 0 nan) (get_or t.job.job_ref 0 nan) (get_or t.job.job_raw 1 nan) (get_or t.job.job_ref 1 nan)

unfoldable pub judged : Bench → Served
judged t = by_gain (verdict_in t) t

-- a reference step; step 3 is the last
unfoldable pub ref_done : ℕ → Float → Bench → Served
ref_done now a t = if ltb t.job.job_step 3 then next now (ref_noted a t) else judged (ref_noted a t)

-- "step 0 fixes DC or AC"
unfoldable pub gain_done : ℕ → Float → Float → Bench → Served
gain_done now a b t =
    if eqb (t.job.job_step % 2) 0 then raw_done now (if eqb t.job.job_step 0 then is_dc a b else t.job.job_dc) a b t
    else ref_done now a t

-- the means a of the main values and b of the second ones
abbrev pub step_done : ℕ → Kind → Float → Float → Bench → Served
step_done now Zero a b t = zero_done now (zero_mean a) t
step_done now Gain a b t = gain_done now a b t
