-- The orders zero job and gain job (`pw_zero_start`, `pw_vcal_start`), phase start (`pw_cal_start`), energy reset (`energy_reset`), run and settings. Document 01: "The source's false from `pw_job_start` and `pw_cal_start` is our 1, 2 or 3"; the order is 5, 1, 2, 3.
use Rattle.std.specs.Prelude.{Bool, not, ◌||◌, if◌then◌else◌, ℕ, eqb, Result, Ok, Err}
use Rattle.refusals.specs.declared.Refusal.{Refusal}
use Rattle.refusals.specs.declared.Refusal.TheVariants as refusal
use Rattle.figures.specs.Tally.{fresh_tally}
use Rattle.state.specs.declared.Mode.{Mode}
use Rattle.state.specs.declared.Pw.{Pw}
use Rattle.state.specs.declared.Settings.{Settings}
use Rattle.state.specs.Fresh.{no_time}
use Rattle.steps.specs.declared.place.Kind.{Kind}
use Rattle.phase.specs.Phase.{cal_started}
use Rattle.jobs.specs.declared.whole.Started.{Started}
use Rattle.jobs.specs.Whole.{job_started, job_turned_away}
use Rattle.orders.specs.declared.answer.Step.{Step}
use Rattle.orders.specs.Answer.{late, refused_with, marked, done}
use Rattle.orders.specs.With.{with_run, with_t_last, with_tally, with_clock, with_settings, with_phase_cal}

abbrev pub started_step : Started → Step
started_step s = marked s.pw s.mark

-- whether a job may start: else the first refusal that holds. `job` is the running one's number, 0 where none runs
unfoldable pub start_tried : Mode → ℕ → ℕ → Result (Unit {0}) Refusal
start_tried mode job t =
    if late t then Err refusal.Late
    else if not mode.on then Err refusal.Off
    else if not (eqb job 0) then Err refusal.Busy
    else if mode.alt then Err refusal.Method
    else Ok tt

-- 1: "job start .. while not on"; 2: "job start .. while a job runs"; 3: "job start in alternating method", and that one "sets `job_last` and `JR_METHOD`, nothing else"
unfoldable pub start_job : Pw → ℕ → Kind → Step
start_job m t k =
    if late t then refused_with refusal.Late m
    else if not m.mode.on then refused_with refusal.Off m
    else if not (eqb m.job.job 0) then refused_with refusal.Busy m
    else if m.mode.alt then refused_with refusal.Method (job_turned_away m k)
    else started_step (job_started m k t)

-- 1: "phase start while not on"; 3: "phase start in alternating method or with `dc`". It carries no time, and a job does not refuse it
unfoldable pub phase_start : Pw → Step
phase_start m =
    if not m.mode.on then refused_with refusal.Off m
    else if m.mode.alt || m.mode.dc then refused_with refusal.Method m
    else done (with_phase_cal m (cal_started m.phase_cal))

-- `e = ZERO; va = ZERO; t_int = 0; t_last = None`, on or off, in a job too
unfoldable pub energy_reset : Pw → Step
energy_reset m = done (with_tally m fresh_tally (with_t_last m.clock no_time))

-- only `run`
unfoldable pub set_run : Pw → Bool → Step
set_run m b = done (with_clock m (with_run m.clock b))

-- "settings (`comp`, `r_path`, `i_cont`, `t_lim`, `main`, any bits)": these five, on or off, in a job too. It carries no time, and nothing refuses it
unfoldable pub set_settings : Pw → Settings → Step
set_settings m s = done (with_settings m s)
