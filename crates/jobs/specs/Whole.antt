-- The jobs on a whole meter.
use Rattle.std.specs.Prelude.{ℕ}
use Rattle.codes.specs.declared.Codes.{Codes}
use Rattle.state.specs.declared.PhaseCal.{PhaseCal}
use Rattle.state.specs.declared.Pw.{Pw}
use Rattle.phase.specs.Phase.{cal_off}
use Rattle.steps.specs.declared.place.Kind.{Kind}
use Rattle.jobs.specs.declared.bench.Bench.{Bench}
use Rattle.jobs.specs.declared.whole.Started.{Started}
use Rattle.jobs.specs.declared.whole.Polled.{Polled}
use Rattle.jobs.specs.With.{with_job}
use Rattle.jobs.specs.Bench.{ended_if_any, begun, turned_away}
use Rattle.jobs.specs.Frame.{job_frame}

-- the part of a meter that a job works on
unfoldable pub bench_in : Pw → Bench
bench_in m = record { mode = m.mode; ranges = m.ranges; cycle = m.cycle; corrections = m.corrections; job = m.job }

-- the meter with that changed, with this phase calibration, and at this time of the last frame. All else stays: description and words, `barred`, parts, powers, tally, the clock's last time and run, `over_t0`, settings, comparator and ring
abbrev pub put_together : Pw → Bench → PhaseCal → ℕ → Pw
put_together m b phase poll =
    record m {
      mode = b.mode;
      ranges = b.ranges;
      cycle = b.cycle;
      clock = record m.clock { t_poll = poll };
      phase_cal = phase;
      corrections = b.corrections;
      job = b.job;
    }

unfoldable pub with_bench : Pw → Bench → Pw
with_bench m b = put_together m b m.phase_cal m.clock.t_poll

-- a job's start, once it is not refused. "A job start sets `cal` to 0 and leaves `sph` as it is"
unfoldable pub job_started : Pw → Kind → ℕ → Started
job_started m k now =
    let s = begun now k (bench_in m) in
    record { pw = put_together m s.bench (cal_off m.phase_cal) m.clock.t_poll; mark = s.mark }

-- a job's start that is refused with 3
unfoldable pub job_turned_away : Pw → Kind → Pw
job_turned_away m k = with_bench m (with_job (bench_in m) (turned_away k m.job))

-- a job's end by an order; where none runs nothing changes
unfoldable pub job_ended : Pw → ℕ → Pw
job_ended m res = with_bench m (ended_if_any res (bench_in m))

-- a frame in a job. "`t_poll` is the frame's time"; a frame that is not ready "changes only `t_poll`". The count is that of the ready frames used, this one too if it is ready. Module 7 calls it only while a job runs; where none does it is a gain job's frame
unfoldable pub job_polled : Pw → ℕ → ℕ → Codes → Polled
job_polled m now flags f =
    let s = job_frame now m.calibration flags f (bench_in m) in
    record { pw = put_together m s.bench m.phase_cal now; mark = s.mark; used = s.bench.job.used }
