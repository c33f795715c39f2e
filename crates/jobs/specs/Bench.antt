-- A job's beginning, the beginning of each of its steps, and its end: `pw_job_start`, `pw_job_step` and `pw_job_end` of the source, over the part of a meter that a job works on.
use Rattle.std.specs.Prelude.{if◌then◌else◌, ℕ, eqb, None, Some}
use Rattle.numbers.specs.Binary32.{zero_f}
use Rattle.tables.specs.Constants.{jr_run, jr_method}
use Rattle.state.specs.declared.Job.{Job}
use Rattle.state.specs.Counting.{deadline, count_up}
use Rattle.steps.specs.declared.place.Kind.{Kind}
use Rattle.steps.specs.declared.place.Place.{Place}
use Rattle.steps.specs.Place.{kind_number, kind_of, layout_of, place_of, drops_of, settle_of, stat_of, step_ranges}
use Rattle.jobs.specs.declared.bench.Bench.{Bench}
use Rattle.jobs.specs.declared.bench.Served.{Served}
use Rattle.jobs.specs.With.{with_end, with_step, with_last, with_job, with_cal_req, with_row}

-- the running job's kind, and what its step measures
unfoldable pub kind_in : Job → Kind
kind_in j = kind_of j.job

unfoldable pub place_in : Job → Place
place_in j = place_of (layout_of (kind_in j) j.job_dc) j.job_step

-- no mark to the host
abbrev pub unmarked : Bench → Served
unmarked b = record { bench = b; mark = None }

-- ---- the end

-- `pw_job_end` of a running job: `job = 0; job_res = res; (vr, ik, v_auto, i_auto) = job_save; cal_req = on`. No zero, no gain, and not `zero_ok`, changes
unfoldable pub ended : ℕ → Bench → Bench
ended res b =
    record b {
      mode = with_cal_req b.mode b.mode.on;
      ranges = b.job.job_save;
      job = with_end b.job res;
    }

-- `if job == 0 { return }`: where none runs, nothing changes
unfoldable pub ended_if_any : ℕ → Bench → Bench
ended_if_any res b = if eqb b.job.job 0 then b else ended res b

-- ---- a step's beginning

-- the job, at step s with nothing counted
abbrev pub at_step : ℕ → Job → Job
at_step s j = with_step j s 0 zero_f zero_f

-- `pw_job_step`: `job_n`, `job_a` and `job_b` cleared, the step's ranges, its drops, `stat`, and a mark. Document 01: "with the deadline (the call's time plus the source's settle)"
unfoldable pub step_at : ℕ → ℕ → Bench → Served
step_at now s b =
    let j = at_step s b.job in
    record {
      bench = record b {
        ranges = step_ranges (kind_in j) s b.ranges;
        cycle = with_row b.cycle (drops_of (place_in j)) (stat_of (place_in j));
        job = j;
      };
      mark = Some (deadline now (settle_of (place_in j)));
    }

-- `job_step += 1`, and its beginning
unfoldable pub next : ℕ → Bench → Served
next now b = step_at now (count_up b.job.job_step) b

-- ---- the beginning

-- "An accepted job start notes the job, and the ranges and automatic marks found": `pw_job_start`, whose `job_step = 0` is `step_at`'s and whose `cal = 0` is `job_started`'s. `job_dc`, `job_raw` and `job_ref` stay as an earlier job left them; no ready frame is used yet
abbrev pub noted : Kind → Bench → Job
noted k b =
    record b.job {
      job = kind_number k;
      job_zx = b.corrections.zx;
      job_zd = b.corrections.zd;
      job_save = b.ranges;
      job_res = jr_run;
      job_vr = b.ranges.vr;
      job_last = kind_number k;
      used = 0;
    }

unfoldable pub begun : ℕ → Kind → Bench → Served
begun now k b = step_at now 0 (with_job b (noted k b))

-- a start in the alternating method, refusal 3: "a job start sets `job_last` and `JR_METHOD`, nothing else"
unfoldable pub turned_away : Kind → Job → Job
turned_away k j = with_last j (kind_number k) jr_method
