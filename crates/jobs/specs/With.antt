-- A record with some of its fields replaced, those that its line of comment names.
use Rattle.std.specs.Prelude.{Bool, List, ℕ, ℤ, Float}
use Rattle.state.specs.declared.Mode.{Mode}
use Rattle.state.specs.declared.Cycle.{Cycle}
use Rattle.state.specs.declared.Corrections.{Corrections}
use Rattle.state.specs.declared.Job.{Job}
use Rattle.jobs.specs.declared.bench.Bench.{Bench}

-- job, which becomes 0, job_res
abbrev pub with_end : Job → ℕ → Job
with_end j res = record j { job = 0; job_res = res }

-- job_step, job_n, job_a, job_b
abbrev pub with_step : Job → ℕ → ℕ → Float → Float → Job
with_step j s n a b = record j { job_step = s; job_n = n; job_a = a; job_b = b }

-- job_n, job_a, job_b
abbrev pub with_sums : Job → ℕ → Float → Float → Job
with_sums j n a b = record j { job_n = n; job_a = a; job_b = b }

-- job_last, job_res
abbrev pub with_last : Job → ℕ → ℕ → Job
with_last j a b = record j { job_res = b; job_last = a }

-- job_zx
abbrev pub with_zx : Job → List ℤ → Job
with_zx j v = record j { job_zx = v }

-- job_zd
abbrev pub with_zd : Job → List ℤ → Job
with_zd j v = record j { job_zd = v }

-- job_dc, job_raw
abbrev pub with_raw : Job → Bool → List Float → Job
with_raw j d v = record j { job_dc = d; job_raw = v }

-- job_ref
abbrev pub with_ref : Job → List Float → Job
with_ref j v = record j { job_ref = v }

-- used
abbrev pub with_used : Job → ℕ → Job
with_used j v = record j { used = v }

-- job
abbrev pub with_job : Bench → Job → Bench
with_job b v = record b { job = v }

-- cycle
abbrev pub with_cycle : Bench → Cycle → Bench
with_cycle b v = record b { cycle = v }

-- corrections
abbrev pub with_corrections : Bench → Corrections → Bench
with_corrections b v = record b { corrections = v }

-- cal_req
abbrev pub with_cal_req : Mode → Bool → Mode
with_cal_req m v = record m { cal_req = v }

-- skip
abbrev pub with_skip : Cycle → ℕ → Cycle
with_skip c k = record c { skip = k }

-- skip, stat
abbrev pub with_row : Cycle → ℕ → ℕ → Cycle
with_row c k s = record c { skip = k; stat = s }

-- zx, zd, zy, zero_ok
abbrev pub with_zeros : Corrections → List ℤ → List ℤ → ℤ → Bool → Corrections
with_zeros c x d y k = record c { zx = x; zd = d; zy = y; zero_ok = k }

-- vgain
abbrev pub with_vgain : Corrections → List Float → Corrections
with_vgain c v = record c { vgain = v }
