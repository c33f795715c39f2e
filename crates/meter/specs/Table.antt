-- Document 01's table "What the meter says back", rows 0 to 6, columns "When" and "Leaves" (7 and 8 are `make`'s), and its order: "otherwise 5, 4, 1, 2, 3, and 6 last". proofs/Table.antt has it of `step`, for every meter and every call: `refused_as`, `leaves` and `told_alone`.
use Rattle.std.specs.Prelude.{Bool, false, not, ◌&&◌, ◌||◌, if◌then◌else◌, ℕ, eqb, length, Option, None, Some, Result, Err}
use Rattle.refusals.specs.declared.Refusal.{Refusal}
use Rattle.refusals.specs.declared.Refusal.TheVariants as refusal
use Rattle.codes.specs.Frame.{codes_of}
use Rattle.figures.specs.Full.{interval_full}
use Rattle.state.specs.declared.Pw.{Pw}
use Rattle.state.specs.Counting.{elapsed}
use Rattle.jobs.specs.Whole.{job_turned_away}
use Rattle.values.specs.declared.power_vals.PowerVals.{PowerVals}
use Rattle.values.specs.Methods.{alternating}
use Rattle.values.specs.Vals.{pw_vals}
use Rattle.orders.specs.declared.answer.Answer.{Answer}
use Rattle.orders.specs.Answer.{late}
use Rattle.meter.specs.Frame.{PathEnd, framed}
use Rattle.meter.specs.Calls.{Named, frame, job_start, phase_start, reapply, about, step, Call}

-- 1, off: "frame, job start or phase start while not on"
abbrev pub off_when : Pw → Named → Bool
off_when m (frame t flags bytes) = not m.mode.on
off_when m (job_start k) = not m.mode.on
off_when m phase_start = not m.mode.on
off_when m _ = false

-- 2, busy: "job start or re-apply while a job runs"
abbrev pub busy_when : Pw → Named → Bool
busy_when m (job_start k) = not (eqb m.job.job 0)
busy_when m reapply = not (eqb m.job.job 0)
busy_when m _ = false

-- 3, method: "job start in alternating method; phase start in alternating method or with `dc`"
abbrev pub method_when : Pw → Named → Bool
method_when m (job_start k) = m.mode.alt
method_when m phase_start = m.mode.alt || m.mode.dc
method_when m _ = false

-- 4, frame: "frame not 14 bytes"
abbrev pub frame_when : Named → Bool
frame_when (frame t flags bytes) = not (eqb (length bytes) 14)
frame_when _ = false

-- 5, late: "time of 2^48 ms or more", of a call that carries one
abbrev pub late_when : Option ℕ → Bool
late_when (Some t) = late t
late_when None = false

-- 6, full: "the accounting step would give" what cannot be kept, of the interval since the last accounted frame, while running
abbrev pub step_full : Pw → ℕ → Bool
step_full m now =
    (m.clock.run && m.clock.t_last.set)
    && interval_full m.tally (elapsed now m.clock.t_last.at) m.powers.p_tot m.powers.s_last (not (alternating m.mode))

-- a frame is accounted outside a job, where it gives values
abbrev pub full_by : Pw → ℕ → Option PowerVals → Bool
full_by after t (Some v) = step_full after t
full_by after t None = false

abbrev pub full_end : ℕ → PathEnd → Bool
full_end t f = f.to_values && full_by f.pw t (pw_vals f.pw)

abbrev pub full_when : Pw → Named → Bool
full_when m (frame t flags bytes) = eqb m.job.job 0 && full_end t (framed m t flags (codes_of bytes))
full_when m _ = false

-- the first that holds, in that order; none, and the call is done, where none does
abbrev pub refusal_of : Pw → Call → Option Refusal
refusal_of m c =
    let a = about c in
    if late_when a.time then Some refusal.Late
    else if frame_when a.named then Some refusal.Frame
    else if off_when m a.named then Some refusal.Off
    else if busy_when m a.named then Some refusal.Busy
    else if method_when m a.named then Some refusal.Method
    else if full_when m a.named then Some refusal.Full
    else None

-- with 3 "a job start sets `job_last` and `JR_METHOD`, nothing else; a phase start changes nothing"
abbrev pub turned_away : Pw → Named → Pw
turned_away m (job_start k) = job_turned_away m k
turned_away m _ = m

-- "Leaves": of an accepted call what it does, of one refused with 3 the above, and of any other all as before
abbrev pub left_by : Option Refusal → Pw → Call → Pw
left_by None m c = (step m c).pw
left_by (Some refusal.Method) m c = turned_away m (about c).named
left_by (Some _) m c = m

-- "A refused call returns its number alone: no reading, no mark to the host, a count of 0"
abbrev pub alone_by : Option Refusal → Result Answer Refusal → Result Answer Refusal
alone_by None a = a
alone_by (Some n) a = Err n
