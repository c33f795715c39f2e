-- The frame call: `poll_power` of the source, between document 01's refusals. "Order: .. 5, 4, 1, 2, 3, and 6 last": of these a frame has 5, 4, 1 and 6.
use Rattle.std.specs.Prelude.{Bool, not, if◌then◌else◌, List, ℕ, eqb, Option, None, Some, Result, Ok, Err}
use Rattle.refusals.specs.declared.Refusal.{Refusal}
use Rattle.refusals.specs.declared.Refusal.TheVariants as refusal
use Rattle.codes.specs.declared.Codes.{Codes}
use Rattle.codes.specs.declared.Frame.{Frame}
use Rattle.codes.specs.Frame.{decoded}
use Rattle.state.specs.declared.Pw.{Pw}
use Rattle.paths.specs.Frame as path
use Rattle.paths.specs.Whole.{setup_in, measuring_in, with_outcome}
use Rattle.jobs.specs.declared.whole.Polled.{Polled}
use Rattle.jobs.specs.Whole.{job_polled}
use Rattle.values.specs.declared.power_vals.PowerVals.{PowerVals}
use Rattle.values.specs.Vals.{pw_vals}
use Rattle.readouts.specs.Readings.{reading_vals}
use Rattle.accounting.specs.Account.{account}
use Rattle.orders.specs.declared.answer.Reading.{Reading}
use Rattle.orders.specs.declared.answer.Step.{Step}
use Rattle.orders.specs.Answer.{late, refused_with, marked}

-- `pw_reading` of what `pw_vals` answers
abbrev pub reading_by : Option PowerVals → Option Reading
reading_by (Some v) = Some (record { readouts = reading_vals v; vals = v })
reading_by None = None

unfoldable pub reading_of : Pw → Option Reading
reading_of m = reading_by (pw_vals m)

-- an accepted frame: the meter after it, its mark (the deadline, where there is one), the count of ready frames, and its reading
abbrev pub frame_done : Pw → Option ℕ → ℕ → Option Reading → Step
frame_done m mark used reading = record { pw = m; answer = Ok (record { mark = mark; used = used; reading = reading }) }

abbrev pub accounted_step : Pw → Option ℕ → Step
accounted_step m mark = frame_done m mark 0 (reading_of m)

-- `pw_account(now, &pv)`, then the reading of the values after it. Number 6: "whole frame undone", so the meter is `before`, as it was when the frame came
abbrev pub read_to : Pw → Option ℕ → Result Pw Refusal → Step
read_to before mark (Ok n) = accounted_step n mark
read_to before mark (Err r) = refused_with r before

unfoldable pub read : Pw → Pw → PowerVals → ℕ → Option ℕ → Step
read before after v t mark = read_to before mark (account after v.load t)

-- `let pv = self.pw_vals()?`: where there are no values nothing is accounted
abbrev pub valued_by : Pw → Pw → ℕ → Option ℕ → Option PowerVals → Step
valued_by before after t mark (Some v) = read before after v t mark
valued_by before after t mark None = marked after mark

unfoldable pub valued : Pw → Pw → ℕ → Option ℕ → Step
valued before after t mark = valued_by before after t mark (pw_vals after)

-- "`t_poll` is the frame's time"
abbrev pub with_poll : Pw → ℕ → Pw
with_poll m t = record m { clock = record m.clock { t_poll = t } }

-- what a frame outside a job leaves up to its values, its mark, and whether the source goes on to `pw_vals`
pub record PathEnd : Type 0 where
  pub pw : Pw
  pub mark : Option ℕ
  pub to_values : Bool

-- a frame that comes at the time t
abbrev pub frame_at : ℕ → ℕ → Codes → Frame
frame_at t flags codes = record { flags = flags; codes = codes; now = t }

-- a frame outside a job, by its path, up to its values
unfoldable pub framed : Pw → ℕ → ℕ → Codes → PathEnd
framed m t flags codes =
    let f = frame_at t flags codes in
    let o = path.frame (setup_in m) f (measuring_in m) in
    record { pw = with_poll (with_outcome m f o) t; mark = o.mark; to_values = o.to_values }

-- then its values, where the path goes on to them
abbrev pub measured_by : Pw → ℕ → PathEnd → Step
measured_by m t f = if f.to_values then valued m f.pw t f.mark else marked f.pw f.mark

unfoldable pub measured : Pw → ℕ → ℕ → Codes → Step
measured m t flags codes = measured_by m t (framed m t flags codes)

-- "The answer reports how many ready frames the job has used", and a job's frame has no reading
abbrev pub polled_step : Polled → Step
polled_step p = frame_done p.pw p.mark p.used None

unfoldable pub in_job : Pw → ℕ → ℕ → Codes → Step
in_job m t flags codes = polled_step (job_polled m t flags codes)

-- number 1: "frame .. while not on"; `if job != 0 { return pw_job_poll }`
unfoldable pub taken : Pw → ℕ → ℕ → Codes → Step
taken m t flags codes =
    if not m.mode.on then refused_with refusal.Off m
    else if not (eqb m.job.job 0) then in_job m t flags codes
    else measured m t flags codes

-- number 4: "frame not 14 bytes"
abbrev pub poll_by : Pw → ℕ → ℕ → Result Codes Refusal → Step
poll_by m t flags (Ok codes) = taken m t flags codes
poll_by m t flags (Err n) = refused_with n m

-- number 5: "time of 2^48 ms or more"
unfoldable pub poll : Pw → ℕ → ℕ → List ℕ → Step
poll m t flags bytes = if late t then refused_with refusal.Late m else poll_by m t flags (decoded bytes)
