-- Every call that may change a meter, what one leaves and answers, and what a list of them leaves. Calls that only read are not here. Document 01: "each call gets the meter as the last one left it".
use Rattle.std.specs.Prelude.{Bool, true, false, List, [], ◌∷◌, ℕ, Option, Some, None}
use Rattle.state.specs.declared.Pw.{Pw}
use Rattle.state.specs.declared.Settings.{Settings}
use Rattle.steps.specs.declared.place.Kind.{Kind}
use Rattle.steps.specs.declared.place.Kind.TheVariants.{Zero, Gain}
use Rattle.orders.specs.declared.answer.Step.{Step}
use Rattle.orders.specs.declared.ranges.Ask.{Ask}
use Rattle.orders.specs.Switches as switches
use Rattle.orders.specs.Ranges.{set_ranges}
use Rattle.orders.specs.Starts as starts
use Rattle.orders.specs.Starts.{start_job, energy_reset, set_run, set_settings}
use Rattle.meter.specs.Frame.{poll}

-- "All but phase start, energy reset, run and settings carry a time": the first number of each. The second of `Coupling` is the coupling asked for, that of `Frame` the flags, before its bytes
pub data Call : Type 0 where
  On : ℕ → Call
  Off : ℕ → Call
  Method : ℕ → Bool → Call
  SetRanges : ℕ → Ask → Ask → Call
  Coupling : ℕ → ℕ → Call
  ZeroJob : ℕ → Call
  GainJob : ℕ → Call
  PhaseStart : Call
  EnergyReset : Call
  Run : Bool → Call
  Reapply : ℕ → Call
  SetSettings : Settings → Call
  Frame : ℕ → ℕ → List ℕ → Call

-- the calls, as the table's column "When" names them: a frame with its time, flags and bytes, a job start with the kind of job
pub data Named : Type 0 where
  frame : ℕ → ℕ → List ℕ → Named
  job_start : Kind → Named
  phase_start : Named
  reapply : Named
  another : Named

-- all that the table and the book ask of a call
pub record About : Type 0 where
  -- "All but phase start, energy reset, run and settings carry a time"
  pub time : Option ℕ
  pub named : Named
  -- "first end a job with `JR_ABORT`"
  pub ends_job : Bool

abbrev pub ending : ℕ → About
ending t = record { time = Some t; named = another; ends_job = true }

abbrev pub timed : ℕ → Named → About
timed t n = record { time = Some t; named = n; ends_job = false }

abbrev pub timeless : Named → About
timeless n = record { time = None; named = n; ends_job = false }

abbrev pub about : Call → About
about (On t) = ending t
about (Off t) = ending t
about (Method t alt) = ending t
about (SetRanges t v i) = ending t
about (Coupling t asked) = ending t
about (ZeroJob t) = timed t (job_start Zero)
about (GainJob t) = timed t (job_start Gain)
about PhaseStart = timeless phase_start
about EnergyReset = timeless another
about (Run b) = timeless another
about (Reapply t) = timed t reapply
about (SetSettings s) = timeless another
about (Frame t flags bytes) = timed t (frame t flags bytes)

abbrev pub step : Pw → Call → Step
step m (On t) = switches.on m t
step m (Off t) = switches.off m t
step m (Method t alt) = switches.method m t alt
step m (SetRanges t v i) = set_ranges m t v i
step m (Coupling t asked) = switches.coupling m t asked
step m (ZeroJob t) = start_job m t Zero
step m (GainJob t) = start_job m t Gain
step m PhaseStart = starts.phase_start m
step m EnergyReset = energy_reset m
step m (Run b) = set_run m b
step m (Reapply t) = switches.reapply m t
step m (SetSettings s) = set_settings m s
step m (Frame t flags bytes) = poll m t flags bytes

-- the meter after the list
abbrev pub after : Pw → List Call → Pw
after m [] = m
after m (c ∷ cs) = after (step m c).pw cs
