-- A frame's reading by its two cases: a signal ends the job, another reading counts.
use mathlib.Core.Path.{◌≡◌, refl}
use mathlib.Core.Bool.{Bool, true, false, cond}
use Prim.Native.Nat.{ℕ}
use Rattle.std.specs.Prelude.{Ok, Err}
use Rattle.tables.specs.Constants.{jr_signal}
use Rattle.steps.specs.declared.error.JobError.TheVariants.{Signal}
use Rattle.steps.specs.declared.reading.Reading.{Reading}
use Rattle.jobs.specs.declared.bench.Bench.{Bench}
use Rattle.jobs.specs.Step.{ended_unmarked}
use Rattle.jobs.specs.Frame.{counted, by_reading}

pub by_signal : (now : ℕ) (sig : Bool) (r : Reading) (t : Bench) → by_reading now (cond sig (Err Signal) (Ok r)) t ≡ cond sig (ended_unmarked jr_signal t) (counted now r t)
by_signal now true r t = refl
by_signal now false r t = refl
