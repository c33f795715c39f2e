-- A frame outside a job: `poll_power` of the source without its job, its ring (specs/Ring.antt) and its frequency counter, up to `pw_vals` and `pw_account`.
use Rattle.std.specs.Prelude.{if◌then◌else◌, ℕ, ltb, Option, Some, None}
use Rattle.codes.specs.declared.Codes.{Codes}
use Rattle.codes.specs.declared.Frame.{Frame}
use Rattle.codes.specs.Flags.{holds_rms_lpf}
use Rattle.takes.specs.declared.take.Measured.{Measured}
use Rattle.takes.specs.Take.{take, take_alt}
use Rattle.paths.specs.declared.measuring.Setup.{Setup}
use Rattle.paths.specs.declared.measuring.Measuring.{Measuring}
use Rattle.paths.specs.declared.measuring.Outcome.{Outcome}
use Rattle.paths.specs.Measuring.{ends, drops, measured_in, with_measured}
use Rattle.paths.specs.MethodB.{b_next}
use Rattle.paths.specs.Alternating.{alt_next}
use Rattle.paths.specs.Dc.{dc_frame}

-- `if alt { pw_take_alt(rms, lpf) } else { pw_take(stat, rms, lpf) }`
unfoldable pub take_by : Setup → Codes → Measuring → Option Measured
take_by s codes m =
    if s.mode.alt then take_alt s.with m.ranges m.cycle.phase codes (measured_in m) else take s.with m.ranges m.cycle.stat codes (measured_in m)

-- after a result was taken
unfoldable pub next_by : Setup → ℕ → Measuring → Outcome
next_by s now m = if s.mode.alt then alt_next s now m else b_next s now m

-- a result turned down ends the frame, and nothing changes
abbrev pub taken_by : Setup → ℕ → Measuring → Option Measured → Outcome
taken_by s now m None = ends m
taken_by s now m (Some t) = next_by s now (with_measured m t)

-- RMS and LPF being ready. `disc = skip > 0`: of a dropped result there is only the count here
unfoldable pub method_frame : Setup → Frame → Measuring → Outcome
method_frame s f m = if ltb 0 m.cycle.skip then drops m else taken_by s f.now m (take_by s f.codes m)

-- DC coupling comes before the method; both methods need RMS and LPF
unfoldable pub frame : Setup → Frame → Measuring → Outcome
frame s f m = if s.mode.dc then dc_frame s f m else if holds_rms_lpf f.flags then method_frame s f m else ends m
