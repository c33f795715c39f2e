-- `pw_account` of the source. Document 01: "an accounted frame then counts zero elapsed and its time becomes the last (none while stopped)", of a job, "The next accounted frame after it counts the whole gap at the last power"; refusal 6, full, is the accounting step's.
use Rattle.std.specs.Prelude.{Bool, not, ◌&&◌, if◌then◌else◌, ℕ, Float, pos, Result, Ok, Err}
use Rattle.std.specs.Float.{binary32}
use Rattle.std.specs.Float.Ieee.{lt, of_bits}
use Rattle.numbers.specs.Binary32.{zero_f, is_finite, ◌*f◌}
use Rattle.refusals.specs.declared.Refusal.{Refusal}
use Rattle.figures.specs.declared.load.Figures.{Figures}
use Rattle.figures.specs.declared.tally.Tally.{Tally}
use Rattle.figures.specs.declared.tally.Counted.{Counted}
use Rattle.figures.specs.Tally.{accounting_step}
use Rattle.state.specs.declared.Powers.{Powers}
use Rattle.state.specs.declared.Pw.{Pw}
use Rattle.state.specs.declared.Stamp.{Stamp}
use Rattle.state.specs.Fresh.{no_time, at_time}
use Rattle.state.specs.Counting.{elapsed}
use Rattle.phase.specs.Phase.{cal_accounted}
use Rattle.values.specs.Methods.{alternating}

-- `if run { if let Some(t) = t_last { .. } }`: the interval from the last accounted frame, at `p_tot` and `s_last`; the active energy counts where `!alt || dc`
unfoldable pub counted : Pw → ℕ → Result Counted Refusal
counted m now =
    if m.clock.run && m.clock.t_last.set then accounting_step m.tally (elapsed now m.clock.t_last.at) m.powers.p_tot m.powers.s_last (not (alternating m.mode))
    else Ok (record { tally = m.tally; gained = pos 0 })

-- `t_last = Some(now)`, and `None` while stopped
unfoldable pub last_time : Bool → ℕ → Stamp
last_time run now = if run then at_time now else no_time

-- `if x.is_finite() { x } else { 0.0 }`
unfoldable pub finite_or_zero : Float → Float
finite_or_zero x = if is_finite x then x else zero_f

unfoldable pub powers_of : Figures → Powers
powers_of load = record { p_tot = finite_or_zero load.p; s_last = finite_or_zero load.s }

abbrev pub ninety_five : Float
ninety_five = of_bits binary32 0x3f73_3333  -- 0.95

-- `if i > i_cont { if over_t0.is_none() { over_t0 = Some(now) } } else if i < 0.95 * i_cont { over_t0 = None }`
unfoldable pub over_since : Stamp → Float → Float → ℕ → Stamp
over_since since i iCont now =
    if lt iCont i then (if since.set then since else at_time now)
    else if lt i (ninety_five *f iCont) then no_time
    else since

-- what is left where the interval is counted. All else stays: description and words, mode but for `cal_req`, ranges, barred, cycle, parts, run and the last frame's time, settings, corrections, job, comparator and ring
abbrev pub accounted_to : Pw → Tally → Figures → ℕ → Pw
accounted_to m t load now =
    let c = cal_accounted m.phase_cal m.mode.cal_req in
    record {
      description = m.description;
      calibration = m.calibration;
      mode = record { on = m.mode.on; alt = m.mode.alt; coup = m.mode.coup; dc = m.mode.dc; cal_req = c.cal_req };
      ranges = m.ranges;
      barred = m.barred;
      cycle = m.cycle;
      parts = m.parts;
      powers = powers_of load;
      tally = t;
      clock = record { run = m.clock.run; t_last = last_time m.clock.run now; t_poll = m.clock.t_poll };
      over_t0 = over_since m.over_t0 load.i m.settings.i_cont now;
      settings = m.settings;
      phase_cal = c.phase_cal;
      corrections = m.corrections;
      job = m.job;
      comparator = m.comparator;
      ring = m.ring;
    }

-- the meter after it; or full, of which no meter comes
abbrev pub account_by : Pw → Figures → ℕ → Result Counted Refusal → Result Pw Refusal
account_by m load now (Ok c) = Ok (accounted_to m c.tally load now)
account_by m load now (Err r) = Err r

-- `load`: of the values before the accounting, the source's `pv`
unfoldable pub account : Pw → Figures → ℕ → Result Pw Refusal
account m load now = account_by m load now (counted m now)
