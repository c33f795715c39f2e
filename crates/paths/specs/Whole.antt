-- The parts of a whole meter that the path of a frame outside a job reads, and those that it may change.
use Rattle.codes.specs.declared.Frame.{Frame}
use Rattle.state.specs.declared.Pw.{Pw}
use Rattle.state.specs.declared.Ring.{Ring}
use Rattle.takes.specs.declared.scales.Instrument.{Instrument}
use Rattle.paths.specs.declared.measuring.Setup.{Setup}
use Rattle.paths.specs.declared.measuring.Measuring.{Measuring}
use Rattle.paths.specs.declared.measuring.Outcome.{Outcome}
use Rattle.paths.specs.Ring.{ring_after}

unfoldable pub instrument_in : Pw → Instrument
instrument_in m = record { description = m.description; calibration = m.calibration; corrections = m.corrections }

unfoldable pub setup_in : Pw → Setup
setup_in m = record { with = instrument_in m; mode = m.mode }

unfoldable pub measuring_in : Pw → Measuring
measuring_in m =
    record {
      ranges = m.ranges;
      barred = m.barred;
      cycle = m.cycle;
      parts = m.parts;
      phase_cal = m.phase_cal;
      comparator = m.comparator;
    }

-- all else stays: description and words, mode, powers, tally, clock, `over_t0`, settings, corrections and job. `t_poll` is set by the frame call, after this (meter/specs/Frame.antt)
unfoldable pub with_measuring : Pw → Measuring → Ring → Pw
with_measuring m x r =
    record m {
      ranges = x.ranges;
      barred = x.barred;
      cycle = x.cycle;
      parts = x.parts;
      phase_cal = x.phase_cal;
      comparator = x.comparator;
      ring = r;
    }

-- the meter after a path that came to o, with what the ring notes; `t_poll` and the accounting come after it
abbrev pub with_outcome : Pw → Frame → Outcome → Pw
with_outcome m f o = with_measuring m o.measuring (ring_after m.ring m.mode m.cycle f o.ad1_taken)
