-- What the path of a frame outside a job may change, up to `pw_vals`, and what it answers: rule 1 of docs/ARCHITECTURE.md. It also reads its setup: the description, the words, the corrections and the mode; nothing else of the meter is handed to it. What the ring notes follows from the frame and what it answers (specs/Ring.antt).
use Rattle.std.specs.Prelude.{true, false, ℕ, ◌-◌, Option, Some, None}
use Rattle.state.specs.declared.Comparator.{Comparator}
use Rattle.state.specs.declared.Cycle.{Cycle}
use Rattle.takes.specs.declared.take.Measured.{Measured}
use Rattle.ranging.specs.declared.autorange.Ranging.{Ranging}
use Rattle.ranging.specs.declared.autorange.Ranged.{Ranged}
use Rattle.ranging.specs.declared.autorange.Channel.{Channel}
use Rattle.ranging.specs.Autorange as ranging
use Rattle.paths.specs.declared.measuring.Setup.{Setup}
use Rattle.paths.specs.declared.measuring.Measuring.{Measuring}
use Rattle.paths.specs.declared.measuring.Outcome.{Outcome}

-- the frame ends here: no mark, and no values
unfoldable pub ends : Measuring → Outcome
ends m = record { measuring = m; mark = None; to_values = false; ad1_taken = false }

-- the source goes on to `pw_vals`, and where that answers values to `pw_account`
unfoldable pub goes_on : Measuring → Outcome
goes_on m = record { measuring = m; mark = None; to_values = true; ad1_taken = false }

-- ---- one field replaced

abbrev pub with_seen : Cycle → ℕ → Cycle
with_seen c seen = record c { seen = seen }

abbrev pub with_skip : Cycle → ℕ → Cycle
with_skip c skip = record c { skip = skip }

abbrev pub with_skip_y : Cycle → ℕ → Cycle
with_skip_y c skipY = record c { skip_y = skipY }

abbrev pub with_taken : Cycle → ℕ → Cycle
with_taken c taken = record c { taken = taken }

abbrev pub with_cycle : Measuring → Cycle → Measuring
with_cycle m c =
    record m { cycle = c }

abbrev pub with_comparator : Measuring → Comparator → Measuring
with_comparator m k =
    record m { comparator = k }

-- a dropped result: the frame ends, with one less to drop
unfoldable pub drops : Measuring → Outcome
drops m = ends (with_cycle m (with_skip m.cycle (m.cycle.skip - 1)))

-- an AD1 result was taken
abbrev pub with_ad1 : Outcome → Outcome
with_ad1 o = record o { ad1_taken = true }

-- ---- what the takes may change

unfoldable pub measured_in : Measuring → Measured
measured_in m = record { parts = m.parts; seen = m.cycle.seen; phase_cal = m.phase_cal }

unfoldable pub with_measured : Measuring → Measured → Measuring
with_measured m t =
    record m {
      cycle = with_seen m.cycle t.seen;
      parts = t.parts;
      phase_cal = t.phase_cal;
    }

-- ---- what an autorange may change

unfoldable pub ranging_in : Measuring → Ranging
ranging_in m = record { ranges = m.ranges; barred = m.barred; cycle = m.cycle; comparator = m.comparator }

-- `pw_autorange(clk, v)`, v where it is the voltage's
unfoldable pub autorange : Setup → Channel → ℕ → Measuring → Option Ranged
autorange s channel now m = ranging.autorange channel s.with.description s.mode m.parts (ranging_in m) now

-- a range was applied: its mark, and no values
unfoldable pub ranged_to : Measuring → Ranged → Outcome
ranged_to m r =
    record {
      measuring = record {
        ranges = r.ranging.ranges;
        barred = r.ranging.barred;
        cycle = r.ranging.cycle;
        parts = m.parts;
        phase_cal = m.phase_cal;
        comparator = r.ranging.comparator;
      };
      mark = Some r.deadline;
      to_values = false;
      ad1_taken = false;
    }

-- a range that was applied ends the frame
abbrev pub unless_ranged : Measuring → Outcome → Option Ranged → Outcome
unless_ranged m otherwise None = otherwise
unless_ranged m otherwise (Some r) = ranged_to m r
