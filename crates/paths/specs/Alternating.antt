-- The alternating method after a result was taken: `poll_power` of the source from `taken` on, where `alt` is true.
use Rattle.std.specs.Prelude.{true, false, if◌then◌else◌, ℕ, ◌%◌, ltb, eqb, Some}
use Rattle.tables.specs.Constants.{alt_n}
use Rattle.state.specs.Counting.{count_up}
use Rattle.ranging.specs.declared.autorange.Channel.{Channel}
use Rattle.ranging.specs.declared.autorange.Channel.TheVariants.{Voltage, Current}
use Rattle.ranging.specs.Cycle.{alt_switch}
use Rattle.paths.specs.declared.measuring.Setup.{Setup}
use Rattle.paths.specs.declared.measuring.Measuring.{Measuring}
use Rattle.paths.specs.declared.measuring.Outcome.{Outcome}
use Rattle.paths.specs.Measuring.{goes_on, with_taken, with_cycle, autorange, unless_ranged}

-- the other row, with its mark; the frame goes on to the values as well
unfoldable pub switched : ℕ → Measuring → Outcome
switched now m =
    record {
      measuring = with_cycle m (alt_switch m.cycle now).cycle;
      mark = Some (alt_switch m.cycle now).deadline;
      to_values = true;
      ad1_taken = false;
    }

-- an even phase is the voltage's
abbrev pub channel_in : ℕ → Channel
channel_in phase = if eqb (phase % 2) 0 then Voltage else Current

-- the phase has its results
unfoldable pub alt_phase_done : Setup → ℕ → Measuring → Outcome
alt_phase_done s now m = unless_ranged m (switched now m) (autorange s (channel_in m.cycle.phase) now m)

-- `taken += 1; if taken >= ALT_N`
unfoldable pub alt_next : Setup → ℕ → Measuring → Outcome
alt_next s now m =
    let n = count_up m.cycle.taken in
    let counted = with_cycle m (with_taken m.cycle n) in
    if ltb n alt_n then goes_on counted else alt_phase_done s now counted
