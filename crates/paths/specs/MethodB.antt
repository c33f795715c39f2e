-- Method B after a result was taken: `poll_power` of the source from `st` on, where `alt` is false.
use Rattle.std.specs.Prelude.{if◌then◌else◌, ℕ, eqb}
use Rattle.tables.specs.Constants.{r34_xy, r34_yy}
use Rattle.takes.specs.declared.scales.Instrument.{Instrument}
use Rattle.ranging.specs.declared.autorange.Channel.{Channel}
use Rattle.ranging.specs.declared.autorange.Channel.TheVariants.{Voltage, Current}
use Rattle.ranging.specs.Cycle.{advance}
use Rattle.paths.specs.declared.measuring.Setup.{Setup}
use Rattle.paths.specs.declared.measuring.Measuring.{Measuring}
use Rattle.paths.specs.declared.measuring.Outcome.{Outcome}
use Rattle.paths.specs.Comparator.{cmp_select}
use Rattle.paths.specs.Measuring.{goes_on, with_cycle, with_comparator, autorange, unless_ranged}

abbrev pub advanced : Measuring → Measuring
advanced m = with_cycle m (advance m.cycle)

-- no range changed: `pw_cmp_select`, then the next phase
unfoldable pub b_unranged : Instrument → Measuring → Outcome
b_unranged w m = goes_on (advanced (with_comparator m (cmp_select w m.ranges m.cycle.seen m.parts m.comparator)))

-- `v = st == R34_YY`
abbrev pub channel_of : ℕ → Channel
channel_of stat = if eqb stat r34_yy then Voltage else Current

-- XY goes straight to the next phase, XX and YY may change a range first
unfoldable pub b_next : Setup → ℕ → Measuring → Outcome
b_next s now m =
    if eqb m.cycle.stat r34_xy then goes_on (advanced m)
    else unless_ranged m (b_unranged s.with m) (autorange s (channel_of m.cycle.stat) now m)
