-- A meter, or a part of one, with some of its fields replaced; the others stay.
use Rattle.std.specs.Prelude.{Bool, ℕ}
use Rattle.figures.specs.declared.tally.Tally.{Tally}
use Rattle.state.specs.declared.Clock.{Clock}
use Rattle.state.specs.declared.Comparator.{Comparator}
use Rattle.state.specs.declared.Cycle.{Cycle}
use Rattle.state.specs.declared.Mode.{Mode}
use Rattle.state.specs.declared.PhaseCal.{PhaseCal}
use Rattle.state.specs.declared.Pw.{Pw}
use Rattle.state.specs.declared.Ranges.{Ranges}
use Rattle.state.specs.declared.Settings.{Settings}
use Rattle.state.specs.declared.Stamp.{Stamp}

abbrev pub with_on : Mode → Bool → Bool → Mode
with_on m on dc = record m { on = on; dc = dc }

abbrev pub with_alt : Mode → Bool → Mode
with_alt m alt = record m { alt = alt }

abbrev pub with_coup : Mode → ℕ → Bool → Mode
with_coup m coup dc = record m { coup = coup; dc = dc }

abbrev pub with_cal_req : Mode → Bool → Mode
with_cal_req m req = record m { cal_req = req }

abbrev pub with_run : Clock → Bool → Clock
with_run c run = record c { run = run }

abbrev pub with_t_last : Clock → Stamp → Clock
with_t_last c t = record c { t_last = t }

abbrev pub with_mode : Pw → Mode → Pw
with_mode m v = record m { mode = v }

abbrev pub with_ranges : Pw → Ranges → ℕ → Pw
with_ranges m v b = record m { ranges = v; barred = b }

abbrev pub with_applied : Pw → Cycle → Comparator → Pw
with_applied m c v = record m { cycle = c; comparator = v }

abbrev pub with_tally : Pw → Tally → Clock → Pw
with_tally m t c = record m { tally = t; clock = c }

abbrev pub with_clock : Pw → Clock → Pw
with_clock m c = record m { clock = c }

abbrev pub with_phase_cal : Pw → PhaseCal → Pw
with_phase_cal m v = record m { phase_cal = v }

abbrev pub with_settings : Pw → Settings → Pw
with_settings m v = record m { settings = v }
