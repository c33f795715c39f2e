-- `PowerVals::ZERO` of the source. Document 01: "in place of `f_hz` the values carry `f_ok` alone, which is no in `PowerVals::ZERO`".
use Rattle.std.specs.Prelude.{true, false, pos}
use Rattle.std.specs.Float.{nan}
use Rattle.numbers.specs.Binary32.{zero_f}
use Rattle.tables.specs.Constants.{coup_dc, main_p}
use Rattle.figures.specs.declared.load.Figures.{Figures}
use Rattle.state.specs.declared.Ranges.{Ranges}
use Rattle.values.specs.declared.power_vals.Energies.{Energies}
use Rattle.values.specs.declared.power_vals.InForce.{InForce}
use Rattle.values.specs.declared.power_vals.Limits.{Limits}
use Rattle.values.specs.declared.power_vals.Split.{Split}
use Rattle.values.specs.declared.power_vals.PowerVals.{PowerVals}

abbrev pub zero_figures : Figures
zero_figures = record { p = zero_f; s = zero_f; q = zero_f; pf = zero_f; v = zero_f; i = zero_f }

-- `p_avg` is NaN
abbrev pub zero_energies : Energies
zero_energies = record { e_wh = zero_f; vah = zero_f; secs = 0; p_avg = nan }

abbrev pub zero_ranges : Ranges
zero_ranges = record { vr = 3; ik = 5; v_auto = true; i_auto = true }

abbrev pub zero_in_force : InForce
zero_in_force = record { alt = false; dc = false; coup = coup_dc; comp = false; run = true; sph = pos 0; main = main_p }

abbrev pub zero_limits : Limits
zero_limits = record { v_ol = false; i_ol = false; over = 0; over_left = 0 }

abbrev pub zero_split : Split
zero_split = record { v_dc = zero_f; v_ac = zero_f; i_dc = zero_f; i_ac = zero_f; p_dc = zero_f; p_ac = zero_f }

-- settings and energies with no measured value: `..PowerVals::ZERO`
abbrev pub unmeasured : Energies → Ranges → InForce → PowerVals
unmeasured e r f =
    record {
      load = zero_figures;
      vdc = zero_f;
      idc = zero_f;
      f_ok = false;
      burden_v = zero_f;
      energies = e;
      ranges = r;
      in_force = f;
      limits = zero_limits;
      hint = 0;
      split = zero_split;
    }

unfoldable pub zero_vals : PowerVals
zero_vals = unmeasured zero_energies zero_ranges zero_in_force
