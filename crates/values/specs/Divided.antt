-- The values as the code divides them: by the parts of a meter that a frame's accounting leaves, and those that it changes. The contracts of `Basis::load` and `Basis::values` speak of it; a reader of `pw_vals` need not believe it: the function `values` is built of them, and its contract is `values` of specs/Vals.antt.
use Rattle.std.specs.Prelude.{Bool, not}
use Rattle.numbers.specs.Binary32.{◌*f◌}
use Rattle.figures.specs.declared.load.Figures.{Figures}
use Rattle.state.specs.declared.PhaseCal.{PhaseCal}
use Rattle.state.specs.declared.Pw.{Pw}
use Rattle.values.specs.declared.power_vals.InForce.{InForce}
use Rattle.values.specs.declared.power_vals.PowerVals.{PowerVals}
use Rattle.values.specs.declared.vals.Basis.{Basis}
use Rattle.values.specs.declared.vals.Changing.{Changing}
use Rattle.values.specs.Methods.{alternating}
use Rattle.values.specs.Floors.{floors_reached, kept_if, used_parts}
use Rattle.values.specs.Load.{path_ohms, load_figures, split}
use Rattle.values.specs.Marks.{over_limit, limits_of, hint, hint_shown, frequency}
use Rattle.values.specs.Energy.{energies}
use Rattle.values.specs.Vals.{dc_volts, dc_amperes}

unfoldable pub basis_in : Pw → Basis
basis_in m =
    record {
      mode = m.mode;
      ranges = m.ranges;
      parts = m.parts;
      seen = m.cycle.seen;
      comparator = m.comparator;
      settings = m.settings;
      over = m.description.over;
    }

unfoldable pub changing_in : Pw → Changing
changing_in m = record { tally = m.tally; clock = m.clock; over_t0 = m.over_t0; phase_cal = m.phase_cal }

unfoldable pub in_force_of : Basis → Bool → PhaseCal → InForce
in_force_of b run c =
    record {
      alt = alternating b.mode;
      dc = b.mode.dc;
      coup = b.mode.coup;
      comp = b.settings.comp;
      run = run;
      sph = c.sph;
      main = b.settings.main;
    }

-- `load` of the values
unfoldable pub load_of : Basis → Figures
load_of b =
    let a = floors_reached b.ranges b.parts in
    load_figures b.mode a b.ranges (used_parts b.mode a b.parts) (kept_if b.settings.comp (path_ohms b.settings b.ranges.ik))

-- `values m` is `values_of (basis_in m) (load_of (basis_in m)) (changing_in m)`
unfoldable pub values_of : Basis → Figures → Changing → PowerVals
values_of b load c =
    let a = floors_reached b.ranges b.parts in
    let used = used_parts b.mode a b.parts in
    let ohms = path_ohms b.settings b.ranges.ik in
    record {
      load = load;
      vdc = dc_volts b.mode b.parts.v_dc;
      idc = dc_amperes b.mode b.parts.i_dc;
      f_ok = frequency b.mode b.comparator a;
      burden_v = load.i *f ohms;
      energies = energies (not (alternating b.mode)) c.tally;
      ranges = b.ranges;
      in_force = in_force_of b c.clock.run c.phase_cal;
      limits = limits_of b.over b.ranges b.parts (over_limit c.over_t0 b.settings.t_lim c.clock.t_poll);
      hint = hint_shown (hint b.mode b.seen b.ranges b.parts a);
      split = split b.mode used (kept_if b.settings.comp ohms);
    }
