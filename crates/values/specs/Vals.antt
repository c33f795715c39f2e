-- `pw_vals`, `pw_state` and `integrating` of the source.
use Rattle.std.specs.Prelude.{Bool, false, if◌then◌else◌, not, ◌&&◌, ◌||◌, Option, None, Some, unwrap_or, Float}
use Rattle.std.specs.Float.{nan}
use Rattle.std.specs.Float.Ieee.{lt}
use Rattle.numbers.specs.Binary32.{◌*f◌}
use Rattle.numbers.specs.Root.{hypot_of}
use Rattle.tables.specs.Constants.{i_floor}
use Rattle.state.specs.declared.Mode.{Mode}
use Rattle.state.specs.declared.Pw.{Pw}
use Rattle.state.specs.declared.Quantity.TheVariants.{Current}
use Rattle.state.specs.Seen.{has_seen}
use Rattle.values.specs.declared.power_vals.InForce.{InForce}
use Rattle.values.specs.declared.power_vals.PowerVals.{PowerVals}
use Rattle.values.specs.PowerVals.{unmeasured}
use Rattle.values.specs.Methods.{alternating, ac_only, measured}
use Rattle.values.specs.Floors.{floors_reached, kept_if, used_parts}
use Rattle.values.specs.Load.{path_ohms, load_figures, split}
use Rattle.values.specs.Marks.{limits, hint, hint_shown, frequency}
use Rattle.values.specs.Energy.{energies}

-- `alt` of the values is `pw.alt && !pw.dc`
unfoldable pub in_force : Pw → InForce
in_force m =
    record {
      alt = alternating m.mode;
      dc = m.mode.dc;
      coup = m.mode.coup;
      comp = m.settings.comp;
      run = m.clock.run;
      sph = m.phase_cal.sph;
      main = m.settings.main;
    }

-- `vdc`: `if (pw.alt && !pw.dc) || ac { NAN } else { v_dc }`, and `idc`: `if ac { NAN } else { i_dc }`
unfoldable pub dc_volts : Mode → Float → Float
dc_volts m vDc = if alternating m || ac_only m then nan else vDc

unfoldable pub dc_amperes : Mode → Float → Float
dc_amperes m iDc = if ac_only m then nan else iDc

-- the values of a meter that has measured what it needs. `r` is the path's ohms where `comp` says to take them off, else 0.0; `burden_v` is `i * r_path[iu]` in any case
unfoldable pub values : Pw → PowerVals
values m =
    let a = floors_reached m.ranges m.parts in
    let used = used_parts m.mode a m.parts in
    let ohms = path_ohms m.settings m.ranges.ik in
    let r = kept_if m.settings.comp ohms in
    let load = load_figures m.mode a m.ranges used r in
    record {
      load = load;
      vdc = dc_volts m.mode m.parts.v_dc;
      idc = dc_amperes m.mode m.parts.i_dc;
      f_ok = frequency m.mode m.comparator a;
      burden_v = load.i *f ohms;
      energies = energies (not (alternating m.mode)) m.tally;
      ranges = m.ranges;
      in_force = in_force m;
      limits = limits m;
      hint = hint_shown (hint m.mode m.cycle.seen m.ranges m.parts a);
      split = split m.mode used r;
    }

-- "None before V, I and P were measured", and while off
unfoldable pub pw_vals : Pw → Option PowerVals
pw_vals m = if measured m.mode m.cycle.seen then Some (values m) else None

-- "before the first full set the settings / ranges with zero values": energies too, with no mean power
unfoldable pub state_only : Pw → PowerVals
state_only m = unmeasured (energies false m.tally) m.ranges (in_force m)

-- `unwrap_or_else`
unfoldable pub pw_state : Pw → PowerVals
pw_state m = unwrap_or (pw_vals m) (state_only m)

-- `on && run && seen & 4 != 0 && hypot(i_ac, i_dc) > I_FLOOR`
unfoldable pub integrating : Pw → Bool
integrating m = m.mode.on && (m.clock.run && (has_seen m.cycle.seen Current && lt i_floor (hypot_of m.parts.i_ac m.parts.i_dc)))
