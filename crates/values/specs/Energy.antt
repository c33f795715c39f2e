-- `e_wh`, `vah`, `secs` and `p_avg` of the source's values.
use Rattle.std.specs.Prelude.{Bool, if◌then◌else◌, ◌&&◌, ℕ, ◌/◌, ◌%◌, ◌^◌, ltb, pos, Float}
use Rattle.std.specs.Float.{nan, binary32}
use Rattle.std.specs.Float.Ieee.{of_bits, of_int}
use Rattle.numbers.specs.Binary32.{◌*f◌, ◌/f◌}
use Rattle.figures.specs.declared.tally.Tally.{Tally}
use Rattle.figures.specs.Acc.{watt_hours}
use Rattle.values.specs.declared.power_vals.Energies.{Energies}

abbrev pub hour_ms : Float
hour_ms = of_bits binary32 0x4a5b_ba00  -- 3.6e6, the ms of an hour

-- `p_avg`: "Mean P over the integration time (Wh / h; NaN before any)": `e.wh() * 3.6e6 / t_int` where `t_int > 0 && (!alt || dc)`; `active` is `!alt || dc`
unfoldable pub mean_power : Bool → Float → ℕ → Float
mean_power active wh tInt = if ltb 0 tInt && active then wh *f hour_ms /f of_int binary32 (pos tInt) else nan

-- `secs` is `(t_int / 1000) as u32`
unfoldable pub energies : Bool → Tally → Energies
energies active t =
    record {
      e_wh = watt_hours t.e;
      vah = watt_hours t.va;
      secs = t.t_int / 1000 % 2 ^ 32;
      p_avg = mean_power active (watt_hours t.e) t.t_int;
    }
