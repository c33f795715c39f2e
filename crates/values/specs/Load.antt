-- `(p, s, q, pf, v, i)` of `pw_vals` of the source, and its `vp`, `ip` and `pp`, from the parts that count ("used") and r ohms of the path, 0.0 where they are not to be taken off.
use Rattle.std.specs.Prelude.{Bool, if◌then◌else◌, not, ◌&&◌, ◌||◌, ℕ, get_or, Float}
use Rattle.std.specs.Float.{nan}
use Rattle.std.specs.Float.Ieee.{lt}
use Rattle.numbers.specs.Binary32.{◌-f◌, ◌*f◌, zero_f}
use Rattle.numbers.specs.Root.{hypot_of}
use Rattle.tables.specs.Bounds.{entry_at}
use Rattle.tables.specs.Constants.{v_lim, i_lim, noise_v, noise_i}
use Rattle.tables.specs.Ranges.{iu_ir}
use Rattle.figures.specs.declared.load.Figures.{Figures}
use Rattle.figures.specs.Load.{totals, load_volts}
use Rattle.state.specs.declared.Mode.{Mode}
use Rattle.state.specs.declared.Parts.{Parts}
use Rattle.state.specs.declared.Ranges.{Ranges}
use Rattle.state.specs.declared.Settings.{Settings}
use Rattle.values.specs.declared.floors.Reached.{Reached}
use Rattle.values.specs.declared.power_vals.Split.{Split}
use Rattle.values.specs.Methods.{alternating, simultaneous, ac_only, ac_dc}
use Rattle.values.specs.PowerVals.{zero_split}
use Rattle.values.specs.Floors.{both_reached}

-- `r_path[iu]`
unfoldable pub path_ohms : Settings → ℕ → Float
path_ohms s ik = get_or s.r_path (iu_ir ik).iu nan

-- the alternating method: `(NAN, v * i, NAN, NAN, v, i)`
unfoldable pub alt_figures : Parts → Figures
alt_figures p =
    let i = hypot_of p.i_ac p.i_dc in
    record { p = nan; s = p.v_ac *f i; q = nan; pf = nan; v = p.v_ac; i = i }

unfoldable pub totals_of : Parts → Float → Figures
totals_of p r = totals p.p_ac p.v_ac p.v_dc p.i_ac p.i_dc r

-- `qn`: `hypot(NOISE_V * V_LIM[vr] * i, v * NOISE_I * I_LIM[ik])`
unfoldable pub noise_of_q : Ranges → Float → Float → Float
noise_of_q r v i = hypot_of (noise_v *f entry_at nan v_lim r.vr *f i) (v *f noise_i *f entry_at nan i_lim r.ik)

-- `(s, q, pf) = (NAN, NAN, NAN)`, and `q = 0.0`
unfoldable pub no_phase : Figures → Figures
no_phase f = record f { s = nan; q = nan; pf = nan }

unfoldable pub no_reactive : Figures → Figures
no_reactive f = record f { q = zero_f }

-- in method B: by `ac && !(v_ok && i_ok)`, then by `!(v_ok && i_ok) || q < qn`; `both` is `v_ok && i_ok`
unfoldable pub phase_shown : Bool → Bool → Ranges → Figures → Figures
phase_shown ac both r f =
    if ac && not both then no_phase f
    else if not both || lt f.q (noise_of_q r f.v f.i) then no_reactive f
    else f

unfoldable pub load_figures : Mode → Reached → Ranges → Parts → Float → Figures
load_figures m a ranges used r =
    if alternating m then alt_figures used
    else if simultaneous m then phase_shown (ac_only m) (both_reached a) ranges (totals_of used r)
    else totals_of used r

-- `vp`, `ip` and `pp`, [DC, AC] each: `[vd - r * id, sqrt((va * va - 2.0 * r * pa + r * r * ia * ia).max(0.0))]`, `[id, ia]`, `[vd * id - r * id * id, pa - r * ia * ia]`. "Zero outside AC+DC"
unfoldable pub at_load : Parts → Float → Split
at_load p r =
    record {
      v_dc = p.v_dc -f r *f p.i_dc;
      v_ac = load_volts p.v_ac p.p_ac p.i_ac r;
      i_dc = p.i_dc;
      i_ac = p.i_ac;
      p_dc = p.v_dc *f p.i_dc -f r *f p.i_dc *f p.i_dc;
      p_ac = p.p_ac -f r *f p.i_ac *f p.i_ac;
    }

unfoldable pub split : Mode → Parts → Float → Split
split m used r = if ac_dc m then at_load used r else zero_split
