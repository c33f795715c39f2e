-- "The AC floors", `fv` and `fi` of `pw_vals` of the source, and the parts that it works with.
use Rattle.std.specs.Prelude.{Bool, if◌then◌else◌, ◌&&◌, ℕ, Float}
use Rattle.std.specs.Float.{nan}
use Rattle.std.specs.Float.Ieee.{le}
use Rattle.numbers.specs.Binary32.{◌*f◌, zero_f}
use Rattle.tables.specs.Bounds.{entry_at}
use Rattle.tables.specs.Constants.{v_lim, i_lim, floor_i}
use Rattle.tables.specs.Decided.{floor_v}
use Rattle.state.specs.declared.Mode.{Mode}
use Rattle.state.specs.declared.Parts.{Parts}
use Rattle.state.specs.declared.Ranges.{Ranges}
use Rattle.values.specs.declared.floors.Reached.{Reached}
use Rattle.values.specs.Methods.{simultaneous, ac_only}

-- `fv`: `FLOOR_V * V_LIM[vr.min(3)]`, and `fi`: `FLOOR_I * I_LIM[ik.min(5)]`
unfoldable pub floor_of_v : ℕ → Float
floor_of_v vr = floor_v *f entry_at nan v_lim vr

unfoldable pub floor_of_i : ℕ → Float
floor_of_i ik = floor_i *f entry_at nan i_lim ik

-- `v_ok` and `i_ok`: `v_ac >= fv`, `i_ac >= fi`
unfoldable pub floors_reached : Ranges → Parts → Reached
floors_reached r p = record { v_ok = le (floor_of_v r.vr) p.v_ac; i_ok = le (floor_of_i r.ik) p.i_ac }

unfoldable pub both_reached : Reached → Bool
both_reached a = a.v_ok && a.i_ok

abbrev pub kept_if : Bool → Float → Float
kept_if ok x = if ok then x else zero_f

-- `va`, `ia` and `pa`: 0.0 below the floor, `pa` where either is
unfoldable pub floored : Reached → Parts → Parts
floored a p =
    record p {
      p_ac = kept_if (both_reached a) p.p_ac;
      v_ac = kept_if a.v_ok p.v_ac;
      i_ac = kept_if a.i_ok p.i_ac;
    }

-- `vd` and `id`: "AC: the DC parts are not used"
abbrev pub without_dc : Parts → Parts
without_dc p =
    record p { v_dc = zero_f; i_dc = zero_f }

unfoldable pub by_coupling : Bool → Parts → Parts
by_coupling ac p = if ac then without_dc p else p

-- the parts that the figures are worked out from: the floors are method B's alone
unfoldable pub used_parts : Mode → Reached → Parts → Parts
used_parts m a p = by_coupling (ac_only m) (if simultaneous m then floored a p else p)
