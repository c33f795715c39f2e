-- `pw_autorange` of the source: which range is asked for. And `overload_trips` of sentinel.rs with `barred`, all that document 01 keeps of the overload.
use Rattle.std.specs.Prelude.{Bool, true, not, if◌then◌else◌, ◌&&◌, ◌||◌, ℕ, ◌+◌, ◌-◌, ◌*◌, ltb, leb, eqb, min, max, Option, Some, None, Float}
use Rattle.std.specs.Float.{nan, binary32}
use Rattle.std.specs.Float.Ieee.{lt, of_bits}
use Rattle.numbers.specs.Binary32.{◌*f◌, ◌/f◌}
use Rattle.numbers.specs.Root.{hypot_of}
use Rattle.tables.specs.Bounds.{entry_at}
use Rattle.tables.specs.Constants.{v_lim, i_lim}
use Rattle.tables.specs.Ranges.{iu_ir}
use Rattle.tables.specs.declared.description.Description.{Description}
use Rattle.state.specs.declared.Ranges.{Ranges}
use Rattle.state.specs.declared.Parts.{Parts}

-- 0.1
abbrev pub tenth : Float
tenth = of_bits binary32 0x3dcc_cccd

-- None where the range stays: one up where `m > ov * lim` and k < most, else one down where `m < 0.1 * lim / ov` and k > least
unfoldable pub step : Float → Float → Float → ℕ → ℕ → ℕ → Option ℕ
step over limit m k least most =
    if lt (over *f limit) m && ltb k most then Some (k + 1)
    else if lt m (tenth *f limit /f over) && ltb least k then Some (k - 1)
    else None

-- the V channel's, 0 to 3
unfoldable pub v_change : Description → Ranges → Parts → Option ℕ
v_change d r p = if r.v_auto then step d.over (entry_at nan v_lim r.vr) (hypot_of p.v_ac p.v_dc) r.vr 0 3 else None

-- `overload_trips`: `unit >= 1 && unit <= 2 && over && (manual || range >= 1)`
unfoldable pub overload_trips : ℕ → ℕ → Bool → Bool → Bool
overload_trips unit range manual over = leb 1 unit && leb unit 2 && over && (manual || leb 1 range)

-- `hypot(i_ac, i_dc) > ov * I_LIM[ik]`
unfoldable pub is_over : Float → ℕ → Parts → Bool
is_over over ik p = lt (over *f entry_at nan i_lim ik) (hypot_of p.i_ac p.i_dc)

-- "a MANUAL range on the uA / mA shunt over range -> 10 A"
unfoldable pub trips : Description → Ranges → Parts → Bool
trips d r p = not r.i_auto && overload_trips (iu_ir r.ik).iu (iu_ir r.ik).ir true (is_over d.over r.ik p)

-- `self.ovl.map_or(iu, |o| o.barred.min(iu))`: no unit barred before is 0
unfoldable pub barred_after : ℕ → ℕ → ℕ
barred_after barred ik = if eqb barred 0 then (iu_ir ik).iu else min barred (iu_ir ik).iu

-- `self.ovl.map_or(0, |o| 2 * (3 - o.barred.min(3)))`
unfoldable pub shunt_floor : ℕ → ℕ
shunt_floor barred = if eqb barred 0 then 0 else 2 * (3 - min barred 3)

-- `kmin`: `(if a_auto == 1 { 2 } else { 0 }).max(floor)`
unfoldable pub least_ik : Bool → ℕ → ℕ
least_ik aAuto barred = if aAuto then max (shunt_floor barred) 2 else shunt_floor barred

-- the current channel's, 0 to 5; over range on the mA or uA shunt hops to 4, 6 A
unfoldable pub i_change : Description → Ranges → ℕ → Parts → Option ℕ
i_change d r barred p =
    if r.i_auto then
    (if is_over d.over r.ik p && leb 1 (iu_ir r.ik).iu then Some 4
    else step d.over (entry_at nan i_lim r.ik) (hypot_of p.i_ac p.i_dc) r.ik (least_ik d.a_auto barred) 5)
    else None
