-- The marks of `pw_vals` of the source: `over` and `over_left`, `v_ol` and `i_ol`, `hint`, and `f_ok`, which document 01 carries "in place of `f_hz`".
use Rattle.std.specs.Prelude.{Bool, true, false, if◌then◌else◌, not, ◌&&◌, ◌||◌, ℕ, ◌-◌, ◌/◌, ◌%◌, ◌^◌, eqb, ltb, Option, None, Some, Float}
use Rattle.std.specs.Float.{nan}
use Rattle.std.specs.Float.Ieee.{lt, le}
use Rattle.numbers.specs.Binary32.{◌*f◌, abs_of}
use Rattle.numbers.specs.Root.{hypot_of}
use Rattle.tables.specs.Bounds.{entry_at}
use Rattle.tables.specs.Constants.{v_lim, i_lim, hint_no_ac, hint_ac, r20_pb4}
use Rattle.state.specs.declared.Comparator.{Comparator}
use Rattle.state.specs.declared.Mode.{Mode}
use Rattle.state.specs.declared.Parts.{Parts}
use Rattle.state.specs.declared.Pw.{Pw}
use Rattle.state.specs.declared.Quantity.TheVariants.{Voltage}
use Rattle.state.specs.declared.Ranges.{Ranges}
use Rattle.state.specs.declared.Stamp.{Stamp}
use Rattle.state.specs.Counting.{elapsed}
use Rattle.state.specs.Seen.{has_seen}
use Rattle.values.specs.declared.floors.Reached.{Reached}
use Rattle.values.specs.declared.marks.Countdown.{Countdown}
use Rattle.values.specs.declared.marks.Countdown.TheVariants.{Stopped, Left, Expired}
use Rattle.values.specs.declared.marks.Hint.{Hint}
use Rattle.values.specs.declared.marks.Hint.TheVariants.{NoAc, Ac}
use Rattle.values.specs.declared.power_vals.Limits.{Limits}
use Rattle.values.specs.Methods.{simultaneous, ac_dc}
use Rattle.values.specs.Floors.{floor_of_v, floor_of_i}

-- `el`. Document 01: "Overload seconds are the low 16 bits of elapsed seconds"
unfoldable pub over_elapsed : ℕ → ℕ → ℕ
over_elapsed tPoll t0 = elapsed tPoll t0 / 1000 % 2 ^ 16

-- `(over, over_left)` of the source: (0, 0) for none, (1, the seconds left), (2, 0) once they are over
unfoldable pub over_number : Countdown → ℕ
over_number Stopped = 0
over_number (Left seconds) = 1
over_number Expired = 2

unfoldable pub over_left : Countdown → ℕ
over_left Stopped = 0
over_left (Left seconds) = seconds
over_left Expired = 0

-- `if el >= t_lim { (2, 0) } else { (1, t_lim - el) }`
unfoldable pub seconds_left : ℕ → ℕ → Countdown
seconds_left tLim el = if ltb el tLim then Left (tLim - el) else Expired

-- none where no `over_t0` is set, and where `t_lim` is 0
unfoldable pub over_limit : Stamp → ℕ → ℕ → Countdown
over_limit t0 tLim tPoll = if t0.set && ltb 0 tLim then seconds_left tLim (over_elapsed tPoll t0.at) else Stopped

-- `v_ol`: `hypot(v_ac, v_dc) > over() * V_LIM[vr]`, and `i_ol` alike; `over` is the description's
unfoldable pub limits_of : Float → Ranges → Parts → Countdown → Limits
limits_of over r p count =
    record {
      v_ol = lt (over *f entry_at nan v_lim r.vr) (hypot_of p.v_ac p.v_dc);
      i_ol = lt (over *f entry_at nan i_lim r.ik) (hypot_of p.i_ac p.i_dc);
      over = over_number count;
      over_left = over_left count;
    }

-- of a meter
unfoldable pub limits : Pw → Limits
limits m = limits_of m.description.over m.ranges m.parts (over_limit m.over_t0 m.settings.t_lim m.clock.t_poll)

-- a DC part reaches the floor: `v_dc.abs() >= fv || i_dc.abs() >= fi`
unfoldable pub dc_signal : Ranges → Parts → Bool
dc_signal r p = le (floor_of_v r.vr) (abs_of p.v_dc) || le (floor_of_i r.ik) (abs_of p.i_dc)

-- "AC+DC with no AC part on V and I (and a DC signal): DC is more precise", in method B
unfoldable pub dc_is_better : Mode → Ranges → Parts → Reached → Bool
dc_is_better m r p a = ac_dc m && (not a.v_ok && (not a.i_ok && dc_signal r p))

-- "DC with an AC part on V: P = V_dc I_dc misses the AC power"
unfoldable pub ac_is_missed : Mode → ℕ → ℕ → Float → Bool
ac_is_missed m seen vr vacDc = m.dc && (has_seen seen Voltage && le (floor_of_v vr) vacDc)

unfoldable pub hint : Mode → ℕ → Ranges → Parts → Reached → Option Hint
hint m seen r p a = if dc_is_better m r p a then Some NoAc else if ac_is_missed m seen r.vr p.vac_dc then Some Ac else None

-- HINT_NO_AC and HINT_AC
unfoldable pub hint_number : Hint → ℕ
hint_number NoAc = hint_no_ac
hint_number Ac = hint_ac

-- 0 where there is none
unfoldable pub hint_shown : Option Hint → ℕ
hint_shown None = 0
hint_shown (Some h) = hint_number h

-- no in DC coupling; in method B the comparator's, and the AC part of the channel that it watches (the current on PB4, else the V tap) reaches its floor; in the alternating method yes
unfoldable pub frequency : Mode → Comparator → Reached → Bool
frequency m c a =
    if m.dc then false
    else if simultaneous m then c.f_ok && (if eqb c.r20 r20_pb4 then a.i_ok else a.v_ok)
    else true
