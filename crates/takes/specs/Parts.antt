-- The smoothed values after a result. Document 01: "Smoothing is `ema`". The source stores a value as it is while its quantity is not marked in `seen` (`first(seen, bit)`), else it smooths it.
use Rattle.std.specs.Prelude.{if◌then◌else◌, ℕ, Float}
use Rattle.std.specs.Float.{nan, binary32}
use Rattle.std.specs.Float.Ieee.{of_bits}
use Rattle.numbers.specs.Binary32.{◌*f◌, zero_f}
use Rattle.tables.specs.Bounds.{entry_at}
use Rattle.tables.specs.Constants.{v_lim, i_lim}
use Rattle.tables.specs.Decided.{acv_win}
use Rattle.figures.specs.Smoothing.{ema, ema_rel}
use Rattle.state.specs.declared.Quantity.{Quantity}
use Rattle.state.specs.declared.Quantity.TheVariants.{Power, Voltage, Current}
use Rattle.state.specs.declared.Parts.{Parts}
use Rattle.state.specs.declared.Ranges.{Ranges}
use Rattle.state.specs.Seen.{has_seen}
use Rattle.takes.specs.Scales.{i_win}

-- the part of the way: 0.15, 0.25, 0.35, 0.5; and 0.01 of the ranges
abbrev pub a15 : Float
a15 = of_bits binary32 0x3e19_999a

abbrev pub a25 : Float
a25 = of_bits binary32 0x3e80_0000

abbrev pub a35 : Float
a35 = of_bits binary32 0x3eb3_3333

abbrev pub a50 : Float
a50 = of_bits binary32 0x3f00_0000

abbrev pub hundredth : Float
hundredth = of_bits binary32 0x3c23_d70a

-- the new value x while its quantity is not marked; else smoothed, y before it
unfoldable pub smoothed : ℕ → Quantity → Float → Float → Float → Float → Float
smoothed seen q win a x y = if has_seen seen q then ema win a x y else x

-- a voltage's by `ACV_WIN[vr]`, and a current's
unfoldable pub volts : ℕ → ℕ → Float → Float → Float → Float
volts vr seen a x y = smoothed seen Voltage (entry_at nan acv_win vr) a x y

unfoldable pub amps : ℕ → ℕ → Float → Float → Float → Float
amps ik seen a x y = smoothed seen Current (i_win ik) a x y

-- the power's: `ema_rel(0.25, 0.01 * V_LIM[vr] * I_LIM[ik], p, ..)`
unfoldable pub smoothed_power : Ranges → ℕ → Float → Float → Float
smoothed_power r seen x y = if has_seen seen Power then ema_rel a25 (hundredth *f entry_at nan v_lim r.vr *f entry_at nan i_lim r.ik) x y else x

-- XY (`pw_take`): the power, and the DC current, which only XX marks as measured
unfoldable pub xy_parts : Ranges → ℕ → Float → Float → Parts → Parts
xy_parts r seen power iDc p =
    record p { p_ac = smoothed_power r seen power p.p_ac; i_dc = amps r.ik seen a35 iDc p.i_dc }

-- XX (`pw_take`) and the alternating method's current (`pw_take_alt`)
unfoldable pub i_parts : ℕ → ℕ → Float → Float → Parts → Parts
i_parts ik seen iAc iDc p =
    record p { i_ac = amps ik seen a15 iAc p.i_ac; i_dc = amps ik seen a35 iDc p.i_dc }

-- YY (`pw_take`)
unfoldable pub v_parts : ℕ → ℕ → Float → Float → Parts → Parts
v_parts vr seen vAc vDc p =
    record p { v_ac = volts vr seen a25 vAc p.v_ac; v_dc = volts vr seen a25 vDc p.v_dc }

-- the alternating method's voltage (`pw_take_alt`): the DC part becomes 0
unfoldable pub alt_v_parts : ℕ → ℕ → Float → Parts → Parts
alt_v_parts vr seen vAc p =
    record p { v_ac = volts vr seen a25 vAc p.v_ac; v_dc = zero_f }

-- the DC row's voltage (`pw_poll_dc`): DC with 0.5, its AC volts apart in `vac_dc` with 0.25; the AC part becomes 0
unfoldable pub dc_v_parts : ℕ → ℕ → Float → Float → Parts → Parts
dc_v_parts vr seen vDc vacDc p =
    record p {
      v_ac = zero_f;
      v_dc = volts vr seen a50 vDc p.v_dc;
      vac_dc = volts vr seen a25 vacDc p.vac_dc;
    }

-- the DC row's current (`pw_poll_dc`): the AC part and the AC power become 0
unfoldable pub dc_i_parts : ℕ → ℕ → Float → Parts → Parts
dc_i_parts ik seen iDc p =
    record p {
      p_ac = zero_f;
      i_ac = zero_f;
      i_dc = amps ik seen a50 iDc p.i_dc;
    }
