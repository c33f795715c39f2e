-- What codes are multiplied by, and the zeros that are taken off them: the first lines of `pw_take`, `pw_take_alt` and `pw_poll_dc` of the source.
-- Zeros go by current range (ik), words and windows by calibration index (iu * 2 + ir), shunts by unit (iu), dividers by gain index (ir).
use Rattle.std.specs.Prelude.{Bool, if◌then◌else◌, List, ℕ, min, ◌+◌, ◌*◌, eqb, ℤ, pos, negsuc, ◌-ℤ◌, get_or, Float}
use Rattle.std.specs.Float.{nan, binary32}
use Rattle.std.specs.Float.Ieee.{eq, of_bits, of_int}
use Rattle.numbers.specs.Binary32.{◌*f◌, ◌/f◌, one_f}
use Rattle.numbers.specs.Root.{sqrt_of}
use Rattle.tables.specs.Bounds.{entry_at}
use Rattle.tables.specs.Constants.{code, shunt_ohm, kv}
use Rattle.tables.specs.Decided.{aca_win}
use Rattle.tables.specs.Ranges.{iu_ir, cal_index}
use Rattle.tables.specs.declared.calibration.Calibration.{Calibration}
use Rattle.tables.specs.declared.description.Description.{Description}
use Rattle.tables.specs.Calibration.{factor}
use Rattle.tables.specs.Gain.{v_gain}
use Rattle.figures.specs.Tally.{milli}
use Rattle.state.specs.declared.Corrections.{Corrections}
use Rattle.takes.specs.declared.scales.Instrument.{Instrument}

-- 1e-6; 1e-3 is figures' `milli`
abbrev pub micro : Float
micro = of_bits binary32 0x3586_37bd

-- `us`, by unit: `[1.0, 1e-3, 1e-6]`
unfoldable pub us : ℕ → Float
us iu = if eqb iu 0 then one_f else if eqb iu 1 then milli else micro

-- `MV_DIV[ir]` and `SHUNT[iu]`, which the description brings
unfoldable pub mv_div : Description → ℕ → Float
mv_div d ik = get_or d.mv_div (iu_ir ik).ir nan

unfoldable pub shunt : Description → ℕ → Float
shunt d ik = get_or d.shunt (iu_ir ik).iu nan

-- `s_i`: `CODE / (SHUNT_OHM[iu] * MV_DIV[ir])`
unfoldable pub i_scale : Description → ℕ → Float
i_scale d ik = code /f (entry_at nan shunt_ohm (iu_ir ik).iu *f mv_div d ik)

-- `s_v`: `CODE * KV[vr] * v_gain(vr)`, at a gain g
unfoldable pub v_scale : ℕ → Float → Float
v_scale vr g = code *f entry_at nan kv vr *f g

-- `pw.v_gain(vr)`
unfoldable pub gain : Instrument → ℕ → Float
gain w vr = v_gain w.calibration w.corrections.vgain vr

-- `g_i`: the word at byte C4h + 4 ci
unfoldable pub g_i : Calibration → ℕ → Float
g_i c ik = factor c (0xc4 + 4 * cal_index ik)

-- `g_il`: the word at byte F4h + 4 ci, but `g_i` where that is 1.0
unfoldable pub g_il : Calibration → ℕ → Float
g_il c ik = if eq (factor c (0xf4 + 4 * cal_index ik)) one_f then g_i c ik else factor c (0xf4 + 4 * cal_index ik)

-- `ACA_WIN[ci] * us`
unfoldable pub i_win : ℕ → Float
i_win ik = entry_at nan aca_win (cal_index ik) *f us (iu_ir ik).iu

-- a zero of a current range, 0 while none is stored
unfoldable pub zero_at : Bool → List ℤ → ℕ → ℤ
zero_at stored zeros ik = if stored then get_or zeros (min ik 5) (pos 0) else pos 0

-- `zx`, `zd` by current range and `zy`
abbrev pub zero_x : Corrections → ℕ → ℤ
zero_x c ik = zero_at c.zero_ok c.zx ik

abbrev pub zero_d : Corrections → ℕ → ℤ
zero_d c ik = zero_at c.zero_ok c.zd ik

unfoldable pub zero_y : Corrections → ℤ
zero_y c = if c.zero_ok then c.zy else pos 0

-- `(lpf - zx) as f32` and the like
unfoldable pub code_less : ℤ → ℤ → Float
code_less c z = of_int binary32 (c -ℤ z)

-- `rms.max(0)`
abbrev pub not_below_zero : ℤ → ℤ
not_below_zero (pos n) = pos n
not_below_zero (negsuc n) = pos 0

-- `sqrt(rms.max(0) as f32)`
unfoldable pub rms_root : ℤ → Float
rms_root rms = sqrt_of (of_int binary32 (not_below_zero rms))
