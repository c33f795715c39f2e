-- `pw_cmp_select` of the source: the frequency counter's source and window. The counter itself is left out.
use Rattle.std.specs.Prelude.{true, false, if◌then◌else◌, ℕ, Float, Option, Some, None}
use Rattle.std.specs.Float.{nan, binary32}
use Rattle.std.specs.Float.Ieee.{le, of_bits}
use Rattle.numbers.specs.Binary32.{◌*f◌, ◌/f◌}
use Rattle.tables.specs.Bounds.{entry_at}
use Rattle.tables.specs.Constants.{kv, shunt_ohm, r20_sense, r20_pb4, r21_default}
use Rattle.tables.specs.Ranges.{iu_ir}
use Rattle.tables.specs.declared.description.Description.{Description}
use Rattle.tables.specs.Window.{cmp_window}
use Rattle.state.specs.declared.Comparator.{Comparator}
use Rattle.state.specs.declared.Parts.{Parts}
use Rattle.state.specs.declared.Ranges.{Ranges}
use Rattle.state.specs.Seen.{both_seen}
use Rattle.takes.specs.declared.scales.Instrument.{Instrument}
use Rattle.takes.specs.Scales.{gain, mv_div}

-- `KV[vr] * v_gain(vr)`
unfoldable pub tap_scale : Instrument → ℕ → Float
tap_scale w vr = entry_at nan kv vr *f gain w vr

-- `i_op`: `i_ac * SHUNT_OHM[iu] * MV_DIV[ir]`
unfoldable pub op_volts : Description → ℕ → Float → Float
op_volts d ik iAc = iAc *f entry_at nan shunt_ohm (iu_ir ik).iu *f mv_div d ik

-- 0.025, volts
abbrev pub least_op : Float
least_op = of_bits binary32 0x3ccc_cccd

abbrev pub with_frequency : ℕ → ℕ → Comparator → Comparator
with_frequency r20 r21 c = record { r20 = r20; r21 = r21; f_ok = true; cmp_vr = c.cmp_vr }

abbrev pub no_frequency : Comparator → Comparator
no_frequency c = record c { f_ok = false }

-- the V tap with its window; else the current on PB4 where its AC part is at least 25 mV; else no frequency
unfoldable pub chosen : Option ℕ → Float → Comparator → Comparator
chosen (Some w) op c = with_frequency r20_sense w c
chosen None op c = if le least_op op then with_frequency r20_pb4 r21_default c else no_frequency c

-- only once voltage and current are measured
unfoldable pub cmp_select : Instrument → Ranges → ℕ → Parts → Comparator → Comparator
cmp_select w r seen p c =
    if both_seen seen then chosen (cmp_window (p.v_dc /f tap_scale w r.vr) (p.v_ac /f tap_scale w r.vr)) (op_volts w.description r.ik p.i_ac) c
    else c
