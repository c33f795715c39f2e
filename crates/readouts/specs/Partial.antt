-- `pw_partial` of the source, its text as a number.
use Rattle.std.specs.Prelude.{if◌then◌else◌, ◌&&◌, ℕ, eqb, Option, None, Some}
use Rattle.numbers.specs.Root.{hypot_of}
use Rattle.tables.specs.Constants.{job_zero, job_vcal}
use Rattle.state.specs.declared.Pw.{Pw}
use Rattle.state.specs.declared.Quantity.TheVariants.{Voltage}
use Rattle.state.specs.Seen.{has_seen}
use Rattle.formats.specs.declared.readout.Val.{Val}
use Rattle.formats.specs.declared.units.Unit.TheVariants.{Volt}
use Rattle.formats.specs.Readout.{val_of}
use Rattle.values.specs.declared.power_vals.PowerVals.{PowerVals}
use Rattle.values.specs.Vals.{pw_vals}
use Rattle.readouts.specs.declared.partial.Partial.{Partial}
use Rattle.readouts.specs.declared.partial.Partial.TheVariants.{Nothing, Zeroing, Calibrating, Ranging}
use Rattle.readouts.specs.Readings.{volt_decimals}

-- the numbers are ours; 0 where there is none
unfoldable pub partial_text : Partial → ℕ
partial_text Nothing = 0
partial_text Zeroing = 1  -- "Zeroing: leads open"
partial_text Calibrating = 2  -- "V calibration..."
partial_text (Ranging volts) = 3  -- "I ranging..."

-- `(seen & 2 != 0 && job == 0).then(|| Val::new(hypot(v_ac, v_dc), 4 - vr.min(3), "V"))`
unfoldable pub volts_so_far : Pw → Option Val
volts_so_far m =
    if has_seen m.cycle.seen Voltage && eqb m.job.job 0 then Some (val_of (hypot_of m.parts.v_ac m.parts.v_dc) (volt_decimals m.ranges.vr) Volt)
    else None

-- `_ if pw_vals().is_some()` is none
abbrev pub ranging_by : Option PowerVals → Partial → Partial
ranging_by (Some pv) p = Nothing
ranging_by None p = p

unfoldable pub ranging : Pw → Partial
ranging m = ranging_by (pw_vals m) (Ranging (volts_so_far m))

-- none while off; a job is told even where there are values; else none where there are. (The source's comment says none where "nothing is measured", which by its code is off: on, with nothing measured yet, it shows the third text)
unfoldable pub pw_partial : Pw → Partial
pw_partial m =
    if m.mode.on then (if eqb m.job.job job_zero then Zeroing else if eqb m.job.job job_vcal then Calibrating else ranging m)
    else Nothing
