-- What a screen shows, as a C host is handed it: units and texts by their numbers.
use Rattle.std.specs.Prelude.{true, false, ℕ, Option, None, Some}
use Rattle.numbers.specs.Binary32.{zero_f}
use Rattle.formats.specs.declared.readout.Val.{Val}
use Rattle.formats.specs.Units.{unit_number}
use Rattle.values.specs.declared.power_vals.PowerVals.{PowerVals}
use Rattle.values.specs.PowerVals.{zero_vals}
use Rattle.readouts.specs.declared.readings.Readouts.{Readouts}
use Rattle.readouts.specs.declared.partial.Partial.{Partial}
use Rattle.readouts.specs.declared.partial.Partial.TheVariants as partial
use Rattle.readouts.specs.Partial.{partial_text}
use Rattle.host.specs.declared.shown.HostPartial.{HostPartial}
use Rattle.host.specs.declared.shown.HostReadouts.{HostReadouts}
use Rattle.host.specs.declared.shown.HostVal.{HostVal}
use Rattle.host.specs.declared.shown.HostVals.{HostVals}

-- values, or the source's ZERO where there are none: a mark tells which
unfoldable pub host_vals : Option PowerVals → HostVals
host_vals (Some v) = record { measured = true; vals = v }
host_vals None = record { measured = false; vals = zero_vals }

-- the unit by its number
unfoldable pub host_val : Val → HostVal
host_val v = record { number = v.number; decimals = v.decimals; unit = unit_number v.unit; over = v.over }

unfoldable pub host_readouts : Readouts → HostReadouts
host_readouts r = record { main = host_val r.main; v = host_val r.v; i = host_val r.i; si = r.si }

-- what stands for a readout where there is none
abbrev pub no_val : HostVal
no_val = record { number = zero_f; decimals = 0; unit = 0; over = false }

-- a text with no volts
unfoldable pub text_only : ℕ → HostPartial
text_only text = record { text = text; with_volts = false; volts = no_val }

-- the text by its number, and the volts where there are any
unfoldable pub host_partial : Partial → HostPartial
host_partial (partial.Ranging (Some v)) = record { text = partial_text (partial.Ranging (Some v)); with_volts = true; volts = host_val v }
host_partial p = text_only (partial_text p)
