-- What a C host is handed: plain structs of numbers, with document 01's number for a refusal, and ours for a unit.
use Rattle.std.specs.Prelude.{true, false, pos, ℕ, Option, Some, None, Result, Ok, Err}
use Rattle.refusals.specs.declared.Refusal.{Refusal}
use Rattle.refusals.specs.Number.{told_number}
use Rattle.codes.specs.declared.Codes.{Codes}
use Rattle.formats.specs.declared.format.Format.{Format}
use Rattle.formats.specs.Units.{unit_number}
use Rattle.pw.specs.declared.FrameCodes.{FrameCodes}
use Rattle.pw.specs.declared.HostFormat.{HostFormat}
use Rattle.pw.specs.declared.HostWindow.{HostWindow}

-- "A refused call returns its number alone": the codes are then 0
unfoldable pub frame_codes : Result Codes Refusal → FrameCodes
frame_codes (Ok codes) = record { refusal = told_number (Ok codes); ad1 = codes.ad1; lpf = codes.lpf; rms = codes.rms }
frame_codes (Err refusal) = record { refusal = told_number {A = Codes} (Err refusal); ad1 = pos 0; lpf = pos 0; rms = pos 0 }

-- none, or R21's code; the code 0 is one as well, so a mark tells which
unfoldable pub host_window : Option ℕ → HostWindow
host_window None = record { found = false; r21 = 0 }
host_window (Some code) = record { found = true; r21 = code }

-- the unit by its number
unfoldable pub host_format : Format → HostFormat
host_format f = record { number = f.number; decimals = f.decimals; unit = unit_number f.unit }
