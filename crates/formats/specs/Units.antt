-- Document 01: "unit strings numbered units". The numbers are ours; beside each is the source's string, where micro is "\u{b5}".
use Rattle.std.specs.Prelude.{ℕ}
use Rattle.formats.specs.declared.units.Unit.{Unit}
use Rattle.formats.specs.declared.units.Unit.TheVariants.{Volt, Ampere, Milliampere, Microampere, Watt, Milliwatt, Kilowatt, VoltAmpere, MillivoltAmpere, KilovoltAmpere, WattHour, MilliwattHour, KilowattHour, VoltAmpereHour, KilovoltAmpereHour, Millivolt}

unfoldable pub unit_number : Unit → ℕ
unit_number Volt = 0  -- "V"
unit_number Ampere = 1  -- "A"
unit_number Milliampere = 2  -- "mA"
unit_number Microampere = 3  -- micro and "A"
unit_number Watt = 4  -- "W"
unit_number Milliwatt = 5  -- "mW"
unit_number Kilowatt = 6  -- "kW"
unit_number VoltAmpere = 7  -- "VA"
unit_number MillivoltAmpere = 8  -- "mVA"
unit_number KilovoltAmpere = 9  -- "kVA"
unit_number WattHour = 10  -- "Wh"
unit_number MilliwattHour = 11  -- "mWh"
unit_number KilowattHour = 12  -- "kWh"
unit_number VoltAmpereHour = 13  -- "VAh"
unit_number KilovoltAmpereHour = 14  -- "kVAh"
unit_number Millivolt = 15  -- "mV"
