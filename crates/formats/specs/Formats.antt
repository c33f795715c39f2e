-- `energy_format` and `p_format` of the source: "(value, decimals, unit)". 1e3 and 1e-3 are figures' `thousand` and `milli`.
use Rattle.std.specs.Prelude.{Bool, if◌then◌else◌, not, ◌&&◌, ◌||◌, ℕ, Float}
use Rattle.std.specs.Float.{binary32}
use Rattle.std.specs.Float.Ieee.{lt, le, of_bits}
use Rattle.numbers.specs.Binary32.{◌*f◌, one_f, abs_of}
use Rattle.figures.specs.Acc.{thousand}
use Rattle.figures.specs.Tally.{milli}
use Rattle.formats.specs.declared.units.Unit.{Unit}
use Rattle.formats.specs.declared.units.Unit.TheVariants.{Watt, Milliwatt, Kilowatt, VoltAmpere, MillivoltAmpere, KilovoltAmpere, WattHour, MilliwattHour, KilowattHour, VoltAmpereHour, KilovoltAmpereHour}
use Rattle.formats.specs.declared.format.Format.{Format}

abbrev pub ten : Float
ten = of_bits binary32 0x4120_0000  -- 10.0

abbrev pub hundred : Float
hundred = of_bits binary32 0x42c8_0000  -- 100.0

abbrev pub nine_thousand : Float
nine_thousand = of_bits binary32 0x460c_a000  -- 9000.0

abbrev pub hundred_thousand : Float
hundred_thousand = of_bits binary32 0x47c3_5000  -- 100_000.0

abbrev pub full_scale_margin : Float
full_scale_margin = of_bits binary32 0x3f86_6666  -- 1.05

-- `dec` for a: in `energy_format` the size of the figure, in `p_format` its `f` with its sign. The source tests 10_000.0 as well there, with 1 on both sides
unfoldable pub decimals_of : Float → ℕ
decimals_of a = if lt a ten then 4 else if lt a hundred then 3 else if lt a thousand then 2 else 1

-- x * k, its decimals by its own size
unfoldable pub scaled : Float → Float → Unit → Format
scaled x k u = record { number = x *f k; decimals = decimals_of (abs_of (x *f k)); unit = u }

-- `energy_format`, where m is the size
unfoldable pub energy_at : Float → Bool → Float → Format
energy_at wh va m =
    if lt m one_f && not va then scaled wh thousand MilliwattHour
    else if lt m thousand || (va && lt m hundred_thousand) then scaled wh one_f (if va then VoltAmpereHour else WattHour)
    else scaled wh milli (if va then KilovoltAmpereHour else KilowattHour)

unfoldable pub energy_format : Float → Bool → Format
energy_format wh va = energy_at wh va (abs_of wh)

-- si * k, its decimals by the range's full scale: `fs * k * 1.05`
unfoldable pub range_format : Float → Float → Float → Unit → Format
range_format fs si k u = record { number = si *f k; decimals = decimals_of (fs *f k *f full_scale_margin); unit = u }

-- `p_format`: kW from 9000 W of full scale on, mW below 1 W, else W; VA alike
unfoldable pub p_format : Float → Float → Bool → Format
p_format fs si watts =
    if le nine_thousand fs then record { number = si *f milli; decimals = 3; unit = if watts then Kilowatt else KilovoltAmpere }
    else if lt fs one_f then range_format fs si thousand (if watts then Milliwatt else MillivoltAmpere)
    else range_format fs si one_f (if watts then Watt else VoltAmpere)
