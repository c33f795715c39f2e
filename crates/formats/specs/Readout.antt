-- Document 01: "A `Val` holds number, decimals, unit and over mark; over gives number 0.0 (`Val::ol` is not in the text)". And `no_neg_zero` of the source.
use Rattle.std.specs.Prelude.{Bool, true, false, if◌then◌else◌, ℕ, zero, suc, Float}
use Rattle.std.specs.Float.{binary32}
use Rattle.std.specs.Float.Ieee.{lt, of_bits}
use Rattle.numbers.specs.Binary32.{◌*f◌, zero_f, one_f, abs_of}
use Rattle.formats.specs.declared.units.Unit.{Unit}
use Rattle.formats.specs.declared.format.Format.{Format}
use Rattle.formats.specs.declared.readout.Val.{Val}
use Rattle.formats.specs.Formats.{ten}

-- `Val::new` and `Val::ol`
unfoldable pub val_of : Float → ℕ → Unit → Val
val_of x dec u = record { number = x; decimals = dec; unit = u; over = false }

unfoldable pub over_val : ℕ → Unit → Val
over_val dec u = record { number = zero_f; decimals = dec; unit = u; over = true }

-- 1.0, times 10.0 so many times
unfoldable pub tens : ℕ → Float
tens zero = one_f
tens (suc n) = tens n *f ten

abbrev pub half : Float
half = of_bits binary32 0x3f00_0000  -- 0.5

-- `no_neg_zero`: plus zero for "a value that rounds to zero" with so many decimals, by `(x * s).abs() < 0.5`
unfoldable pub no_neg_zero : Float → ℕ → Float
no_neg_zero x dec = if lt (abs_of (x *f tens dec)) half then zero_f else x

-- `Val::new(no_neg_zero(x, dec), dec, u)`
unfoldable pub shown : Format → Val
shown f = val_of (no_neg_zero f.number f.decimals) f.decimals f.unit

-- `if ol { Val::ol(dec, u) } else { Val::new(no_neg_zero(x, dec), dec, u) }`
unfoldable pub shown_unless : Bool → Format → Val
shown_unless over f = if over then over_val f.decimals f.unit else shown f
