-- Binary32 as the source computes with it: its operators, and `is_finite`, `abs`, `max`, `clamp` and `signum` of Rust's `f32`, over every value.
-- A value is that of std's IEEE 754: `nan` (there is only one, so one NaN equals another), `inf s`, or `fin s m e`, which is m * 2 ^ e; the sign s is true for minus.
use Rattle.std.specs.Prelude.{Bool, true, false, if◌then◌else◌, from_bits, is_nan, Float}
use Rattle.std.specs.Float.{nan, inf, fin, binary32}
use Rattle.std.specs.Float.Ieee.{add, sub, mul, div, lt, neg}

-- IEEE 754's operations, each rounded to binary32
infixl 6 ◌+f◌ ◌-f◌
infixl 7 ◌*f◌ ◌/f◌
abbrev pub ◌+f◌ : Float → Float → Float
x +f y = add binary32 x y

abbrev pub ◌-f◌ : Float → Float → Float
x -f y = sub binary32 x y

abbrev pub ◌*f◌ : Float → Float → Float
x *f y = mul binary32 x y

abbrev pub ◌/f◌ : Float → Float → Float
x /f y = div binary32 x y

-- plus zero, and 1.0
abbrev pub zero_f : Float
zero_f = from_bits binary32 0

abbrev pub one_f : Float
one_f = from_bits binary32 0x3f80_0000

-- `is_finite`: no NaN and no infinity
unfoldable pub is_finite : Float → Bool
is_finite nan = false
is_finite (inf s) = false
is_finite (fin s m e) = true

-- `abs`: the same size with a plus sign; a NaN stays a NaN
unfoldable pub abs_of : Float → Float
abs_of nan = nan
abs_of (inf s) = inf false
abs_of (fin s m e) = fin false m e

-- whether the sign is minus, of minus zero too; a NaN has none
unfoldable pub is_minus : Float → Bool
is_minus nan = false
is_minus (inf s) = s
is_minus (fin s m e) = s

-- Document 01: "`max` of a NaN and a number is the number; of two zeros of unlike sign it is plus zero (Rust leaves that open)". Otherwise the larger.
-- Where neither is less, the two are equal, and differ at most in the sign of a zero: b where a has a minus sign, else a.
unfoldable pub max_of : Float → Float → Float
max_of a b = if is_nan a then b else if is_nan b then a else if lt a b then b else if lt b a then a else if is_minus a then b else a

-- `clamp`: lo for what is below it, hi for what is above it; a NaN stays. (Rust's panics where not lo <= hi; here lo is then tested first.)
unfoldable pub clamp_of : Float → Float → Float → Float
clamp_of x lo hi = if lt x lo then lo else if lt hi x then hi else x

-- `signum`: 1.0, or -1.0 where the sign is minus, of a zero too; a NaN stays a NaN
unfoldable pub signum_of : Float → Float
signum_of x = if is_nan x then x else if is_minus x then neg one_f else one_f
