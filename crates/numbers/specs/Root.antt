-- `sqrt` and `hypot` of dmm.rs, which is not at hand: document 01 says that the root "is not IEEE 754's square root and is kept", and that "of infinity it is NaN".
-- Decided (docs/DECISIONS.md): zero and below give plus zero, a NaN gives a NaN, and else Heron's iteration, four steps from a seed made of the bits.
use Rattle.std.specs.Prelude.{◌+◌, ◌/◌, if◌then◌else◌, from_bits, is_nan, to_bits, Float}
use Rattle.std.specs.Float.{nan, binary32}
use Rattle.std.specs.Float.Ieee.{le}
use Rattle.numbers.specs.Binary32.{◌+f◌, ◌*f◌, ◌/f◌, zero_f}

-- 0.5 * (y + x / y)
abbrev pub heron : Float → Float → Float
heron x y = from_bits binary32 0x3f00_0000 *f (y +f x /f y)

-- the pattern halved, and 1FC00000h added: within 7 % of the root for every normal x
abbrev pub seed : Float → Float
seed x = from_bits binary32 (to_bits binary32 x / 2 + 0x1fc0_0000)

-- zero or below: plus zero; a NaN: a NaN; else four steps from the seed. Of a subnormal x they do not reach the root
unfoldable pub sqrt_of : Float → Float
sqrt_of x = if le x zero_f then zero_f else if is_nan x then nan else heron x (heron x (heron x (heron x (seed x))))

-- the root of a * a + b * b, rounded at each operation
unfoldable pub hypot_of : Float → Float → Float
hypot_of a b = sqrt_of (a *f a +f b *f b)
