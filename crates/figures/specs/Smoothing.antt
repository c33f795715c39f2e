-- Document 01: "Smoothing is `ema`". It is a function of dmm.rs, which is not at hand, so it is decided (docs/DECISIONS.md): the jump, strictly beyond win, by the source's comment at `ema_rel`, "|x - y| > 5 % of .. jumps";
-- the step y + a * (x - y), rounded at each operation, is chosen. So with a NaN in x, y or win there is no jump, and a NaN in y stays.
use Rattle.std.specs.Prelude.{if◌then◌else◌, Float}
use Rattle.std.specs.Float.{binary32}
use Rattle.std.specs.Float.Ieee.{lt, of_bits}
use Rattle.numbers.specs.Binary32.{◌+f◌, ◌-f◌, ◌*f◌, abs_of, max_of}

-- the smoothed value after x, where y was the one before: x itself where it lies further than win from y, else the part a of the way
unfoldable pub ema : Float → Float → Float → Float → Float
ema win a x y = if lt win (abs_of (x -f y)) then x else y +f a *f (x -f y)

-- 0.05
abbrev pub twentieth : Float
twentieth = of_bits binary32 0x3d4c_cccd

-- the source's `ema_rel`: "5 % of max(|x|, |y|, `floor`)"
unfoldable pub ema_rel : Float → Float → Float → Float → Float
ema_rel a floor x y = ema (twentieth *f max_of (max_of (abs_of x) (abs_of y)) floor) a x y
