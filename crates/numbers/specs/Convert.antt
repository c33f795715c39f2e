-- Conversions that std's IEEE 754 does not have, and the rounding that they share. Whole numbers to binary32 and binary64 are its `of_int`; cutting to h bits and a sign,
-- as Rust's `as i64`, `as i32`, `as i16` and `as i8` do (toward zero, held to the range, 0 for a NaN), is its `to_signed h`.
use Rattle.std.specs.Prelude.{ℕ, ◌*◌, ◌/◌, ◌%◌, if◌then◌else◌, from_bits, Float}
use Prim.Native.Nat.{compare}
use Rattle.std.specs.Float.{nan, inf, fin, binary32}
use Rattle.std.specs.Float.Ieee.{lt, up, down, nearest, round}
use Rattle.numbers.specs.Binary32.{◌+f◌, ◌-f◌, zero_f}

-- n / u to the nearest whole number, a tie to the even one: by how twice the remainder compares with u
unfoldable pub rounded_quotient : ℕ → ℕ → ℕ
rounded_quotient n u = nearest (n / u) (compare (n % u * 2) u)

-- binary64 to binary32, Rust's `as f32`: the nearest value, a tie to the even one; too large is an infinity. m * up e / down e is the size m * 2 ^ e
unfoldable pub narrow : Float → Float
narrow nan = nan
narrow (inf s) = inf s
narrow (fin s m e) = round binary32 s (m * up e) (down e)

-- 0.5
abbrev pub half_f : Float
half_f = from_bits binary32 0x3f00_0000

-- Document 01: "rounded half away from zero, by adding or taking 0.5 and cutting", before the cut: the source's `if a < 0.0 { a - 0.5 } else { a + 0.5 }`
unfoldable pub half_away : Float → Float
half_away a = if lt a zero_f then a -f half_f else a +f half_f
