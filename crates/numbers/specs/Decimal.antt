-- Document 01: "A decimal fraction that the Rust compares or computes with means the binary32 number nearest it".
use Rattle.std.specs.Prelude.{ℕ, ◌^◌, true, false, Float}
use Rattle.std.specs.Float.{binary32}
use Rattle.std.specs.Float.Ieee.{round}

-- the binary32 number nearest n / 10 ^ k, and the one nearest minus that
abbrev pub decimal : ℕ → ℕ → Float
decimal n k = round binary32 false n (10 ^ k)

abbrev pub minus_decimal : ℕ → ℕ → Float
minus_decimal n k = round binary32 true n (10 ^ k)
