-- Constants of dmm.rs, which is not at hand: every one of them is decided (docs/DECISIONS.md), and stands here and in src/decided.rt.
use Rattle.std.specs.Prelude.{List, [], ◌∷◌, Float}
use Rattle.std.specs.Float.{binary32}
use Rattle.std.specs.Float.Ieee.{of_bits}
use Rattle.numbers.specs.Decimal.{decimal}

-- K_ACV, by V range: what the source's comments say of the AC V rows' taps; of range 0 that is a tap of 100 with an amplifier of ten
unfoldable pub k_acv : List Float
k_acv = decimal 10 0 ∷ decimal 100 0 ∷ decimal 1000 0 ∷ decimal 10000 0 ∷ []

-- DCV_NEGK, by V range
unfoldable pub dcv_negk : List Float
dcv_negk = decimal 1 0 ∷ decimal 1 0 ∷ decimal 1 0 ∷ decimal 1 0 ∷ []

-- ACV_WIN, volts by V range
unfoldable pub acv_win : List Float
acv_win = decimal 3 1 ∷ decimal 3 0 ∷ decimal 30 0 ∷ decimal 50 0 ∷ []

-- ACA_WIN, by calibration index, in the unit of the range
unfoldable pub aca_win : List Float
aca_win = decimal 3 1 ∷ decimal 5 1 ∷ decimal 3 0 ∷ decimal 30 0 ∷ decimal 30 0 ∷ decimal 300 0 ∷ []

-- the two that are one number: their decimals, and their bits
unfoldable pub decided_floats : List Float
decided_floats = decimal 8388608 0 ∷ decimal 5 3 ∷ []

-- AD1_DIV: full scale of 24 bits with a sign, as in the formula in a comment of sentinel.rs
abbrev pub ad1_div : Float
ad1_div = of_bits binary32 0x4b00_0000  -- 8388608.0

-- FLOOR_V, which is AUTO_FLOOR_V[1], half a percent by the source's comment
abbrev pub floor_v : Float
floor_v = of_bits binary32 0x3ba3_d70a  -- 0.005
