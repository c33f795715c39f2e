-- The energy accumulator, the source's `Acc`: its step, its add and its watt hours. Refusal 6 is given for "a sum in `Acc::add` that is not finite or outside -2^63 <= sum < 2^63", and for "a millijoule
-- count .. outside signed 64 bits". Document 01 says the second of the accounting step; it is tested in every add, since the source's `mj += w` overflows in any of them (docs/DECISIONS.md).
use Rattle.std.specs.Prelude.{Bool, ◌&&◌, if◌then◌else◌, ◌^◌, ltb, ℤ, pos, negsuc, ◌+ℤ◌, Float, Result, Ok, Err}
use Rattle.std.specs.Float.{binary32, binary64}
use Rattle.std.specs.Float.Ieee.{add, div, lt, le, neg, of_bits, of_int, to_signed}
use Rattle.numbers.specs.Binary32.{◌+f◌, ◌-f◌, ◌*f◌, zero_f}
use Rattle.numbers.specs.Convert.{narrow}
use Rattle.refusals.specs.declared.Refusal.{Refusal}
use Rattle.refusals.specs.declared.Refusal.TheVariants as refusal
use Rattle.figures.specs.declared.acc.Acc.{Acc}
use Rattle.figures.specs.declared.acc.Sum.{Sum}

-- Document 01: "a fresh accumulator", the source's `Acc::ZERO`
abbrev pub fresh_acc : Acc
fresh_acc = record { mj = pos 0; frac = zero_f }

-- 2 ^ 63
abbrev pub two63 : Float
two63 = of_bits binary32 0x5f00_0000

-- -2^63 <= x < 2^63, which a NaN and the infinities are not
unfoldable pub sum_in_range : Float → Bool
sum_in_range x = le (neg two63) x && lt x two63

-- -2^63 <= z < 2^63. `negsuc n` is -(n + 1)
unfoldable pub count_in_range : ℤ → Bool
count_in_range (pos n) = ltb n (2 ^ 63)
count_in_range (negsuc n) = ltb n (2 ^ 63)

-- Millijoules join the fraction. The whole part of the rounded sum, cut toward zero (`to_signed 63` is Rust's `as i64`), goes to the count, and what is left of the sum is the new fraction.
-- Full where the sum or the new count is out of range.
unfoldable pub acc_step : Acc → Float → Result Sum Refusal
acc_step a millijoules =
    let x = a.frac +f millijoules in
    let w = to_signed 63 x in
    if sum_in_range x && count_in_range (a.mj +ℤ w) then Ok (record { acc = record { mj = a.mj +ℤ w; frac = x -f of_int binary32 w }; gained = w }) else Err refusal.Full

-- 1000.0
abbrev pub thousand : Float
thousand = of_bits binary32 0x447a_0000

-- the source's `Acc::add`
unfoldable pub add_to : Acc → Float → Result Sum Refusal
add_to a joules = acc_step a (joules *f thousand)

-- of each answer to an add to a: the record that stands after it, and the whole millijoules that its count gained; document 01's number is its `told_number`
abbrev pub added_acc : Acc → Result Sum Refusal → Acc
added_acc a (Ok s) = s.acc
added_acc a (Err r) = a

abbrev pub added_whole : Result Sum Refusal → ℤ
added_whole (Ok s) = s.gained
added_whole (Err r) = pos 0

-- what the lent add answers: it stores the record, and gives back done or the refusal
abbrev pub add_answer : Result Sum Refusal → Result (Unit {0}) Refusal
add_answer (Ok s) = Ok tt
add_answer (Err r) = Err r

-- 3.6e6, the millijoules of a watt hour, in binary64
abbrev pub watt_hour : Float
watt_hour = of_bits binary64 0x414b_7740_0000_0000

-- the source's `Acc::wh`: count and fraction added and divided in binary64, then rounded to binary32
unfoldable pub watt_hours : Acc → Float
watt_hours a = narrow (div binary64 (add binary64 (of_int binary64 a.mj) a.frac) watt_hour)
