-- The calibration words, by document 01: "Calibration is 73 words of 32 bits and a valid mark; `cal` takes the word at byte offset, or its default if the mark is off, or the value
-- is not finite or not below 1.0e6 in size." Refusal 8: "calibration words not 73".
use Rattle.std.specs.Prelude.{Bool, false, ◌&&◌, if◌then◌else◌, List, ℕ, ◌/◌, eqb, ltb, length, get_or, replicate, Float, Result, Ok, Err}
use Rattle.std.specs.Float.{binary32}
use Rattle.std.specs.Float.Ieee.{lt, of_bits}
use Rattle.numbers.specs.Binary32.{zero_f, one_f, is_finite, abs_of}
use Rattle.refusals.specs.declared.Refusal.{Refusal}
use Rattle.refusals.specs.declared.Refusal.TheVariants as refusal
use Rattle.tables.specs.declared.calibration.Calibration.{Calibration}

-- zeros with the mark off: no valid word
abbrev pub no_calibration : Calibration
no_calibration = record { words = replicate 73 0; valid = false }

-- the lent words with their mark, or refusal 8
unfoldable pub calibration_of : List ℕ → Bool → Result Calibration Refusal
calibration_of words valid = if eqb (length words) 73 then Ok (record { words = words; valid = valid }) else Err refusal.Words

-- the 32 bits of the word that has byte `at`: a word has four bytes
abbrev pub word_at : List ℕ → ℕ → ℕ
word_at words at = get_or words (at / 4) 0

abbrev pub million : Float
million = of_bits binary32 0x4974_2400  -- 1.0e6

-- "not finite or not below 1.0e6 in size", turned about
unfoldable pub usable : Float → Bool
usable x = is_finite x && lt (abs_of x) million

-- `cal`: the number whose bits the word has. A byte past the last word has the default too
unfoldable pub cal : Calibration → ℕ → Float → Float
cal c at default =
    let x = of_bits binary32 (word_at c.words at) in
    if c.valid && ltb (at / 4) 73 && usable x then x else default

-- a word that the source multiplies or divides by, with its default 1.0; and one that it takes away, with its default 0.0
unfoldable pub factor : Calibration → ℕ → Float
factor c at = cal c at one_f

unfoldable pub offset : Calibration → ℕ → Float
offset c at = cal c at zero_f
