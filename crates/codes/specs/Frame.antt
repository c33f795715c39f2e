-- The code formats of a frame, by document 01: "Bytes 0..2 are AD1, 24 bits; 6..8 are LPF, 19 bits; 9..13 are RMS, 38 bits; each little-endian two's complement
-- with higher bits ignored." The source: `s24`, `lpf19` and `rms_signed` of hy3131.rs.
use Rattle.std.specs.Prelude.{ℕ, zero, suc, ◌+◌, ◌-◌, ◌*◌, ◌%◌, ◌^◌, if◌then◌else◌, List, eqb, ltb, ℤ, pos, length, get_or, Result, Ok, Err}
use Rattle.std.proofs.Math.IntN.{sub_ℕ}
use Rattle.refusals.specs.declared.Refusal.{Refusal}
use Rattle.refusals.specs.declared.Refusal.TheVariants.{Frame}
use Rattle.codes.specs.declared.Codes.{Codes}

-- the number in n bytes from byte `at` on, the first the least
unfoldable pub little_endian : ℕ → ℕ → List ℕ → ℕ
little_endian at zero bytes = 0
little_endian at (suc n) bytes = get_or bytes at 0 + 256 * little_endian (suc at) n bytes

-- the low w bits of n: below 2 ^ (w - 1) as they stand, else less 2 ^ w
unfoldable pub twos_complement : ℕ → ℕ → ℤ
twos_complement w n = if ltb (n % 2 ^ w) (2 ^ (w - 1)) then pos (n % 2 ^ w) else sub_ℕ (n % 2 ^ w) (2 ^ w)

-- AD1: 24 bits of bytes 0..2
abbrev pub ad1_of : List ℕ → ℤ
ad1_of bytes = twos_complement 24 (little_endian 0 3 bytes)

-- LPF: 19 bits of bytes 6..8
abbrev pub lpf_of : List ℕ → ℤ
lpf_of bytes = twos_complement 19 (little_endian 6 3 bytes)

-- RMS: 38 bits of bytes 9..13
abbrev pub rms_of : List ℕ → ℤ
rms_of bytes = twos_complement 38 (little_endian 9 5 bytes)

-- the three codes of a frame
abbrev pub codes_of : List ℕ → Codes
codes_of bytes = record { ad1 = ad1_of bytes; lpf = lpf_of bytes; rms = rms_of bytes }

-- they are taken; refused for every length but 14, by refusal 4, "frame not 14 bytes"
unfoldable pub decoded : List ℕ → Result Codes Refusal
decoded bytes = if eqb (length bytes) 14 then Ok (codes_of bytes) else Err Frame
