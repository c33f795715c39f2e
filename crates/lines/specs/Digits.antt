-- Digits, decimal and hex: document 01's "decimal digits" and "hex digits of either case". Bytes are ASCII.
use Rattle.std.specs.Prelude.{ℕ, Bool, if◌then◌else◌, ◌&&◌, List, [], ◌∷◌, Option, Some, None, nat_le}
use Rattle.std.specs.Char.{digit_value, is_digit}
use Rattle.std.specs.List.{list_all}
use Rattle.std.specs.Str.Parse.{digits_value}

-- from lo to hi, ends allowed
abbrev pub within : ℕ → ℕ → ℕ → Bool
within lo hi n = nat_le lo n && nat_le n hi

-- every byte is a digit of this base: `0` to `9`, `a` to `f`, `A` to `F`
abbrev pub all_digits : ℕ → List ℕ → Bool
all_digits base l = list_all (λ b. is_digit b base) l

-- the number that digits spell in a base, the greatest first
abbrev pub number_of : ℕ → List ℕ → ℕ
number_of base l = digits_value base l

-- the bytes that pairs of hex digits spell
unfoldable pub bytes_of : List ℕ → List ℕ
bytes_of (high ∷ low ∷ l) = number_of 16 (high ∷ low ∷ []) ∷ bytes_of l
bytes_of (b ∷ []) = []
bytes_of [] = []

-- ---- what is read, if every byte is a digit
abbrev pub digit_in : ℕ → ℕ → Option ℕ
digit_in base b = if is_digit b base then Some (digit_value b) else None

abbrev pub number_in : ℕ → List ℕ → Option ℕ
number_in base l = if all_digits base l then Some (number_of base l) else None

abbrev pub byte_in : ℕ → ℕ → Option ℕ
byte_in high low = number_in 16 (high ∷ low ∷ [])
