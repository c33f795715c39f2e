-- Where the source reads calibration words: the byte offsets in its calls of `cal`, as runs of words.
use Rattle.std.specs.Prelude.{Bool, List, [], ◌∷◌, ◌++◌, ℕ, zero, suc, ◌+◌, ◌*◌, eqb}
use Rattle.tables.specs.Calibration.{word_at}

-- the offsets of n words from `first` on
abbrev pub run : ℕ → ℕ → List ℕ
run first zero = []
run first (suc n) = first ∷ run (first + 4) n

-- by V range: DC volts, AC volts; by calibration index: DC amperes, AC amperes, and the LPF's. First the factors, then the offsets
abbrev pub factors : List ℕ
factors = run 0x04 4 ++ run 0x34 4 ++ run 0x94 6 ++ run 0xc4 6 ++ run 0xf4 6

abbrev pub offsets : List ℕ
offsets = run 0x14 4 ++ run 0x44 4 ++ run 0xac 6 ++ run 0xdc 6 ++ run 0x10c 6

-- 73 words, each of which holds its own number
abbrev pub from : ℕ → ℕ → List ℕ
from k zero = []
from k (suc n) = k ∷ from (suc k) n

abbrev pub own_numbers : List ℕ
own_numbers = from 0 73

-- word k has bytes 4 k to 4 k + 3: the word read at an offset is the one that begins there
abbrev pub begins_there : ℕ → Bool
begins_there o = eqb (4 * word_at own_numbers o) o
