-- Rust's `min` with a constant and its `(least..=most).contains(&x)`; and a table read at an index that is held.
use Rattle.std.specs.Prelude.{Bool, if◌then◌else◌, ◌&&◌, List, ℕ, ◌-◌, ltb, length, get_or, Float}
use Rattle.std.specs.Float.Ieee.{le}

-- n, but `most` where n is above it
unfoldable pub at_most : ℕ → ℕ → ℕ
at_most most n = if ltb n most then n else most

-- entry k of a table, or its last one where k is past the end; `none` stands for an entry of an empty table
unfoldable pub entry_at : {A : Type 0} → A → List A → ℕ → A
entry_at none table k = get_or table (at_most (length table - 1) k) none

-- least <= x <= most, which no NaN is
unfoldable pub within : Float → Float → Float → Bool
within least most x = le least x && le x most
