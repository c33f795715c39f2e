-- The window's rule, as document 01 has it: "`cmp_window` answers none exactly when no upper entry clears the middle by M = 0.006 and lies below it plus 0.9 of the swing, or no lower
-- entry does so downward, in binary32; otherwise the nearest pair". Definitions only: proofs/WindowRule.antt proves that the rule holds of `cmp_window`.
use Rattle.std.specs.Prelude.{◌≡◌, Bool, true, ℕ, ◌+◌, ◌*◌, ◌<◌, get_or, Float}
use Rattle.std.specs.Float.{nan}
use Rattle.std.specs.Float.Ieee.{le}
use Rattle.tables.specs.declared.window.Side.{Side}
use Rattle.tables.specs.declared.window.Side.TheVariants.{Upper, Lower}
use Rattle.tables.specs.Window.{codes, levels, away, clears, inside, margin}

-- entry j's level
abbrev pub level : Side → ℕ → Float
level side j = get_or (levels side) j nan

-- entry j of a side clears the middle c by M, and lies short of it moved outward by 0.9 of the swing a
abbrev pub Serves : Side → Float → Float → ℕ → Type 0
Serves side c a j = (j < 12) × (clears side (away side c margin) (level side j) ≡ true) × (inside side c a (level side j) ≡ true)

-- no entry of a side does
abbrev pub NoEntryServes : Side → Float → Float → Type 0
NoEntryServes side c a = (j : ℕ) → Serves side c a j → ⊥

-- of two levels beyond the middle on this side, v is at least as near as w
abbrev pub as_near : Side → Float → Float → Bool
as_near Upper v w = le v w
as_near Lower v w = le w v

-- entry j serves, and is at least as near as any entry that serves
abbrev pub NearestServes : Side → Float → Float → ℕ → Type 0
NearestServes side c a j = Serves side c a j × ((i : ℕ) → Serves side c a i → as_near side (level side j) (level side i) ≡ true)

-- w is made of the codes of the nearest pair
unfoldable pub Pair : Float → Float → ℕ → Type 0
Pair c a w = (i : ℕ) × (j : ℕ) × NearestServes Upper c a i × NearestServes Lower c a j × (w ≡ get_or (codes Upper) i 0 * 16 + get_or (codes Lower) j 0)
