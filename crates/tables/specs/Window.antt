-- `cmp_window` of the source: the comparator's two tables, and one rule over both. The definition is by two separate walks, one over each table.
use Rattle.std.specs.Prelude.{Bool, true, if◌then◌else◌, ◌&&◌, List, [], ◌∷◌, ℕ, zero, suc, ◌+◌, ◌*◌, ◌<◌, get_or, Float, Option, Some, None}
use Rattle.std.specs.Float.{nan, binary32}
use Rattle.std.specs.Float.Ieee.{lt, le, of_bits}
use Rattle.numbers.specs.Binary32.{◌+f◌, ◌-f◌, ◌*f◌}
use Rattle.numbers.specs.Decimal.{decimal, minus_decimal}
use Rattle.tables.specs.declared.window.Side.{Side}
use Rattle.tables.specs.declared.window.Side.TheVariants.{Upper, Lower}
use Rattle.tables.specs.declared.window.Entry.{Entry}

-- CMP_RH and CMP_RL: the codes and the levels of the upper and of the lower thresholds
unfoldable pub codes : Side → List ℕ
codes Upper = 0xf ∷ 0xe ∷ 0xd ∷ 0xc ∷ 0xb ∷ 0xa ∷ 0x9 ∷ 0x8 ∷ 0x1 ∷ 0x0 ∷ 0x5 ∷ 0x6 ∷ []
codes Lower = 0x8 ∷ 0x9 ∷ 0xa ∷ 0xb ∷ 0xc ∷ 0xd ∷ 0xe ∷ 0xf ∷ 0x1 ∷ 0x0 ∷ 0x5 ∷ 0x6 ∷ []

unfoldable pub levels : Side → List Float
levels Upper =
    minus_decimal 208 4 ∷ decimal 0 0 ∷ decimal 208 4 ∷ decimal 417 4 ∷ decimal 625 4 ∷ decimal 1042 4 ∷ decimal 2083 4 ∷ decimal 4167 4 ∷ decimal 8 1 ∷ decimal 16 1
    ∷ minus_decimal 2 1 ∷ minus_decimal 4 1 ∷ []
levels Lower =
    minus_decimal 4167 4 ∷ minus_decimal 2083 4 ∷ minus_decimal 1042 4 ∷ minus_decimal 625 4 ∷ minus_decimal 417 4 ∷ minus_decimal 208 4 ∷ decimal 0 0 ∷ decimal 208 4 ∷ minus_decimal 8 1
    ∷ minus_decimal 16 1 ∷ decimal 2 1 ∷ decimal 4 1 ∷ []

-- the middle c moved outward by d: up for the upper side, down for the lower
unfoldable pub away : Side → Float → Float → Float
away Upper c d = c +f d
away Lower c d = c -f d

-- level v lies at the limit or beyond it, outward
unfoldable pub clears : Side → Float → Float → Bool
clears Upper limit v = le limit v
clears Lower limit v = le v limit

-- of two levels beyond the middle on this side, v is the nearer one
unfoldable pub nearer : Side → Float → Float → Bool
nearer Upper v w = lt v w
nearer Lower v w = lt w v

abbrev pub nearer_than : Side → Float → Option Entry → Bool
nearer_than side v None = true
nearer_than side v (Some before) = nearer side v before.level

-- an entry is picked where it clears the limit and is nearer than the one picked before
unfoldable pub picked : Side → Float → Option Entry → Entry → Option Entry
picked side limit best entry = if clears side limit entry.level then (if nearer_than side entry.level best then Some entry else best) else best

-- entry n of a table of codes and levels
abbrev pub entry_of : List ℕ → List Float → ℕ → Entry
entry_of ks vs n = record { code = get_or ks n 0; level = get_or vs n nan }

-- the entry picked of the first n entries of a table, in their order
unfoldable pub walk : Side → Float → List ℕ → List Float → ℕ → Option Entry
walk side limit ks vs zero = None
walk side limit ks vs (suc n) = picked side limit (walk side limit ks vs n) (entry_of ks vs n)

-- M, in volts; and 0.9 of the swing
abbrev pub margin : Float
margin = of_bits binary32 0x3bc4_9ba6  -- 0.006

abbrev pub reach : Float
reach = of_bits binary32 0x3f66_6666  -- 0.9

-- the nearest entry of a side's table that clears the middle c by M
abbrev pub nearest : Side → Float → Option Entry
nearest side c = walk side (away side c margin) (codes side) (levels side) 12

-- level v lies short of the middle c moved outward by 0.9 of the swing a
unfoldable pub inside : Side → Float → Float → Float → Bool
inside side c a v = nearer side v (away side c (reach *f a))

-- the code has four bits: what `joined` asks of the two picks that it is handed
unfoldable pub FourBits : Option Entry → Type 0
FourBits None = Unit
FourBits (Some entry) = entry.code < 16

-- none where a side has no entry, or where one lies outside the swing; else R21: the upper code in the high four bits, the lower one in the low four
unfoldable pub joined : Float → Float → Option Entry → Option Entry → Option ℕ
joined c a None down = None
joined c a (Some high) None = None
joined c a (Some high) (Some low) = if inside Upper c a high.level && inside Lower c a low.level then Some (high.code * 16 + low.code) else None

unfoldable pub cmp_window : Float → Float → Option ℕ
cmp_window c a = joined c a (nearest Upper c) (nearest Lower c)
