-- The source's `seen`: "Parts measured since the last (re)start: 1 P, 2 V, 4 I".
use Rattle.std.specs.Prelude.{Bool, if◌then◌else◌, ◌&&◌, ℕ, ◌+◌, ◌/◌, ◌%◌, eqb}
use Rattle.state.specs.declared.Quantity.{Quantity}
use Rattle.state.specs.declared.Quantity.TheVariants.{Power, Voltage, Current}

unfoldable pub bit_of : Quantity → ℕ
bit_of Power = 1
bit_of Voltage = 2
bit_of Current = 4

-- `seen & bit != 0`
unfoldable pub has_seen : ℕ → Quantity → Bool
has_seen seen q = eqb (seen / bit_of q % 2) 1

-- `seen | bit`
unfoldable pub also_seen : ℕ → Quantity → ℕ
also_seen seen q = if has_seen seen q then seen else seen + bit_of q

-- `seen & 6 == 6`
unfoldable pub both_seen : ℕ → Bool
both_seen seen = has_seen seen Voltage && has_seen seen Current
