-- The first lines of `pw_vals` of the source: by which method and coupling it works, and whether it has values.
use Rattle.std.specs.Prelude.{Bool, not, ◌&&◌, ◌||◌, ℕ, eqb}
use Rattle.tables.specs.Constants.{coup_acdc, coup_ac}
use Rattle.state.specs.declared.Mode.{Mode}
use Rattle.state.specs.declared.Quantity.TheVariants.{Power}
use Rattle.state.specs.Seen.{has_seen, both_seen}

-- `pw.alt && !pw.dc`
unfoldable pub alternating : Mode → Bool
alternating m = m.alt && not m.dc

-- `b`: `!pw.alt && !pw.dc`
unfoldable pub simultaneous : Mode → Bool
simultaneous m = not m.alt && not m.dc

-- `ac`: `pw.coup == COUP_AC && !pw.dc`
unfoldable pub ac_only : Mode → Bool
ac_only m = eqb m.coup coup_ac && not m.dc

-- method B in AC+DC coupling: `b && pw.coup == COUP_ACDC`
unfoldable pub ac_dc : Mode → Bool
ac_dc m = simultaneous m && eqb m.coup coup_acdc

-- `pw.on && pw.seen & need == need`, where `need` is 6 (voltage and current) in the alternating method, else 7 (and power)
unfoldable pub measured : Mode → ℕ → Bool
measured m seen = m.on && (both_seen seen && (alternating m || has_seen seen Power))
