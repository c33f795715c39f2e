-- What holds of every meter just made and is kept by every autorange (proofs/Stated.antt).
use Rattle.std.specs.Prelude.{ℕ, ◌≤◌}
use Rattle.state.specs.declared.Ranges.{Ranges}

-- the ranges lie within the tables, and what is barred is none (0), mA (1) or uA (2)
abbrev pub InBounds : Ranges → ℕ → Type 0
InBounds r barred = (r.vr ≤ 3) × (r.ik ≤ 5) × (barred ≤ 2)
