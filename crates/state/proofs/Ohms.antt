-- The path's ohms of a meter just made, as bits.
use mathlib.Core.Path.{◌≡◌, refl}
use mathlib.Core.List.{[], ◌∷◌}
use lib.Ieee.{of_bits, round, binary32}
use Rattle.tables.specs.Constants.{shunt_ohm}

pub ohms : shunt_ohm ≡ of_bits binary32 0x3c23_d70a ∷ of_bits binary32 0x3f00_0000 ∷ of_bits binary32 0x423e_0000 ∷ []
unfolding shunt_ohm of_bits round
ohms = refl
