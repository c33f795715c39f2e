-- Every offset that the source uses reads the word that begins there; 26 factors and 26 offsets. By computation.
use mathlib.Core.Path.{◌≡◌, refl}
use mathlib.Core.Bool.{true}
use mathlib.Core.List.{◌++◌}
use lib.ListN.{length}
use Rattle.std.specs.List.{list_all}
use Rattle.tables.specs.Offsets.{factors, offsets, begins_there}

pub checked : (list_all begins_there (factors ++ offsets) ≡ true) × (length factors ≡ 26) × (length offsets ≡ 26)
checked = (refl, refl, refl)
