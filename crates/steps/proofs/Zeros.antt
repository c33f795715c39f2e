-- The voltage's zero in force is the same by the stored mark and by the zeros in force.
use mathlib.Core.Path.{◌≡◌, refl}
use mathlib.Core.Bool.{Bool, true, false, cond}
use lib.IntN.{pos}
use Rattle.state.specs.declared.Corrections.{Corrections}
use Rattle.takes.specs.Scales.{zero_y}
use Rattle.steps.specs.Reading.{none, kept, zeros_in, zy_of}

pub same_zero : (c : Corrections) → zero_y c ≡ zy_of (zeros_in c)
unfolding zero_y zeros_in
same_zero c = go c.zero_ok
  where
    go : (t : Bool) → cond t c.zy (pos 0) ≡ zy_of (cond t (kept c.zx c.zd c.zy) none)
    go true = refl
    go false = refl
