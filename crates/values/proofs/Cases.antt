-- What is shown of the phase, by whether both AC parts reach their floors.
use mathlib.Core.Path.{◌≡◌, refl}
use mathlib.Core.Bool.{Bool, true, false, cond}
use lib.Ieee.{lt}
use Rattle.figures.specs.declared.load.Figures.{Figures}
use Rattle.state.specs.declared.Ranges.{Ranges}
use Rattle.values.specs.Load.{noise_of_q, no_phase, no_reactive, phase_shown}

pub phase_reached : (ac : Bool) (r : Ranges) (f : Figures) → phase_shown ac true r f ≡ cond (lt f.q (noise_of_q r f.v f.i)) (no_reactive f) f
unfolding phase_shown
phase_reached true r f = refl
phase_reached false r f = refl

pub phase_missed : (ac : Bool) (r : Ranges) (f : Figures) → phase_shown ac false r f ≡ cond ac (no_phase f) (no_reactive f)
unfolding phase_shown
phase_missed true r f = refl
phase_missed false r f = refl
