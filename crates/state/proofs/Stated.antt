-- What follows from the definitions: a deadline of an accepted call is not held back, and a meter just made is off and has no zeros, no gain and no job.
use mathlib.Core.Path.{◌≡◌, refl}
use mathlib.Core.Bool.{false}
use Prim.Native.Nat.{ℕ, ◌+◌, ◌-◌, ◌<◌, ◌≤◌, ◌^◌}
use native.Mathlib.Omega.{arith}
use borrow.Author.Tests.{lt-ltb}
use lib.ListN.{replicate}
use Rattle.numbers.specs.Binary32.{zero_f}
use Rattle.tables.specs.Bounds.{at_most}
use Rattle.tables.specs.declared.calibration.Calibration.{Calibration}
use Rattle.tables.specs.declared.description.Description.{Description}
use Rattle.state.specs.Counting.{deadline}
use Rattle.state.specs.Fresh.{new_pw}

-- document 01: "the deadline (the call's time plus the source's settle)"; a time of 2^48 ms or more is refused, and no settle is above 2000 ms
pub deadline_is : (now settle : ℕ) → now < 2 ^ 48 → settle ≤ 2000 → deadline now settle ≡ now + settle
unfolding deadline at_most
deadline_is now settle h k = rw (lt-ltb (now + settle) (2 ^ 64 - 1) (omega (arith, h, k)))

-- document 01, of the book: "at first none of these"
pub nothing_yet : (d : Description) (c : Calibration) → let m = new_pw d c in
    (m.corrections.zero_ok ≡ false) × (m.corrections.vgain ≡ replicate 4 zero_f) × (m.job.job ≡ 0) × (m.mode.on ≡ false)
unfolding new_pw
nothing_yet d c = (refl, refl, refl, refl)
