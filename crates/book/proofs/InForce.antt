-- A gain that a job has earned is above zero, so it is the one in force; where none is stored the factory's is.
use mathlib.Core.Path.{◌≡◌, refl, sym}
use mathlib.Core.Bool.{Bool, true, false, ◌&&◌, cond, true≢false}
use mathlib.Core.List.{List}
use Prim.Native.Nat.{ℕ, ◌<◌, ◌≤◌}
use native.Mathlib.Omega.{arith}
use borrow.Author.Tests.{ltb-false}
use lib.Dec.{ltb}
use lib.Ieee.{Float, nan, lt, le, of_bits, of_fields, odd}
use lib.ListN.{get_or}
use Rattle.numbers.specs.Binary32.{zero_f}
use Rattle.numbers.proofs.Order.{lt_le_trans}
use Rattle.tables.specs.Bounds.{at_most, within}
use Rattle.tables.specs.Gain.{gain_least, gain_most, plausible, v_gain_factory, v_gain}
use Rattle.tables.specs.declared.calibration.Calibration.{Calibration}
use Rattle.book.specs.Book.{RangeGain, factory, earned}
use Rattle.book.specs.Demand3.{stored, in_force}

first_of : (a b : Bool) → a && b ≡ true → a ≡ true
first_of true b e = refl
first_of false b e = absurd (true≢false (sym e))

-- from 0.9 on is above zero
above_zero : (g : Float) → plausible g ≡ true → lt zero_f g ≡ true
unfolding plausible within lt of_bits of_fields odd
above_zero g p = lt_le_trans zero_f gain_least g refl (first_of (le gain_least g) (le g gain_most) p)

-- so one that is earned counts, and none does not
counts : (g : RangeGain) → ((x : Float) → g ≡ earned x → plausible x ≡ true) → (w : Calibration) (i : ℕ) → cond (lt zero_f (stored g)) (stored g) (v_gain_factory w i) ≡ in_force w i g
unfolding lt v_gain_factory of_bits
counts factory p w i = refl
counts (earned x) p w i = rw (above_zero x (p x refl))

held : (i : ℕ) → i < 4 → at_most 3 i ≡ i
unfolding at_most
held i h = go (ltb i 3) (ltb-false i 3)
  where
    go : (u : Bool) → (u ≡ false → 3 ≤ i) → cond u i 3 ≡ i
    go true f = refl
    go false f = omega (arith, f refl)

pub in_force_law : (w : Calibration) (vgain : List Float) (i : ℕ) (g : RangeGain) → i < 4 → get_or vgain i nan ≡ stored g → ((x : Float) → g ≡ earned x → plausible x ≡ true) → v_gain w vgain i ≡ in_force w i g
unfolding v_gain
in_force_law w vgain i g h e p = rw (held i h, e) (counts g p w i)
