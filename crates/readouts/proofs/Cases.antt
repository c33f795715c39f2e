-- The search for decimals that fit, one round at a time.
use mathlib.Core.Path.{◌≡◌, refl, subst}
use mathlib.Core.Bool.{true, false}
use Prim.Native.Nat.{ℕ, zero, suc, ◌<◌}
use native.Mathlib.Omega.{arith}
use lib.Ieee.{Float}
use Rattle.numbers.specs.Binary32.{◌*f◌}
use Rattle.readouts.specs.Bluetooth.{tenth, too_large, decimals_that_fit}

-- with too large a count one decimal goes
pub goes : (x k : Float) (less dec : ℕ) → suc less ≡ dec → too_large x k ≡ true → decimals_that_fit x (k *f tenth) less ≡ decimals_that_fit x k dec
unfolding decimals_that_fit
goes x k less dec e large = subst (λ (d : ℕ). decimals_that_fit x (k *f tenth) less ≡ decimals_that_fit x k d) e (rw large)

-- with one that fits the search is over, and without a decimal too
pub stays : (x k : Float) (dec : ℕ) → 0 < dec → too_large x k ≡ false → decimals_that_fit x k dec ≡ record { k = k; dec = dec }
unfolding decimals_that_fit
stays x k zero some fits = absurd (omega (arith, some))
stays x k (suc dec) some fits = rw fits

pub none_left : (x k : Float) (dec : ℕ) → dec ≡ 0 → decimals_that_fit x k dec ≡ record { k = k; dec = 0 }
unfolding decimals_that_fit
none_left x k zero h = refl
none_left x k (suc dec) h = absurd (omega (arith, h))
