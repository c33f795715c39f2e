-- The trial step fits 8 bits: 48 down from above 79, 48 up from any other.
use mathlib.Core.Path.{◌≡◌}
use mathlib.Core.Bool.{true, false, false≢true}
use Prim.Native.Nat.{suc}
use native.Mathlib.Omega.{arith}
use borrow.Author.Tests.{ltb-false}
use lib.IntN.{ℤ, pos, negsuc, ◌+ℤ◌}
use lib.Signed.{lt_z}
use mir.Syntax.{w8}
use mir.Val.{SFits}
use Rattle.figures.proofs.Within.{apart}

pub down_fits : (z : ℤ) → SFits w8 z → lt_z (pos 79) z ≡ true → SFits w8 (z +ℤ negsuc 47)
down_fits (pos n) f t = record { sfits = apart n 48 128 (omega (arith, f.sfits)) (omega arith) }
down_fits (negsuc n) f t = absurd (false≢true t)

pub up_fits : (z : ℤ) → SFits w8 z → lt_z (pos 79) z ≡ false → SFits w8 (z +ℤ pos 48)
up_fits (pos n) f t = record { sfits = omega (arith, ltb-false 79 n t) }
up_fits (negsuc n) f t = record { sfits = apart 48 (suc n) 128 (omega arith) (omega (arith, f.sfits)) }
