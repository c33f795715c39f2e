-- The other phase, by its lowest bit turned over.
use mathlib.Core.Logic.{◌≢◌}
use mathlib.Core.Path.{◌≡◌, refl}
use mathlib.Core.Bool.{Bool, true, false, cond}
use Prim.Native.Nat.{ℕ, ◌+◌, ◌-◌, ◌%◌}
use native.Mathlib.Omega.{arith}
use borrow.Author.Tests.{eqb-true, eqb-false}
use lib.Bits.{bit_xor, xor_add_and}
use lib.Dec.{eqb}
use Rattle.std.proofs.lemmas.Nat.{and_mask}
use Rattle.ranging.specs.Cycle.{other_phase}

pub turned : (phase : ℕ) → bit_xor phase 1 ≡ other_phase phase
unfolding other_phase
turned phase = by (eqb (phase % 2) 0) (eqb-true (phase % 2) 0) (eqb-false (phase % 2) 0)
  where
    by : (t : Bool) → (t ≡ true → phase % 2 ≡ 0) → (t ≡ false → phase % 2 ≢ 0) → bit_xor phase 1 ≡ cond t (phase + 1) (phase - 1)
    by true f g = omega (arith, xor_add_and phase 1, and_mask phase 1, f refl)
    by false f g = omega (arith, xor_add_and phase 1, and_mask phase 1, g refl)
