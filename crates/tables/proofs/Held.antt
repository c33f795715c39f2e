-- A number held to a bound, and the parts of a current range.
use mathlib.Core.Path.{◌≡◌, refl}
use mathlib.Core.Bool.{Bool, true, false, cond}
use Prim.Native.Nat.{ℕ, ◌≤◌}
use native.Mathlib.Omega.{arith}
use borrow.Author.Tests.{ltb-true}
use lib.Dec.{ltb}
use Rattle.tables.specs.Bounds.{at_most}
use Rattle.tables.specs.Ranges.{iu_ir}

pub at_most_law : (m n : ℕ) → at_most m n ≤ m
unfolding at_most
at_most_law m n = go (ltb n m) refl
  where
    go : (t : Bool) → ltb n m ≡ t → cond t n m ≤ m
    go true e = omega (arith, ltb-true n m e)
    go false e = omega arith

-- a unit is 0 to 2, a gain index 0 or 1
pub iu_most : (k : ℕ) → (iu_ir k).iu ≤ 2
unfolding iu_ir
iu_most k = omega arith

pub ir_most : (k : ℕ) → (iu_ir k).ir ≤ 1
unfolding iu_ir
ir_most k = omega arith
