-- A code of 32 bits less a zero of 16 fits 64 bits; of the integers, and of what the machine reads back from their bits.
use mathlib.Core.Path.{◌≡◌, sym, ap, subst, ◌∙◌}
use Prim.Native.Nat.{zero, suc, ◌^◌}
use native.Mathlib.Omega.{arith}
use lib.IntN.{ℤ, pos, negsuc, ◌-ℤ◌}
use mir.Syntax.{w16, w32, w64}
use mir.Val.{SFits, to_z, of_z}
use mir.ValLaws.{to_z-of_z}
use Rattle.figures.proofs.Within.{apart}

pub wider : (z : ℤ) → SFits w32 z → SFits w64 z
wider (pos n) f = record { sfits = omega (arith, f.sfits) }
wider (negsuc n) f = record { sfits = omega (arith, f.sfits) }

pub widest : (z : ℤ) → SFits w16 z → SFits w64 z
widest (pos n) f = record { sfits = omega (arith, f.sfits) }
widest (negsuc n) f = record { sfits = omega (arith, f.sfits) }

pub less_fits : (x y : ℤ) → SFits w32 x → SFits w16 y → SFits w64 (x -ℤ y)
less_fits (pos a) (pos zero) f g = record { sfits = omega (arith, f.sfits) }
less_fits (pos a) (pos (suc b)) f g = record { sfits = apart a (suc b) (2 ^ 63) (omega (arith, f.sfits)) (omega (arith, g.sfits)) }
less_fits (pos a) (negsuc b) f g = record { sfits = omega (arith, f.sfits, g.sfits) }
less_fits (negsuc a) (pos zero) f g = record { sfits = apart 0 (suc a) (2 ^ 63) (omega arith) (omega (arith, f.sfits)) }
less_fits (negsuc a) (pos (suc b)) f g = record { sfits = omega (arith, f.sfits, g.sfits) }
less_fits (negsuc a) (negsuc b) f g = record { sfits = apart (suc b) (suc a) (2 ^ 63) (omega (arith, g.sfits)) (omega (arith, f.sfits)) }

-- ---- as the machine has them: each number is read back from its bits

read32 : (z : ℤ) → SFits w32 z → to_z w64 (of_z w64 (to_z w32 (of_z w32 z))) ≡ z
read32 z f = ap (λ (v : ℤ). to_z w64 (of_z w64 v)) (to_z-of_z w32 z f) ∙ to_z-of_z w64 z (wider z f)

read16 : (z : ℤ) → SFits w16 z → to_z w64 (of_z w64 (to_z w16 (of_z w16 z))) ≡ z
read16 z f = ap (λ (v : ℤ). to_z w64 (of_z w64 v)) (to_z-of_z w16 z f) ∙ to_z-of_z w64 z (widest z f)

less_is : (x y : ℤ) → SFits w32 x → SFits w16 y → to_z w64 (of_z w64 (to_z w32 (of_z w32 x))) -ℤ to_z w64 (of_z w64 (to_z w16 (of_z w16 y))) ≡ x -ℤ y
less_is x y f g = ap (λ (v : ℤ). v -ℤ to_z w64 (of_z w64 (to_z w16 (of_z w16 y)))) (read32 x f) ∙ ap (λ (v : ℤ). x -ℤ v) (read16 y g)

pub difference_fits : (x y : ℤ) → SFits w32 x → SFits w16 y → SFits w64 (to_z w64 (of_z w64 (to_z w32 (of_z w32 x))) -ℤ to_z w64 (of_z w64 (to_z w16 (of_z w16 y))))
difference_fits x y f g = subst (λ (v : ℤ). SFits w64 v) (sym (less_is x y f g)) (less_fits x y f g)

pub difference : (x y : ℤ) → SFits w32 x → SFits w16 y → to_z w64 (of_z w64 (to_z w64 (of_z w64 (to_z w32 (of_z w32 x))) -ℤ to_z w64 (of_z w64 (to_z w16 (of_z w16 y))))) ≡ x -ℤ y
difference x y f g = ap (λ (v : ℤ). to_z w64 (of_z w64 v)) (less_is x y f g) ∙ to_z-of_z w64 (x -ℤ y) (less_fits x y f g)
