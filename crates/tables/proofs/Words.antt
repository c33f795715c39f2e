-- A calibration word as a number: which patterns `cal` reads.
use mathlib.Core.Path.{◌≡◌, refl, sym, subst, ◌∙◌}
use mathlib.Core.Bool.{Bool, true, false, cond, not, ◌&&◌}
use Prim.Native.Nat.{ℕ, ◌/◌, ◌%◌, ◌^◌}
use native.Mathlib.Omega.{arith}
use borrow.Author.Tests.{ne_eqb}
use lib.Dec.{T, eqb, leb}
use lib.Ieee.{Float, nan, inf, fin, binary32, lt, of_bits, of_fields, nan_bits}
use Rattle.std.specs.Int.Bits.{bit_and}
use Rattle.std.proofs.lemmas.Nat.{and_mask}
use Rattle.numbers.specs.Binary32.{is_finite, abs_of}
use Rattle.tables.specs.Calibration.{million, usable}

-- the exponent field of a pattern, by its mask
field : (w : ℕ) → bit_and (w / 2 ^ 23) 255 ≡ w % 2147483648 / 8388608
field w = and_mask (w / 2 ^ 23) 8 ∙ omega arith

-- one that is not all ones is no NaN's
pub readable : (w : ℕ) → (bit_and (w / 2 ^ 23) 255 ≡ 255 → ⊥) → T (not (nan_bits binary32 w))
unfolding nan_bits
readable w h = subst (λ (b : Bool). T (not (b && not (eqb (w % 8388608) 0)))) (sym (ne_eqb (w % 2147483648 / 8388608) 255 (λ e. h (field w ∙ e)))) tt

-- one that is all ones is no number's
unusable_field : (s : Bool) (x t : ℕ) → x ≡ 255 → usable (of_fields binary32 s x t) ≡ false
unfolding usable is_finite of_fields
unusable_field s x t e = subst (λ (x : ℕ). usable (of_fields binary32 s x t) ≡ false) (sym e) (go (eqb t 0))
  where
    go : (b : Bool) → usable (cond b (inf s) nan) ≡ false
    go true = refl
    go false = refl

pub unusable : (w : ℕ) → bit_and (w / 2 ^ 23) 255 ≡ 255 → usable (of_bits binary32 w) ≡ false
unfolding of_bits
unusable w e = unusable_field (leb 2147483648 w) (w % 2147483648 / 8388608) (w % 8388608) (sym (field w) ∙ e)

-- what is below 1.0e6 in size is finite
pub sized : (x : Float) → usable x ≡ lt (abs_of x) million
unfolding usable is_finite abs_of lt of_bits
sized nan = refl
sized (inf s) = refl
sized (fin s m e) = refl
