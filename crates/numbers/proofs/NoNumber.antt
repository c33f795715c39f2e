-- The constant NAN of f32 is the NaN; and where one side is a NaN, so is the sum, the product and the quotient.
use Rattle.std.proofs.Common.{◌≡◌, refl}
use lib.Ieee.{Float, nan, inf, fin, binary32, add, mul, div, of_bits}
use Rattle.numbers.specs.Binary32.{◌+f◌, ◌*f◌, ◌/f◌}

pub nan_is : of_bits binary32 0x7fc0_0000 ≡ nan
unfolding of_bits
nan_is = refl

pub plus_nan : (x : Float) → x +f nan ≡ nan
unfolding add
plus_nan nan = refl
plus_nan (inf s) = refl
plus_nan (fin s m e) = refl

pub times_nan : (x : Float) → x *f nan ≡ nan
unfolding mul
times_nan nan = refl
times_nan (inf s) = refl
times_nan (fin s m e) = refl

pub over_nan : (x : Float) → x /f nan ≡ nan
unfolding div
over_nan nan = refl
over_nan (inf s) = refl
over_nan (fin s m e) = refl

pub nan_over : (x : Float) → nan /f x ≡ nan
unfolding div
nan_over x = refl
