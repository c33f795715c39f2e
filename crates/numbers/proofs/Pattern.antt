-- The bit pattern of a value without its sign: `x.to_bits() & 0x7fff_ffff`.
use Rattle.std.proofs.Common.{◌≡◌, ℕ, zero, suc, ◌+◌, ◌*◌, ◌%◌, ◌<◌, Bool, true, false, cond, not, T, ℤ, sym, refl, ap, ◌∙◌, subst, true≢false, zero-add, arith, lit<}
use lib.Bits.{bit_and, and_mask}
use lib.Ieee.{Float, nan, inf, fin, Format, binary32, binary64, top, ones, hid, of_bits, to_bits, fits, is_nan, nan_bits}
use lib.Ieee.Bits.{to_bits-lt, of_bits-to_bits}
use Rattle.std.proofs.lemmas.Float.{T_from_false}
use Rattle.std.proofs.num.Patterns.{bits_of_number, up_to_infinity}
use Rattle.numbers.specs.Binary32.{abs_of, is_minus}

pub abs_of_nan : (x : Float) → is_nan x ≡ true → abs_of x ≡ x
unfolding is_nan abs_of
abs_of_nan nan h = refl
abs_of_nan (inf s) h = absurd (true≢false (sym h))
abs_of_nan (fin s m e) h = absurd (true≢false (sym h))

abs_fits : (f : Format) (x : Float) → T (fits f x) → T (fits f (abs_of x))
unfolding fits abs_of
abs_fits f nan h = tt
abs_fits f (inf s) h = tt
abs_fits f (fin s zero e) h = h
abs_fits f (fin s (suc m) e) h = h

minus_fits : (f : Format) (s : Bool) (m : ℕ) (e : ℤ) → T (fits f (fin s m e)) → T (fits f (fin true m e))
unfolding fits
minus_fits f s zero e h = h
minus_fits f s (suc m) e h = h

lower : (t a b : ℕ) → t + a + b < 2 * t → 0 + a + b < t
lower t a b h = omega arith

inf_below : (f : Format) → 0 + ones f * hid f < top f
inf_below binary32 = lit< tt
inf_below binary64 = lit< tt

-- its pattern lies below the sign's bit
abs_below : (f : Format) (x : Float) → T (fits f x) → is_nan x ≡ false → to_bits f (abs_of x) < top f
unfolding to_bits is_nan abs_of
abs_below f nan h k = absurd (true≢false k)
abs_below f (inf s) h k = inf_below f
abs_below f (fin s m e) h k = lower (top f) _ _ (to_bits-lt f (fin true m e) (minus_fits f s m e h))

one_more : (t a : ℕ) → t + a ≡ t + (0 + a)
one_more t a = omega arith

two_more : (t a b : ℕ) → t + a + b ≡ t + (0 + a + b)
two_more t a b = omega arith

-- and a minus sign adds that bit
sign_adds : (f : Format) (x : Float) → is_nan x ≡ false → to_bits f x ≡ cond (is_minus x) (top f) 0 + to_bits f (abs_of x)
unfolding to_bits is_nan abs_of is_minus
sign_adds f nan k = absurd (true≢false k)
sign_adds f (inf true) k = one_more (top f) _
sign_adds f (inf false) k = one_more 0 _
sign_adds f (fin true m e) k = two_more (top f) _ _
sign_adds f (fin false m e) k = sym (zero-add _)

bit_cut : (s : Bool) (n : ℕ) → n < 2147483648 → (cond s 2147483648 0 + n) % 2147483648 ≡ n
bit_cut true n h = omega arith
bit_cut false n h = omega arith

-- ---- what the mask makes of it
module _ (x : Float) (F : fits binary32 x ≡ true) (N : is_nan x ≡ false) where
  held : T (fits binary32 x)
  held = subst T (sym F) tt

  clear : to_bits binary32 x % 2147483648 ≡ to_bits binary32 (abs_of x)
  clear = ap (λ (n : ℕ). n % 2147483648) (sign_adds binary32 x N) ∙ bit_cut (is_minus x) (to_bits binary32 (abs_of x)) (abs_below binary32 x held N)

  pub abs_defined : T (not (nan_bits binary32 (bit_and (to_bits binary32 x) 0x7fff_ffff)))
  abs_defined =
      subst (λ (n : ℕ). T (not (nan_bits binary32 n))) (sym (and_mask (to_bits binary32 x) 31))
      (up_to_infinity binary32 _ (bits_of_number binary32 x held (T_from_false (is_nan x) N)))

  pub abs_at : of_bits binary32 (bit_and (to_bits binary32 x) 0x7fff_ffff) ≡ abs_of x
  abs_at = ap (of_bits binary32) (and_mask (to_bits binary32 x) 31 ∙ clear) ∙ of_bits-to_bits binary32 (abs_of x) (abs_fits binary32 x held)
