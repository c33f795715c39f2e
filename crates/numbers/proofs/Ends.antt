-- `f32_to_i64`: the tests at -2 ^ 63 and 2 ^ 63, by the library's lemmas on the same values of f64.
use Rattle.std.proofs.Common.{◌≡◌, ◌-◌, ◌^◌, true, false, T, pos, negsuc, sym, refl, ap, ◌∙◌}
use lib.Ieee.{Float, fin, binary32, binary64, lt, le, neg, is_nan, of_bits, to_signed}
use Rattle.std.proofs.lemmas.Float.{T_from_false}
use Rattle.std.proofs.num.Truncating.{in_i64, past_i64, nan_i64, short_of_i64}

end : of_bits binary32 0x5f00_0000 ≡ of_bits binary64 0x43e0_0000_0000_0000
unfolding of_bits
end = refl

module _ (x : Float) where
  pub cut_past : le (of_bits binary32 0x5f00_0000) x ≡ true → to_signed 63 x ≡ pos (2 ^ 63 - 1)
  cut_past h = sym (past_i64 x (ap (λ (y : Float). le y x) (sym end) ∙ h))

  pub cut_nan : is_nan x ≡ true → to_signed 63 x ≡ pos 0
  cut_nan h = sym (nan_i64 x h)

  pub cut_short : le (neg (of_bits binary32 0x5f00_0000)) x ≡ false → is_nan x ≡ false → to_signed 63 x ≡ negsuc (2 ^ 63 - 1)
  cut_short h n = sym (short_of_i64 x (ap (λ (y : Float). le (neg y) x) (sym end) ∙ h) (T_from_false (is_nan x) n))

  inside : le (of_bits binary32 0x5f00_0000) x ≡ false → le (neg (of_bits binary32 0x5f00_0000)) x ≡ true → T (le (fin true 1 (pos 63)) x) × T (lt x (fin false 1 (pos 63)))
  inside h k = in_i64 x (ap (λ (y : Float). le y x) (sym end) ∙ h) (ap (λ (y : Float). le (neg y) x) (sym end) ∙ k)

  pub cut_above : le (of_bits binary32 0x5f00_0000) x ≡ false → le (neg (of_bits binary32 0x5f00_0000)) x ≡ true → T (le (fin true 1 (pos 63)) x)
  cut_above h k = (inside h k).0

  pub cut_below : le (of_bits binary32 0x5f00_0000) x ≡ false → le (neg (of_bits binary32 0x5f00_0000)) x ≡ true → T (lt x (fin false 1 (pos 63)))
  cut_below h k = (inside h k).1
