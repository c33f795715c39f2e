-- `round` at binary32 by bit patterns: the pattern k * 2 ^ 23 + q is the value of q * 2 ^ k smallest values.
use Rattle.std.proofs.Common.{◌≡◌, ℕ, zero, suc, ◌+◌, ◌-◌, ◌*◌, ◌/◌, ◌%◌, ◌^◌, ◌<◌, ◌≤◌, Bool, false, cond, eqb, leb, pos, sym, refl, ap, ◌∙◌, subst, inl, inr, le_trans, le_of_eq, le_refl, lt_of_lt_of_le, mul-le-mul_right, zero-lt-suc, mul_assoc, mul_comm, div-lt_iff_lt-mul, le_antisymm, eq-or-lt_of_le, mul-pos, one-mul, pow-suc, lt_of_not-le, le-div_iff_mul-le, ne_of_lt, not-le_of_lt, div-one, arith, lit<, pow_pos, pow_mono, pow-add, shl_lt, lt-ltb, ne_eqb}
use Prim.Native.Nat.{compare}
use borrow.Author.Tests.{lt-leb}
use lib.Count.{count_trailing_zeros, under}
use lib.Ieee.{nan, inf, fin, Format, binary32, prec, ones, hid, low, size, odd, units, round, of_fields, of_bits, minus, of_int}
use lib.Ieee.Digits.{size-lt, size-le}
use lib.Ieee.Fits.{round_is, core, nearest-le}
use lib.Ieee.Nearest.{closest, closest_same, nearest-ge}

-- ---- one more digit to look at changes nothing
half_pos : (q : ℕ) → 0 < q → q % 2 ≡ 0 → 0 < q / 2
half_pos q h e = omega arith

half_lt : (q p : ℕ) → q < p * 2 → q / 2 < p
half_lt q p h = omega arith

none : (q : ℕ) → 0 < q → q < 1 → ⊥
none q h k = omega arith

trail_more : (d q : ℕ) → 0 < q → q < 2 ^ d → count_trailing_zeros (suc d) q ≡ count_trailing_zeros d q
unfolding count_trailing_zeros
trail_more zero q h k = absurd (none q h k)
trail_more (suc d) q h k = go (q % 2) refl (λ (e : q % 2 ≡ 0). trail_more d (q / 2) (half_pos q h e) (half_lt q (2 ^ d) (subst (λ (x : ℕ). q < x) (pow-suc 2 d) k)))
  where
    go : (r : ℕ) → q % 2 ≡ r → (q % 2 ≡ 0 → count_trailing_zeros (suc d) (q / 2) ≡ count_trailing_zeros d (q / 2)) → under r (count_trailing_zeros (suc d) (q / 2)) ≡ under r (count_trailing_zeros d (q / 2))
    go zero e ih = ap suc (ih e)
    go (suc r) e ih = refl

odd_more : (d : ℕ) (s : Bool) (q k l : ℕ) → q < 2 ^ d → odd (suc d) s q k l ≡ odd d s q k l
unfolding odd
odd_more d s zero k l h = refl
odd_more d s (suc q) k l h = ap (λ (t : ℕ). fin s (suc q / 2 ^ t) (minus (k + t) l)) (trail_more d (suc q) (zero-lt-suc q) h)

-- ---- a pattern's fields
of_bits_is : (b : ℕ) → of_bits binary32 b ≡ of_fields binary32 (leb 2147483648 b) (b % 2147483648 / 8388608) (b % 8388608)
unfolding of_bits
of_bits_is b = refl

fields_below : (x t : ℕ) → x < 256 → t < 8388608 → x * 8388608 + t < 2147483648
fields_below x t h k = omega arith

exponent_field : (x t : ℕ) → x < 256 → t < 8388608 → (x * 8388608 + t) % 2147483648 / 8388608 ≡ x
exponent_field x t h k = omega arith

digit_field : (x t : ℕ) → t < 8388608 → (x * 8388608 + t) % 8388608 ≡ t
digit_field x t k = omega arith

pub by_fields : (x t : ℕ) → x < 256 → t < 8388608 → of_bits binary32 (x * 8388608 + t) ≡ of_fields binary32 false x t
by_fields x t h k =
    of_bits_is (x * 8388608 + t)
    ∙ ap (λ (s : Bool). of_fields binary32 s ((x * 8388608 + t) % 2147483648 / 8388608) ((x * 8388608 + t) % 8388608)) (lt-leb 2147483648 (x * 8388608 + t) (fields_below x t h k))
    ∙ ap (λ (y : ℕ). of_fields binary32 false y ((x * 8388608 + t) % 8388608)) (exponent_field x t h k)
    ∙ ap (λ (y : ℕ). of_fields binary32 false x y) (digit_field x t k)

pub at_field : (f : Format) (x t : ℕ) → suc x < ones f → of_fields f false (suc x) t ≡ odd (prec f) false (hid f + t) x (low f)
unfolding of_fields
at_field f x t h = ap (λ (b : Bool). cond b (cond (eqb t 0) (inf false) nan) (odd (prec f) false (hid f + t) x (low f))) (ne_eqb (suc x) (ones f) (ne_of_lt h))

-- ---- q * 2 ^ k smallest values, where q has all 24 digits
all_digits : (q k : ℕ) → 8388608 ≤ q → q < 16777216 → k < 254 → of_bits binary32 (k * 8388608 + q) ≡ odd 25 false q k 149
all_digits q k a b h =
    ap (of_bits binary32) (carry q k a)
    ∙ by_fields (suc k) (q - 8388608) (up1 k h) (cut q b)
    ∙ at_field binary32 k (q - 8388608) (up2 k h)
    ∙ ap (λ (x : ℕ). odd 24 false x k 149) (back q a)
    ∙ sym (odd_more 24 false q k 149 b)
  where
    carry : (x y : ℕ) → 8388608 ≤ x → y * 8388608 + x ≡ suc y * 8388608 + (x - 8388608)
    carry x y p = omega arith

    up1 : (y : ℕ) → y < 254 → suc y < 256
    up1 y p = omega arith

    up2 : (y : ℕ) → y < 254 → suc y < 255
    up2 y p = omega arith

    cut : (x : ℕ) → x < 16777216 → x - 8388608 < 8388608
    cut x p = omega arith

    back : (x : ℕ) → 8388608 ≤ x → 8388608 + (x - 8388608) ≡ x
    back x p = omega arith

-- and where it is 2 ^ 24
carried : (k : ℕ) → k < 253 → of_bits binary32 (k * 8388608 + 16777216) ≡ odd 25 false 16777216 k 149
unfolding odd count_trailing_zeros
carried k h =
    ap (of_bits binary32) (carry k)
    ∙ by_fields (suc (suc k)) 0 (up1 k h) (lit< tt)
    ∙ at_field binary32 (suc k) 0 (up2 k h)
    ∙ same k
  where
    carry : (y : ℕ) → y * 8388608 + 16777216 ≡ suc (suc y) * 8388608 + 0
    carry y = omega arith

    up1 : (y : ℕ) → y < 253 → suc (suc y) < 256
    up1 y p = omega arith

    up2 : (y : ℕ) → y < 253 → suc (suc y) < 255
    up2 y p = omega arith

    same : (y : ℕ) → odd 24 false 8388608 (suc y) 149 ≡ odd 25 false 16777216 y 149
    same y = ap (λ (n : ℕ). fin false 1 (minus n 149)) (go y)
      where
        go : (z : ℕ) → suc z + 23 ≡ z + 24
        go z = omega arith

-- ---- the same as `units`
units_is : (q k : ℕ) → q * 2 ^ k < 2 ^ 277 → units binary32 false q k ≡ odd 25 false q k 149
unfolding units
units_is q k h = ap (λ (b : Bool). cond b (odd 25 false q k 149) (inf false)) (lt-ltb (q * 2 ^ k) (2 ^ 277) h)

in_range : (q k : ℕ) → q ≤ 16777216 → k ≤ 252 → q * 2 ^ k < 2 ^ 277
in_range q k a h = lt_of_lt_of_le (shl_lt 25 k (wide q a)) (pow_mono (most k h))
  where
    wide : (x : ℕ) → x ≤ 16777216 → x < 33554432
    wide x p = omega arith

    most : (y : ℕ) → y ≤ 252 → 25 + y ≤ 277
    most y p = omega arith

pub units_bits : (q k : ℕ) → 8388608 ≤ q → q ≤ 16777216 → k ≤ 252 → of_bits binary32 (k * 8388608 + q) ≡ units binary32 false q k
units_bits q k a b h = elim (eq-or-lt_of_le b) [
  | inl e ↦ subst (λ (x : ℕ). of_bits binary32 (k * 8388608 + x) ≡ units binary32 false x k) (sym e) (carried k (low k h) ∙ sym (units_is 16777216 k (in_range 16777216 k (le_refl 16777216) h)))
  | inr l ↦ all_digits q k a l (low_last k h) ∙ sym (units_is q k (in_range q k b h))
]
  where
    low : (y : ℕ) → y ≤ 252 → y < 253
    low y p = omega arith

    low_last : (y : ℕ) → y ≤ 252 → y < 254
    low_last y p = omega arith

-- ---- `round` of a whole number of 24 + j digits
pub size_is : (n z : ℕ) → 2 ^ z ≤ n → n < 2 ^ suc z → size n ≡ suc z
size_is n z a b = le_antisymm (size-le n (suc z) b) (lt_of_not-le (λ (g : size n ≤ z). not-le_of_lt (lt_of_lt_of_le (size-lt n) (pow_mono g)) a))

module _ (n j : ℕ) (lo : 2 ^ (23 + j) ≤ n) (hi : n < 2 ^ (24 + j)) where
  digits : size (n * 2 ^ 149 / 1) ≡ suc (23 + j + 149)
  digits =
      ap size (div-one (n * 2 ^ 149))
      ∙ size_is (n * 2 ^ 149) (23 + j + 149) (le_trans (le_of_eq (pow-add 2 (23 + j) 149)) (mul-le-mul_right (2 ^ 149) lo))
      (subst (λ (x : ℕ). n * 2 ^ 149 < 2 ^ x) (more j) (shl_lt (24 + j) 149 hi))
    where
      more : (y : ℕ) → 24 + y + 149 ≡ suc (23 + y + 149)
      more y = omega arith

  cross : n * 2 ^ 149 * 2 ^ j ≡ n * (1 * 2 ^ (j + 149))
  cross = mul_assoc n (2 ^ 149) (2 ^ j) ∙ ap (λ (x : ℕ). n * x) (mul_comm (2 ^ 149) (2 ^ j) ∙ sym (pow-add 2 j 149) ∙ sym (one-mul (2 ^ (j + 149))))

  pub round_at : round binary32 false n 1 ≡ units binary32 false (closest n (2 ^ j)) (j + 149)
  round_at =
      round_is binary32 false n 1
      ∙ ap (λ (z : ℕ). core binary32 false (n * 2 ^ 149) 1 (z - 24)) digits
      ∙ ap (core binary32 false (n * 2 ^ 149) 1) (less j)
      ∙ ap (λ (z : ℕ). units binary32 false z (j + 149)) (closest_same (n * 2 ^ 149) (1 * 2 ^ (j + 149)) n (2 ^ j) (mul-pos (lit< tt) (pow_pos (j + 149))) (pow_pos j) cross)
    where
      less : (y : ℕ) → suc (23 + y + 149) - 24 ≡ y + 149
      less y = omega arith

  pub kept_lo : 8388608 ≤ closest n (2 ^ j)
  kept_lo = le_trans ((le-div_iff_mul-le (pow_pos j)).1 (le_trans (le_of_eq (sym (pow-add 2 23 j))) lo)) (nearest-ge (n / 2 ^ j) (compare (n % 2 ^ j * 2) (2 ^ j)))

  pub kept_hi : closest n (2 ^ j) ≤ 16777216
  kept_hi = le_trans (nearest-le (n / 2 ^ j) (compare (n % 2 ^ j * 2) (2 ^ j))) ((div-lt_iff_lt-mul (pow_pos j)).1 (lt_of_lt_of_le hi (le_of_eq (pow-add 2 24 j))))

  pub of_int_bits : j ≤ 103 → of_bits binary32 ((149 + j) * 8388608 + closest n (2 ^ j)) ≡ of_int binary32 (pos n)
  unfolding of_int
  of_int_bits h =
      ap (λ (z : ℕ). of_bits binary32 (z * 8388608 + closest n (2 ^ j))) (turn j)
      ∙ units_bits (closest n (2 ^ j)) (j + 149) kept_lo kept_hi (most j h)
      ∙ sym round_at
    where
      turn : (y : ℕ) → 149 + y ≡ y + 149
      turn y = omega arith

      most : (y : ℕ) → y ≤ 103 → y + 149 ≤ 252
      most y p = omega arith
