-- `u64_to_f32`: the leading zeros give the exponent.
use Rattle.std.proofs.Common.{ℤ, negsuc, true, ◌≡◌, ℕ, suc, ◌+◌, ◌-◌, ◌*◌, ◌/◌, ◌%◌, ◌^◌, ◌<◌, ◌≤◌, false, pos, sym, refl, ap, ◌∙◌, subst, le_trans, le_of_eq, lt_of_lt_of_le, le_of_lt, mul-le-mul_right, mod-eq_of_lt, mul_assoc, mul-pos, one-mul, mul-one, div-one, arith, lit<, pow_pos, pow_mono, pow-add, shl_lt}
use lib.Signed.{lt_z}
use borrow.Author.Differences.{ints}
use Rattle.std.specs.Prelude.{unsigned_abs}
use Rattle.std.proofs.num.Values.{neg-round}
use lib.Count.{count_leading_zeros, leading_top}
use lib.Ieee.{neg, binary32, size, units, of_bits, of_int}
use lib.Ieee.Fits.{round_is, core}
use lib.Ieee.Nearest.{closest, closest_same}
use Rattle.numbers.specs.Convert.{rounded_quotient}
use Rattle.numbers.proofs.Shift.{Shifted, shift_is, shift_in}
use Rattle.numbers.proofs.Round.{size_is, units_bits, kept_hi, of_int_bits}
use Rattle.numbers.proofs.Quotient.{quotient_is, below}

-- ---- z leading zeros: n has 64 - z digits
record Digits (n z : ℕ) : Type 0 where
  pub some : z ≤ 63
  pub lo : 2 ^ (63 - z) ≤ n
  pub hi : n < 2 ^ (64 - z)

digits : (n : ℕ) → (n ≡ 0 → ⊥) → n < 2 ^ 64 → Digits n (count_leading_zeros 64 n)
digits n a b =
    let t = leading_top 64 n (positive n a) b in
    let z = count_leading_zeros 64 n in
    record {
      some = some' z t.0 t.1;
      lo = subst (λ (x : ℕ). 2 ^ x ≤ n) (lo' z t.0 t.1) t.2;
      hi = subst (λ (x : ℕ). n < 2 ^ x) (hi' z t.0 t.1) t.3;
    }
  where
    positive : (m : ℕ) → (m ≡ 0 → ⊥) → 0 < m
    positive m h = omega arith

    some' : (z j : ℕ) → z + suc j ≡ 64 → z ≤ 63
    some' z j e = omega arith

    lo' : (z j : ℕ) → z + suc j ≡ 64 → j ≡ 63 - z
    lo' z j e = omega arith

    hi' : (z j : ℕ) → z + suc j ≡ 64 → suc j ≡ 64 - z
    hi' z j e = omega arith

pub zero_is : (n : ℕ) → n ≡ 0 → of_bits binary32 0 ≡ of_int binary32 (pos n)
unfolding of_int of_bits
zero_is n e = subst (λ (k : ℕ). of_bits binary32 0 ≡ of_int binary32 (pos k)) (sym e) refl

-- ---- 24 digits or fewer: moved up by s places, nothing is dropped
module _ (n s : ℕ) (S : s ≤ 23) (lo : 8388608 ≤ n * 2 ^ s) (hi : n * 2 ^ s < 16777216) where
  moved : n * 2 ^ 149 ≡ n * 2 ^ s * 2 ^ (149 - s)
  moved = ap (λ (x : ℕ). n * x) (ap (λ (x : ℕ). 2 ^ x) (all s S) ∙ pow-add 2 s (149 - s)) ∙ sym (mul_assoc n (2 ^ s) (2 ^ (149 - s)))
    where
      all : (y : ℕ) → y ≤ 23 → 149 ≡ y + (149 - y)
      all y p = omega arith

  size_moved : size (n * 2 ^ 149 / 1) ≡ suc (23 + (149 - s))
  size_moved =
      ap size (div-one (n * 2 ^ 149) ∙ moved)
      ∙ size_is (n * 2 ^ s * 2 ^ (149 - s)) (23 + (149 - s)) (le_trans (le_of_eq (pow-add 2 23 (149 - s))) (mul-le-mul_right (2 ^ (149 - s)) lo)) (subst (λ (x : ℕ). n * 2 ^ s * 2 ^ (149 - s) < 2 ^ x) (one_up s) (shl_lt 24 (149 - s) hi))
    where
      one_up : (y : ℕ) → 24 + (149 - y) ≡ suc (23 + (149 - y))
      one_up y = omega arith

  exact : closest (n * 2 ^ 149) (1 * 2 ^ (149 - s)) ≡ n * 2 ^ s
  exact =
      closest_same (n * 2 ^ 149) (1 * 2 ^ (149 - s)) (n * 2 ^ s) 1 (mul-pos (lit< tt) (pow_pos (149 - s))) (lit< tt) (mul-one (n * 2 ^ 149) ∙ moved ∙ ap (λ (x : ℕ). n * 2 ^ s * x) (sym (one-mul (2 ^ (149 - s)))))
      ∙ sym (quotient_is (n * 2 ^ s) 1)
      ∙ sym (below (n * 2 ^ s) 1 (none (n * 2 ^ s)))
      ∙ div-one (n * 2 ^ s)
    where
      none : (y : ℕ) → y % 1 * 2 < 1
      none y = omega arith

  pub short_bits : of_bits binary32 ((149 - s) * 8388608 + n * 2 ^ s) ≡ of_int binary32 (pos n)
  unfolding of_int
  short_bits =
      units_bits (n * 2 ^ s) (149 - s) lo (le_of_lt hi) (most s)
      ∙ sym (round_is binary32 false n 1 ∙ ap (λ (z : ℕ). core binary32 false (n * 2 ^ 149) 1 (z - 24)) size_moved ∙ ap (core binary32 false (n * 2 ^ 149) 1) (less s) ∙ ap (λ (q : ℕ). units binary32 false q (149 - s)) exact)
    where
      most : (y : ℕ) → 149 - y ≤ 252
      most y = omega arith

      less : (y : ℕ) → suc (23 + (149 - y)) - 24 ≡ 149 - y
      less y = omega arith

-- as the code has it
module _ (n z : ℕ) (D : Digits n z) (Z : 40 ≤ z) where
  abbrev s : ℕ
  s = z - 40

  few : s ≤ 23
  few = go z D.some
    where
      go : (y : ℕ) → y ≤ 63 → y - 40 ≤ 23
      go y p = omega arith

  from : 8388608 ≤ n * 2 ^ s
  from = le_trans (le_of_eq (ap (λ (x : ℕ). 2 ^ x) (sym (go z D.some Z)) ∙ pow-add 2 (63 - z) s)) (mul-le-mul_right (2 ^ s) D.lo)
    where
      go : (y : ℕ) → y ≤ 63 → 40 ≤ y → 63 - y + (y - 40) ≡ 23
      go y p q = omega arith

  to : n * 2 ^ s < 16777216
  to = lt_of_lt_of_le (shl_lt (64 - z) s D.hi) (pow_mono (go z D.some Z))
    where
      go : (y : ℕ) → y ≤ 63 → 40 ≤ y → 64 - y + (y - 40) ≤ 24
      go y p q = omega arith

  shifted : n * 2 ^ s % 18446744073709551616 ≡ n * 2 ^ s
  shifted = mod-eq_of_lt (go (n * 2 ^ s) to)
    where
      go : (y : ℕ) → y < 16777216 → y < 18446744073709551616
      go y p = omega arith

  cut_lt : n * 2 ^ s % 18446744073709551616 < 16777216
  cut_lt = subst (λ (x : ℕ). x < 16777216) (sym shifted) to

  cut_is : of_bits binary32 ((149 - s) * 8388608 + n * 2 ^ s % 18446744073709551616) ≡ of_int binary32 (pos n)
  cut_is = ap (λ (x : ℕ). of_bits binary32 ((149 - s) * 8388608 + x)) shifted ∙ short_bits n s few from to

-- ---- more digits: the lowest k are dropped, and the rest rounded
few_dropped : (z : ℕ) → 40 - z ≤ 63
few_dropped z = omega arith

pub unit_ok : (z : ℕ) → (0 < Shifted (40 - z)) × (Shifted (40 - z) ≤ 9223372036854775808)
unit_ok z = shift_in (40 - z) (few_dropped z)

module _ (n z r : ℕ) (D : Digits n z) (Z : z < 40) (e : r ≡ rounded_quotient n (Shifted (40 - z))) where
  is : r ≡ closest n (2 ^ (40 - z))
  is = e ∙ ap (rounded_quotient n) (shift_is (40 - z) (few_dropped z)) ∙ quotient_is n (2 ^ (40 - z))

  lo24 : 2 ^ (23 + (40 - z)) ≤ n
  lo24 = subst (λ (x : ℕ). 2 ^ x ≤ n) (go z Z) D.lo
    where
      go : (y : ℕ) → y < 40 → 63 - y ≡ 23 + (40 - y)
      go y p = omega arith

  hi24 : n < 2 ^ (24 + (40 - z))
  hi24 = subst (λ (x : ℕ). n < 2 ^ x) (go z Z) D.hi
    where
      go : (y : ℕ) → y < 40 → 64 - y ≡ 24 + (40 - y)
      go y p = omega arith

  rest_le : r ≤ 16777216
  rest_le = subst (λ (x : ℕ). x ≤ 16777216) (sym is) (kept_hi n (40 - z) lo24 hi24)

  rest_is : of_bits binary32 ((149 + (40 - z)) * 8388608 + r) ≡ of_int binary32 (pos n)
  rest_is = ap (λ (x : ℕ). of_bits binary32 ((149 + (40 - z)) * 8388608 + x)) is ∙ of_int_bits n (40 - z) lo24 hi24 (room z)
    where
      room : (y : ℕ) → 40 - y ≤ 103
      room y = omega arith

-- as the code has it
module _ (n : ℕ) (a : n ≡ 0 → ⊥) (b : n < 2 ^ 64) where
  abbrev zeros : ℕ
  zeros = count_leading_zeros 64 n

  pub zeros_le : zeros ≤ 63
  zeros_le = (digits n a b).some

  pub short_lt : 40 ≤ zeros → n * 2 ^ (zeros - 40) % 18446744073709551616 < 16777216
  short_lt Z = cut_lt n zeros (digits n a b) Z

  pub short_is : 40 ≤ zeros → of_bits binary32 ((149 - (zeros - 40)) * 8388608 + n * 2 ^ (zeros - 40) % 18446744073709551616) ≡ of_int binary32 (pos n)
  short_is Z = cut_is n zeros (digits n a b) Z

  pub long_le : (r : ℕ) → zeros < 40 → r ≡ rounded_quotient n (Shifted (40 - zeros)) → r ≤ 16777216
  long_le r Z e = rest_le n zeros r (digits n a b) Z e

  pub long_is : (r : ℕ) → zeros < 40 → r ≡ rounded_quotient n (Shifted (40 - zeros)) → of_bits binary32 ((149 + (40 - zeros)) * 8388608 + r) ≡ of_int binary32 (pos n)
  long_is r Z e = rest_is n zeros r (digits n a b) Z e

-- ---- `i64_to_f32`: the size is rounded, and the sign put on after
pub minus_size : (n : ℤ) → lt_z n (pos 0) ≡ true → of_int binary32 n ≡ neg (of_int binary32 (pos (unsigned_abs n)))
unfolding of_int
minus_size (pos n) h = absurd (omega (arith, ints))
minus_size (negsuc n) h = sym (neg-round binary32 (suc n) 1)
