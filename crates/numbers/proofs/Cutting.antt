-- Rust's `as` from a float to h bits and a sign, where it lies in the range: one law over h.
use Rattle.std.proofs.Common.{◌≡◌, ℕ, zero, suc, ◌-◌, ◌*◌, ◌/◌, ◌^◌, ◌<◌, ◌≤◌, min, Bool, true, false, cond, ◌&&◌, ◌||◌, eqb, ltb, ℤ, pos, negsuc, ◌-ℤ◌, neg_ℤ, sym, refl, ap, ◌∙◌, le_trans, le_of_eq, le_of_lt, mul_comm, div-lt_iff_lt-mul, one-mul, zero-add, mul-one, arith, ltb-true, eqb-true}
use mathlib.Core.Bool.{false≢true}
use native.Mathlib.Nat.{div-le_of_le-mul}
use lib.Ieee.{fin, up, down, lt, le, eq, neg, to_signed}
use lib.Ieee.Fits.{down_pos}
use Rattle.numbers.proofs.Order.{le_neg}

-- -1 - k
pub minus_one : (k : ℕ) → negsuc 0 -ℤ pos k ≡ negsuc k
minus_one zero = refl
minus_one (suc k) = ap (λ (n : ℕ). negsuc (suc n)) (zero-add k)

-- ---- what `le` and `lt` of two values of one sign test
pub or_le : (A B : ℕ) → (ltb A B || (eqb A B && true)) ≡ true → A ≤ B
or_le A B h = go (ltb A B) (eqb A B) (ltb-true A B) (eqb-true A B) h
  where
    go : (t u : Bool) → (t ≡ true → A < B) → (u ≡ true → A ≡ B) → (t || (u && true)) ≡ true → A ≤ B
    go true u f g k = le_of_lt (f refl)
    go false true f g k = le_of_eq (g refl)
    go false false f g k = absurd (false≢true k)

-- ---- a size i held to c, and below it
capped : (i c : ℕ) → i < c → min i (c - 1) ≡ i
capped i c h = omega arith

capped_le : (i c : ℕ) → i ≤ c → min i c ≡ i
capped_le i c h = omega arith

module _ (h : ℕ) where
  -- from -2 ^ h on and below 2 ^ h: the whole part
  pub inside : (s : Bool) (m : ℕ) (e : ℤ) → le (fin true 1 (pos h)) (fin s m e) ≡ true → lt (fin s m e) (fin false 1 (pos h)) ≡ true
      → to_signed h (fin s m e) ≡ cond s (neg_ℤ (pos (m * up e / down e))) (pos (m * up e / down e))
  unfolding le lt eq neg to_signed
  inside false m e l u =
      let A : m * up e < 2 ^ h * down e = simp (one-mul, mul-one) at (ltb-true (m * up e * 1) (1 * 2 ^ h * down e) u) in
      ap pos (capped (m * up e / down e) (2 ^ h) ((div-lt_iff_lt-mul (down_pos e)).1 A))
  inside true m e l u =
      let A : m * up e ≤ 2 ^ h * down e = simp (one-mul, mul-one) at (or_le (m * up e * 1) (1 * 2 ^ h * down e) (sym (le_neg (fin false 1 (pos h)) (fin false m e)) ∙ l)) in
      ap (λ (z : ℕ). neg_ℤ (pos z)) (capped_le (m * up e / down e) (2 ^ h) (div-le_of_le-mul (down e) (le_trans A (le_of_eq (mul_comm (2 ^ h) (down e))))))
