-- The seed of the root: for an x above zero it is a pattern of a number.
use Rattle.std.proofs.Common.{◌%◌, ◌≡◌, ℕ, zero, suc, ◌+◌, ◌*◌, ◌/◌, ◌<◌, ◌≤◌, Bool, true, false, not, ◌&&◌, ◌||◌, T, eqb, ltb, sym, refl, ap, ◌∙◌, subst, true≢false, zero-mul, arith, lt-ltb}
use mathlib.Core.Bool.{false≢true}
use lib.Ieee.{Float, nan, inf, fin, binary32, up, down, lt, le, eq, of_bits, to_bits, fits, is_nan, nan_bits}
use lib.Ieee.Bits.{to_bits-lt}
use borrow.Author.Tests.{eqb-false}
use Rattle.std.specs.Float.{is_sign_negative}
use Rattle.std.proofs.lemmas.Float.{not_nan_f32_bits, T_from_false}
use Rattle.std.proofs.num.FloatSigns.{sign_bit}

-- `le` of a size below zero, a, and zero
below_zero : (a n : ℕ) → n ≡ 0 → (ltb 0 (a + n) || (eqb a n && (false || eqb a 0))) ≡ true
below_zero a n z = subst (λ (k : ℕ). (ltb 0 (a + k) || (eqb a k && (false || eqb a 0))) ≡ true) (sym z) (go a)
  where
    go : (k : ℕ) → (ltb 0 (k + 0) || (eqb k 0 && (false || eqb k 0))) ≡ true
    go zero = refl
    go (suc k) = ap (λ (b : Bool). b || (eqb (suc k) 0 && (false || eqb (suc k) 0))) (lt-ltb 0 (suc k + 0) (omega arith))

above_plus : (x : Float) → le x (of_bits binary32 0) ≡ false → is_sign_negative x ≡ false
unfolding le lt eq of_bits is_sign_negative
above_plus nan h = refl
above_plus (inf true) h = absurd (true≢false h)
above_plus (inf false) h = refl
above_plus (fin false m e) h = refl
above_plus (fin true m e) h = absurd (true≢false (sym (below_zero (m * up e * 1) (0 * down e) (zero-mul (down e))) ∙ h))

pub the_nan : (x : Float) → is_nan x ≡ true → x ≡ nan
unfolding is_nan
the_nan nan h = refl
the_nan (inf s) h = absurd (false≢true h)
the_nan (fin s m e) h = absurd (false≢true h)

held : (x : Float) → fits binary32 x ≡ true → T (fits binary32 x)
held x h = subst T (sym h) tt

pub seed_fits : (x : Float) → fits binary32 x ≡ true → to_bits binary32 x / 2 + 0x1fc0_0000 < 4294967296
seed_fits x F = go (to_bits binary32 x) (to_bits-lt binary32 x (held x F))
  where
    go : (b : ℕ) → b < 4294967296 → b / 2 + 0x1fc0_0000 < 4294967296
    go b h = omega arith

pub seed_defined : (x : Float) → fits binary32 x ≡ true → le x (of_bits binary32 0) ≡ false → is_nan x ≡ false → T (not (nan_bits binary32 (to_bits binary32 x / 2 + 0x1fc0_0000)))
seed_defined x F h k =
    not_nan_f32_bits _ (go (to_bits binary32 x) (to_bits-lt binary32 x (held x F)) (eqb-false (to_bits binary32 x / 2147483648) 1 (sign_bit binary32 x (held x F) (T_from_false (is_nan x) k) ∙ above_plus x h)))
  where
    go : (b : ℕ) → b < 4294967296 → (b / 2147483648 ≡ 1 → ⊥) → (b / 2 + 0x1fc0_0000) % 2147483648 ≤ 2139095040
    go b l n = omega arith
