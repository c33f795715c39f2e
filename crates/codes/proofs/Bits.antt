-- A flag by its mask.
use mathlib.Core.Path.{◌≡◌, sym, ap, ◌∙◌}
use mathlib.Core.Bool.{not}
use Prim.Native.Nat.{ℕ, zero, suc, ◌*◌, ◌%◌, ◌/◌, ◌^◌, ◌<◌}
use native.Mathlib.Nat.{mod-lt}
use native.Mathlib.Omega.{arith}
use borrow.Author.Tests.{eq-eqb, ne_eqb}
use lib.Dec.{eqb, lit<}
use lib.Pow.{pow_pos}
use Rattle.std.specs.Int.Bits.{bit_and}
use Rattle.std.proofs.lemmas.Nat.Bits.{and_pow}
use Rattle.codes.specs.Flags.{bit_set, holds_ad1, holds_rms_lpf}

-- what n has in common with the mask of bit k is not 0 exactly where the bit is set
pub bit_test : (k n : ℕ) → not (eqb (bit_and n (2 ^ k)) 0) ≡ bit_set k n
bit_test k n = ap (λ (m : ℕ). not (eqb m 0)) (and_pow n k) ∙ go (n / 2 ^ k % 2) (2 ^ k) (mod-lt (n / 2 ^ k) (lit< tt)) (pow_pos k)
  where
    go : (x p : ℕ) → x < 2 → 0 < p → not (eqb (x * p) 0) ≡ eqb x 1
    go zero p l h = rw (zero_times p)
      where
        zero_times : (p : ℕ) → 0 * p ≡ 0
        zero_times p = omega arith
    go (suc zero) p l h = rw (ne_eqb (1 * p) 0 (λ e. apart e))
      where
        apart : 1 * p ≡ 0 → ⊥
        apart e = omega arith
    go (suc (suc x)) p l h = absurd (omega arith)

-- so each test of the flags is its definition; the second goes on to the LPF bit where the RMS bit is set
pub ad1_is : (n : ℕ) → not (eqb (bit_and n 4) 0) ≡ holds_ad1 n
unfolding holds_ad1
ad1_is n = bit_test 2 n

pub rms_set : (n : ℕ) → (bit_and n 16 ≡ 0 → ⊥) → not (eqb (bit_and n 8) 0) ≡ holds_rms_lpf n
unfolding holds_rms_lpf
rms_set n h =
    let rms = sym (bit_test 4 n) ∙ ap not (ne_eqb _ _ h) in
    rw rms (bit_test 3 n)

pub rms_clear : (n : ℕ) → bit_and n 16 ≡ 0 → not (eqb (bit_and n 16) 0) ≡ holds_rms_lpf n
unfolding holds_rms_lpf
rms_clear n h =
    let rms = sym (bit_test 4 n) ∙ ap not (eq-eqb _ _ h) in
    rw (rms, eq-eqb _ _ h)
