-- `1u64 << k` is 2 ^ k, for every k that the shift allows.
use Rattle.std.proofs.Common.{◌≡◌, ℕ, ◌+◌, ◌*◌, ◌%◌, ◌^◌, ◌<◌, ◌≤◌, sym, ◌∙◌, subst, one-mul, arith, lit<, pow_pos, pow_mono, shl_exact}

abbrev pub Shifted : ℕ → ℕ
Shifted k = 1 * 2 ^ k % 18446744073709551616

pub shift_is : (k : ℕ) → k ≤ 63 → Shifted k ≡ 2 ^ k
shift_is k h = shl_exact {a = 1} 1 k 64 (lit< tt) (room k h) ∙ one-mul (2 ^ k)
  where
    room : (y : ℕ) → y ≤ 63 → 1 + y ≤ 64
    room y p = omega arith

pub shift_in : (k : ℕ) → k ≤ 63 → (0 < Shifted k) × (Shifted k ≤ 9223372036854775808)
shift_in k h = subst (λ (u : ℕ). (0 < u) × (u ≤ 9223372036854775808)) (sym (shift_is k h)) (pow_pos k, pow_mono h)
