-- The bits of `seen`, tested and set by their masks.
use mathlib.Core.Path.{◌≡◌, refl, sym, subst, ap, ◌∙◌}
use mathlib.Core.Bool.{Bool, true, false, not, cond}
use mathlib.Core.Logic.{⊎_elim}
use Prim.Native.Nat.{ℕ, zero, suc, ◌+◌, ◌*◌, ◌/◌, ◌%◌, ◌^◌, ◌<◌, max}
use native.Mathlib.Nat.{mod-lt}
use native.Mathlib.Omega.{arith}
use borrow.Author.Tests.{eqb-true}
use lib.Dec.{eqb, lit<}
use Rattle.std.specs.Int.Bits.{bit_and, bit_or}
use Rattle.std.proofs.lemmas.Bool.{cases_eq}
use Rattle.std.proofs.lemmas.Nat.{or_disjoint}
use Rattle.std.proofs.lemmas.Nat.Bits.{and_pow, bit_at_or, bit_at-pow_same, bit_at-pow_other, same_from_bits}
use Rattle.state.specs.declared.Quantity.{Quantity}
use Rattle.state.specs.declared.Quantity.TheVariants.{Power, Voltage, Current}
use Rattle.state.specs.Seen.{bit_of, has_seen, also_seen}

-- ---- bit k of n: what its mask has in common with n, and n with the mask

common : (k n : ℕ) → bit_and n (2 ^ k) ≡ cond (eqb (n / 2 ^ k % 2) 1) (2 ^ k) 0
common k n = and_pow n k ∙ go (n / 2 ^ k % 2) (2 ^ k) (mod-lt (n / 2 ^ k) (lit< tt))
  where
    go : (x p : ℕ) → x < 2 → x * p ≡ cond (eqb x 1) p 0
    go zero p h = omega arith
    go (suc zero) p h = omega arith
    go (suc (suc x)) p h = absurd (omega arith)

joined : (k n : ℕ) → bit_or n (2 ^ k) ≡ cond (eqb (n / 2 ^ k % 2) 1) n (n + 2 ^ k)
joined k n = by (eqb (n / 2 ^ k % 2) 1) refl
  where
    each : n / 2 ^ k % 2 ≡ 1 → (i : ℕ) → max (n / 2 ^ i % 2) (2 ^ k / 2 ^ i % 2) ≡ n / 2 ^ i % 2
    each e i = ⊎_elim (λ same. subst (λ (j : ℕ). max (n / 2 ^ j % 2) (2 ^ k / 2 ^ j % 2) ≡ n / 2 ^ j % 2) (sym same) (omega (arith, e, bit_at-pow_same k))) (λ other. omega (arith, bit_at-pow_other k i other)) (cases_eq i k)

    by : (t : Bool) → eqb (n / 2 ^ k % 2) 1 ≡ t → bit_or n (2 ^ k) ≡ cond t n (n + 2 ^ k)
    by true e = same_from_bits (bit_or n (2 ^ k)) n (λ i. bit_at_or n (2 ^ k) i ∙ each (eqb-true (n / 2 ^ k % 2) 1 e) i)
    by false e = or_disjoint n (2 ^ k) (common k n ∙ ap (λ (b : Bool). cond b (2 ^ k) 0) e)

-- ---- the marks

pub in_common : (seen : ℕ) (q : Quantity) → bit_and seen (bit_of q) ≡ cond (has_seen seen q) (bit_of q) 0
unfolding bit_of has_seen
in_common seen Power = common 0 seen
in_common seen Voltage = common 1 seen
in_common seen Current = common 2 seen

pub tested : (seen : ℕ) (q : Quantity) → not (eqb (bit_and seen (bit_of q)) 0) ≡ has_seen seen q
unfolding bit_of
tested seen q = ap (λ (n : ℕ). not (eqb n 0)) (in_common seen q) ∙ go q (has_seen seen q)
  where
    go : (q : Quantity) (t : Bool) → not (eqb (cond t (bit_of q) 0) 0) ≡ t
    go Power true = refl
    go Voltage true = refl
    go Current true = refl
    go q false = refl

pub marked : (seen : ℕ) (q : Quantity) → bit_or seen (bit_of q) ≡ also_seen seen q
unfolding bit_of has_seen also_seen
marked seen Power = joined 0 seen
marked seen Voltage = joined 1 seen
marked seen Current = joined 2 seen
