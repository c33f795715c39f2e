-- Two's complement of w bits: what the code of `twos_complement` asks and answers, and the range of the answer.
use mathlib.Core.Path.{◌≡◌, refl, sym, ap, ◌∙◌, subst}
use mathlib.Core.Bool.{Bool, true, false, cond}
use Prim.Native.Nat.{ℕ, suc, ◌-◌, ◌*◌, ◌/◌, ◌%◌, ◌^◌, ◌≤◌, ◌<◌}
use native.Mathlib.Nat.{mod-lt, pow-suc, lt_of_lt_of_le}
use native.Mathlib.Omega.{arith}
use borrow.Author.Tests.{lt-ltb, le-ltb, ltb-true, ltb-false}
use lib.Dec.{ltb}
use lib.IntN.{ℤ, pos, negsuc, sub_ℕ, ◌-ℤ◌}
use lib.Pow.{pow_pos, pow_mono}
use lib.Signed.{mag}
use mir.Syntax.{Width, w32, w64}
use mir.Val.{SFits, to_z, of_z, hbits}
use mir.ValLaws.{to_z_pos, to_z-of_z}
use Rattle.numbers.proofs.Shift.{Shifted, shift_is}
use Rattle.numbers.proofs.Cutting.{minus_one}
use Rattle.codes.specs.Frame.{twos_complement}

-- ---- the span of w bits, 2 ^ w, and its half
span_is : (w : ℕ) → w ≤ 62 → Shifted w ≡ 2 ^ w
span_is w h = shift_is w (go w h)
  where
    go : (y : ℕ) → y ≤ 62 → y ≤ 63
    go y p = omega arith

twice : (w : ℕ) → 0 < w → 2 ^ w ≡ 2 ^ (w - 1) * 2
twice w h = subst (λ (v : ℕ). 2 ^ v ≡ 2 ^ (w - 1) * 2) (back w h) (pow-suc 2 (w - 1))
  where
    back : (y : ℕ) → 0 < y → suc (y - 1) ≡ y
    back y p = omega arith

module _ (w raw : ℕ) (W : 0 < w) (H : w ≤ 62) where
  abbrev S : ℕ
  S = Shifted w

  abbrev low : ℕ
  low = raw % S

  abbrev rest : ℕ
  rest = S - 1 - low

  span_pos : 0 < S
  span_pos = subst (λ (s : ℕ). 0 < s) (sym (span_is w H)) (pow_pos w)

  span_most : S ≤ 4611686018427387904
  span_most = subst (λ (s : ℕ). s ≤ 4611686018427387904) (sym (span_is w H)) (pow_mono H)

  low_lt : low < S
  low_lt = mod-lt raw span_pos

  half : (2 ^ w ≡ 2 ^ (w - 1) * 2) × (S ≡ 2 ^ w)
  half = (twice w W, span_is w H)

  by_span : twos_complement w raw ≡ cond (ltb low (2 ^ (w - 1))) (pos low) (sub_ℕ low S)
  unfolding twos_complement
  by_span = ap (λ (s : ℕ). cond (ltb (raw % s) (2 ^ (w - 1))) (pos (raw % s)) (sub_ℕ (raw % s) s)) (sym (span_is w H))

  -- the lower half as it stands
  pub plain : low < S / 2 → to_z w64 low ≡ twos_complement w raw
  plain h = to_z_pos w64 low (go low S low_lt span_most) ∙ sym (by_span ∙ ap (λ (b : Bool). cond b (pos low) (sub_ℕ low S)) (lt-ltb low (2 ^ (w - 1)) (under low S (2 ^ w) (2 ^ (w - 1)) h half.0 half.1)))
    where
      go : (l s : ℕ) → l < s → s ≤ 4611686018427387904 → l < 9223372036854775808
      go l s a b = omega arith

      under : (l s p q : ℕ) → l < s / 2 → p ≡ q * 2 → s ≡ p → l < q
      under l s p q a b c = omega arith

  -- the upper half less 2 ^ w
  rest_lt : rest < 9223372036854775808
  rest_lt = go low S low_lt span_most
    where
      go : (l s : ℕ) → l < s → s ≤ 4611686018427387904 → s - 1 - l < 9223372036854775808
      go l s a b = omega arith

  less_is : negsuc 0 -ℤ to_z w64 rest ≡ negsuc rest
  less_is = ap (λ (z : ℤ). negsuc 0 -ℤ z) (to_z_pos w64 rest rest_lt) ∙ minus_one rest

  less_fits : SFits w64 (negsuc 0 -ℤ to_z w64 rest)
  less_fits = subst (λ (z : ℤ). SFits w64 z) (sym less_is) (record { sfits = rest_lt })

  pub less : S / 2 ≤ low → to_z w64 (of_z w64 (negsuc 0 -ℤ to_z w64 rest)) ≡ twos_complement w raw
  less h =
      to_z-of_z w64 (negsuc 0 -ℤ to_z w64 rest) less_fits
      ∙ less_is
      ∙ sym (by_span ∙ ap (λ (b : Bool). cond b (pos low) (sub_ℕ low S)) (le-ltb low (2 ^ (w - 1)) (over low S (2 ^ w) (2 ^ (w - 1)) h half.0 half.1)) ∙ below ∙ ap negsuc (same low S low_lt))
    where
      over : (l s p q : ℕ) → s / 2 ≤ l → p ≡ q * 2 → s ≡ p → q ≤ l
      over l s p q a b c = omega arith

      below : sub_ℕ low S ≡ negsuc (S - suc low)
      below = ap (λ (b : Bool). cond b (negsuc (S - suc low)) (pos (low - S))) (lt-ltb low S low_lt)

      same : (l s : ℕ) → l < s → s - suc l ≡ s - 1 - l
      same l s a = omega arith

-- ---- the answer needs w bits
module _ (w raw : ℕ) (W : 0 < w) where
  abbrev cut : ℕ
  cut = raw % 2 ^ w

  cut_lt : cut < 2 ^ w
  cut_lt = mod-lt raw (pow_pos w)

  pub in_range : mag (twos_complement w raw) < 2 ^ (w - 1)
  unfolding twos_complement
  in_range = go (ltb cut (2 ^ (w - 1))) refl
    where
      under : (l p q : ℕ) → l < p → p ≡ q * 2 → q ≤ l → p - suc l < q
      under l p q a b c = omega arith

      go : (b : Bool) → ltb cut (2 ^ (w - 1)) ≡ b → mag (cond b (pos cut) (sub_ℕ cut (2 ^ w))) < 2 ^ (w - 1)
      go true e = ltb-true cut (2 ^ (w - 1)) e
      go false e =
          subst (λ (b : Bool). mag (cond b (negsuc (2 ^ w - suc cut)) (pos (cut - 2 ^ w))) < 2 ^ (w - 1)) (sym (lt-ltb cut (2 ^ w) cut_lt))
          (under cut (2 ^ w) (2 ^ (w - 1)) cut_lt (twice w W) (ltb-false cut (2 ^ (w - 1)) e))

  -- so it fits a machine's integer of as many bits
  pub narrow_fits : (v : Width) → w - 1 ≤ hbits v → SFits v (twos_complement w raw)
  narrow_fits v h = record { sfits = lt_of_lt_of_le in_range (pow_mono h) }

-- so a code of 32 bits or fewer is an i32, and stays what it was
module _ (w raw : ℕ) (y : ℤ) (F : SFits w64 y) (e : y ≡ twos_complement w raw) (W : 0 < w) (H : w ≤ 32) where
  fits_i32 : SFits w32 y
  fits_i32 = subst (λ (v : ℤ). SFits w32 v) (sym e) (narrow_fits w raw W w32 (go w H))
    where
      go : (n : ℕ) → n ≤ 32 → n - 1 ≤ 31
      go n h = omega arith

  pub narrowed_fits : SFits w32 (to_z w64 (of_z w64 y))
  narrowed_fits = subst (λ (v : ℤ). SFits w32 v) (sym (to_z-of_z w64 y F)) fits_i32

  pub narrowed_is : to_z w32 (of_z w32 (to_z w64 (of_z w64 y))) ≡ y
  narrowed_is = ap (λ (v : ℤ). to_z w32 (of_z w32 v)) (to_z-of_z w64 y F) ∙ to_z-of_z w32 y fits_i32
