-- A code of 32 bits less a zero of 16: its size is its distance from the zero, on either side; and 64 bits hold it, its opposite and its size.
use mathlib.Core.Path.{◌≡◌, refl, sym, ap, subst, ◌∙◌}
use mathlib.Core.Bool.{Bool, true, false, cond, true≢false}
use Prim.Native.Nat.{ℕ, zero, suc, ◌+◌, ◌-◌, ◌^◌, ◌≤◌, ◌<◌}
use native.Mathlib.Omega.{arith}
use borrow.Author.Tests.{ltb-true, le-ltb}
use lib.Dec.{T, ltb}
use lib.IntN.{ℤ, pos, negsuc, nat_abs, sub_ℕ, ◌-ℤ◌}
use lib.Signed.{lt_z, non_neg}
use mir.Syntax.{w16, w32, w64}
use mir.Val.{Fits, SFits, to_z, of_z}
use mir.ValLaws.{to_z-of_z}
use Rattle.takes.proofs.Whole.{difference}

-- ---- over the integers

size_less : (a b : ℕ) → nat_abs (sub_ℕ a b) ≤ a + b
size_less a b = go (ltb a b) (ltb-true a b)
  where
    below : a < b → suc (b - suc a) ≤ a + b
    below l = omega arith

    go : (t : Bool) → (t ≡ true → a < b) → nat_abs (cond t (negsuc (b - suc a)) (pos (a - b))) ≤ a + b
    go true l = below (l refl)
    go false l = omega arith

triangle : (x y : ℤ) → nat_abs (x -ℤ y) ≤ nat_abs x + nat_abs y
triangle (pos a) (pos zero) = omega arith
triangle (pos a) (pos (suc b)) = size_less a (suc b)
triangle (pos a) (negsuc b) = omega arith
triangle (negsuc a) (pos zero) = let h = size_less 0 (suc a) in omega arith
triangle (negsuc a) (pos (suc b)) = omega arith
triangle (negsuc a) (negsuc b) = let h = size_less (suc b) (suc a) in omega arith

size32 : (z : ℤ) → SFits w32 z → nat_abs z ≤ 2 ^ 31
size32 (pos n) f = omega (arith, f.sfits)
size32 (negsuc n) f = omega (arith, f.sfits)

size16 : (z : ℤ) → SFits w16 z → nat_abs z ≤ 2 ^ 15
size16 (pos n) f = omega (arith, f.sfits)
size16 (negsuc n) f = omega (arith, f.sfits)

small_fits : (z : ℤ) → nat_abs z < 2 ^ 63 → SFits w64 z
small_fits (pos n) h = record { sfits = h }
small_fits (negsuc n) h = record { sfits = omega arith }

-- what a cast to u64 asks
abbrev Cast : ℤ → Type 0
Cast z = T (non_neg z) × Fits w64 (nat_abs z)

turned_casts : (z : ℤ) → nat_abs z < 2 ^ 63 → lt_z z (pos 0) ≡ true → Cast (pos 0 -ℤ z)
turned_casts (pos n) h t = absurd (true≢false (sym t ∙ le-ltb n 0 (omega arith)))
turned_casts (negsuc n) h t = (tt, record { fits = omega arith })

turned_is : (z : ℤ) → lt_z z (pos 0) ≡ true → nat_abs (pos 0 -ℤ z) ≡ nat_abs z
turned_is (pos n) t = absurd (true≢false (sym t ∙ le-ltb n 0 (omega arith)))
turned_is (negsuc n) t = omega arith

plain_casts : (z : ℤ) → nat_abs z < 2 ^ 63 → lt_z z (pos 0) ≡ false → Cast z
plain_casts (pos n) h t = (tt, record { fits = omega arith })
plain_casts (negsuc n) h t = absurd (true≢false t)

-- ---- as the machine has them: each number is read back from its bits

module _ (x y : ℤ) (f : SFits w32 x) (g : SFits w16 y) where
  abbrev less : ℤ
  less = to_z w64 (of_z w64 (to_z w64 (of_z w64 (to_z w32 (of_z w32 x))) -ℤ to_z w64 (of_z w64 (to_z w16 (of_z w16 y)))))

  is : less ≡ x -ℤ y
  is = difference x y f g

  size : nat_abs less ≤ 2 ^ 31 + 2 ^ 15
  size = let h = triangle x y in let a = size32 x f in let b = size16 y g in subst (λ (z : ℤ). nat_abs z ≤ 2 ^ 31 + 2 ^ 15) (sym is) (omega arith)

  -- 64 bits hold the opposite
  pub opposite_fits : SFits w64 (pos 0 -ℤ less)
  opposite_fits = small_fits (pos 0 -ℤ less) (let h = triangle (pos 0) less in let s = size in omega arith)

  back : to_z w64 (of_z w64 (pos 0 -ℤ less)) ≡ pos 0 -ℤ less
  back = to_z-of_z w64 (pos 0 -ℤ less) opposite_fits

  pub below_casts : lt_z less (pos 0) ≡ true → Cast (to_z w64 (of_z w64 (pos 0 -ℤ less)))
  below_casts t = subst Cast (sym back) (turned_casts less (let s = size in omega arith) t)

  pub below_is : lt_z less (pos 0) ≡ true → nat_abs (to_z w64 (of_z w64 (pos 0 -ℤ less))) ≡ nat_abs (x -ℤ y)
  below_is t = ap nat_abs back ∙ turned_is less t ∙ ap nat_abs is

  pub above_casts : lt_z less (pos 0) ≡ false → Cast less
  above_casts t = plain_casts less (let s = size in omega arith) t

  pub above_is : nat_abs less ≡ nat_abs (x -ℤ y)
  above_is = ap nat_abs is
