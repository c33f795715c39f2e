-- What holds of every place below n, and of n, holds of every place below n + 1.
use mathlib.Core.Path.{◌≡◌, refl, sym, ap, subst}
use mathlib.Core.Logic.{◌⊎◌, inl, inr}
use Prim.Native.Nat.{ℕ, zero, suc, ◌<◌}
use native.Mathlib.Omega.{arith}

split : (i n : ℕ) → i < suc n → (i < n) ⊎ (i ≡ n)
split zero zero h = inr refl
split zero (suc n) h = inl (omega arith)
split (suc i) zero h = inr (omega arith)
split (suc i) (suc n) h = next (split i n (omega arith))
  where
    next : (i < n) ⊎ (i ≡ n) → (suc i < suc n) ⊎ (suc i ≡ suc n)
    next (inl a) = inl (omega arith)
    next (inr e) = inr (ap suc e)

pub up_to : (P : ℕ → Type 0) (n : ℕ) → ((i : ℕ) → i < n → P i) → P n → (i : ℕ) → i < suc n → P i
up_to P n f p i h = go (split i n h)
  where
    go : (i < n) ⊎ (i ≡ n) → P i
    go (inl a) = f i a
    go (inr e) = subst P (sym e) p
