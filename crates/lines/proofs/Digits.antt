-- Digits that are read one by one: what is read is what the whole spells, or nothing where one is no digit.
use Rattle.std.proofs.Common.{◌≡◌, ℕ, ◌+◌, ◌*◌, ◌^◌, ◌<◌, ◌≤◌, Bool, true, false, cond, ◌&&◌, List, ◌∷◌, length, get_or, drop, Option, Some, None, sym, refl, ap, ◌∙◌, add-one, pow-suc, arith, lit<, drop_of_length-le, drop-cons}
use native.Mathlib.Nat.{pow-le-pow_right}
use borrow.Author.Tests.{ltb-true}
use Rattle.std.specs.Char.{digit_value, is_digit}
use Rattle.std.specs.Str.Parse.{digits_value_after}
use Rattle.lines.specs.Digits.{all_digits, digit_in}

-- both of two tests
pub both : (a b : Bool) → (a && b) ≡ true → (a ≡ true) × (b ≡ true)
both true b e = (refl, e)
both false b e = cc

-- what digits are read as, n having been read before them
abbrev pub reading : ℕ → ℕ → List ℕ → Option ℕ
reading base n l = cond (all_digits base l) (Some (digits_value_after base n l)) None

-- one that is a digit
pub a_digit : (base b d : ℕ) → Some d ≡ digit_in base b → (is_digit b base ≡ true) × (digit_value b ≡ d) × (d < base)
a_digit base b d = go (is_digit b base) refl
  where
    go : (t : Bool) → is_digit b base ≡ t → Some d ≡ cond t (Some (digit_value b)) None → (is_digit b base ≡ true) × (digit_value b ≡ d) × (d < base)
    go true e k = let v : digit_value b ≡ d = cc in (e, v, omega (arith, v, ltb-true (digit_value b) base e))
    go false e k = cc

-- one that is none
pub no_digit : (base b : ℕ) → None ≡ digit_in base b → is_digit b base ≡ false
no_digit base b = go (is_digit b base) refl
  where
    go : (t : Bool) → is_digit b base ≡ t → None ≡ cond t (Some (digit_value b)) None → is_digit b base ≡ false
    go true e k = cc
    go false e k = e

module _ (base n : ℕ) (s : List ℕ) (i : ℕ) (r : Option ℕ) (e : reading base n (drop i s) ≡ r) where
  next : i < length s → reading base n (get_or s i 0 ∷ drop (i + 1) s) ≡ r
  next h = rw (add-one i) (rw (drop-cons s i 0 h) at e)

  pub read_digit : (d : ℕ) → i < length s → Some d ≡ digit_in base (get_or s i 0) → reading base (n * base + d) (drop (i + 1) s) ≡ r
  read_digit d h k =
      ap (λ (v : ℕ). reading base (n * base + v) (drop (i + 1) s)) (sym (a_digit base (get_or s i 0) d k).1)
      ∙ go (is_digit (get_or s i 0) base) _ (a_digit base (get_or s i 0) d k).0 (next h)
    where
      go : (t : Bool) (x : Option ℕ) → t ≡ true → cond (t && all_digits base (drop (i + 1) s)) x None ≡ r → cond (all_digits base (drop (i + 1) s)) x None ≡ r
      go true x k f = f
      go false x k f = cc

  pub read_other : i < length s → None ≡ digit_in base (get_or s i 0) → None ≡ r
  read_other h k = go (is_digit (get_or s i 0) base) _ (no_digit base (get_or s i 0) k) (next h)
    where
      go : (t : Bool) (x : Option ℕ) → t ≡ false → cond (t && all_digits base (drop (i + 1) s)) x None ≡ r → None ≡ r
      go true x k f = cc
      go false x k f = f

  pub read_end : length s ≤ i → Some n ≡ r
  read_end h = rw (drop_of_length-le s h) at e

-- a number of i decimal digits
pub grows : (n i d : ℕ) → n < 10 ^ i → d < 10 → n * 10 + d < 10 ^ (i + 1)
grows n i d h k = rw (add-one, pow-suc 10 i) (go (10 ^ i) h)
  where
    go : (p : ℕ) → n < p → n * 10 + d < p * 10
    go p q = omega arith

-- no more than 15 digits
pub pow_most : (i : ℕ) → i < 15 → 10 ^ i ≤ 100000000000000
pow_most i h = pow-le-pow_right {n = 10} (lit< tt) {i = i} {j = 14} (omega arith)
