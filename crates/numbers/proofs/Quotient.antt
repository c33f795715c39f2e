-- `rounded_quotient`: twice the remainder against the divisor.
use Rattle.std.proofs.Common.{◌≡◌, ℕ, ◌+◌, ◌*◌, ◌/◌, ◌%◌, ◌<◌, ◌≤◌, true, false, sym, refl, ap, ◌∙◌, true≢false, le_trans, le_of_lt, mod-lt, mul-le-mul_left, ne_of_lt, div-mul-le_self, add-one, arith, eq-eqb, ne_eqb, le-leb}
use mathlib.Core.Bool.{false≢true}
use Prim.Native.Nat.{compare, Ordering}
use borrow.Author.Tests.{lt-leb}
use lib.Dec.{is_le, compare_is_eq}
use lib.Ieee.{nearest}
use lib.Ieee.Nearest.{closest}
use Rattle.numbers.specs.Convert.{rounded_quotient}

pub quotient_is : (a b : ℕ) → rounded_quotient a b ≡ closest a b
unfolding rounded_quotient
quotient_is a b = refl

-- ---- what it answers, by cases
ord_lt : (o : Ordering) → is_le o ≡ true → compare_is_eq o ≡ false → o ≡ Ordering.lt
ord_lt Ordering.lt a b = refl
ord_lt Ordering.eq a b = absurd (true≢false b)
ord_lt Ordering.gt a b = absurd (false≢true a)

ord_eq : (o : Ordering) → compare_is_eq o ≡ true → o ≡ Ordering.eq
ord_eq Ordering.lt a = absurd (false≢true a)
ord_eq Ordering.eq a = refl
ord_eq Ordering.gt a = absurd (false≢true a)

ord_gt : (o : Ordering) → is_le o ≡ false → o ≡ Ordering.gt
ord_gt Ordering.lt a = absurd (true≢false a)
ord_gt Ordering.eq a = absurd (true≢false a)
ord_gt Ordering.gt a = refl

module _ (a b : ℕ) where
  pub below : a % b * 2 < b → a / b ≡ rounded_quotient a b
  unfolding rounded_quotient
  below h = ap (nearest (a / b)) (sym (ord_lt (compare (a % b * 2) b) (le-leb (a % b * 2) b (le_of_lt h)) (ne_eqb (a % b * 2) b (λ e. ne_of_lt h e))))

  pub even : a % b * 2 ≡ b → a / b + a / b % 2 ≡ rounded_quotient a b
  unfolding rounded_quotient
  even e = ap (nearest (a / b)) (sym (ord_eq (compare (a % b * 2) b) (eq-eqb (a % b * 2) b e)))

  pub above : b < a % b * 2 → a / b + 1 ≡ rounded_quotient a b
  unfolding rounded_quotient
  above h = add-one (a / b) ∙ ap (nearest (a / b)) (sym (ord_gt (compare (a % b * 2) b) (lt-leb (a % b * 2) b h)))

-- ---- what its code asks
pub twice_fits : (n u : ℕ) → 0 < u → u ≤ 9223372036854775808 → n % u * 2 < 18446744073709551616
twice_fits n u h k = let m : n % u < u = mod-lt n h in omega arith

halved : (n u : ℕ) → 2 ≤ u → n < 18446744073709551616 → n / u ≤ 9223372036854775807
halved n u h k =
    let a : n / u * 2 ≤ n = le_trans (mul-le-mul_left (n / u) h) (div-mul-le_self n u) in
    omega arith

two_at_least : (r u : ℕ) → 0 < u → r < u → u ≤ r * 2 → 2 ≤ u
two_at_least r u a b c = omega arith

pub next_fits : (n u : ℕ) → 0 < u → u ≤ n % u * 2 → n < 18446744073709551616 → n / u + 1 < 18446744073709551616
next_fits n u h k l =
    let a : n / u ≤ 9223372036854775807 = halved n u (two_at_least (n % u) u h (mod-lt n h) k) l in
    omega arith
