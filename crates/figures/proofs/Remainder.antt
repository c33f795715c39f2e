-- A float less its whole part is exact: the fraction has no more digits than the float, so nothing is rounded away.
use mathlib.Core.Bool.{Bool, true, false, not, ◌&&◌, cond, true≢false}
use mathlib.Core.Logic.{◌⊎◌, inl, inr}
use mathlib.Core.Path.{◌≡◌, refl, sym, ap, ◌∙◌, subst}
use Prim.Native.Nat.{ℕ, zero, suc, ◌+◌, ◌-◌, ◌*◌, ◌/◌, ◌%◌, ◌^◌, ◌≤◌, ◌<◌}
use native.Mathlib.Nat.{le_trans, le_of_eq, lt_of_lt_of_le, lt_of_le_of_lt, mul-one, one-mul, zero-mul, mul_assoc, mul_right_comm, add-mul, mul-pos, div-one, mod-one, div-le_self, mod-le, div-add-mod', eq_of_mul-eq-mul_right, add-zero, zero-add, eq-zero-or-pos, le_of_suc-le-suc, lt_of_not-le, not-le_of_lt}
use native.Mathlib.Omega.{arith}
use borrow.Author.Tests.{lt-ltb, le-ltb}
use lib.Dec.{T, leb, ltb, eqb, ltb→lt, leb→le, eqb→eq, lit<, lit≤}
use lib.Ieee.Exact.{HasValue, round_exact}
use lib.Ieee.Fits.{down_pos, and_l, and_r}
use lib.Ieee.{Float, nan, inf, fin, binary32, up, down, round, neg, add, sub, sum, of_int, fits}
use lib.IntN.{ℤ, pos, negsuc, neg_ℤ}
use lib.Pow.{pow-add, pow_pos, pow_mono, pow-lt, shl_lt}

-- r is f / d in size, and has the sign s, or is plus zero
abbrev pub Rest : Bool → ℕ → ℕ → Float → Type 0
Rest s f d r = HasValue r s f d ⊎ ((f ≡ 0) × HasValue r false f d)

-- what `fits` says of a finite value
pub record Held (m : ℕ) (e : ℤ) : Type 0 where
  pub digits : m < 2 ^ 24
  pub low : down e ≤ 2 ^ 149
  pub high : m * up e < 2 ^ 128 * down e

plain : (e : ℤ) → up e * down e ≡ 1 → (up e ≡ 1) × (down e ≡ 1)
plain (pos zero) h = (refl, refl)
plain (pos (suc a)) h = (sym (mul-one (2 ^ suc a)) ∙ h, refl)
plain (negsuc a) h = (refl, sym (one-mul (2 ^ suc a)) ∙ h)

pub held : (s : Bool) (m : ℕ) (e : ℤ) → T (fits binary32 (fin s m e)) → Held m e
unfolding fits
held s zero e h =
    let p = plain e (eqb→eq (up e * down e) 1 h) in
    record {
      digits = lit< tt;
      low = subst (λ (x : ℕ). x ≤ 2 ^ 149) (sym p.1) (lit≤ tt);
      high = subst (λ (x : ℕ). 0 * x < 2 ^ 128 * down e) (sym p.0) (subst (λ (x : ℕ). 0 * 1 < 2 ^ 128 * x) (sym p.1) (lit< tt));
    }
held s (suc m) e h =
    let A = eqb (suc m % 2) 1 in
    let B = ltb (suc m) (2 ^ 24) in
    let C = leb (down e) (2 ^ 149) in
    let D = ltb (suc m * up e) (2 ^ 128 * down e) in
    record {
      digits = ltb→lt (suc m) (2 ^ 24) (and_r A B (and_l (A && B) C (and_l (A && B && C) D h)));
      low = leb→le (down e) (2 ^ 149) (and_r (A && B) C (and_l (A && B && C) D h));
      high = ltb→lt (suc m * up e) (2 ^ 128 * down e) (and_r (A && B && C) D h);
    }

-- ---- the whole part, as a float
whole_exact : (t : Bool) (m : ℕ) (e : ℤ) → Held m e → HasValue (round binary32 t (m * up e / down e) 1) t (m * up e / down e) 1
whole_exact t m (pos k) H =
    let v : m * 2 ^ k / 1 ≡ m * 2 ^ k = div-one (m * 2 ^ k) in
    subst (λ (x : ℕ). HasValue (round binary32 t x 1) t x 1) (sym v)
    (round_exact binary32 t (m * 2 ^ k) 1 m (k + 149) (lit< tt) H.digits
    (subst (λ (x : ℕ). x < 2 ^ 277) (mul_assoc m (2 ^ k) (2 ^ 149) ∙ ap (λ (x : ℕ). m * x) (sym (pow-add 2 k 149))) (shl_lt 128 149 (lt_of_lt_of_le H.high (le_of_eq (mul-one (2 ^ 128))))))
    (mul_assoc m (2 ^ k) (2 ^ 149) ∙ ap (λ (x : ℕ). m * x) (sym (pow-add 2 k 149)) ∙ sym (mul-one (m * 2 ^ (k + 149)))))
whole_exact t m (negsuc k) H =
    let i = m * 1 / 2 ^ suc k in
    let small : i < 2 ^ 24 = lt_of_le_of_lt (le_trans (div-le_self (m * 1) (2 ^ suc k)) (le_of_eq (mul-one m))) H.digits in
    let r : 24 + 149 ≤ 277 = lit≤ tt in
    round_exact binary32 t i 1 i 149 (lit< tt) small (lt_of_lt_of_le (shl_lt 24 149 small) (pow_mono r)) (sym (mul-one (i * 2 ^ 149)))

-- ---- the fraction
rest_exact : (t : Bool) (m : ℕ) (e : ℤ) (g : ℕ) → 0 < g → Held m e → HasValue (round binary32 t (m * up e % down e * g) (down e * g)) t (m * up e % down e * g) (down e * g)
rest_exact t m (pos k) g G H =
    let z : m * 2 ^ k % 1 * g ≡ 0 = ap (λ (x : ℕ). x * g) (mod-one (m * 2 ^ k)) ∙ zero-mul g in
    subst (λ (x : ℕ). HasValue (round binary32 t x (1 * g)) t x (1 * g)) (sym z)
    (round_exact binary32 t 0 (1 * g) 0 0 (mul-pos (lit< tt) G) (lit< tt) (lit< tt) (sym (zero-mul (1 * g))))
rest_exact t m (negsuc k) g G H =
    let d = 2 ^ suc k in
    let f = m * 1 % d in
    let small : f < 2 ^ 24 = lt_of_le_of_lt (le_trans (mod-le (m * 1) d) (le_of_eq (mul-one m))) H.digits in
    let K : suc k ≤ 149 = pow_le_back (suc k) 149 H.low in
    let j = 149 - suc k in
    round_exact binary32 t (f * g) (d * g) f j (mul-pos (pow_pos (suc k)) G) small
    (lt_of_lt_of_le (shl_lt 24 j small) (pow_mono (room (suc k))))
    (mul_right_comm f g (2 ^ 149)
    ∙ ap (λ (x : ℕ). f * x * g) (ap (λ (x : ℕ). 2 ^ x) (sym (back (suc k) K)) ∙ pow-add 2 j (suc k))
    ∙ ap (λ (x : ℕ). x * g) (sym (mul_assoc f (2 ^ j) d)) ∙ mul_assoc (f * 2 ^ j) d g)
  where
    room : (y : ℕ) → 24 + (149 - y) ≤ 277
    room y = omega arith

    back : (y : ℕ) → y ≤ 149 → 149 - y + y ≡ 149
    back y p = omega arith

    pow_le_back : (i p : ℕ) → 2 ^ i ≤ 2 ^ p → i ≤ p
    pow_le_back i p h = le_of_suc-le-suc (lt_of_not-le (λ (g : suc p ≤ i). not-le_of_lt (pow-lt g) h))

-- from f * g / (d * g) to f / d
unscale : (x : Float) (t : Bool) (f d g : ℕ) → 0 < g → HasValue x t (f * g) (d * g) → HasValue x t f d
unscale nan t f d g G v = v
unscale (inf u) t f d g G v = v
unscale (fin u m e) t f d g G v = (
  v.0,
  eq_of_mul-eq-mul_right g G (m * up e * d) (f * down e)
      (mul_assoc (m * up e) d g ∙ v.1 ∙ mul_right_comm f g (down e)),
)

-- ---- x less its whole part i, both with the sign s; W is i as a float
-- the sign that the difference is rounded with
signed_by : (s : Bool) (f g d A B : ℕ) → 0 < g → A ≡ B + f * g → (r : Float) → HasValue r (s && ltb B A) f d → Rest s f d r
signed_by false f g d A B G h r v = inl v
signed_by true f g d A B G h r v = elim (eq-zero-or-pos f) [
  | inl z ↦ inr (z, subst (λ (b : Bool). HasValue r b f d) (le-ltb B A (le_of_eq (h ∙ ap (λ (x : ℕ). B + x) (ap (λ (x : ℕ). x * g) z ∙ zero-mul g) ∙ add-zero B))) v)
  | inr p ↦ inl (subst (λ (b : Bool). HasValue r b f d) (lt-ltb B A (grows B A (f * g) (mul-pos p G) h)) v)
]
  where
    grows : (x y z : ℕ) → 0 < z → y ≡ x + z → x < y
    grows x y z p q = omega arith

module _ (s : Bool) (m : ℕ) (e : ℤ) (H : Held m e) where
  abbrev a : ℕ
  a = m * up e

  abbrev d : ℕ
  d = down e

  split : a / d * d + a % d ≡ a
  split = div-add-mod' a d

  -- the two numerators over the common denominator d * g
  apart : (n g : ℕ) → n * 1 ≡ a / d * g → a * g ≡ n * d + a % d * g
  apart n g h =
      ap (λ (x : ℕ). x * g) (sym split) ∙ add-mul (a / d * d) (a % d) g
      ∙ ap (λ (x : ℕ). x + a % d * g) (mul_right_comm (a / d) d g ∙ ap (λ (x : ℕ). x * d) (sym h ∙ mul-one n))

  gone : (A B F : ℕ) → A ≡ B + F → A - B ≡ F
  gone A B F h = omega arith

  not_under : (A B F : ℕ) → A ≡ B + F → B ≤ A
  not_under A B F h = omega arith

  -- like signs: the difference is rounded with the sign s, or is a plus zero
  unlike_sum : (t : Bool) (A B F c : ℕ) → A ≡ B + F → sum binary32 t A (not t) B c ≡ round binary32 (t && ltb B A) F c
  unfolding sum
  unlike_sum true A B F c h = simp (le-ltb A B (not_under A B F h), gone A B F h)
  unlike_sum false A B F c h = simp (le-ltb A B (not_under A B F h), gone A B F h)

  opened : (t : Bool) (n : ℕ) (g : ℤ) → sub binary32 (fin s m e) (fin t n g) ≡ sum binary32 s (a * down g) (not t) (n * up g * d) (d * down g)
  unfolding sub add neg
  opened t n g = refl

  minus_whole : (W : Float) → HasValue W s (a / d) 1 → Rest s (a % d) d (sub binary32 (fin s m e) W)
  minus_whole nan v = absurd v
  minus_whole (inf t) v = absurd v
  minus_whole (fin t n g) v =
      let A = a * down g in
      let B = n * up g * d in
      let F = a % d * down g in
      let h : A ≡ B + F = apart (n * up g) (down g) v.1 in
      let e1 : sub binary32 (fin s m e) (fin t n g) ≡ round binary32 (s && ltb B A) F (d * down g) =
      opened t n g ∙ ap (λ (b : Bool). sum binary32 s A (not b) B (d * down g)) v.0 ∙ unlike_sum s A B F (d * down g) h in
      let x : HasValue (sub binary32 (fin s m e) (fin t n g)) (s && ltb B A) (a % d) d =
      subst (λ (r : Float). HasValue r (s && ltb B A) (a % d) d) (sym e1)
      (unscale (round binary32 (s && ltb B A) F (d * down g)) (s && ltb B A) (a % d) d (down g) (down_pos g) (rest_exact (s && ltb B A) m e (down g) (down_pos g) H)) in
      signed_by s (a % d) (down g) d A B (down_pos g) h (sub binary32 (fin s m e) (fin t n g)) x

-- a negative x whose whole part is 0, less plus zero
minus_zero_law : (m : ℕ) (e : ℤ) → Held m e → m * up e / down e ≡ 0 → (W : Float) → HasValue W false 0 1 → HasValue (sub binary32 (fin true m e) W) true (m * up e % down e) (down e)
unfolding sub add neg sum
minus_zero_law m e H z nan v = absurd v
minus_zero_law m e H z (inf t) v = absurd v
minus_zero_law m e H z (fin true n g) v = absurd (true≢false v.0)
minus_zero_law m e H z (fin false n g) v =
    let nz : n * up g ≡ 0 = sym (mul-one (n * up g)) ∙ v.1 ∙ zero-mul (down g) in
    let same : m * up e * down g + n * up g * down e ≡ m * up e % down e * down g =
    ap (λ (x : ℕ). m * up e * down g + x * down e) nz ∙ ap (λ (x : ℕ). m * up e * down g + x) (zero-mul (down e)) ∙ add-zero (m * up e * down g)
    ∙ ap (λ (x : ℕ). x * down g) (sym (div-add-mod' (m * up e) (down e)) ∙ ap (λ (x : ℕ). x * down e + m * up e % down e) z ∙ ap (λ (x : ℕ). x + m * up e % down e) (zero-mul (down e)) ∙ zero-add (m * up e % down e)) in
    subst (λ (x : ℕ). HasValue (round binary32 true x (down e * down g)) true (m * up e % down e) (down e)) (sym same)
    (unscale (round binary32 true (m * up e % down e * down g) (down e * down g)) true (m * up e % down e) (down e) (down g) (down_pos g) (rest_exact true m e (down g) (down_pos g) H))

-- ---- the whole part as an integer, then as a float
of_int_pos : (n : ℕ) → of_int binary32 (pos n) ≡ round binary32 false n 1
unfolding of_int
of_int_pos n = refl

of_int_neg : (n : ℕ) → of_int binary32 (negsuc n) ≡ round binary32 true (suc n) 1
unfolding of_int
of_int_neg n = refl

zero_value : HasValue (round binary32 false 0 1) false 0 1
unfolding round
zero_value = (refl, refl)

pub rest_of : (s : Bool) (m : ℕ) (e : ℤ) → Held m e → Rest s (m * up e % down e) (down e) (sub binary32 (fin s m e) (of_int binary32 (cond s (neg_ℤ (pos (m * up e / down e))) (pos (m * up e / down e)))))
rest_of false m e H =
    minus_whole false m e H (of_int binary32 (pos (m * up e / down e)))
    (subst (λ (x : Float). HasValue x false (m * up e / down e) 1) (sym (of_int_pos (m * up e / down e))) (whole_exact false m e H))
rest_of true m e H = go (m * up e / down e) refl
  where
    go : (i : ℕ) → m * up e / down e ≡ i → Rest true (m * up e % down e) (down e) (sub binary32 (fin true m e) (of_int binary32 (neg_ℤ (pos i))))
    go zero z = inl (minus_zero_law m e H z (of_int binary32 (pos 0)) (subst (λ (x : Float). HasValue x false 0 1) (sym (of_int_pos 0)) zero_value))
    go (suc k) z =
        minus_whole true m e H (of_int binary32 (negsuc k))
        (subst (λ (x : Float). HasValue x true (m * up e / down e) 1) (ap (λ (x : ℕ). round binary32 true x 1) z ∙ sym (of_int_neg k)) (whole_exact true m e H))
