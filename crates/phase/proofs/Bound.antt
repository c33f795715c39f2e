-- The steps of an outcome lie from -127 to 127: half a step beyond -127.49 stays above -128, rounded too, since rounding keeps the order.
use mathlib.Core.Path.{◌≡◌, refl, sym, subst, ◌∙◌}
use mathlib.Core.Bool.{Bool, true, false, cond, ◌&&◌, false≢true}
use Prim.Native.Nat.{ℕ, zero, suc, ◌+◌, ◌*◌, ◌-◌, ◌/◌, ◌^◌, ◌≤◌, ◌<◌, min}
use native.Mathlib.Nat.{div-lt_iff_lt-mul}
use native.Mathlib.Omega.{arith}
use borrow.Author.Tests.{ltb-false, lt-ltb, le-ltb}
use lib.Dec.{ltb}
use lib.IntN.{ℤ, pos, negsuc, neg_ℤ, nat_abs}
use lib.Ieee.{Float, nan, inf, fin, binary32, up, down, odd, units, round, sum, add, sub, neg, lt, le, eq, of_bits, to_signed}
use lib.Ieee.Fits.{round_is, down_pos}
use lib.Ieee.Order.{round_mono}
use Rattle.numbers.specs.Binary32.{◌+f◌, ◌-f◌, zero_f, is_finite}
use Rattle.numbers.specs.Convert.{half_f, half_away}
use Rattle.phase.specs.Phase.{most_steps}
use Rattle.numbers.proofs.Cutting.{or_le}
use Rattle.std.proofs.num.Values.{neg-round}
use Rattle.numbers.proofs.Order.{le_neg}
use Rattle.tables.proofs.Both.{holds}

-- ---- cut to 7 bits and a sign: a size of at most 127.99, which is 16775905 / 2 ^ 17, and any number with a plus sign

abbrev most_beyond : Float
most_beyond = fin false 16775905 (negsuc 16)

size_of_minus : (n : ℕ) → nat_abs (neg_ℤ (pos n)) ≡ n
size_of_minus zero = refl
size_of_minus (suc n) = refl

capped : (q : ℕ) → q < 128 → min q 128 ≤ 127
capped q h = omega arith

cut_minus : (x : Float) → le x most_beyond ≡ true → nat_abs (to_signed 7 (neg x)) ≤ 127
unfolding le lt eq neg to_signed
cut_minus nan t = absurd (false≢true t)
cut_minus (inf true) t = omega arith
cut_minus (inf false) t = absurd (false≢true t)
cut_minus (fin true m e) t = omega arith
cut_minus (fin false m e) t =
    let A : m * up e < 128 * down e = omega (arith, or_le (m * up e * 131072) (16775905 * 1 * down e) t, down_pos e) in
    subst (λ (n : ℕ). n ≤ 127) (sym (size_of_minus (min (m * up e / down e) 128))) (capped (m * up e / down e) ((div-lt_iff_lt-mul (down_pos e)).1 A))

cut_odd : (q k : ℕ) → nat_abs (to_signed 7 (odd 25 false q k 149)) ≤ 127
unfolding odd to_signed
cut_odd zero k = omega arith
cut_odd (suc q) k = omega arith

cut_units : (q k : ℕ) → nat_abs (to_signed 7 (units binary32 false q k)) ≤ 127
unfolding units to_signed
cut_units q k = go (ltb (q * 2 ^ k) (2 ^ 277))
  where
    go : (b : Bool) → nat_abs (to_signed 7 (cond b (odd 25 false q k 149) (inf false))) ≤ 127
    go true = cut_odd q k
    go false = omega arith

cut_plus : (n d : ℕ) → nat_abs (to_signed 7 (round binary32 false n d)) ≤ 127
cut_plus n d = subst (λ (x : Float). nat_abs (to_signed 7 x) ≤ 127) (sym (round_is binary32 false n d)) (cut_units _ _)

-- ---- half further from zero

beyond : (m : ℕ) (e : ℤ) → le (neg most_steps) (fin true m e) ≡ true → le (round binary32 false (m * up e * 2 + 1 * 1 * down e) (down e * 2)) most_beyond ≡ true
unfolding le lt eq neg of_bits round
beyond m e t =
    let A = or_le (m * up e * 131072) (16710369 * 1 * down e) (sym (le_neg most_steps (fin false m e)) ∙ t) in
    holds (le (round binary32 false (m * up e * 2 + 1 * 1 * down e) (down e * 2)) most_beyond)
    (round_mono binary32 (m * up e * 2 + 1 * 1 * down e) (down e * 2) 16775905 131072 (omega (arith, down_pos e)) (omega arith) (omega (arith, A)))

-- below zero: half a step down from -127.49 at the least
pub minus_half : (m : ℕ) (e : ℤ) → le (neg most_steps) (fin true m e) ≡ true → nat_abs (to_signed 7 (fin true m e -f half_f)) ≤ 127
unfolding sub add sum neg of_bits
minus_half m e t =
    subst (λ (x : Float). nat_abs (to_signed 7 x) ≤ 127) (neg-round binary32 (m * up e * 2 + 1 * 1 * down e) (down e * 2))
    (cut_minus (round binary32 false (m * up e * 2 + 1 * 1 * down e) (down e * 2)) (beyond m e t))

-- from zero on, minus zero too: half a step up has a plus sign
pub plus_half : (s : Bool) (m : ℕ) (e : ℤ) → lt (fin s m e) zero_f ≡ false → nat_abs (to_signed 7 (fin s m e +f half_f)) ≤ 127
unfolding add sum lt of_bits
plus_half false m e t = cut_plus (m * up e * 2 + 1 * 1 * down e) (down e * 2)
plus_half true m e t =
    let z = ltb-false 0 (m * up e * 1 + 0 * 1 * down e) t in
    let less : m * up e * 2 < 1 * 1 * down e = omega (arith, z, down_pos e) in
    subst (λ (b : Bool). nat_abs (to_signed 7 (cond b (round binary32 false (1 * 1 * down e - m * up e * 2) (down e * 2)) (round binary32 (true && ltb (1 * 1 * down e) (m * up e * 2)) (m * up e * 2 - 1 * 1 * down e) (down e * 2)))) ≤ 127)
    (sym (lt-ltb (m * up e * 2) (1 * 1 * down e) less)) (cut_plus (1 * 1 * down e - m * up e * 2) (down e * 2))

not_below : (m : ℕ) (e : ℤ) → lt (fin false m e) zero_f ≡ false
unfolding lt of_bits
not_below m e = le-ltb (m * up e * 1) (0 * 1 * down e) (omega arith)

pub half_away_law : (s : Float) → is_finite s ≡ true → le (neg most_steps) s ≡ true → nat_abs (to_signed 7 (half_away s)) ≤ 127
unfolding half_away is_finite
half_away_law nan f t = absurd (false≢true f)
half_away_law (inf s) f t = absurd (false≢true f)
half_away_law (fin s m e) f t = go s (lt (fin s m e) zero_f) refl t
  where
    go : (r b : Bool) → lt (fin r m e) zero_f ≡ b → le (neg most_steps) (fin r m e) ≡ true → nat_abs (to_signed 7 (cond b (fin r m e -f half_f) (fin r m e +f half_f))) ≤ 127
    go r false l k = plus_half r m e l
    go true true l k = minus_half m e k
    go false true l k = absurd (false≢true (sym (not_below m e) ∙ l))
