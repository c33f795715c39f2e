-- What the library's methods of floats answer, in the words of specs/.
use Rattle.std.proofs.Common.{◌≡◌, Bool, true, false, cond, ◌||◌, refl, sym, ◌∙◌, true≢false}
use mathlib.Core.Bool.{false≢true}
use Rattle.std.specs.Float.{NotNan, float_is_finite, float_signum, float_max, is_sign_negative, round_to_format}
use Rattle.std.proofs.lemmas.Float.{eq-not_lt, T_from_true}
use lib.Ieee.{Float, nan, inf, fin, binary32, lt, le, eq, neg, of_bits, is_nan}
use Rattle.numbers.specs.Binary32.{is_finite, is_minus, max_of, signum_of}
use Rattle.numbers.specs.Convert.{narrow}
use Rattle.numbers.proofs.Order.{Number, lt_asym, eq_sym, eq_comm, nlt→le}

pub finite_is : (x : Float) → float_is_finite x ≡ is_finite x
unfolding float_is_finite is_finite
finite_is nan = refl
finite_is (inf s) = refl
finite_is (fin s m e) = refl

pub minus_is : (x : Float) → is_sign_negative x ≡ is_minus x
unfolding is_sign_negative is_minus
minus_is nan = refl
minus_is (inf s) = refl
minus_is (fin s m e) = refl

pub signum_is : (x : Float) → float_signum x ≡ signum_of x
unfolding float_signum signum_of is_nan is_minus neg of_bits
signum_is nan = refl
signum_is (inf true) = refl
signum_is (inf false) = refl
signum_is (fin true m e) = refl
signum_is (fin false m e) = refl

pub narrow_is : (x : Float) → round_to_format binary32 x ≡ narrow x
unfolding round_to_format narrow
narrow_is nan = refl
narrow_is (inf s) = refl
narrow_is (fin s m e) = refl

-- ---- `max`: where two compare equal, as two zeros of unlike sign do, the method may answer either
pub equal_number : (a b : Float) → eq a b ≡ true → NotNan a
unfolding eq is_nan
equal_number nan b h = absurd (false≢true h)
equal_number (inf s) b h = tt
equal_number (fin s m e) b h = tt

number : (x : Float) → is_nan x ≡ false → Number x
unfolding is_nan
number nan h = absurd (true≢false h)
number (inf s) h = tt
number (fin s m e) h = tt

right_number : (a b : Float) → eq a b ≡ true → is_nan b ≡ false
unfolding eq is_nan
right_number nan b h = absurd (false≢true h)
right_number (inf s) nan h = absurd (false≢true h)
right_number (inf s) (inf t) h = refl
right_number (inf s) (fin t n d) h = refl
right_number (fin s m e) nan h = absurd (false≢true h)
right_number (fin s m e) (inf t) h = refl
right_number (fin s m e) (fin t n d) h = refl

not_lt : (a b : Float) → eq a b ≡ true → lt a b ≡ false
not_lt a b h = go (lt a b) refl
  where
    go : (t : Bool) → lt a b ≡ t → lt a b ≡ false
    go true e = absurd (eq-not_lt a b (T_from_true (eq a b) h) (T_from_true (lt a b) e))
    go false e = e

pub max_of_equals : (a b : Float) → eq a b ≡ true → max_of a b ≡ cond (is_minus a) b a
unfolding max_of
max_of_equals a b h =
    let k = eq_sym a b h in
    simp (right_number b a k, right_number a b h, not_lt a b h, not_lt b a k)

unequal : (a b : Float) → is_nan a ≡ false → is_nan b ≡ false → eq a b ≡ false → max_of a b ≡ cond (le b a || is_nan b) a b
unfolding max_of le
unequal a b p q h = go (lt a b) (lt b a) refl refl
  where
    go : (t u : Bool) → lt a b ≡ t → lt b a ≡ u → cond (is_nan a) b (cond (is_nan b) a (cond (lt a b) b (cond (lt b a) a (cond (is_minus a) b a)))) ≡ cond (le b a || is_nan b) a b
    go true true e f = absurd (true≢false (sym f ∙ lt_asym a b e))
    go true false e f = simp (p, q, e, f, sym (eq_comm a b) ∙ h)
    go false true e f = simp (p, q, e, f)
    go false false e f = absurd (false≢true (simp (f, sym (eq_comm a b) ∙ h) at (nlt→le a b (number a p) (number b q) e)))

pub max_is : (a b : Float) → eq a b ≡ false → max_of a b ≡ float_max a b
unfolding max_of is_nan lt eq le
max_is nan nan h = refl
max_is nan (inf t) h = refl
max_is nan (fin t n d) h = refl
max_is (inf s) nan h = refl
max_is (inf s) (inf t) h = unequal (inf s) (inf t) refl refl h
max_is (inf s) (fin t n d) h = unequal (inf s) (fin t n d) refl refl h
max_is (fin s m e) nan h = refl
max_is (fin s m e) (inf t) h = unequal (fin s m e) (inf t) refl refl h
max_is (fin s m e) (fin t n d) h = unequal (fin s m e) (fin t n d) refl refl h
