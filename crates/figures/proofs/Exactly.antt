-- Document 01: "whole part plus fraction equals the rounded sum exactly". Of every sum that `acc_step` counts, by the remainder's exactness and a little algebra with signs.
use mathlib.Core.Bool.{Bool, true, false, ◌&&◌, cond, false≢true}
use mathlib.Core.Logic.{inl, inr}
use mathlib.Core.Path.{◌≡◌, refl, sym, ap, ◌∙◌, subst}
use Prim.Native.Nat.{ℕ, zero, suc, ◌+◌, ◌*◌, ◌/◌, ◌%◌, ◌<◌}
use native.Mathlib.Nat.{zero-mul, mul_comm, mul_right_comm, mul-lt-mul_of_pos_right, lt_of_mul-lt-mul_right, mod-lt, add-mul, div-add-mod', eq_of_mul-eq-mul_right}
use native.Mathlib.Omega.{arith}
use borrow.Author.Tests.{lt-ltb}
use lib.Dec.{T}
use lib.Ieee.Fits.{down_pos, add-fits}
use lib.Ieee.{Float, nan, inf, fin, binary32, up, down, neg, of_int, to_signed, fits, lt, le, eq, of_bits}
use lib.IntN.{ℤ, pos, neg_ℤ, ◌+ℤ◌, ◌*ℤ◌, neg_ℤ-+ℤ, pos-+ℤ-pos, pos-*ℤ-pos, negsuc-*ℤ-pos}
use Rattle.std.specs.Prelude.{Result, Ok, Err}
use Rattle.numbers.specs.Binary32.{one_f, is_finite, abs_of, ◌+f◌, ◌-f◌, ◌*f◌}
use Rattle.numbers.proofs.Cutting.{inside}
use Rattle.numbers.proofs.Cases.{either}
use Rattle.refusals.specs.declared.Refusal.{Refusal}
use Rattle.refusals.specs.declared.Refusal.TheVariants as refusal
use Rattle.refusals.specs.Number.{refusal_number, told_number}
use Rattle.figures.specs.Acc.{two63, sum_in_range, count_in_range, acc_step, thousand, add_to, add_answer, added_acc}
use Rattle.figures.specs.Exact.{with_sign, IsWholePlus, Exact, ExactAfter}
use Rattle.figures.specs.declared.acc.Acc.{Acc}
use Rattle.figures.specs.declared.acc.Sum.{Sum}
use Rattle.figures.proofs.Remainder.{Rest, held, rest_of}

-- ---- whole numbers of one sign
with_sign_mul : (s : Bool) (n k : ℕ) → with_sign s n *ℤ pos k ≡ with_sign s (n * k)
with_sign_mul false n k = pos-*ℤ-pos n k
with_sign_mul true zero k = pos-*ℤ-pos 0 k ∙ ap pos (zero-mul k) ∙ ap (λ (x : ℕ). neg_ℤ (pos x)) (sym (zero-mul k))
with_sign_mul true (suc n) k = negsuc-*ℤ-pos n k

with_sign_add : (s : Bool) (a b : ℕ) → with_sign s a +ℤ with_sign s b ≡ with_sign s (a + b)
with_sign_add false a b = pos-+ℤ-pos a b
with_sign_add true a b = sym (neg_ℤ-+ℤ (pos a) (pos b)) ∙ ap neg_ℤ (pos-+ℤ-pos a b)

with_sign_zero : (s t : Bool) (n : ℕ) → n ≡ 0 → with_sign s n ≡ with_sign t n
with_sign_zero s t n z = ap (with_sign s) z ∙ plus_zero s ∙ sym (ap (with_sign t) z ∙ plus_zero t)
  where
    plus_zero : (u : Bool) → with_sign u 0 ≡ pos 0
    plus_zero false = refl
    plus_zero true = refl

-- ---- a / d = a / d cut + n / g, where n / g is what is left, (a % d) / d
parts : (a d n g : ℕ) → n * d ≡ a % d * g → (a / d * g + n) * d ≡ a * g
parts a d n g h =
    add-mul (a / d * g) n d ∙ ap (λ (x : ℕ). x + n * d) (mul_right_comm (a / d) g d) ∙ ap (λ (x : ℕ). a / d * d * g + x) h
    ∙ sym (add-mul (a / d * d) (a % d) g) ∙ ap (λ (x : ℕ). x * g) (div-add-mod' a d)

summed : (s t : Bool) (a d n g : ℕ) → with_sign t n ≡ with_sign s n → n * d ≡ a % d * g → with_sign s a *ℤ pos g ≡ (with_sign s (a / d) *ℤ pos g +ℤ with_sign t n) *ℤ pos d
summed s t a d n g e h =
    with_sign_mul s a g ∙ ap (with_sign s) (sym (parts a d n g h)) ∙ sym (with_sign_mul s (a / d * g + n) d)
    ∙ ap (λ (z : ℤ). z *ℤ pos d) (sym (with_sign_add s (a / d * g) n) ∙ ap (λ (z : ℤ). z +ℤ with_sign s n) (sym (with_sign_mul s (a / d) g)) ∙ ap (λ (z : ℤ). with_sign s (a / d) *ℤ pos g +ℤ z) (sym e))

-- what is left of a / d is below one
below_one : (t : Bool) (n : ℕ) (g : ℤ) (f d : ℕ) → f < d → n * up g * d ≡ f * down g → lt (abs_of (fin t n g)) one_f ≡ true
unfolding lt abs_of of_bits
below_one t n g f d l h = lt-ltb (n * up g * 1) (1 * 1 * down g) (tidy (n * up g) (down g) (lt_of_mul-lt-mul_right d less))
  where
    less : n * up g * d < down g * d
    less = subst (λ (x : ℕ). x < down g * d) (sym h) (subst (λ (x : ℕ). f * down g < x) (mul_comm d (down g)) (mul-lt-mul_of_pos_right l (down_pos g)))

    tidy : (x y : ℕ) → x < y → x * 1 < 1 * 1 * y
    tidy x y p = omega arith

whole_plus : (s : Bool) (m : ℕ) (e : ℤ) (r : Float) → Rest s (m * up e % down e) (down e) r → IsWholePlus (fin s m e) (with_sign s (m * up e / down e)) r
unfolding IsWholePlus is_finite
whole_plus s m e nan (inl v) = absurd v
whole_plus s m e nan (inr v) = absurd v.1
whole_plus s m e (inf t) (inl v) = absurd v
whole_plus s m e (inf t) (inr v) = absurd v.1
whole_plus s m e (fin t n g) (inl v) = (
  refl,
  below_one t n g (m * up e % down e) (down e) (mod-lt (m * up e) (down_pos e)) v.1,
  summed s t (m * up e) (down e) (n * up g) (down g) (ap (λ (u : Bool). with_sign u (n * up g)) v.0) v.1,
)
whole_plus s m e (fin t n g) (inr v) =
    let none : n * up g ≡ 0 = eq_of_mul-eq-mul_right (down e) (down_pos e) (n * up g) 0 (v.1.1 ∙ ap (λ (x : ℕ). x * down g) v.0 ∙ zero-mul (down g) ∙ sym (zero-mul (down e))) in (
      refl,
      below_one t n g (m * up e % down e) (down e) (mod-lt (m * up e) (down_pos e)) v.1.1,
      summed s t (m * up e) (down e) (n * up g) (down g) (with_sign_zero t s (n * up g) none) v.1.1,
    )

-- ---- in range the cut is the whole part
cut_is : (x : Float) → le (fin true 1 (pos 63)) x ≡ true → lt x (fin false 1 (pos 63)) ≡ true → T (fits binary32 x) → IsWholePlus x (to_signed 63 x) (x -f of_int binary32 (to_signed 63 x))
unfolding le lt eq
cut_is nan l u F = absurd (false≢true u)
cut_is (inf true) l u F = absurd (false≢true l)
cut_is (inf false) l u F = absurd (false≢true u)
cut_is (fin s m e) l u F = subst (λ (z : ℤ). IsWholePlus (fin s m e) z (fin s m e -f of_int binary32 z)) (sym (inside 63 s m e l u)) (whole_plus s m e _ (rest_of s m e (held s m e F)))

two63_is : two63 ≡ fin false 1 (pos 63)
unfolding of_bits
two63_is = refl

minus_two63_is : neg two63 ≡ fin true 1 (pos 63)
unfolding of_bits neg
minus_two63_is = refl

in_range : (x : Float) → T (fits binary32 x) → le (neg two63) x ≡ true → lt x two63 ≡ true → IsWholePlus x (to_signed 63 x) (x -f of_int binary32 (to_signed 63 x))
in_range x F l u = cut_is x (ap (λ (z : Float). le z x) (sym minus_two63_is) ∙ l) (ap (λ (z : Float). lt x z) (sym two63_is) ∙ u) F

-- ---- so it is of every step: there is a sum only where the tests hold
pub exactly : (a : Acc) (millijoules : Float) → Exact a millijoules (acc_step a millijoules)
unfolding acc_step Exact sum_in_range
exactly a j = go (le (neg two63) x) (lt x two63) (count_in_range (a.mj +ℤ w)) (λ l u. in_range x (add-fits binary32 a.frac j) l u)
  where
    x : Float
    x = a.frac +f j

    w : ℤ
    w = to_signed 63 x

    go : (l u t : Bool) → (l ≡ true → u ≡ true → IsWholePlus x w (x -f of_int binary32 w)) → Exact a j (cond (l && u && t) (Ok (record { acc = record { mj = a.mj +ℤ w; frac = x -f of_int binary32 w }; gained = w })) (Err refusal.Full))
    go true true true k = (refl, refl, k refl refl)
    go true true false k = tt
    go true false t k = tt
    go false u t k = tt

pub exact_of : (a : Acc) (millijoules : Float) (r : Result Sum Refusal) → r ≡ acc_step a millijoules → Exact a millijoules r
exact_of a j r e = subst (λ (z : Result Sum Refusal). Exact a j z) (sym e) (exactly a j)

-- ---- a refusal is full
abbrev pub OnlyFull : {A : Type 0} → Result A Refusal → Type 0
OnlyFull (Ok x) = Unit {0}
OnlyFull (Err r) = r ≡ refusal.Full

pub step_only_full : (a : Acc) (millijoules : Float) → OnlyFull (acc_step a millijoules)
unfolding acc_step
step_only_full a j = either OnlyFull (sum_in_range (a.frac +f j) && count_in_range (a.mj +ℤ to_signed 63 (a.frac +f j))) tt refl

-- ---- the number of what the lent add answers is that of the add by value
pub answer_told : (r : Result Sum Refusal) → told_number (add_answer r) ≡ told_number r
answer_told (Ok s) = refl
answer_told (Err r) = refl

-- ---- whole part and fraction are exact after every add to a lent record, too
after_answer : (a : Acc) (joules : Float) (r : Result Sum Refusal) → OnlyFull r → Exact a (joules *f thousand) r → ExactAfter a joules (told_number r) (added_acc a r)
unfolding Exact ExactAfter
after_answer a joules (Ok s) f h = inl (refl, (s.gained, h))
after_answer a joules (Err r) f h = inr (ap refusal_number f, refl)

pub exactly_after : (a : Acc) (joules : Float) (r : Result Sum Refusal) → r ≡ add_to a joules → ExactAfter a joules (told_number r) (added_acc a r)
unfolding add_to
exactly_after a joules r e =
    subst (λ (z : Result Sum Refusal). ExactAfter a joules (told_number z) (added_acc a z)) (sym e)
    (after_answer a joules (acc_step a (joules *f thousand)) (step_only_full a (joules *f thousand)) (exactly a (joules *f thousand)))

-- by the answer of the add by value, which the lent one hands on
pub exactly_added : (a : Acc) (joules : Float) (s : Sum) → add_to a joules ≡ Ok s → ExactAfter a joules 0 s.acc
exactly_added a joules s e = exactly_after a joules (Ok s) (sym e)

pub exactly_refused : (a : Acc) (joules : Float) (answer : Result (Unit {0}) Refusal) (r : Refusal) → answer ≡ Err r → add_to a joules ≡ Err r → ExactAfter a joules (told_number answer) a
exactly_refused a joules answer r is e = subst (λ (z : Result (Unit {0}) Refusal). ExactAfter a joules (told_number z) a) (sym is) (exactly_after a joules (Err r) (sym e))
