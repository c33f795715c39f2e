-- What follows from the definitions: the mean in the source's two steps, the bound that each step of the zero job is held to, the frames of a job, and what a good gain is.
use mathlib.Core.Path.{◌≡◌, refl, sym, ap, ◌∙◌}
use mathlib.Core.Bool.{Bool, true, false, cond}
use Prim.Native.Nat.{ℕ, zero, suc, ◌+◌, ◌*◌, ◌/◌, ◌<◌, ◌≤◌, min}
use native.Mathlib.Omega.{arith}
use borrow.Author.Tests.{ltb-true, ltb-false, lt-ltb, le-ltb}
use lib.Dec.{ltb}
use Rattle.std.specs.Prelude.{Result, Ok, Err}
use lib.IntN.{ℤ, pos, negsuc, neg_ℤ}
use lib.Signed.{lt_z}
use lib.Ieee.{Float, nan, inf, fin, add, up, down, to_signed}
use Rattle.numbers.specs.Binary32.{◌/f◌, is_finite}
use Rattle.numbers.specs.Convert.{half_f, half_away}
use Rattle.numbers.proofs.NoNumber.{plus_nan, times_nan, over_nan, nan_over}
use Rattle.codes.specs.declared.Codes.{Codes}
use Rattle.tables.specs.Constants.{job_n, zero_max_ad1}
use Rattle.tables.specs.Gain.{plausible}
use Rattle.steps.specs.declared.place.Place.TheVariants.{ZeroX, ZeroD, ZeroY}
use Rattle.steps.specs.declared.error.JobError.{JobError}
use Rattle.steps.specs.declared.error.JobError.TheVariants.{Unstable, Range}
use Rattle.steps.specs.Place.{Layout, zero_steps, dc_steps, ac_steps, place_of, drops_of}
use Rattle.steps.specs.Reading.{distance, lpf_signal, signal}
use Rattle.steps.specs.Verdict.{zero_mean, half_sum, steady, rounds_differ, ratio_verdict, gain_verdict}

-- ---- the mean in two steps, as the source writes it: `(..) as i32`, then `.clamp(-32768, 32767) as i16`

abbrev pub clamped : ℤ → ℤ
clamped z = cond (lt_z z (negsuc 32767)) (negsuc 32767) (cond (lt_z (pos 32767) z) (pos 32767) z)

above : (a : ℕ) → clamped (pos (min a 2147483647)) ≡ pos (min a 32767)
above a = go (ltb 32767 (min a 2147483647)) (ltb-true 32767 (min a 2147483647)) (ltb-false 32767 (min a 2147483647))
  where
    more : 32767 < min a 2147483647 → 32767 ≡ min a 32767
    more h = omega arith

    less : min a 2147483647 ≤ 32767 → min a 2147483647 ≡ min a 32767
    less h = omega arith

    go : (t : Bool) → (t ≡ true → 32767 < min a 2147483647) → (t ≡ false → min a 2147483647 ≤ 32767) → cond t (pos 32767) (pos (min a 2147483647)) ≡ pos (min a 32767)
    go true f g = ap pos (more (f refl))
    go false f g = ap pos (less (g refl))

below : (a : ℕ) → clamped (neg_ℤ (pos (min a 2147483648))) ≡ neg_ℤ (pos (min a 32768))
below a = go (min a 2147483648) refl
  where
    none : min a 2147483648 ≡ 0 → min a 32768 ≡ 0
    none h = omega arith

    go : (k : ℕ) → min a 2147483648 ≡ k → clamped (neg_ℤ (pos k)) ≡ neg_ℤ (pos (min a 32768))
    go zero e = ap (λ (x : ℕ). neg_ℤ (pos x)) (sym (none e))
    go (suc k) e = by (ltb 32767 k) (ltb-true 32767 k) (ltb-false 32767 k)
      where
        more : 32767 < k → 32768 ≡ min a 32768
        more h = omega arith

        less : k ≤ 32767 → suc k ≡ min a 32768
        less h = omega arith

        by : (t : Bool) → (t ≡ true → 32767 < k) → (t ≡ false → k ≤ 32767) → cond t (negsuc 32767) (negsuc k) ≡ neg_ℤ (pos (min a 32768))
        by true f g = ap (λ (x : ℕ). neg_ℤ (pos x)) (more (f refl))
        by false f g = ap (λ (x : ℕ). neg_ℤ (pos x)) (less (g refl))

pub two_steps : (a : Float) → to_signed 15 a ≡ clamped (to_signed 31 a)
unfolding to_signed
two_steps nan = refl
two_steps (inf true) = refl
two_steps (inf false) = refl
two_steps (fin true m e) = sym (below (m * up e / down e))
two_steps (fin false m e) = sym (above (m * up e / down e))

pub mean_in_two_steps : (mean : Float) → zero_mean mean ≡ clamped (to_signed 31 (half_away mean))
unfolding zero_mean
mean_in_two_steps mean = two_steps (half_away mean)

-- ---- "further from the old zero .. than 4000 (20,000 for AD1)": AD1's bound in steps 6 to 11 of the zero job, the LPF's and the root's in the others

module _ (s : ℕ) where
  pub first_six : s < 6 → place_of zero_steps s ≡ ZeroX
  first_six h = rw (lt-ltb s 6 h)

  pub second_six : 6 ≤ s → s < 12 → place_of zero_steps s ≡ ZeroD
  second_six h k = rw (le-ltb s 6 h, lt-ltb s 12 k)

  pub last_one : 12 ≤ s → place_of zero_steps s ≡ ZeroY
  last_one h = rw (le-ltb s 6 (omega arith), le-ltb s 12 h)

  module _ (old : ℤ) (f : Codes) where
    pub lpf_bound_first : s < 6 → signal (place_of zero_steps s) old f ≡ lpf_signal old f
    unfolding signal
    lpf_bound_first h = rw (lt-ltb s 6 h)

    pub ad1_bound : 6 ≤ s → s < 12 → signal (place_of zero_steps s) old f ≡ ltb zero_max_ad1 (distance f.ad1 old)
    unfolding signal
    ad1_bound h k = rw (le-ltb s 6 h, lt-ltb s 12 k)

    pub lpf_bound_last : 12 ≤ s → signal (place_of zero_steps s) old f ≡ lpf_signal old f
    unfolding signal
    lpf_bound_last h = rw (le-ltb s 6 (omega arith), le-ltb s 12 h)

-- ---- "Each step drops 1 ready frame (4 for the AC reference), then counts 3": the ready frames of a job's first n steps. All its steps take 52; 16 in DC and 22 in AC

abbrev pub frames_to : Layout → ℕ → ℕ
frames_to l zero = 0
frames_to l (suc n) = frames_to l n + (drops_of (place_of l n) + job_n)

pub frames : (frames_to zero_steps 13 ≡ 52) × (frames_to dc_steps 4 ≡ 16) × (frames_to ac_steps 4 ≡ 22)
frames = (refl, refl, refl)

-- ---- a good gain is plausible

abbrev plausible_in : Result Float JobError → Bool
plausible_in (Err e) = true
plausible_in (Ok g) = plausible g

module _ (r0 r1 g : Float) (still : Bool) where
  held : plausible_in (ratio_verdict r0 r1 g still) ≡ true
  unfolding ratio_verdict
  held = by (rounds_differ r0 r1 g still) (plausible g) refl
    where
      by : (t p : Bool) → plausible g ≡ p → plausible_in (cond t (Err Unstable) (cond p (Ok g) (Err Range))) ≡ true
      by true p e = refl
      by false true e = e
      by false false e = refl

pub good_plausible : (raw0 ref0 raw1 ref1 g : Float) → gain_verdict raw0 ref0 raw1 ref1 ≡ Ok g → plausible g ≡ true
unfolding gain_verdict
good_plausible raw0 ref0 raw1 ref1 g e =
    sym (ap plausible_in e) ∙ held (ref0 /f raw0) (ref1 /f raw1) (half_sum (ref0 /f raw0) (ref1 /f raw1)) (steady raw0 raw1)

-- ---- a NaN among the four means is unstable

module _ (r0 r1 : Float) (still : Bool) where
  first : r0 ≡ nan → ratio_verdict r0 r1 (half_sum r0 r1) still ≡ Err Unstable
  unfolding ratio_verdict rounds_differ add is_finite
  first e = rw (e, times_nan half_f)

  second : r1 ≡ nan → ratio_verdict r0 r1 (half_sum r0 r1) still ≡ Err Unstable
  unfolding ratio_verdict rounds_differ is_finite
  second e = rw (e, plus_nan r0, times_nan half_f)

module _ (raw0 ref0 raw1 ref1 : Float) where
  pub nan_unstable : (gain_verdict nan ref0 raw1 ref1 ≡ Err Unstable) × (gain_verdict raw0 nan raw1 ref1 ≡ Err Unstable) × (gain_verdict raw0 ref0 nan ref1 ≡ Err Unstable) × (gain_verdict raw0 ref0 raw1 nan ≡ Err Unstable)
  unfolding gain_verdict
  nan_unstable = (first _ _ _ (over_nan ref0), first _ _ _ (nan_over raw0), second _ _ _ (over_nan ref1), second _ _ _ (nan_over raw1))
