-- What a meter's bench and the book have in common at every point of a list of calls.
use mathlib.Core.Path.{◌≡◌, refl, ap, sym, ◌∙◌}
use mathlib.Core.Bool.{Bool, true, false}
use mathlib.Core.List.{List}
use Prim.Native.Nat.{ℕ, zero, suc, ◌+◌, ◌<◌, ◌≤◌}
use native.Mathlib.Omega.{arith}
use borrow.Author.Tests.{eq-eqb, ne_eqb}
use lib.IntN.{ℤ, pos}
use lib.Ieee.{Float, nan}
use lib.ListN.{length, get_or}
use Rattle.codes.specs.declared.Codes.{Codes}
use Rattle.tables.specs.Constants.{jr_run}
use Rattle.tables.specs.Gain.{plausible}
use Rattle.tables.specs.declared.calibration.Calibration.{Calibration}
use Rattle.state.specs.declared.Corrections.{Corrections}
use Rattle.state.specs.declared.Job.{Job}
use Rattle.state.specs.declared.Ranges.{Ranges}
use Rattle.steps.specs.declared.place.Kind.{Kind}
use Rattle.steps.specs.declared.place.Kind.TheVariants.{Zero, Gain}
use Rattle.steps.specs.declared.place.Place.{Place}
use Rattle.steps.specs.declared.place.Place.TheVariants.{ZeroX, ZeroD, ZeroY, Raw, RefDc, RefAc}
use Rattle.steps.specs.Place.{Layout, kind_number, kind_of, layout_of, place_of, drops_of, step_ranges}
use Rattle.steps.specs.Reading.{Zeros, none, zeros_in}
use Rattle.jobs.specs.declared.bench.Bench.{Bench}
use Rattle.jobs.specs.Bench.{kind_in, place_in}
use Rattle.book.specs.Book.{measures, drops, begins, first, last_of, sum_of, Setting, reading_at, dc_of, layout_in, step_in, place_for, Outcome, going, zero_at, raw_at, ref_at, outcome_by, outcome, RangeGain, earned, Running, idle, serving, Book, entered, setting_of}
use Rattle.book.specs.Demand3.{NoZeros, stored, most_of, result_of}
use Rattle.book.proofs.Lists.{begins_mono, step_is, Same, same}

-- ---- the relation

-- the arrays have their lengths
pub record Lengths (x d xs ds : List ℤ) (g ra re : List Float) : Type 0 where
  pub zx : length x ≡ 6
  pub zd : length d ≡ 6
  pub job_zx : length xs ≡ 6
  pub job_zd : length ds ≡ 6
  pub vgain : length g ≡ 4
  pub raw : length ra ≡ 2
  pub ref : length re ≡ 2

abbrev pub Room : Bench → Type 0
Room t = Lengths t.corrections.zx t.corrections.zd t.job.job_zx t.job.job_zd t.corrections.vgain t.job.job_raw t.job.job_ref

-- what the steps before step s have left with the job
pub record ZeroParts (c : Setting) (s : ℕ) (xs ds : List ℤ) (fs : List Codes) : Type 0 where
  pub zx : (i : ℕ) → i < 6 → i < s → get_or xs i (pos 0) ≡ zero_at c fs i
  pub zd : (i : ℕ) → i < 6 → i + 6 < s → get_or ds i (pos 0) ≡ zero_at c fs (i + 6)

pub record GainParts (c : Setting) (s : ℕ) (d : Bool) (ra re : List Float) (fs : List Codes) : Type 0 where
  pub dc : 0 < s → d ≡ dc_of c fs
  pub raw0 : 0 < s → get_or ra 0 nan ≡ raw_at c d fs 0
  pub ref0 : 1 < s → get_or re 0 nan ≡ ref_at c d fs 1
  pub raw1 : 2 < s → get_or ra 1 nan ≡ raw_at c d fs 2

abbrev pub Parts : Kind → Setting → ℕ → Bool → List ℤ → List ℤ → List Float → List Float → List Codes → Type 0
Parts Zero c s d xs ds ra re fs = ZeroParts c s xs ds fs
Parts Gain c s d xs ds ra re fs = GainParts c s d ra re fs

abbrev pub Results : Kind → Setting → ℕ → Bench → List Codes → Type 0
Results k c s t fs = Parts k c s t.job.job_dc t.job.job_zx t.job.job_zd t.job.job_raw t.job.job_ref fs

abbrev pub lay_in : Kind → Bench → Layout
lay_in k t = layout_of k t.job.job_dc

-- the bench while the book has a job of kind k that found r and has used the ready frames fs
pub record Serving (c : Setting) (t : Bench) (k : Kind) (r : Ranges) (fs : List Codes) : Type 0 where
  pub job : t.job.job ≡ kind_number k
  pub res : t.job.job_res ≡ jr_run
  pub save : t.job.job_save ≡ r
  pub vr : t.ranges.vr ≡ c.vr
  pub used : t.job.used ≡ length fs
  pub low : t.job.job_step ≤ last_of (lay_in k t)
  pub few : t.job.job_n ≤ 2
  pub none_yet : 0 < t.cycle.skip → t.job.job_n ≡ 0
  pub fits : t.cycle.skip ≤ drops (measures (lay_in k t) t.job.job_step)
  pub len : length fs + t.cycle.skip ≡ first (lay_in k t) t.job.job_step + t.job.job_n
  pub a : t.job.job_a ≡ sum_of t.job.job_n (λ j. (reading_at c (lay_in k t) fs t.job.job_step j).x)
  pub b : t.job.job_b ≡ sum_of t.job.job_n (λ j. (reading_at c (lay_in k t) fs t.job.job_step j).y)
  pub results : Results k c t.job.job_step t fs

abbrev pub Runs : Calibration → Bench → Zeros → Running → Type 0
Runs w t z idle = t.job.job ≡ 0
Runs w t z (serving k r fs) = Serving (setting_of w r z) t k r fs

-- each gain that a job has earned is from 0.9 to 1.1
abbrev pub Bounded : (ℕ → RangeGain) → Type 0
Bounded g = (i : ℕ) (x : Float) → g i ≡ earned x → plausible x ≡ true

-- these zeros and gains are the book's
pub record Holds (c : Corrections) (z : Zeros) (g : ℕ → RangeGain) : Type 0 where
  pub zeros : zeros_in c ≡ z
  pub no_zeros : z ≡ none → NoZeros c
  pub gains : (i : ℕ) → i < 4 → get_or c.vgain i nan ≡ stored (g i)
  pub bounded : Bounded g

pub record Rel (w : Calibration) (t : Bench) (b : Book) : Type 0 where
  pub held : Holds t.corrections b.zeros b.gain
  pub room : Room t
  pub runs : Runs w t b.zeros b.job

-- the bench after a ready frame, the last of fs, by the frame's outcome in the book: at an end the ranges are those noted
pub record Good (w : Calibration) (b : Book) (k : Kind) (r : Ranges) (fs : List Codes) (t : Bench) (o : Outcome) : Type 0 where
  pub rel : Rel w t (entered k r fs o b.zeros b.gain)
  pub back : (o ≡ going → ⊥) → t.ranges ≡ r
  pub used : t.job.used ≡ length fs
  pub res : t.job.job_res ≡ result_of o

-- ---- kinds, places and drops

pub kind_is : (k : Kind) (j : Job) → j.job ≡ kind_number k → kind_in j ≡ k
unfolding kind_in kind_of
kind_is Zero j e = rw (eq-eqb j.job 1 e)
kind_is Gain j e = rw (ne_eqb j.job 1 (λ h. omega arith))

pub last_same : (k : Kind) (d e : Bool) → last_of (layout_of k d) ≡ last_of (layout_of k e)
last_same Zero d e = refl
last_same Gain true true = refl
last_same Gain true false = refl
last_same Gain false true = refl
last_same Gain false false = refl

begins_last : (k : Kind) (d : Bool) → begins (layout_of k d) (suc (last_of (layout_of k d))) ≤ most_of k
begins_last Zero d = omega arith
begins_last Gain true = omega arith
begins_last Gain false = omega arith

pub last_low : (k : Kind) (d : Bool) → last_of (layout_of k d) ≤ 12
last_low Zero d = omega arith
last_low Gain true = omega arith
last_low Gain false = omega arith

pub three_steps : (d : Bool) → last_of (layout_of Gain d) ≡ 3
three_steps true = refl
three_steps false = refl

pub step_vr : (k : Kind) (s : ℕ) (r : Ranges) → (step_ranges k s r).vr ≡ r.vr
step_vr Zero s r = refl
step_vr Gain s r = refl

pub layouts : (k : Kind) (c : Setting) (s : ℕ) (t : Bench) (fs : List Codes) → Results k c s t fs → 0 < s → lay_in k t ≡ layout_in c k fs
layouts Zero c s t fs p h = refl
layouts Gain c s t fs p h = ap (layout_of Gain) (p.dc h)

-- the meter's steps and drops are the book's
pub meter_place : (k : Kind) (d : Bool) (s : ℕ) → s ≤ last_of (layout_of k d) → place_of (layout_of k d) s ≡ measures (layout_of k d) s
meter_place Zero d zero h = refl
meter_place Zero d (suc zero) h = refl
meter_place Zero d (suc (suc zero)) h = refl
meter_place Zero d (suc (suc (suc zero))) h = refl
meter_place Zero d (suc (suc (suc (suc zero)))) h = refl
meter_place Zero d (suc (suc (suc (suc (suc zero))))) h = refl
meter_place Zero d (suc (suc (suc (suc (suc (suc zero)))))) h = refl
meter_place Zero d (suc (suc (suc (suc (suc (suc (suc zero))))))) h = refl
meter_place Zero d (suc (suc (suc (suc (suc (suc (suc (suc zero)))))))) h = refl
meter_place Zero d (suc (suc (suc (suc (suc (suc (suc (suc (suc zero))))))))) h = refl
meter_place Zero d (suc (suc (suc (suc (suc (suc (suc (suc (suc (suc zero)))))))))) h = refl
meter_place Zero d (suc (suc (suc (suc (suc (suc (suc (suc (suc (suc (suc zero))))))))))) h = refl
meter_place Zero d (suc (suc (suc (suc (suc (suc (suc (suc (suc (suc (suc (suc zero)))))))))))) h = refl
meter_place Zero d (suc (suc (suc (suc (suc (suc (suc (suc (suc (suc (suc (suc (suc s))))))))))))) h = absurd (omega arith)
meter_place Gain true zero h = refl
meter_place Gain true (suc zero) h = refl
meter_place Gain true (suc (suc zero)) h = refl
meter_place Gain true (suc (suc (suc zero))) h = refl
meter_place Gain true (suc (suc (suc (suc s)))) h = absurd (omega arith)
meter_place Gain false zero h = refl
meter_place Gain false (suc zero) h = refl
meter_place Gain false (suc (suc zero)) h = refl
meter_place Gain false (suc (suc (suc zero))) h = refl
meter_place Gain false (suc (suc (suc (suc s)))) h = absurd (omega arith)

pub meter_drops : (p : Place) → drops_of p ≡ drops p
meter_drops ZeroX = refl
meter_drops ZeroD = refl
meter_drops ZeroY = refl
meter_drops Raw = refl
meter_drops RefDc = refl
meter_drops RefAc = refl

pub at_most_52 : (k : Kind) → most_of k ≤ 52
at_most_52 Zero = omega arith
at_most_52 Gain = omega arith

-- ---- where the next frame stands

module _ (c : Setting) (t : Bench) (k : Kind) (r : Ranges) (fs : List Codes) (sv : Serving c t k r fs) where
  pub spot : Same (lay_in k t) (layout_in c k fs) t.job.job_step
  spot = same k t.job.job_dc (dc_of c fs) t.job.job_step (layouts k c t.job.job_step t fs sv.results)

  pub after_begin : begins (lay_in k t) t.job.job_step ≤ length fs
  after_begin = omega (arith, sv.len, sv.fits, sv.few)

  pub before_next : length fs < begins (lay_in k t) (suc t.job.job_step)
  before_next = omega (arith, sv.len, sv.fits, sv.few)

  pub few_frames : suc (length fs) ≤ most_of k
  few_frames = omega (arith, before_next, begins_mono (lay_in k t) (suc t.job.job_step) (suc (last_of (lay_in k t))) (omega (arith, sv.low)), begins_last k t.job.job_dc)

  pub spot_step : step_in c k fs ≡ t.job.job_step
  spot_step =
      let d : drops (measures (lay_in k t) t.job.job_step) ≡ drops (measures (layout_in c k fs) t.job.job_step) = ap drops spot.place in
      step_is (layout_in c k fs) (length fs) t.job.job_step (last_of (layout_in c k fs))
      (omega (arith, sv.low, last_same k t.job.job_dc (dc_of c fs)))
      (omega (arith, after_begin, spot.begin))
      (omega (arith, before_next, spot.begin))

  pub spot_place : place_for c k fs ≡ measures (lay_in k t) t.job.job_step
  spot_place = ap (measures (layout_in c k fs)) spot_step ∙ sym spot.place

  pub place_in_law : place_in t.job ≡ measures (lay_in k t) t.job.job_step
  unfolding place_in
  place_in_law = ap (λ (q : Kind). place_of (layout_of q t.job.job_dc) t.job.job_step) (kind_is k t.job sv.job) ∙ meter_place k t.job.job_dc t.job.job_step sv.low

  pub outcome_is : (f : Codes) → outcome k c fs f ≡ outcome_by k c fs f (lay_in k t) t.job.job_step
  unfolding outcome
  outcome_is f = ap (outcome_by k c fs f (layout_in c k fs)) spot_step ∙ rw (spot.place, spot.begin)
