-- How many ready frames a job has used, at every frame: those of the steps before, those dropped of its step, and those counted. So "a zero job uses at most 52, a gain job at most 22".
use mathlib.Core.Path.{◌≡◌, refl, sym, ap, subst, ◌∙◌}
use mathlib.Core.Bool.{Bool, true, false, cond}
use mathlib.Core.Logic.{◌⊎◌, inl, inr}
use Prim.Native.Nat.{ℕ, zero, suc, ◌+◌, ◌-◌, ◌*◌, ◌%◌, ◌≤◌, ◌<◌}
use native.Mathlib.Omega.{arith}
use borrow.Author.Tests.{ltb-true, ltb-false, eqb-true, lt-ltb}
use lib.Dec.{ltb, eqb}
use lib.IntN.{ℤ}
use lib.Ieee.{Float}
use Rattle.std.specs.Prelude.{Result, Ok, Err}
use Rattle.numbers.proofs.Cases.{either_by}
use Rattle.codes.specs.declared.Codes.{Codes}
use Rattle.tables.specs.Constants.{job_n, jr_ok, jr_signal}
use Rattle.tables.specs.declared.calibration.Calibration.{Calibration}
use Rattle.state.specs.declared.Job.{Job}
use Rattle.state.specs.Counting.{count_up}
use Rattle.steps.specs.declared.error.JobError.{JobError}
use Rattle.steps.specs.declared.place.Kind.{Kind}
use Rattle.steps.specs.declared.place.Kind.TheVariants.{Zero, Gain}
use Rattle.steps.specs.declared.place.Place.{Place}
use Rattle.steps.specs.declared.place.Place.TheVariants.{ZeroX, ZeroD, ZeroY, Raw, RefDc, RefAc}
use Rattle.steps.specs.Error.{error_number}
use Rattle.steps.specs.declared.reading.Reading.{Reading}
use Rattle.steps.specs.Place.{Layout, zero_steps, dc_steps, ac_steps, kind_of, layout_of, place_of, drops_of, ready}
use Rattle.steps.specs.Verdict.{mean_of, zero_mean, is_dc, raw_verdict}
use Rattle.steps.proofs.Stated.{frames_to}
use Rattle.jobs.specs.declared.bench.Bench.{Bench}
use Rattle.jobs.specs.declared.bench.Served.{Served}
use Rattle.jobs.specs.With.{with_job}
use Rattle.jobs.specs.Step.{ended_unmarked, zx_noted, zd_noted, zeros_stored, zero_done, by_raw, raw_noted, raw_done, gain_stored, by_gain, ref_noted, verdict_in, judged, ref_done, gain_done, step_done}
use Rattle.jobs.specs.Frame.{summed, counted, dropped, served_by, one_used, served, job_frame}
use Rattle.jobs.specs.Bench.{kind_in, place_in, ended, step_at, next, noted, begun}

-- the steps of the running job, and the last of them
abbrev pub layout_in : Job → Layout
layout_in j = layout_of (kind_in j) j.job_dc

abbrev pub last_of : Layout → ℕ
last_of zero_steps = 12
last_of dc_steps = 3
last_of ac_steps = 3

-- the frames used and those still to drop are the frames of the steps before, the drops of this one, and those counted
abbrev pub At : Layout → ℕ → ℕ → ℕ → ℕ → Type 0
At l s n skip used = (used + skip ≡ frames_to l s + drops_of (place_of l s) + n) × (s ≤ last_of l) × (n ≤ 2)

abbrev pub Placed : Bench → Type 0
Placed t = At (layout_in t.job) t.job.job_step t.job.job_n t.cycle.skip t.job.used

few_drops : (p : Place) → drops_of p ≤ 4
few_drops ZeroX = omega arith
few_drops ZeroD = omega arith
few_drops ZeroY = omega arith
few_drops Raw = omega arith
few_drops RefDc = omega arith
few_drops RefAc = omega arith

few_frames : (l : Layout) (s : ℕ) → frames_to l s ≤ 7 * s
few_frames l zero = omega arith
few_frames l (suc s) = omega (arith, few_frames l s, few_drops (place_of l s))

last_small : (l : Layout) → last_of l ≤ 12
last_small zero_steps = omega arith
last_small dc_steps = omega arith
last_small ac_steps = omega arith

pub one_more : (n : ℕ) → n < 255 → count_up n ≡ suc n
unfolding count_up
one_more n h = rw (lt-ltb n 255 h) (omega arith)

-- so a count never comes near 255
few_used : (l : Layout) (s n skip used : ℕ) → At l s n skip used → used < 255
few_used l s n skip used (e, h, k) = omega (arith, few_frames l s, few_drops (place_of l s), last_small l)

-- a step begins with all steps before it done
begins_placed : (now s : ℕ) (b : Bench) → b.job.used ≡ frames_to (layout_in b.job) s → s ≤ last_of (layout_in b.job) → Placed (step_at now s b).bench
unfolding step_at place_in kind_in
begins_placed now s b e h = (ap (λ (u : ℕ). u + drops_of (place_of (layout_in b.job) s)) e ∙ plus_none _, h, omega arith)
  where
    plus_none : (x : ℕ) → x ≡ x + 0
    plus_none x = omega arith

pub start_placed : (now : ℕ) (k : Kind) (b : Bench) → Placed (begun now k b).bench
unfolding begun
start_placed now k b = begins_placed now 0 (with_job b (noted k b)) refl (some_last (layout_in (noted k b)))
  where
    some_last : (l : Layout) → 0 ≤ last_of l
    some_last l = omega arith

-- placed still, or ended with at most all frames of its steps used
abbrev Kept : ℕ → Served → Type 0
Kept most s = Placed s.bench ⊎ ((s.bench.job.job ≡ 0) × (s.bench.job.used ≤ most))

module _ (now most : ℕ) where
  -- the step of b is done, all its frames used, and it is not the last
  next_kept : (b : Bench) → let l = layout_in b.job in b.job.used ≡ frames_to l (suc b.job.job_step) → b.job.job_step < last_of l → Kept most (next now b)
  unfolding next
  next_kept b e h =
      let small : b.job.job_step < 255 = omega (arith, last_small (layout_in b.job)) in
      inl (subst (λ (s : ℕ). Placed (step_at now s b).bench) (sym (one_more b.job.job_step small)) (begins_placed now (suc b.job.job_step) b e h))

  ended_kept : (b : Bench) (res : ℕ) → b.job.used ≤ most → Kept most (ended_unmarked res b)
  unfolding ended
  ended_kept b res h = inr (refl, h)

-- ---- all frames of a job

abbrev pub most_of : Kind → ℕ
most_of Zero = 52
most_of Gain = 22

grows : (l : Layout) (a b : ℕ) → a ≤ b → frames_to l a ≤ frames_to l b
grows l a zero h = subst (λ (x : ℕ). frames_to l x ≤ 0) (none h) (omega arith)
  where
    none : a ≤ 0 → 0 ≡ a
    none k = omega arith
grows l a (suc b) h = go (ltb a (suc b)) (ltb-true a (suc b)) (ltb-false a (suc b)) (grows l a b)
  where
    same : suc b ≤ a → suc b ≡ a
    same k = omega arith

    go : (t : Bool) → (t ≡ true → a < suc b) → (t ≡ false → suc b ≤ a) → (a ≤ b → frames_to l a ≤ frames_to l b) → frames_to l a ≤ frames_to l (suc b)
    go true f g r = let le : a ≤ b = omega (arith, f refl) in omega (arith, r le)
    go false f g r = subst (λ (x : ℕ). frames_to l x ≤ frames_to l (suc b)) (same (g refl)) (omega arith)

most_of_law : (k : Kind) (dc : Bool) (s : ℕ) → s ≤ last_of (layout_of k dc) → frames_to (layout_of k dc) (suc s) ≤ most_of k
most_of_law Zero dc s h = grows zero_steps (suc s) 13 (omega arith)
most_of_law Gain true s h = omega (arith, grows dc_steps (suc s) 4 (omega arith))
most_of_law Gain false s h = grows ac_steps (suc s) 4 (omega arith)

-- ---- the end of a step

-- a step is done: all its frames are used
abbrev Done : Kind → Bench → Type 0
Done k b = (kind_in b.job ≡ k) × (b.job.used ≡ frames_to (layout_in b.job) (suc b.job.job_step)) × (b.job.job_step ≤ last_of (layout_in b.job))

done_most : (k : Kind) (b : Bench) → Done k b → b.job.used ≤ most_of k
done_most k b (e, u, h) =
    subst (λ (m : Kind). b.job.used ≤ most_of m) e (subst (λ (x : ℕ). x ≤ most_of (kind_in b.job)) (sym u) (most_of_law (kind_in b.job) b.job.job_dc b.job.job_step h))

module _ (now : ℕ) where
  zero_done_kept : (z : ℤ) (b : Bench) → Done Zero b → Kept 52 (zero_done now z b)
  unfolding zero_done kind_in
  zero_done_kept z b d =
      let s = b.job.job_step in
      let goes : s < 12 → s < last_of (layout_in b.job) = λ h. subst (λ (k : Kind). s < last_of (layout_of k b.job.job_dc)) (sym d.0) h in
      either_by (Kept 52) (ltb s 6) (λ t. next_kept now 52 (zx_noted z b) d.1 (goes (omega (arith, ltb-true s 6 t))))
      (λ f. either_by (Kept 52) (ltb s 12) (λ t. next_kept now 52 (zd_noted z b) d.1 (goes (ltb-true s 12 t))) (λ g. ended_kept now 52 (zeros_stored z b) jr_ok (done_most Zero b d)))

  -- raw steps are 0 and 2
  raw_before_last : (s : ℕ) → s ≤ 3 → s % 2 ≡ 0 → s < 3
  raw_before_last s h e = omega arith

  raw_kept : (v : Result (Unit {0}) JobError) (b : Bench) → Done Gain b → b.job.job_step < last_of (layout_in b.job) → Kept 22 (by_raw now v b)
  raw_kept (Ok x) b d h = next_kept now 22 b d.1 h
  raw_kept (Err e) b d h = ended_kept now 22 b (error_number e) (done_most Gain b d)

  gain_kept : (v : Result Float JobError) (b : Bench) → Done Gain b → Kept 22 (by_gain v b)
  gain_kept (Ok g) b d = ended_kept now 22 (gain_stored g b) jr_ok (done_most Gain b d)
  gain_kept (Err e) b d = ended_kept now 22 b (error_number e) (done_most Gain b d)

  -- step 0 takes as many frames whatever kind it finds; both kinds have as many steps
  same_first : (d e : Bool) → frames_to (layout_of Gain d) 1 ≡ frames_to (layout_of Gain e) 1
  same_first true true = refl
  same_first true false = refl
  same_first false true = refl
  same_first false false = refl

  last_three : (d : Bool) → last_of (layout_of Gain d) ≡ 3
  last_three true = refl
  last_three false = refl

  -- the kind is fixed at step 0 and kept later
  raw_done_law : (x y : Float) (d : Bool) (b : Bench) → (b.job.job_step ≡ 0) ⊎ (d ≡ b.job.job_dc) → Done Gain b → Done Gain (raw_noted d x y b)
  unfolding kind_in
  raw_done_law x y d b (inl z) (e, u, h) = (
    e,
    u ∙ ap (λ (k : Kind). frames_to (layout_of k b.job.job_dc) (suc b.job.job_step)) e
        ∙ ap (λ (s : ℕ). frames_to (layout_of Gain b.job.job_dc) (suc s)) z ∙ same_first b.job.job_dc d
        ∙ ap (λ (s : ℕ). frames_to (layout_of Gain d) (suc s)) (sym z) ∙ ap (λ (k : Kind). frames_to (layout_of k d) (suc b.job.job_step)) (sym e),
    subst (λ (s : ℕ). s ≤ last_of (layout_of (kind_of b.job.job) d)) (sym z) (omega arith),
  )
  raw_done_law x y d b (inr k) (e, u, h) = (
    e,
    subst (λ (f : Bool). b.job.used ≡ frames_to (layout_of (kind_of b.job.job) f) (suc b.job.job_step)) (sym k) u,
    subst (λ (f : Bool). b.job.job_step ≤ last_of (layout_of (kind_of b.job.job) f)) (sym k) h,
  )

  kind_fixed : (s : ℕ) (c d : Bool) → (s ≡ 0) ⊎ (cond (eqb s 0) c d ≡ d)
  kind_fixed s c d = go (eqb s 0) (eqb-true s 0)
    where
      go : (t : Bool) → (t ≡ true → s ≡ 0) → (s ≡ 0) ⊎ (cond t c d ≡ d)
      go true f = inl (f refl)
      go false f = inr refl

  to_last : (b : Bench) → kind_in b.job ≡ Gain → last_of (layout_in b.job) ≡ 3
  to_last b e = ap (λ (k : Kind). last_of (layout_of k b.job.job_dc)) e ∙ last_three b.job.job_dc

  gain_done_kept : (x y : Float) (b : Bench) → Done Gain b → Kept 22 (gain_done now x y b)
  unfolding gain_done raw_done ref_done judged kind_in
  gain_done_kept x y b d =
      let s = b.job.job_step in
      let dc = cond (eqb s 0) (is_dc x y) b.job.job_dc in
      let n = raw_done_law x y dc b (kind_fixed s (is_dc x y) b.job.job_dc) d in
      either_by (Kept 22) (eqb (s % 2) 0)
      (λ t. raw_kept (raw_verdict dc b.ranges.vr x y) (raw_noted dc x y b) n
      (subst (λ (l : ℕ). s < l) (sym (to_last (raw_noted dc x y b) d.0)) (raw_before_last s (subst (λ (l : ℕ). s ≤ l) (to_last b d.0) d.2) (eqb-true (s % 2) 0 t))))
      (λ f. either_by (Kept 22) (ltb s 3) (λ t. next_kept now 22 (ref_noted x b) d.1 (subst (λ (l : ℕ). s < l) (sym (to_last b d.0)) (ltb-true s 3 t)))
      (λ g. gain_kept (verdict_in (ref_noted x b)) (ref_noted x b) d))

  step_done_kept : (k : Kind) (x y : Float) (b : Bench) → Done k b → Kept (most_of k) (step_done now k x y b)
  step_done_kept Zero x y b d = zero_done_kept (zero_mean x) b d
  step_done_kept Gain x y b d = gain_done_kept x y b d

-- ---- a ready frame

module _ (now : ℕ) (t : Bench) (p : Placed t) where
  abbrev layout : Layout
  layout = layout_in t.job

  abbrev step : ℕ
  step = t.job.job_step

  abbrev most : ℕ
  most = most_of (kind_in t.job)

  more_used : count_up t.job.used ≡ suc t.job.used
  more_used = one_more t.job.used (few_used layout step t.job.job_n t.cycle.skip t.job.used p)

  more_counted : count_up t.job.job_n ≡ suc t.job.job_n
  more_counted = one_more t.job.job_n (omega (arith, p.2))

  drops_kept : 0 < t.cycle.skip → Placed (dropped (one_used t))
  unfolding kind_in
  drops_kept h = (ap (λ (u : ℕ). u + (t.cycle.skip - 1)) more_used ∙ moved t.job.used t.cycle.skip h ∙ p.0, p.1, p.2)
    where
      moved : (u k : ℕ) → 0 < k → suc u + (k - 1) ≡ u + k
      moved u k g = omega arith

  signal_kept : t.cycle.skip ≤ 0 → Kept most (ended_unmarked jr_signal (one_used t))
  signal_kept h =
      ended_kept now most (one_used t) jr_signal
      (subst (λ (u : ℕ). u ≤ most) (sym more_used) (omega (arith, p.0, p.2, most_of_law (kind_in t.job) t.job.job_dc step p.1)))

  counts_kept : (r : Reading) → count_up t.job.job_n < 3 → Placed (summed r (one_used t))
  unfolding kind_in
  counts_kept r h =
      let few : suc t.job.job_n < 3 = subst (λ (n : ℕ). n < 3) more_counted h in (
        ap (λ (u : ℕ). u + t.cycle.skip) more_used ∙ sum p.0 ∙ ap (λ (n : ℕ). frames_to layout step + drops_of (place_of layout step) + n) (sym more_counted),
        p.1,
        subst (λ (n : ℕ). n ≤ 2) (sym more_counted) (omega (arith, few)),
      )
    where
      sum : t.job.used + t.cycle.skip ≡ frames_to layout step + drops_of (place_of layout step) + t.job.job_n
          → suc t.job.used + t.cycle.skip ≡ frames_to layout step + drops_of (place_of layout step) + suc t.job.job_n
      sum e = omega arith

  third_done : (r : Reading) → t.cycle.skip ≤ 0 → 3 ≤ count_up t.job.job_n → Done (kind_in t.job) (summed r (one_used t))
  unfolding kind_in
  third_done r z h =
      let three : 3 ≤ suc t.job.job_n = subst (λ (n : ℕ). 3 ≤ n) more_counted h in
      (refl, more_used ∙ omega (arith, p.0, p.2, z, three), p.1)

  pub ready_kept : (sig : Bool) (r : Reading) → Kept most (served_by now sig r (one_used t))
  unfolding served_by counted kind_in
  ready_kept sig r =
      either_by (Kept most) (ltb 0 t.cycle.skip) (λ d. inl (drops_kept (ltb-true 0 t.cycle.skip d)))
      (λ d. let z = ltb-false 0 t.cycle.skip d in
      either_by (Kept most) sig (λ g. signal_kept z)
      (λ g. either_by (Kept most) (ltb (count_up t.job.job_n) job_n) (λ l. inl (counts_kept r (ltb-true (count_up t.job.job_n) 3 l)))
      (λ l. let s = summed r (one_used t) in step_done_kept now (kind_in t.job) (mean_of s.job.job_a) (mean_of s.job.job_b) s (third_done r z (ltb-false (count_up t.job.job_n) 3 l)))))

-- a frame in a job, ready or not: the count stays that of the job's place, and a job that it ends has used at most 52 ready frames, or 22
pub frame_counts : (now : ℕ) (c : Calibration) (flags : ℕ) (f : Codes) (t : Bench) → Placed t
    → let b = (job_frame now c flags f t).bench in Placed b ⊎ ((b.job.job ≡ 0) × (b.job.used ≤ most_of (kind_in t.job)))
unfolding job_frame served
frame_counts now c flags f t p =
    either_by (Kept (most_of (kind_in t.job))) (ready (place_in t.job) flags) (λ e. ready_kept now t p _ _) (λ e. inl p)

-- and while it runs: fewer
pub runs_below : (t : Bench) → Placed t → t.job.used < most_of (kind_in t.job)
runs_below t p = omega (arith, p.0, p.2, most_of_law (kind_in t.job) t.job.job_dc t.job.job_step p.1)
