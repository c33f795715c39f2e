-- A frame in a job keeps the relation.
use mathlib.Core.Path.{◌≡◌, refl, ap, sym, ◌∙◌}
use mathlib.Core.Bool.{Bool, true, false, cond}
use mathlib.Core.List.{List, [], ◌∷◌, ◌++◌}
use Prim.Native.Nat.{ℕ, suc, ◌+◌, ◌<◌, ◌≤◌}
use native.Mathlib.Omega.{arith}
use borrow.Author.Tests.{ltb-true, ltb-false}
use lib.Dec.{ltb}
use lib.Ieee.{Float}
use lib.ListN.{length}
use Rattle.numbers.specs.Binary32.{◌+f◌}
use Rattle.codes.specs.declared.Codes.{Codes}
use Rattle.tables.specs.Constants.{job_n, jr_signal}
use Rattle.tables.specs.declared.calibration.Calibration.{Calibration}
use Rattle.state.specs.declared.Ranges.{Ranges}
use Rattle.state.specs.Counting.{count_up}
use Rattle.steps.specs.declared.place.Kind.{Kind}
use Rattle.steps.specs.declared.place.Kind.TheVariants.{Zero, Gain}
use Rattle.steps.specs.declared.place.Place.{Place}
use Rattle.steps.specs.declared.reading.Reading.{Reading}
use Rattle.steps.specs.Place.{Layout, ready}
use Rattle.steps.specs.Reading.{zeros_in, old_of, reading_of, signal}
use Rattle.steps.specs.Verdict.{mean_of}
use Rattle.jobs.specs.declared.bench.Bench.{Bench}
use Rattle.jobs.specs.declared.bench.Served.{Served}
use Rattle.jobs.specs.Bench.{kind_in, place_in}
use Rattle.jobs.specs.Step.{step_done}
use Rattle.jobs.specs.Frame.{summed, counted, dropped, served_by, one_used, served, job_frame}
use Rattle.jobs.proofs.Counts.{one_more}
use Rattle.book.specs.Book.{begins, first, sum_of, Setting, reading_at, mean_x, mean_y, place_for, Outcome, going, zero_at, finished, signal_at, outcome_by, outcome, serving, Book, book, setting_of, framed}
use Rattle.book.proofs.Lists.{both, ltb_same, sum_same, length_more, reading_old, reading_new}
use Rattle.book.proofs.Relation.{Results, lay_in, Serving, Rel, Good, kind_is, at_most_52, after_begin, few_frames, spot_place, place_in_law, outcome_is}
use Rattle.book.proofs.Serve.{results_old, Full, struck_keeps, zero_done_keeps}
use Rattle.book.proofs.Gains.{gain_done_keeps}

-- ---- one more frame in the list

module _ (c : Setting) (t : Bench) (k : Kind) (r : Ranges) (fs : List Codes) (f : Codes) (sv : Serving c t k r fs) where
  abbrev all : List Codes
  all = fs ++ (f ∷ [])

  abbrev l : Layout
  l = lay_in k t

  abbrev s : ℕ
  s = t.job.job_step

  abbrev n : ℕ
  n = t.job.job_n

  -- a reading counted before is in the list
  counted_old : (j : ℕ) → j < n → first l s + j < length fs
  counted_old j h = go (ltb 0 t.cycle.skip) (ltb-true 0 t.cycle.skip) (ltb-false 0 t.cycle.skip)
    where
      go : (u : Bool) → (u ≡ true → 0 < t.cycle.skip) → (u ≡ false → t.cycle.skip ≤ 0) → first l s + j < length fs
      go true p q = absurd (omega (arith, h, sv.none_yet (p refl)))
      go false p q = omega (arith, h, sv.len, q refl)

  sum_x_old : t.job.job_a ≡ sum_of n (λ j. (reading_at c l all s j).x)
  sum_x_old = sv.a ∙ sum_same n _ _ (λ j h. ap (λ (q : Reading). q.x) (sym (reading_old c l fs f s j (counted_old j h))))

  sum_y_old : t.job.job_b ≡ sum_of n (λ j. (reading_at c l all s j).y)
  sum_y_old = sv.b ∙ sum_same n _ _ (λ j h. ap (λ (q : Reading). q.y) (sym (reading_old c l fs f s j (counted_old j h))))

  sum_x_new : (q : Reading) → q ≡ reading_at c l all s n → t.job.job_a +f q.x ≡ sum_of (suc n) (λ j. (reading_at c l all s j).x)
  sum_x_new q e = ap (λ (v : Float). v +f q.x) sum_x_old ∙ ap (λ (p : Reading). sum_of n (λ j. (reading_at c l all s j).x) +f p.x) e

  sum_y_new : (q : Reading) → q ≡ reading_at c l all s n → t.job.job_b +f q.y ≡ sum_of (suc n) (λ j. (reading_at c l all s j).y)
  sum_y_new q e = ap (λ (v : Float). v +f q.y) sum_y_old ∙ ap (λ (p : Reading). sum_of n (λ j. (reading_at c l all s j).y) +f p.y) e

  used_new : count_up t.job.used ≡ length all
  used_new =
      one_more t.job.used (omega (arith, sv.used, few_frames c t k r fs sv, at_most_52 k)) ∙ ap suc sv.used ∙ sym (length_more fs f)

  counted_new : count_up n ≡ suc n
  counted_new = one_more n (omega (arith, sv.few))

  results_new : Results k c s t all
  results_new = results_old k c s t fs f (after_begin c t k r fs sv) sv.results

  -- one of the frames that the step drops
  dropped_serves : 0 < t.cycle.skip → Serving c (dropped (one_used t)) k r all
  dropped_serves h =
      record {
        job = sv.job;
        res = sv.res;
        save = sv.save;
        vr = sv.vr;
        used = used_new;
        low = sv.low;
        few = sv.few;
        none_yet = λ _. sv.none_yet h;
        fits = omega (arith, sv.fits);
        len = omega (arith, sv.len, length_more fs f);
        a = sum_x_old;
        b = sum_y_old;
        results = results_new;
      }

  -- a counted reading that is not its step's third
  counted_serves : (q : Reading) → q ≡ reading_at c l all s n → t.cycle.skip ≡ 0 → n < 2 → Serving c (summed q (one_used t)) k r all
  counted_serves q e no-skip h =
      record {
        job = sv.job;
        res = sv.res;
        save = sv.save;
        vr = sv.vr;
        used = used_new;
        low = sv.low;
        few = omega (arith, h, counted_new);
        none_yet = λ i. absurd (omega (arith, no-skip));
        fits = sv.fits;
        len = omega (arith, sv.len, length_more fs f, counted_new);
        a = sum_x_new q e ∙ ap (λ (m : ℕ). sum_of m (λ j. (reading_at c l all s j).x)) (sym counted_new);
        b = sum_y_new q e ∙ ap (λ (m : ℕ). sum_of m (λ j. (reading_at c l all s j).y)) (sym counted_new);
        results = results_new;
      }

-- ---- a step's third reading

step_done_keeps : (k : Kind) (now : ℕ) (w : Calibration) (b : Book) (t : Bench) (r : Ranges) (fs : List Codes) (x y : Float) → Full w b t k r fs t.job.job_step
    → x ≡ mean_x (setting_of w r b.zeros) (lay_in k t) fs t.job.job_step → y ≡ mean_y (setting_of w r b.zeros) (lay_in k t) fs t.job.job_step
    → Good w b k r fs (step_done now k x y t).bench (finished k (setting_of w r b.zeros) fs t.job.job_step)
unfolding zero_at
step_done_keeps Zero now w b t r fs x y h ex ey = rw ex (zero_done_keeps w b t r fs h now)
step_done_keeps Gain now w b t r fs x y h ex ey = rw (ex, ey) (gain_done_keeps w b t r fs h now)

-- ---- a ready frame

module _ (now : ℕ) (w : Calibration) (b : Book) (t : Bench) (k : Kind) (r : Ranges) (fs : List Codes) (f : Codes) (rel : Rel w t (book b.zeros b.gain (serving k r fs))) where
  abbrev set : Setting
  set = setting_of w r b.zeros

  abbrev more : List Codes
  more = fs ++ (f ∷ [])

  sv : Serving set t k r fs
  sv = rel.runs

  abbrev lay : Layout
  lay = lay_in k t

  abbrev at : ℕ
  at = t.job.job_step

  abbrev Kept : Served → Outcome → Type 0
  Kept v o = Good w b k r more v.bench o

  third : (q : Reading) → q ≡ reading_at set lay more at t.job.job_n → t.cycle.skip ≡ 0 → 2 ≤ t.job.job_n
      → let u = summed q (one_used t) in Kept (step_done now (kind_in u.job) (mean_of u.job.job_a) (mean_of u.job.job_b) u) (finished k set more at)
  unfolding mean_x mean_y
  third q e no-skip h =
      let two : t.job.job_n ≡ 2 = omega (arith, sv.few) in
      let u = summed q (one_used t) in
      rw (kind_is k u.job sv.job)
      (step_done_keeps k now w b u r more (mean_of u.job.job_a) (mean_of u.job.job_b)
      (record {
        held = rel.held;
        room = rel.room;
        job = sv.job;
        res = sv.res;
        save = sv.save;
        vr = sv.vr;
        used = used_new set t k r fs f sv;
        low = sv.low;
        len = omega (arith, sv.len, length_more fs f);
        results = results_new set t k r fs f sv;
      })
      (ap mean_of (sum_x_new set t k r fs f sv q e ∙ ap (λ (m : ℕ). sum_of (suc m) (λ j. (reading_at set lay more at j).x)) two))
      (ap mean_of (sum_y_new set t k r fs f sv q e ∙ ap (λ (m : ℕ). sum_of (suc m) (λ j. (reading_at set lay more at j).y)) two)))

  -- a bench whose job goes on
  goes_on : (u : Bench) → Rel w u (book b.zeros b.gain (serving k r more)) → Good w b k r more u going
  goes_on u h = record { rel = h; back = λ i. absurd (i refl); used = h.runs.used; res = h.runs.res }

  counted_keeps : (q : Reading) → q ≡ reading_at set lay more at t.job.job_n → t.cycle.skip ≡ 0
      → Kept (counted now q (one_used t)) (cond (ltb (suc (length fs)) (begins lay (suc at))) going (finished k set more at))
  unfolding counted
  counted_keeps q e no-skip =
      both Kept (ltb (count_up t.job.job_n) job_n) (ltb (suc (length fs)) (begins lay (suc at)))
      (ltb_same (count_up t.job.job_n) 3 (suc (length fs)) (begins lay (suc at)) (λ h. omega (arith, sv.len, new)) (λ h. omega (arith, sv.len, new)))
      (λ h. goes_on (summed q (one_used t))
      (record { held = rel.held; room = rel.room; runs = counted_serves set t k r fs f sv q e no-skip (omega (arith, new, ltb-true (count_up t.job.job_n) 3 h)) }))
      (λ h. third q e no-skip (omega (arith, new, ltb-false (count_up t.job.job_n) 3 h)))
    where
      new : count_up t.job.job_n ≡ suc t.job.job_n
      new = counted_new set t k r fs f sv

  served_keeps : Kept (served now w f (one_used t)) (outcome_by k set fs f lay at)
  unfolding served served_by place_in kind_in
  served_keeps =
      both Kept (ltb 0 t.cycle.skip) (ltb (length fs) (first lay at))
      (ltb_same 0 t.cycle.skip (length fs) (first lay at) (λ h. omega (arith, sv.len, sv.none_yet h)) (λ h. omega (arith, sv.len)))
      (λ h. goes_on (dropped (one_used t))
      (record { held = rel.held; room = rel.room; runs = dropped_serves set t k r fs f sv (ltb-true 0 t.cycle.skip h) }))
      (λ h. let no-skip : t.cycle.skip ≡ 0 = omega (arith, ltb-false 0 t.cycle.skip h) in
      both Kept (signal (place_in t.job) (old_of (zeros_in t.corrections) at) f) (signal_at set lay at f) (cc (place_in_law set t k r fs sv, rel.held.zeros))
      (λ _. struck_keeps w b k r more (one_used t) jr_signal rel.held rel.room sv.save (used_new set t k r fs f sv))
      (λ _. counted_keeps (reading_of (place_in t.job) w t.ranges.vr (zeros_in t.corrections) f)
      (cc (place_in_law set t k r fs sv, rel.held.zeros, sv.vr, reading_new set lay fs f at t.job.job_n (omega (arith, sv.len)))) no-skip))

  module _ (flags : ℕ) where
    pub ready_same : ready (place_in t.job) flags ≡ ready (place_for set k fs) flags
    ready_same = ap (λ (p : Place). ready p flags) (place_in_law set t k r fs sv ∙ sym (spot_place set t k r fs sv))

    -- ready: as the book's outcome
    pub frame_good : ready (place_for set k fs) flags ≡ true → Good w b k r more (job_frame now w flags f t).bench (outcome k set fs f)
    unfolding job_frame
    frame_good h = rw (ready_same, h, outcome_is set t k r fs sv f) served_keeps

    -- not ready: nothing changes
    pub frame_same : ready (place_for set k fs) flags ≡ false → (job_frame now w flags f t).bench ≡ t
    unfolding job_frame
    frame_same h = rw (ready_same, h)

    pub frame_keeps : Rel w (job_frame now w flags f t).bench (framed w flags f b.zeros b.gain (serving k r fs))
    unfolding job_frame
    frame_keeps =
        both (λ (v : Served) u. Rel w v.bench u) (ready (place_in t.job) flags) (ready (place_for set k fs) flags) ready_same
        (λ _. rw (outcome_is set t k r fs sv f) served_keeps.rel)
        (λ _. rel)
