-- What follows from the definitions: what a job's start, a frame in a job and a job's end leave as it was; that the frame that ends a job gives back the ranges and marks noted at its start; that zeros and gains change only where a job ends well; how many ready frames a step uses; and what a mark holds.
use mathlib.Core.Path.{◌≡◌, refl, sym, ap, subst, ◌∙◌}
use mathlib.Core.Bool.{Bool, true, false, cond}
use mathlib.Core.Logic.{◌⊎◌, inl, inr}
use mathlib.Core.List.{List, [], ◌∷◌, ◌++◌}
use Prim.Native.Nat.{ℕ, zero, suc, ◌-◌, ◌%◌}
use native.Mathlib.Omega.{arith}
use borrow.Author.Tests.{lt-ltb}
use lib.Dec.{ltb, eqb}
use lib.IntN.{ℤ}
use lib.ListN.{length}
use lib.Ieee.{Float}
use Rattle.std.specs.Prelude.{None, Result, Ok, Err}
use Rattle.numbers.specs.Binary32.{◌+f◌, zero_f}
use Rattle.numbers.proofs.Cases.{either, by_test}
use Rattle.codes.specs.declared.Codes.{Codes}
use Rattle.tables.specs.Constants.{job_n, jr_ok, jr_signal}
use Rattle.tables.specs.declared.calibration.Calibration.{Calibration}
use Rattle.state.specs.declared.Pw.{Pw}
use Rattle.state.specs.Counting.{count_up}
use Rattle.state.proofs.Marks.{MarkAt, Settle, of_apply, of_ac, of_dc}
use Rattle.phase.specs.Phase.{cal_off}
use Rattle.steps.specs.declared.error.JobError.{JobError}
use Rattle.steps.specs.declared.place.Kind.{Kind}
use Rattle.steps.specs.declared.place.Kind.TheVariants.{Zero, Gain}
use Rattle.steps.specs.declared.place.Place.{Place}
use Rattle.steps.specs.declared.place.Place.TheVariants.{ZeroX, ZeroD, ZeroY, Raw, RefDc, RefAc}
use Rattle.steps.specs.declared.reading.Reading.{Reading}
use Rattle.steps.specs.Error.{error_number}
use Rattle.steps.specs.Place.{drops_of, ready, settle_of}
use Rattle.steps.specs.Reading.{zeros_in, old_of, reading_of, signal}
use Rattle.steps.specs.Verdict.{zero_mean, is_dc, raw_verdict, mean_of}
use Rattle.jobs.specs.declared.bench.Bench.{Bench}
use Rattle.jobs.specs.declared.bench.Served.{Served}
use Rattle.jobs.specs.With.{with_cal_req, with_cycle, with_skip, with_job, with_used}
use Rattle.jobs.specs.Bench.{kind_in, place_in, unmarked, ended, ended_if_any, at_step, step_at, next, begun}
use Rattle.jobs.specs.Step.{ended_unmarked, zx_noted, zd_noted, zeros_stored, zero_done, by_raw, raw_noted, raw_done, gain_stored, by_gain, ref_noted, verdict_in, judged, ref_done, gain_done, step_done}
use Rattle.jobs.specs.Frame.{summed, counted, served_by, one_used, served, job_frame}
use Rattle.jobs.specs.Whole.{bench_in, with_bench, job_started, job_ended, job_polled}

-- ---- what a job cannot touch

-- energies with their counted time, the last accounted time, whether energy is counted, the smoothed values, the powers of the next interval, and since when the current is above its limit
abbrev pub Quiet : Pw → Pw → Type 0
Quiet n m =
    (n.tally ≡ m.tally) × (n.clock.t_last ≡ m.clock.t_last) × (n.clock.run ≡ m.clock.run) × (n.parts ≡ m.parts) × (n.powers ≡ m.powers)
    × (n.over_t0 ≡ m.over_t0)

-- document 01: "An accepted frame in a job, its last included, leaves energies and counted times as before, and smoothed values too". Nothing of them is reset at a job's end either
pub frame_quiet : (m : Pw) (now flags : ℕ) (f : Codes) → Quiet (job_polled m now flags f).pw m
unfolding job_polled
frame_quiet m now flags f = (refl, refl, refl, refl, refl, refl)

pub start_quiet : (m : Pw) (k : Kind) (now : ℕ) → Quiet (job_started m k now).pw m
unfolding job_started
start_quiet m k now = (refl, refl, refl, refl, refl, refl)

pub end_quiet : (m : Pw) (res : ℕ) → Quiet (job_ended m res) m
unfolding job_ended with_bench
end_quiet m res = (refl, refl, refl, refl, refl, refl)

-- "leaves `sph` as it is"
pub start_keeps_sph : (m : Pw) (k : Kind) (now : ℕ) → (job_started m k now).pw.phase_cal.sph ≡ m.phase_cal.sph
unfolding job_started cal_off
start_keeps_sph m k now = refl

-- ---- a frame that is not ready "changes only `t_poll`", and the count is that of the frames before it

abbrev pub polled_at : ℕ → Pw → Pw
polled_at now m = record m { clock = record m.clock { t_poll = now } }

pub not_ready : (m : Pw) (now flags : ℕ) (f : Codes) → ready (place_in m.job) flags ≡ false
    → job_polled m now flags f ≡ record { pw = polled_at now m; mark = None; used = m.job.used }
unfolding job_polled job_frame bench_in
not_ready m now flags f e = rw (e)

-- ---- a frame in a job: the job goes on or has ended

-- what is alike in both: the ranges and marks noted at the start, with the kind and the V range, the count of ready frames (below, t has its frame counted already), and which smoothed values count
abbrev pub Noted : Bench → Bench → Type 0
Noted t b = (b.job.job_save ≡ t.job.job_save) × (b.job.job_last ≡ t.job.job_last) × (b.job.job_vr ≡ t.job.job_vr) × (b.job.used ≡ t.job.used) × (b.cycle.seen ≡ t.cycle.seen)

-- it goes on: its number and result, the ranges, marks, kind and V range noted at its start, zeros and gains, and the mode are as they were
abbrev pub GoesOn : Bench → Bench → Type 0
GoesOn t b = (b.job.job ≡ t.job.job) × (b.job.job_res ≡ t.job.job_res) × Noted t b × (b.corrections ≡ t.corrections) × (b.mode ≡ t.mode)

-- it has ended: no job runs, ranges and automatic marks are those noted, the host is to re-apply if the meter is on; zeros and gains are as they were unless it ended well
abbrev pub HasEnded : Bench → Bench → Type 0
HasEnded t b =
    (b.job.job ≡ 0) × (b.ranges ≡ t.job.job_save) × Noted t b × (b.mode ≡ with_cal_req t.mode t.mode.on)
    × ((b.corrections ≡ t.corrections) ⊎ (b.job.job_res ≡ jr_ok))

abbrev Goes : Bench → Served → Type 0
Goes t s = GoesOn t s.bench ⊎ HasEnded t s.bench

-- a step begins in a bench that differs from t in what a step may note
next_goes : (t b : Bench) (now : ℕ) → GoesOn t b → Goes t (next now b)
unfolding next step_at
next_goes t b now g = inl g

ended_goes : (t b : Bench) (res : ℕ) → GoesOn t b → Goes t (ended_unmarked res b)
unfolding ended
ended_goes t b res (j, r, n, c, m) = inr (refl, n.0, n, rw (m), inl c)

stored_goes : (t b : Bench) → Noted t b → b.mode ≡ t.mode → Goes t (ended_unmarked jr_ok b)
unfolding ended
stored_goes t b n m = inr (refl, n.0, n, rw (m), inr refl)

raw_goes : (t b : Bench) (now : ℕ) (v : Result (Unit {0}) JobError) → GoesOn t b → Goes t (by_raw now v b)
raw_goes t b now (Ok x) g = next_goes t b now g
raw_goes t b now (Err e) g = ended_goes t b (error_number e) g

gain_goes : (t b : Bench) (v : Result Float JobError) → GoesOn t b → Goes t (by_gain v b)
gain_goes t b (Ok x) (j, r, n, c, m) = stored_goes t (gain_stored x b) n m
gain_goes t b (Err e) g = ended_goes t b (error_number e) g

module _ (t : Bench) (now : ℕ) where
  zero_done_goes : (z : ℤ) (b : Bench) → GoesOn t b → Goes t (zero_done now z b)
  unfolding zero_done
  zero_done_goes z b g =
      either (Goes t) (ltb b.job.job_step 6) (next_goes t (zx_noted z b) now g)
      (either (Goes t) (ltb b.job.job_step 12) (next_goes t (zd_noted z b) now g) (stored_goes t (zeros_stored z b) g.2 g.4))

  gain_done_goes : (x y : Float) (b : Bench) → GoesOn t b → Goes t (gain_done now x y b)
  unfolding gain_done raw_done ref_done judged
  gain_done_goes x y b g =
      let dc = cond (eqb b.job.job_step 0) (is_dc x y) b.job.job_dc in
      either (Goes t) (eqb (b.job.job_step % 2) 0) (raw_goes t (raw_noted dc x y b) now (raw_verdict dc b.ranges.vr x y) g)
      (either (Goes t) (ltb b.job.job_step 3) (next_goes t (ref_noted x b) now g) (gain_goes t (ref_noted x b) (verdict_in (ref_noted x b)) g))

  step_done_goes : (k : Kind) (x y : Float) (b : Bench) → GoesOn t b → Goes t (step_done now k x y b)
  step_done_goes Zero x y b g = zero_done_goes (zero_mean x) b g
  step_done_goes Gain x y b g = gain_done_goes x y b g

  counted_goes : (r : Reading) (b : Bench) → GoesOn t b → Goes t (counted now r b)
  unfolding counted
  counted_goes r b g =
      let s = summed r b in
      either (Goes t) (ltb s.job.job_n job_n) (inl g) (step_done_goes (kind_in s.job) (mean_of s.job.job_a) (mean_of s.job.job_b) s g)

  served_goes : (sig : Bool) (r : Reading) (b : Bench) → GoesOn t b → Goes t (served_by now sig r b)
  unfolding served_by
  served_goes sig r b g = either (Goes t) (ltb 0 b.cycle.skip) (inl g) (either (Goes t) sig (ended_goes t b jr_signal g) (counted_goes r b g))

-- a ready frame counts as used; "ranges and marks become those noted" with the frame that ends the job; and no zero or gain changes but by a job that ends well
pub frame_goes : (now : ℕ) (c : Calibration) (flags : ℕ) (f : Codes) (t : Bench) → ready (place_in t.job) flags ≡ true
    → let b = (job_frame now c flags f t).bench in GoesOn (one_used t) b ⊎ HasEnded (one_used t) b
unfolding job_frame served place_in kind_in
frame_goes now c flags f t e =
    let p = place_in t.job in
    let sig = signal p (old_of (zeros_in t.corrections) t.job.job_step) f in
    let r = reading_of p c t.ranges.vr (zeros_in t.corrections) f in
    subst (λ (u : Bool). Goes (one_used t) (cond u (served_by now sig r (one_used t)) (unmarked t))) (sym e)
    (served_goes (one_used t) now sig r (one_used t) (refl, refl, (refl, refl, refl, refl, refl), refl, refl))

-- ready or not, it leaves which smoothed values count
pub frame_seen : (now : ℕ) (c : Calibration) (flags : ℕ) (f : Codes) (t : Bench) → (job_frame now c flags f t).bench.cycle.seen ≡ t.cycle.seen
unfolding job_frame
frame_seen now c flags f t = by_test (λ u. (cond u (served now c f (one_used t)) (unmarked t)).bench.cycle.seen ≡ t.cycle.seen) (ready (place_in t.job) flags) ready_seen (λ e. refl)
  where
    noted_in : (b : Bench) → GoesOn (one_used t) b ⊎ HasEnded (one_used t) b → b.cycle.seen ≡ t.cycle.seen
    noted_in b (inl g) = g.2.4
    noted_in b (inr g) = g.2.4

    ready_seen : ready (place_in t.job) flags ≡ true → (served now c f (one_used t)).bench.cycle.seen ≡ t.cycle.seen
    ready_seen e = subst (λ (u : Bool). (cond u (served now c f (one_used t)) (unmarked t)).bench.cycle.seen ≡ t.cycle.seen) e (noted_in (job_frame now c flags f t).bench (frame_goes now c flags f t e))

-- an order that ends a job right after its start leaves ranges and marks, zeros and gains as the start found them
pub start_then_end : (now res : ℕ) (k : Kind) (b : Bench) → let e = ended_if_any res (begun now k b).bench in (e.ranges ≡ b.ranges) × (e.corrections ≡ b.corrections)
unfolding ended_if_any begun step_at ended
start_then_end now res Zero b = (refl, refl)
start_then_end now res Gain b = (refl, refl)

-- ---- "Each step drops 1 ready frame (4 for the AC reference), then counts 3"

-- with so many frames left to drop, and so many used
abbrev pub to_drop : ℕ → Bench → Bench
to_drop k t = with_cycle t (with_skip t.cycle k)

abbrev pub used_as : ℕ → Bench → Bench
used_as u t = with_job t (with_used t.job u)

-- n more in a counter that stays at 255
abbrev pub count_more : ℕ → ℕ → ℕ
count_more zero u = u
count_more (suc n) u = count_more n (count_up u)

-- frames in a job one after the other, each with its time, flags and codes
abbrev pub Frame : Type 0
Frame = ℕ × ℕ × Codes

abbrev pub AllReady : Place → List Frame → Type 0
AllReady p [] = Unit {0}
AllReady p (f ∷ fs) = (ready p f.1 ≡ true) × AllReady p fs

module _ (c : Calibration) where
  abbrev pub poll_all : List Frame → Bench → Bench
  poll_all [] t = t
  poll_all (f ∷ fs) t = poll_all fs (job_frame f.0 c f.1 f.2 t).bench

  both : (fs gs : List Frame) (t : Bench) → poll_all (fs ++ gs) t ≡ poll_all gs (poll_all fs t)
  both [] gs t = refl
  both (f ∷ fs) gs t = both fs gs (job_frame f.0 c f.1 f.2 t).bench

  module _ (now flags : ℕ) (f : Codes) (t : Bench) (e : ready (place_in t.job) flags ≡ true) where
    abbrev reads : Reading
    reads = reading_of (place_in t.job) c t.ranges.vr (zeros_in t.corrections) f

    abbrev signals : Bool
    signals = signal (place_in t.job) (old_of (zeros_in t.corrections) t.job.job_step) f

    -- a ready frame is served, and counts as used
    is_served : job_frame now c flags f t ≡ served_by now signals reads (one_used t)
    unfolding job_frame served place_in kind_in
    is_served = rw (e)

  -- one of those that the step drops: it changes nothing else, whatever it reads
  drops_one : (now flags k : ℕ) (f : Codes) (t : Bench) → ready (place_in t.job) flags ≡ true → job_frame now c flags f (to_drop (suc k) t) ≡ unmarked (to_drop k (one_used t))
  unfolding served_by
  drops_one now flags k f t e =
      let one_less : suc k - 1 ≡ k = omega arith in
      is_served now flags f (to_drop (suc k) t) e ∙ rw (lt-ltb 0 (suc k) (omega arith)) (ap (λ (n : ℕ). unmarked (to_drop n (one_used t))) one_less)

  -- one that is counted
  counts_one : (now flags : ℕ) (f : Codes) (t : Bench) (e : ready (place_in t.job) flags ≡ true) → signals now flags f t e ≡ false
      → job_frame now c flags f (to_drop 0 t) ≡ counted now (reads now flags f t e) (one_used (to_drop 0 t))
  unfolding served_by
  counts_one now flags f t e g = is_served now flags f (to_drop 0 t) e ∙ rw (g)

  -- the frames that a step drops: each counts as used, and nothing else of the bench changes but how many are left
  pub drops_all : (fs : List Frame) (u : ℕ) (t : Bench) → AllReady (place_in t.job) fs → poll_all fs (to_drop (length fs) (used_as u t)) ≡ to_drop 0 (used_as (count_more (length fs) u) t)
  unfolding place_in kind_in
  drops_all [] u t e = refl
  drops_all (f ∷ fs) u t (r, e) =
      ap (λ (s : Served). poll_all fs s.bench) (drops_one f.0 f.1 (length fs) f.2 (used_as u t) r) ∙ drops_all fs (count_up u) t e

  module _ (now s : ℕ) (b : Bench) where
    -- a step that begins, and what it measures
    abbrev start : Bench
    start = (step_at now s b).bench

    abbrev place : Place
    place = place_in (at_step s b.job)

    abbrev reads_at : Codes → Reading
    reads_at f = reading_of place c start.ranges.vr (zeros_in b.corrections) f

    abbrev signals_at : Codes → Bool
    signals_at f = signal place (old_of (zeros_in b.corrections) s) f

    -- after n frames dropped, and one, two and three counted
    module _ (n : ℕ) (f0 f1 f2 : Frame) where
      abbrev used : ℕ
      used = count_more n b.job.used

      abbrev one : Bench
      one = summed (reads_at f0.2) (used_as (count_up used) (to_drop 0 start))

      abbrev two : Bench
      two = summed (reads_at f1.2) (used_as (count_up (count_up used)) one)

      abbrev pub sums : Bench
      sums = summed (reads_at f2.2) (used_as (count_up (count_up (count_up used))) two)

      three_count : AllReady place (f0 ∷ f1 ∷ f2 ∷ []) → signals_at f0.2 ≡ false → signals_at f1.2 ≡ false → signals_at f2.2 ≡ false
          → poll_all (f0 ∷ f1 ∷ f2 ∷ []) (to_drop 0 (used_as used start)) ≡ (step_done f2.0 (kind_in sums.job) (mean_of sums.job.job_a) (mean_of sums.job.job_b) sums).bench
      unfolding step_at counted count_up place_in kind_in
      three_count (e0, (e1, (e2, e))) g0 g1 g2 =
          ap (λ (x : Served). poll_all (f1 ∷ f2 ∷ []) x.bench) (counts_one f0.0 f0.1 f0.2 (used_as used start) e0 g0)
          ∙ ap (λ (x : Served). poll_all (f2 ∷ []) x.bench) (counts_one f1.0 f1.1 f1.2 one e1 g1)
          ∙ ap (λ (x : Served). x.bench) (counts_one f2.0 f2.1 f2.2 two e2 g2)

      -- what they add up to, each once and in their order
      pub sums_are : (sums.job.job_a ≡ zero_f +f (reads_at f0.2).x +f (reads_at f1.2).x +f (reads_at f2.2).x)
          × (sums.job.job_b ≡ zero_f +f (reads_at f0.2).y +f (reads_at f1.2).y +f (reads_at f2.2).y) × (sums.job.used ≡ count_up (count_up (count_up used)))
      unfolding step_at
      sums_are = (refl, refl, refl)

    dropping : start ≡ to_drop (drops_of place) (used_as b.job.used start)
    unfolding step_at
    dropping = refl

    -- a step takes as many ready frames as it drops, whatever these read, and three more, none a signal: it is done with the means of the three, and all of them are used
    pub step_uses : (fs : List Frame) (f0 f1 f2 : Frame) → length fs ≡ drops_of place → AllReady place fs → AllReady place (f0 ∷ f1 ∷ f2 ∷ [])
        → signals_at f0.2 ≡ false → signals_at f1.2 ≡ false → signals_at f2.2 ≡ false
        → let t = sums (length fs) f0 f1 f2 in poll_all (fs ++ (f0 ∷ f1 ∷ f2 ∷ [])) start ≡ (step_done f2.0 (kind_in t.job) (mean_of t.job.job_a) (mean_of t.job.job_b) t).bench
    unfolding step_at
    step_uses fs f0 f1 f2 n r e g0 g1 g2 =
        let three = f0 ∷ f1 ∷ f2 ∷ [] in
        both fs three start ∙ ap (λ (x : Bench). poll_all three (poll_all fs x)) (dropping ∙ ap (λ (k : ℕ). to_drop k (used_as b.job.used start)) (sym n))
        ∙ ap (poll_all three) (drops_all fs b.job.used start r) ∙ three_count (length fs) f0 f1 f2 e g0 g1 g2

-- ---- a mark has the deadline of the frame's time

pub settle_of_law : (p : Place) → Settle (settle_of p)
settle_of_law ZeroX = of_apply
settle_of_law ZeroD = of_apply
settle_of_law ZeroY = of_apply
settle_of_law Raw = of_apply
settle_of_law RefDc = of_dc
settle_of_law RefAc = of_ac

module _ (now : ℕ) where
  abbrev Marks : Served → Type 0
  Marks s = MarkAt now s.mark

  next_mark : (b : Bench) → Marks (next now b)
  unfolding next step_at
  next_mark b = let p = place_in (at_step (count_up b.job.job_step) b.job) in inr (settle_of p, settle_of_law p, refl)

  raw_mark : (v : Result (Unit {0}) JobError) (b : Bench) → Marks (by_raw now v b)
  raw_mark (Ok x) b = next_mark b
  raw_mark (Err e) b = inl refl

  gain_mark : (v : Result Float JobError) (b : Bench) → Marks (by_gain v b)
  gain_mark (Ok x) b = inl refl
  gain_mark (Err e) b = inl refl

  step_mark : (k : Kind) (x y : Float) (b : Bench) → Marks (step_done now k x y b)
  unfolding zero_done gain_done raw_done ref_done judged
  step_mark Zero x y b =
      let z = zero_mean x in
      either Marks (ltb b.job.job_step 6) (next_mark (zx_noted z b)) (either Marks (ltb b.job.job_step 12) (next_mark (zd_noted z b)) (inl refl))
  step_mark Gain x y b =
      let dc = cond (eqb b.job.job_step 0) (is_dc x y) b.job.job_dc in
      either Marks (eqb (b.job.job_step % 2) 0) (raw_mark (raw_verdict dc b.ranges.vr x y) (raw_noted dc x y b))
      (either Marks (ltb b.job.job_step 3) (next_mark (ref_noted x b)) (gain_mark (verdict_in (ref_noted x b)) (ref_noted x b)))

  served_mark : (sig : Bool) (r : Reading) (b : Bench) → Marks (served_by now sig r b)
  unfolding served_by counted
  served_mark sig r b =
      let s = summed r b in
      either Marks (ltb 0 b.cycle.skip) (inl refl)
      (either Marks sig (inl refl) (either Marks (ltb s.job.job_n job_n) (inl refl) (step_mark (kind_in s.job) (mean_of s.job.job_a) (mean_of s.job.job_b) s)))

  pub frame_mark : (m : Pw) (flags : ℕ) (f : Codes) → MarkAt now (job_polled m now flags f).mark
  unfolding job_polled job_frame served
  frame_mark m flags f =
      let t = one_used (bench_in m) in
      either Marks (ready (place_in (bench_in m).job) flags)
      (served_mark (signal (place_in t.job) (old_of (zeros_in t.corrections) t.job.job_step) f) (reading_of (place_in t.job) m.calibration t.ranges.vr (zeros_in t.corrections) f) t)
      (inl refl)
