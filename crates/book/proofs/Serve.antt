-- A step's beginning, a job's end, and the zero job's steps keep the relation.
use mathlib.Core.Path.{◌≡◌, refl, ap, sym, ◌∙◌}
use mathlib.Core.Bool.{Bool, true, false, cond}
use mathlib.Core.List.{List, [], ◌∷◌, ◌++◌}
use Prim.Native.Nat.{ℕ, suc, ◌+◌, ◌-◌, ◌<◌, ◌≤◌}
use native.Mathlib.Omega.{arith}
use borrow.Author.Tests.{eqb-true, eqb-false, ltb-true, ltb-false}
use lib.Dec.{eqb, ltb}
use lib.IntN.{ℤ, pos}
use lib.Ieee.{Float}
use lib.ListN.{length, get_or, set, length-set}
use lib.Seq.{get_or-set_same, get_or-set_other}
use Rattle.std.specs.Prelude.{None}
use Rattle.codes.specs.declared.Codes.{Codes}
use Rattle.tables.specs.Constants.{jr_run, jr_ok}
use Rattle.tables.specs.declared.calibration.Calibration.{Calibration}
use Rattle.state.specs.declared.Ranges.{Ranges}
use Rattle.steps.specs.declared.place.Kind.{Kind}
use Rattle.steps.specs.declared.place.Kind.TheVariants.{Zero, Gain}
use Rattle.steps.specs.Place.{zero_steps, kind_number, layout_of, place_of, drops_of, stat_of, step_ranges}
use Rattle.steps.specs.Reading.{Zeros, zeros_in}
use Rattle.steps.specs.Verdict.{zero_mean, part}
use Rattle.jobs.specs.declared.bench.Bench.{Bench}
use Rattle.jobs.specs.With.{with_row}
use Rattle.jobs.specs.Bench.{place_in, ended, at_step, step_at, next}
use Rattle.jobs.specs.Step.{zx_noted, zd_noted, zeros_stored, zero_done}
use Rattle.jobs.proofs.Counts.{one_more}
use Rattle.book.specs.Book.{measures, drops, begins, last_of, Setting, mean_x, mean_y, Outcome, going, struck, zeroed, tab, zero_at, thirteen, raw_at, ref_at, finished, RangeGain, idle, Book, book, entered, setting_of}
use Rattle.book.specs.Demand3.{result_of}
use Rattle.book.proofs.Lists.{begins_mono, mean_x_old, mean_y_old, dc_old, tab_ext}
use Rattle.book.proofs.Relation.{Room, ZeroParts, Results, lay_in, Serving, Holds, Good, kind_is, last_low, step_vr, meter_place, meter_drops}

-- ---- what stays with one more frame

zero_at_old : (c : Setting) (fs : List Codes) (f : Codes) (s : ℕ) → begins zero_steps (suc s) ≤ length fs → zero_at c (fs ++ (f ∷ [])) s ≡ zero_at c fs s
unfolding zero_at
zero_at_old c fs f s h = ap zero_mean (mean_x_old c zero_steps fs f s h)

ref_old : (c : Setting) (d : Bool) (fs : List Codes) (f : Codes) (s : ℕ) → begins (layout_of Gain d) (suc s) ≤ length fs → ref_at c d (fs ++ (f ∷ [])) s ≡ ref_at c d fs s
ref_old c d fs f s h = mean_x_old c (layout_of Gain d) fs f s h

raw_old : (c : Setting) (d : Bool) (fs : List Codes) (f : Codes) (s : ℕ) → begins (layout_of Gain d) (suc s) ≤ length fs → raw_at c d (fs ++ (f ∷ [])) s ≡ raw_at c d fs s
raw_old c d fs f s h =
    let l = layout_of Gain d in
    ap (λ (v : Float). part d v (mean_y c l (fs ++ (f ∷ [])) s)) (mean_x_old c l fs f s h) ∙ ap (part d (mean_x c l fs s)) (mean_y_old c l fs f s h)

pub four : (d : Bool) → begins (layout_of Gain d) 1 ≡ 4
four true = refl
four false = refl

pub results_old : (k : Kind) (c : Setting) (s : ℕ) (t : Bench) (fs : List Codes) (f : Codes) → begins (lay_in k t) s ≤ length fs → Results k c s t fs → Results k c s t (fs ++ (f ∷ []))
results_old Zero c s t fs f h p =
    record {
      zx = λ i i6 is. p.zx i i6 is ∙ sym (zero_at_old c fs f i (omega (arith, begins_mono zero_steps (suc i) s is)));
      zd = λ i i6 is. p.zd i i6 is ∙ sym (zero_at_old c fs f (i + 6) (omega (arith, begins_mono zero_steps (suc (i + 6)) s is)));
    }
results_old Gain c s t fs f h p =
    let d = t.job.job_dc in
    record {
      dc = λ s0. p.dc s0 ∙ sym (dc_old c fs f (omega (arith, begins_mono (layout_of Gain d) 1 s s0, four d)));
      raw0 = λ s0. p.raw0 s0 ∙ sym (raw_old c d fs f 0 (omega (arith, begins_mono (layout_of Gain d) 1 s s0)));
      ref0 = λ s1. p.ref0 s1 ∙ sym (ref_old c d fs f 1 (omega (arith, begins_mono (layout_of Gain d) 2 s s1)));
      raw1 = λ s2. p.raw1 s2 ∙ sym (raw_old c d fs f 2 (omega (arith, begins_mono (layout_of Gain d) 3 s s2)));
    }

-- ---- the beginning of a step

-- by the job's kind
abbrev pub step_as : Kind → ℕ → Bench → Bench
step_as k s t =
    let p = place_of (lay_in k t) s in
    record { mode = t.mode; ranges = step_ranges k s t.ranges; cycle = with_row t.cycle (drops_of p) (stat_of p); corrections = t.corrections; job = at_step s t.job }

pub step_as_law : (k : Kind) (now s : ℕ) (t : Bench) → t.job.job ≡ kind_number k → (step_at now s t).bench ≡ step_as k s t
unfolding step_at place_in
step_as_law k now s t h = rw (kind_is k (at_step s t.job) h)

-- the steps before s are done, and nothing of s has come yet
pub record Begins (c : Setting) (t : Bench) (k : Kind) (r : Ranges) (fs : List Codes) (s : ℕ) : Type 0 where
  pub job : t.job.job ≡ kind_number k
  pub res : t.job.job_res ≡ jr_run
  pub save : t.job.job_save ≡ r
  pub vr : t.ranges.vr ≡ c.vr
  pub used : t.job.used ≡ length fs
  pub low : s ≤ last_of (lay_in k t)
  pub len : length fs ≡ begins (lay_in k t) s
  pub results : Results k c s t fs

pub step_serves : (c : Setting) (t : Bench) (k : Kind) (r : Ranges) (fs : List Codes) (s : ℕ) → Begins c t k r fs s → Serving c (step_as k s t) k r fs
step_serves c t k r fs s h =
    record {
      job = h.job;
      res = h.res;
      save = h.save;
      vr = step_vr k s t.ranges ∙ h.vr;
      used = h.used;
      low = h.low;
      few = omega arith;
      none_yet = λ _. refl;
      fits = omega (arith, d);
      len = omega (arith, d, h.len);
      a = refl;
      b = refl;
      results = h.results;
    }
  where
    d : drops_of (place_of (lay_in k t) s) ≡ drops (measures (lay_in k t) s)
    d = meter_drops (place_of (lay_in k t) s) ∙ ap drops (meter_place k t.job.job_dc s h.low)

-- ---- the end of a step, and of a job

-- the bench when its step has its third reading, the last of fs, and what the steps before n have left is noted
pub record Full (w : Calibration) (b : Book) (t : Bench) (k : Kind) (r : Ranges) (fs : List Codes) (n : ℕ) : Type 0 where
  pub held : Holds t.corrections b.zeros b.gain
  pub room : Room t
  pub job : t.job.job ≡ kind_number k
  pub res : t.job.job_res ≡ jr_run
  pub save : t.job.job_save ≡ r
  pub vr : t.ranges.vr ≡ r.vr
  pub used : t.job.used ≡ length fs
  pub low : t.job.job_step ≤ last_of (lay_in k t)
  pub len : length fs ≡ begins (lay_in k t) (suc t.job.job_step)
  pub results : Results k (setting_of w r b.zeros) n t fs

module _ (w : Calibration) (b : Book) (k : Kind) (r : Ranges) (fs : List Codes) where
  -- the job has ended, with these zeros and gains in the book
  pub end_keeps : (t : Bench) (o : Outcome) (z : Zeros) (g : ℕ → RangeGain) → entered k r fs o b.zeros b.gain ≡ book z g idle → Holds t.corrections z g → Room t → t.job.job_save ≡ r → t.job.used ≡ length fs
      → Good w b k r fs (ended (result_of o) t) o
  unfolding ended
  end_keeps t o z g e held room save used = record { rel = rw e (record { held = held; room = room; runs = refl }); back = λ _. save; used = used; res = refl }

  -- it ends otherwise than well
  pub struck_keeps : (t : Bench) (res : ℕ) → Holds t.corrections b.zeros b.gain → Room t → t.job.job_save ≡ r → t.job.used ≡ length fs → Good w b k r fs (ended res t) (struck res)
  struck_keeps t res = end_keeps t (struck res) b.zeros b.gain refl

  pub next_keeps : (now : ℕ) (t : Bench) → Full w b t k r fs (suc t.job.job_step) → t.job.job_step < last_of (lay_in k t) → Good w b k r fs (next now t).bench going
  unfolding next
  next_keeps now t h low =
      let s = t.job.job_step in
      let c = setting_of w r b.zeros in
      let small : s < 255 = omega (arith, last_low k t.job.job_dc) in
      rw (one_more s small, step_as_law k now (suc s) t h.job)
      (record {
        rel = record {
          held = h.held;
          room = h.room;
          runs = step_serves c t k r fs (suc s) (record { job = h.job; res = h.res; save = h.save; vr = h.vr; used = h.used; low = low; len = h.len; results = h.results });
        };
        back = λ i. absurd (i refl);
        used = h.used;
        res = h.res;
      })

-- ---- the zero job

module _ (w : Calibration) (b : Book) (t : Bench) (r : Ranges) (fs : List Codes) (h : Full w b t Zero r fs t.job.job_step) (now : ℕ) where
  abbrev c : Setting
  c = setting_of w r b.zeros

  abbrev s : ℕ
  s = t.job.job_step

  abbrev z : ℤ
  z = zero_at c fs s

  -- a mean of steps 0 to 5 is noted
  zx_noted_law : s < 6 → ZeroParts c (suc s) (set t.job.job_zx s z) t.job.job_zd fs
  zx_noted_law s6 = record { zx = λ i i6 is. one i is (eqb i s) refl; zd = λ i i6 is. absurd (omega arith) }
    where
      one : (i : ℕ) → i < suc s → (u : Bool) → eqb i s ≡ u → get_or (set t.job.job_zx s z) i (pos 0) ≡ zero_at c fs i
      one i is true q = rw (eqb-true i s q) (get_or-set_same t.job.job_zx s z (pos 0) (omega (arith, h.room.job_zx)))
      one i is false q =
          let x : i ≡ s → ⊥ = eqb-false i s q in
          get_or-set_other t.job.job_zx s i z (pos 0) x ∙ h.results.zx i (omega arith) (omega (arith, x))

  -- and one of steps 6 to 11
  zd_noted_law : 6 ≤ s → s < 12 → ZeroParts c (suc s) t.job.job_zx (set t.job.job_zd (s - 6) z) fs
  zd_noted_law s6 s12 = record { zx = λ i i6 is. h.results.zx i i6 (omega arith); zd = λ i i6 is. one i i6 is (eqb i (s - 6)) refl }
    where
      one : (i : ℕ) → i < 6 → i + 6 < suc s → (u : Bool) → eqb i (s - 6) ≡ u → get_or (set t.job.job_zd (s - 6) z) i (pos 0) ≡ zero_at c fs (i + 6)
      one i i6 is true q =
          let x : i ≡ s - 6 = eqb-true i (s - 6) q in
          let y : i + 6 ≡ s = omega arith in
          rw (y, x) (get_or-set_same t.job.job_zd (s - 6) z (pos 0) (omega (arith, h.room.job_zd)))
      one i i6 is false q =
          let x : i ≡ s - 6 → ⊥ = eqb-false i (s - 6) q in
          get_or-set_other t.job.job_zd (s - 6) i z (pos 0) x ∙ h.results.zd i i6 (omega (arith, x))

  -- after the last of them the twelve noted and this one are the thirteen
  all_thirteen : 12 ≤ s → zeros_in (zeros_stored z t).corrections ≡ thirteen c fs
  unfolding zeros_in
  all_thirteen s12 =
      let e : s ≡ 12 = omega (arith, h.low) in
      let x : t.job.job_zx ≡ tab 6 (zero_at c fs) = tab_ext t.job.job_zx 6 _ h.room.job_zx (λ i i6. h.results.zx i i6 (omega arith)) in
      let d : t.job.job_zd ≡ tab 6 (λ i. zero_at c fs (i + 6)) = tab_ext t.job.job_zd 6 _ h.room.job_zd (λ i i6. h.results.zd i i6 (omega arith)) in
      rw (x, d, e)

  abbrev Kept : Bench → Outcome → Type 0
  Kept = Good w b Zero r fs

  noted_zx : s < 6 → Kept (next now (zx_noted z t)).bench going
  noted_zx s6 =
      next_keeps w b Zero r fs now (zx_noted z t)
      (record {
        held = h.held;
        job = h.job;
        res = h.res;
        save = h.save;
        vr = h.vr;
        used = h.used;
        low = h.low;
        len = h.len;
        results = zx_noted_law s6;
        room = record { zx = h.room.zx; zd = h.room.zd; job_zx = rw length-set h.room.job_zx; job_zd = h.room.job_zd; vgain = h.room.vgain; raw = h.room.raw; ref = h.room.ref };
      })
      (omega arith)

  noted_zd : 6 ≤ s → s < 12 → Kept (next now (zd_noted z t)).bench going
  noted_zd s6 s12 =
      next_keeps w b Zero r fs now (zd_noted z t)
      (record {
        held = h.held;
        job = h.job;
        res = h.res;
        save = h.save;
        vr = h.vr;
        used = h.used;
        low = h.low;
        len = h.len;
        results = zd_noted_law s6 s12;
        room = record { zx = h.room.zx; zd = h.room.zd; job_zx = h.room.job_zx; job_zd = rw length-set h.room.job_zd; vgain = h.room.vgain; raw = h.room.raw; ref = h.room.ref };
      })
      (omega arith)

  stores : 12 ≤ s → Kept (ended jr_ok (zeros_stored z t)) (zeroed (thirteen c fs))
  stores s12 =
      end_keeps w b Zero r fs (zeros_stored z t) (zeroed (thirteen c fs)) (thirteen c fs) b.gain refl (record { zeros = all_thirteen s12; no_zeros = λ e. cc; gains = h.held.gains; bounded = h.held.bounded })
      (record { zx = h.room.job_zx; zd = h.room.job_zd; job_zx = h.room.job_zx; job_zd = h.room.job_zd; vgain = h.room.vgain; raw = h.room.raw; ref = h.room.ref }) h.save h.used

  pub zero_done_keeps : Kept (zero_done now z t).bench (finished Zero c fs s)
  unfolding zero_done finished
  zero_done_keeps = go (ltb s 6) (ltb-true s 6) (ltb-false s 6) (ltb s 12) (ltb-true s 12) (ltb-false s 12)
    where
      go : (u : Bool) → (u ≡ true → s < 6) → (u ≡ false → 6 ≤ s) → (v : Bool) → (v ≡ true → s < 12) → (v ≡ false → 12 ≤ s)
          → Good w b Zero r fs (cond u (next now (zx_noted z t)) (cond v (next now (zd_noted z t)) (record { bench = ended jr_ok (zeros_stored z t); mark = None }))).bench (cond v going (zeroed (thirteen c fs)))
      go true p q true x y = noted_zx (p refl)
      go true p q false x y = absurd (omega (arith, p refl, y refl))
      go false p q true x y = noted_zd (q refl) (x refl)
      go false p q false x y = stores (y refl)
