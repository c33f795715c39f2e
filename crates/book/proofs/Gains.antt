-- The gain job's steps keep the relation.
use mathlib.Core.Path.{◌≡◌, refl, ap, sym, ◌∙◌, subst}
use mathlib.Core.Bool.{Bool, true, false, cond}
use mathlib.Core.List.{List}
use Prim.Native.Nat.{ℕ, suc, ◌%◌, ◌<◌, ◌≤◌, min}
use native.Mathlib.Omega.{arith}
use borrow.Author.Tests.{eqb-true, eqb-false, ltb-true, ltb-false}
use lib.Dec.{eqb, ltb}
use lib.Ieee.{Float, nan}
use lib.ListN.{length, get_or, set, length-set}
use lib.Seq.{get_or-set_same, get_or-set_other}
use Rattle.std.specs.Prelude.{Result, Ok, Err}
use Rattle.codes.specs.declared.Codes.{Codes}
use Rattle.tables.specs.Bounds.{at_most}
use Rattle.tables.specs.Gain.{plausible}
use Rattle.tables.specs.declared.calibration.Calibration.{Calibration}
use Rattle.state.specs.declared.Ranges.{Ranges}
use Rattle.steps.specs.declared.place.Kind.TheVariants.{Gain}
use Rattle.steps.specs.declared.error.JobError.{JobError}
use Rattle.steps.specs.Error.{error_number}
use Rattle.steps.specs.Place.{dc_steps, layout_of}
use Rattle.steps.specs.Reading.{zeros_in}
use Rattle.steps.specs.Verdict.{is_dc, part, raw_verdict}
use Rattle.steps.proofs.Stated.{good_plausible}
use Rattle.jobs.specs.declared.bench.Bench.{Bench}
use Rattle.jobs.specs.declared.bench.Served.{Served}
use Rattle.jobs.specs.Bench.{ended}
use Rattle.jobs.specs.Step.{by_raw, raw_noted, raw_done, gain_stored, by_gain, ref_noted, verdict_in, judged, ref_done, gain_done}
use Rattle.book.specs.Book.{drops, Setting, mean_x, mean_y, dc_of, going, struck, gained, raw_out, gain_out, raw_at, ref_at, verdict_of, ratio_of, finished, RangeGain, earned, Book, setting_of}
use Rattle.book.specs.Demand3.{stored}
use Rattle.book.proofs.Lists.{both, Same, same}
use Rattle.book.proofs.Relation.{Room, GainParts, lay_in, Good, three_steps}
use Rattle.book.proofs.Serve.{Full, end_keeps, struck_keeps, next_keeps}

-- the first step's means are the same in both kinds
first_x : (c : Setting) (d e : Bool) (fs : List Codes) → mean_x c (layout_of Gain d) fs 0 ≡ mean_x c (layout_of Gain e) fs 0
unfolding mean_x
first_x c true true fs = refl
first_x c true false fs = refl
first_x c false true fs = refl
first_x c false false fs = refl

first_y : (c : Setting) (d e : Bool) (fs : List Codes) → mean_y c (layout_of Gain d) fs 0 ≡ mean_y c (layout_of Gain e) fs 0
unfolding mean_y
first_y c true true fs = refl
first_y c true false fs = refl
first_y c false true fs = refl
first_y c false false fs = refl

at_most_law : (m n : ℕ) → at_most m n ≡ min n m
unfolding at_most
at_most_law m n = go (ltb n m) (ltb-true n m) (ltb-false n m)
  where
    go : (u : Bool) → (u ≡ true → n < m) → (u ≡ false → m ≤ n) → cond u n m ≡ min n m
    go true p q = omega (arith, p refl)
    go false p q = omega (arith, q refl)

-- ---- a raw step's end, and the last step's, by their verdicts

module _ (w : Calibration) (b : Book) (r : Ranges) (fs : List Codes) where
  struck_by : (t : Bench) (n res : ℕ) → Full w b t Gain r fs n → Good w b Gain r fs (ended res t) (struck res)
  struck_by t n res h = struck_keeps w b Gain r fs t res h.held h.room h.save h.used

  raw_end_keeps : (now : ℕ) (t : Bench) (v : Result (Unit {0}) JobError) → Full w b t Gain r fs (suc t.job.job_step) → t.job.job_step < 3 → Good w b Gain r fs (by_raw now v t).bench (raw_out v)
  raw_end_keeps now t (Err e) h low = struck_by t (suc t.job.job_step) (error_number e) h
  raw_end_keeps now t (Ok x) h low = next_keeps w b Gain r fs now t h (omega (arith, three_steps t.job.job_dc))

  -- the range's gain is now the one found, and the others' are as they were
  abbrev with_gain : Float → ℕ → RangeGain
  with_gain g i = cond (eqb i (min r.vr 3)) (earned g) (b.gain i)

  bounded_with : (g : Float) → plausible g ≡ true → ((i : ℕ) (x : Float) → b.gain i ≡ earned x → plausible x ≡ true) → (i : ℕ) (x : Float) → with_gain g i ≡ earned x → plausible x ≡ true
  bounded_with g p h i x = go (eqb i (min r.vr 3))
    where
      go : (u : Bool) → cond u (earned g) (b.gain i) ≡ earned x → plausible x ≡ true
      go true e = subst (λ (y : RangeGain). plausible (stored y) ≡ true) e p
      go false e = h i x e

  gain_end_keeps : (t : Bench) (n : ℕ) (v : Result Float JobError) → ((g : Float) → v ≡ Ok g → plausible g ≡ true) → Full w b t Gain r fs n → Good w b Gain r fs (by_gain v t).bench (gain_out v)
  unfolding zeros_in
  gain_end_keeps t n (Err e) p h = struck_by t n (error_number e) h
  gain_end_keeps t n (Ok g) p h =
      end_keeps w b Gain r fs (gain_stored g t) (gained g) b.zeros (with_gain g) refl
      (record { zeros = h.held.zeros; no_zeros = h.held.no_zeros; gains = λ i i4. rw (at_most_law 3 t.ranges.vr, h.vr) (one i i4 (eqb i (min r.vr 3)) refl); bounded = bounded_with g (p g refl) h.held.bounded })
      (record { zx = h.room.zx; zd = h.room.zd; job_zx = h.room.job_zx; job_zd = h.room.job_zd; vgain = rw length-set h.room.vgain; raw = h.room.raw; ref = h.room.ref }) h.save h.used
    where
      one : (i : ℕ) → i < 4 → (u : Bool) → eqb i (min r.vr 3) ≡ u → get_or (set t.corrections.vgain (min r.vr 3) g) i nan ≡ stored (cond u (earned g) (b.gain i))
      one i i4 true q =
          let x : i ≡ min r.vr 3 = eqb-true _ _ q in
          rw x (get_or-set_same t.corrections.vgain (min r.vr 3) g nan (omega (arith, h.room.vgain)))
      one i i4 false q = get_or-set_other t.corrections.vgain (min r.vr 3) i g nan (eqb-false _ _ q) ∙ h.held.gains i i4

-- what a raw step leaves with the job
raw_parts : (c : Setting) (t : Bench) (fs : List Codes) (d : Bool) (x y : Float) → d ≡ dc_of c fs → part d x y ≡ raw_at c d fs t.job.job_step → length t.job.job_raw ≡ 2
    → t.job.job_step ≤ 3 → t.job.job_step % 2 ≡ 0 → GainParts c t.job.job_step t.job.job_dc t.job.job_raw t.job.job_ref fs
    → GainParts c (suc t.job.job_step) d (raw_noted d x y t).job.job_raw t.job.job_ref fs
unfolding at_most
raw_parts c t fs d x y e em len low even p = go (eqb t.job.job_step 0) refl
  where
    go : (u : Bool) → eqb t.job.job_step 0 ≡ u → GainParts c (suc t.job.job_step) d (raw_noted d x y t).job.job_raw t.job.job_ref fs
    go true q =
        let s : t.job.job_step ≡ 0 = eqb-true _ _ q in
        record {
          dc = λ _. e;
          raw0 = λ _. rw s (get_or-set_same t.job.job_raw 0 (part d x y) nan (omega arith)) ∙ em ∙ rw s;
          ref0 = λ h. absurd (omega arith);
          raw1 = λ h. absurd (omega arith);
        }
    go false q =
        let n : t.job.job_step ≡ 0 → ⊥ = eqb-false _ _ q in
        let s : t.job.job_step ≡ 2 = omega (arith, n) in
        let same : t.job.job_dc ≡ d = p.dc (omega arith) ∙ sym e in
        record {
          dc = λ _. e;
          raw0 = λ _. rw s (get_or-set_other t.job.job_raw 1 0 (part d x y) nan (omega arith)) ∙ p.raw0 (omega arith) ∙ rw same;
          ref0 = λ _. p.ref0 (omega arith) ∙ rw same;
          raw1 = λ _. rw s (get_or-set_same t.job.job_raw 1 (part d x y) nan (omega arith)) ∙ em ∙ rw s;
        }

-- ---- a step's end

module _ (w : Calibration) (b : Book) (t : Bench) (r : Ranges) (fs : List Codes) (h : Full w b t Gain r fs t.job.job_step) (now : ℕ) where
  abbrev c : Setting
  c = setting_of w r b.zeros

  abbrev s : ℕ
  s = t.job.job_step

  abbrev D : Bool
  D = dc_of c fs

  abbrev X : Float
  X = mean_x c (layout_of Gain D) fs s

  abbrev Y : Float
  Y = mean_y c (layout_of Gain D) fs s

  low : s ≤ 3
  low = omega (arith, h.low, three_steps t.job.job_dc)

  kind : 0 < s → t.job.job_dc ≡ D
  kind = h.results.dc

  agree : Same (lay_in Gain t) (layout_of Gain D) s
  agree = same Gain t.job.job_dc D s (λ i. ap (layout_of Gain) (kind i))

  -- what holds at step 0, and with the book's kind at the others, holds
  by_step : (P : Type 0) → (s ≡ 0 → P) → (t.job.job_dc ≡ D → P) → P
  by_step P p q = go (eqb s 0) (eqb-true s 0) (eqb-false s 0)
    where
      go : (u : Bool) → (u ≡ true → s ≡ 0) → (u ≡ false → s ≡ 0 → ⊥) → P
      go true f g = p (f refl)
      go false f g = let n : s ≡ 0 → ⊥ = g refl in q (kind (omega (arith, n)))

  mean_x_law : mean_x c (lay_in Gain t) fs s ≡ X
  mean_x_law =
      by_step (mean_x c (lay_in Gain t) fs s ≡ X) (λ e. rw e (first_x c t.job.job_dc D fs)) (λ e. ap (λ (d : Bool). mean_x c (layout_of Gain d) fs s) e)

  mean_y_law : mean_y c (lay_in Gain t) fs s ≡ Y
  mean_y_law =
      by_step (mean_y c (lay_in Gain t) fs s ≡ Y) (λ e. rw e (first_y c t.job.job_dc D fs)) (λ e. ap (λ (d : Bool). mean_y c (layout_of Gain d) fs s) e)

  -- the kind after a raw step is the book's
  kind_after : cond (eqb s 0) (is_dc X Y) t.job.job_dc ≡ D
  kind_after = go (eqb s 0) refl
    where
      go : (u : Bool) → eqb s 0 ≡ u → cond u (is_dc X Y) t.job.job_dc ≡ D
      go true q = rw (eqb-true s 0 q) (ap (λ (v : Float). is_dc v (mean_y c (layout_of Gain D) fs 0)) (first_x c D true fs) ∙ ap (is_dc (mean_x c dc_steps fs 0)) (first_y c D true fs))
      go false q = let n : s ≡ 0 → ⊥ = eqb-false s 0 q in kind (omega (arith, n))

  raw_done_law : s % 2 ≡ 0 → Good w b Gain r fs (raw_done now D X Y t).bench (raw_out (verdict_of c D fs s))
  unfolding raw_done
  raw_done_law even =
      subst (λ (v : ℕ). Good w b Gain r fs (by_raw now (raw_verdict D v X Y) (raw_noted D X Y t)).bench (raw_out (verdict_of c D fs s))) (sym h.vr)
      (raw_end_keeps w b r fs now (raw_noted D X Y t) (verdict_of c D fs s)
      (record {
        held = h.held;
        room = record { zx = h.room.zx; zd = h.room.zd; job_zx = h.room.job_zx; job_zd = h.room.job_zd; vgain = h.room.vgain; raw = rw length-set h.room.raw; ref = h.room.ref };
        job = h.job;
        res = h.res;
        save = h.save;
        vr = h.vr;
        used = h.used;
        low = omega (arith, low, three_steps D);
        len = omega (arith, h.len, agree.begin, ap drops agree.place);
        results = raw_parts c t fs D X Y refl refl h.room.raw low even h.results;
      })
      (omega (arith, low, even)))

  abbrev noted : Bench
  noted = ref_noted X t

  noted_room : Room noted
  noted_room = record { zx = h.room.zx; zd = h.room.zd; job_zx = h.room.job_zx; job_zd = h.room.job_zd; vgain = h.room.vgain; raw = h.room.raw; ref = rw length-set h.room.ref }

  noted_full : (n : ℕ) → GainParts c n t.job.job_dc t.job.job_raw noted.job.job_ref fs → Full w b noted Gain r fs n
  noted_full n p =
      record { held = h.held; room = noted_room; job = h.job; res = h.res; save = h.save; vr = h.vr; used = h.used; low = h.low; len = h.len; results = p }

  module _ (odd : s % 2 ≡ 1) where
    later : 0 < s
    later = omega (arith, odd)

    kd : t.job.job_dc ≡ D
    kd = kind later

    -- step 1: the first reference is noted
    first_noted : s ≡ 1 → GainParts c (suc s) t.job.job_dc t.job.job_raw noted.job.job_ref fs
    unfolding at_most
    first_noted e =
        record {
          dc = λ _. kd;
          raw0 = λ _. h.results.raw0 later;
          ref0 = λ _. rw e (get_or-set_same t.job.job_ref 0 (mean_x c (layout_of Gain D) fs 1) nan (omega (arith, h.room.ref)) ∙ ap (λ (d : Bool). ref_at c d fs 1) (sym kd));
          raw1 = λ i. absurd (omega arith);
        }

    -- step 3: the second, and the first stays
    ref0_stays : s ≡ 3 → get_or noted.job.job_ref 0 nan ≡ ref_at c t.job.job_dc fs 1
    unfolding at_most
    ref0_stays e = rw e (get_or-set_other t.job.job_ref 1 0 (mean_x c (layout_of Gain D) fs 3) nan (omega arith)) ∙ h.results.ref0 (omega arith)

    ref1_noted : s ≡ 3 → get_or noted.job.job_ref 1 nan ≡ ref_at c D fs 3
    unfolding at_most
    ref1_noted e = rw e (get_or-set_same t.job.job_ref 1 (mean_x c (layout_of Gain D) fs 3) nan (omega (arith, h.room.ref)))

    -- so the verdict is the book's
    verdict : s ≡ 3 → verdict_in noted ≡ ratio_of c D fs
    verdict e =
        let a0 : get_or t.job.job_raw 0 nan ≡ raw_at c D fs 0 = h.results.raw0 later ∙ ap (λ (d : Bool). raw_at c d fs 0) kd in
        let b0 : get_or noted.job.job_ref 0 nan ≡ ref_at c D fs 1 = ref0_stays e ∙ ap (λ (d : Bool). ref_at c d fs 1) kd in
        let a1 : get_or t.job.job_raw 1 nan ≡ raw_at c D fs 2 = h.results.raw1 (omega arith) ∙ ap (λ (d : Bool). raw_at c d fs 2) kd in
        let b1 : get_or noted.job.job_ref 1 nan ≡ ref_at c D fs 3 = ref1_noted e in
        cc

    second_noted : s ≡ 3 → GainParts c s t.job.job_dc t.job.job_raw noted.job.job_ref fs
    second_noted e = record { dc = h.results.dc; raw0 = h.results.raw0; ref0 = λ _. ref0_stays e; raw1 = h.results.raw1 }

    judged_keeps : s ≡ 3 → Good w b Gain r fs (judged noted).bench (gain_out (ratio_of c D fs))
    unfolding judged
    judged_keeps e =
        subst (λ (v : Result Float JobError). Good w b Gain r fs (by_gain v noted).bench (gain_out (ratio_of c D fs))) (sym (verdict e))
        (gain_end_keeps w b r fs noted s (ratio_of c D fs) (good_plausible (raw_at c D fs 0) (ref_at c D fs 1) (raw_at c D fs 2) (ref_at c D fs 3)) (noted_full s (second_noted e)))

    ref_done_law : Good w b Gain r fs (ref_done now X t).bench (cond (ltb s 3) going (gain_out (ratio_of c D fs)))
    unfolding ref_done
    ref_done_law =
        both (λ (v : Served) o. Good w b Gain r fs v.bench o) (ltb s 3) (ltb s 3) refl
        (λ q. let e : s ≡ 1 = omega (arith, ltb-true s 3 q) in next_keeps w b Gain r fs now noted (noted_full (suc s) (first_noted e)) (omega (arith, three_steps t.job.job_dc)))
        (λ q. let e : s ≡ 3 = omega (arith, low, ltb-false s 3 q) in judged_keeps e)

  done_by : (x y : Float) → x ≡ X → y ≡ Y → Good w b Gain r fs (gain_done now x y t).bench (finished Gain c fs s)
  unfolding gain_done finished
  done_by x y ex ey =
      both (λ (v : Served) o. Good w b Gain r fs v.bench o) (eqb (s % 2) 0) (eqb (s % 2) 0) refl
      (λ q. rw (ex, ey) (subst (λ (d : Bool). Good w b Gain r fs (raw_done now d X Y t).bench (raw_out (verdict_of c D fs s))) (sym kind_after) (raw_done_law (eqb-true _ _ q))))
      (λ q. let n : s % 2 ≡ 0 → ⊥ = eqb-false _ _ q in rw ex (ref_done_law (omega (arith, n))))

  pub gain_done_keeps : Good w b Gain r fs (gain_done now (mean_x c (lay_in Gain t) fs s) (mean_y c (lay_in Gain t) fs s) t).bench (finished Gain c fs s)
  gain_done_keeps = done_by _ _ mean_x_law mean_y_law
