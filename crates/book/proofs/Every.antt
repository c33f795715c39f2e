-- Every call keeps the relation, and so does every list of them from a meter just made.
use mathlib.Core.Path.{◌≡◌, refl, ap, sym, ◌∙◌, subst}
use mathlib.Core.Bool.{Bool, true, false, not, ◌||◌, cond, true≢false}
use mathlib.Core.List.{List, [], ◌∷◌}
use Prim.Native.Nat.{ℕ, zero, suc, ◌<◌}
use native.Mathlib.Omega.{arith}
use borrow.Author.Tests.{eqb-true, eqb-false, eq-eqb, ne_eqb}
use lib.Dec.{eqb}
use lib.Ieee.{nan}
use lib.ListN.{length, get_or, replicate}
use Rattle.std.proofs.Common.{Option, None, Some, Result, Ok, Err, is_err, IsOk}
use Rattle.std.specs.Result.{result_err}
use Rattle.numbers.specs.Binary32.{zero_f}
use Rattle.numbers.proofs.Cases.{either, by_test}
use Rattle.refusals.specs.declared.Refusal.{Refusal}
use Rattle.refusals.specs.declared.Refusal.TheVariants as refusal
use Rattle.codes.specs.Frame.{codes_of}
use Rattle.tables.specs.declared.calibration.Calibration.{Calibration}
use Rattle.tables.specs.declared.description.Description.{Description}
use Rattle.state.specs.declared.Corrections.{Corrections}
use Rattle.state.specs.declared.Job.{Job}
use Rattle.state.specs.declared.Pw.{Pw}
use Rattle.state.specs.declared.Settings.{Settings}
use Rattle.state.specs.Fresh.{new_pw}
use Rattle.ranging.specs.declared.apply.Keep.TheVariants.{Nothing}
use Rattle.steps.specs.declared.place.Kind.{Kind}
use Rattle.steps.specs.declared.place.Kind.TheVariants.{Zero, Gain}
use Rattle.steps.specs.Place.{kind_number}
use Rattle.steps.specs.Reading.{zeros_in}
use Rattle.jobs.specs.declared.bench.Bench.{Bench}
use Rattle.jobs.specs.With.{with_job}
use Rattle.jobs.specs.Bench.{ended_if_any, ended, noted, begun, turned_away}
use Rattle.jobs.specs.Frame.{job_frame}
use Rattle.jobs.specs.Whole.{bench_in, with_bench, job_started, job_turned_away, job_ended, job_polled}
use Rattle.orders.specs.declared.answer.Answer.{Answer}
use Rattle.orders.specs.declared.answer.Step.{Step}
use Rattle.orders.specs.Answer.{late, refused_with, marked, done}
use Rattle.orders.specs.With.{with_cal_req, with_mode}
use Rattle.orders.specs.Apply.{applied, aborted}
use Rattle.orders.specs.Switches as switches
use Rattle.orders.specs.Starts.{started_step, start_job, phase_start, energy_reset, set_run, set_settings}
use Rattle.orders.proofs.Stated.{aborted_none, reapply_carried}
use Rattle.meter.specs.Making.{make}
use Rattle.meter.specs.Calls.{about, step, after, Call, ZeroJob, GainJob, PhaseStart, EnergyReset, Run, Reapply, SetSettings, Frame}
use Rattle.meter.specs.Table.{refusal_of, left_by, turned_away as meter_turned_away}
use Rattle.meter.proofs.Stated.{outside_leaves, in_job_law, made_with, ends_job, corrections_stay, six_in_bounds, makes, job_frame as changes_job}
use Rattle.meter.proofs.Table.{refused_as, leaves}
use Rattle.book.specs.Book.{Running, idle, serving, Book, book, framed, started, strikes, asked, entry, books, blank, setting_of}
use Rattle.book.specs.Demand3.{fed}
use Rattle.book.proofs.Relation.{Lengths, Results, Runs, Holds, Rel}
use Rattle.book.proofs.Serve.{step_as_law, step_serves}
use Rattle.book.proofs.Frames.{frame_keeps}

-- the meter and the book, at one point of a list
pub record Keeps (w : Calibration) (m : Pw) (b : Book) : Type 0 where
  pub calibration : m.calibration ≡ w
  pub rel : Rel w (bench_in m) b

pub no_job_law : (k : Kind) (n : ℕ) → n ≡ kind_number k → n ≡ 0 → ⊥
no_job_law Zero n p q = omega arith
no_job_law Gain n p q = omega arith

-- where no job runs, none is in the book
pub book_idle : (w : Calibration) (m : Pw) (b : Book) → Keeps w m b → m.job.job ≡ 0 → b.job ≡ idle
unfolding bench_in
book_idle w m b h e = go b.job h.rel.runs
  where
    go : (q : Running) → Runs w (bench_in m) b.zeros q → q ≡ idle
    go idle p = refl
    go (serving k r fs) p = absurd (no_job_law k _ p.job e)

-- ---- a refusal, or none

-- what holds of a call that is refused, and of one that is not, holds of each
pub refused_or_done : {A E : Type 0} (P : Bool → Type 0) (a : Result A E) → (is_err a ≡ true → P true) → (IsOk a → P false) → P (is_err a)
refused_or_done P (Ok x) away done = done refl
refused_or_done P (Err n) away done = away refl

-- a refused call leaves all as before, but for a job start that is turned away
refused_leaves : (m : Pw) (c : Call) → meter_turned_away m (about c).named ≡ m → is_err (step m c).answer ≡ true → (step m c).pw ≡ m
refused_leaves m c t e = leaves m c ∙ go (step m c).answer (refusal_of m c) (refused_as m c) e
  where
    go : (a : Result Answer Refusal) (n : Option Refusal) → result_err a ≡ n → is_err a ≡ true → left_by n m c ≡ m
    go (Ok x) n i r = absurd (true≢false (sym r))
    go (Err n) None i r = cc
    go (Err n) (Some refusal.Method) i r = t
    go (Err n) (Some o) i r = refl

module _ (w : Calibration) (m : Pw) (b : Book) (h : Keeps w m b) where
  abbrev reapplied : ℕ → Step
  reapplied t = applied Nothing (with_mode m (with_cal_req m.mode false)) t

  -- what a call leaves, by what the book makes of it where it is accepted
  abbrev Kept : Book → Step → Type 0
  Kept u s = Keeps w s.pw (cond (is_err s.answer) b u)

  refused_keeps : (u : Book) (n : Refusal) → Kept u (refused_with n m)
  unfolding refused_with
  refused_keeps u n = h

  -- ---- the orders that end a job

  -- the arrays with this job
  abbrev RoomWith : Job → Type 0
  RoomWith j = Lengths m.corrections.zx m.corrections.zd j.job_zx j.job_zd m.corrections.vgain j.job_raw j.job_ref

  aborted_room : RoomWith (aborted m).job
  unfolding aborted job_ended with_bench ended_if_any ended bench_in
  aborted_room = either (λ (t : Bench). RoomWith t.job) (eqb m.job.job 0) {x = bench_in m} h.rel.room h.rel.room

  -- zeros and gains are the meter's, and no job runs
  struck_rel : (n : Pw) → n.corrections ≡ m.corrections → n.job ≡ (aborted m).job → Rel w (bench_in n) (strikes b)
  unfolding bench_in
  struck_rel n c j =
      record {
        held = subst (λ (x : Corrections). Holds x b.zeros b.gain) (sym c) h.rel.held;
        room = subst (λ (x : Corrections). Lengths x.zx x.zd n.job.job_zx n.job.job_zd x.vgain n.job.job_raw n.job.job_ref) (sym c)
            (subst RoomWith (sym j) aborted_room);
        runs = ap (λ (x : Job). x.job) j ∙ aborted_none m;
      }

  -- refused it leaves all as before, accepted the job's record is that of the aborted one
  ends : (c : Call) → meter_turned_away m (about c).named ≡ m → changes_job m c ≡ false → (about c).ends_job ≡ true → Kept (strikes b) (step m c)
  ends c t f j =
      refused_or_done (λ u. Keeps w (step m c).pw (cond u b (strikes b))) (step m c).answer (λ e. subst (λ (n : Pw). Keeps w n b) (sym (refused_leaves m c t e)) h)
      (λ d. record { calibration = (made_with m c).1 ∙ h.calibration; rel = struck_rel (step m c).pw (corrections_stay m c f) (ends_job m c j d) })

  -- ---- the orders that leave a job, and its bench, as they are

  same_bench : (n : Pw) → n.calibration ≡ m.calibration → bench_in n ≡ bench_in m → Keeps w n b
  same_bench n c e = record { calibration = c ∙ h.calibration; rel = subst (λ (t : Bench). Rel w t b) (sym e) h.rel }

  phase_keeps : Kept b (phase_start m)
  unfolding phase_start refused_with done marked bench_in
  phase_keeps = either (Kept b) (not m.mode.on) (refused_keeps b refusal.Off) (either (Kept b) (m.mode.alt || m.mode.dc) (refused_keeps b refusal.Method) (same_bench _ refl refl))

  reset_keeps : Kept b (energy_reset m)
  unfolding energy_reset done marked bench_in
  reset_keeps = same_bench _ refl refl

  run_keeps : (on : Bool) → Kept b (set_run m on)
  unfolding set_run done marked bench_in
  run_keeps on = same_bench _ refl refl

  settings_keeps : (v : Settings) → Kept b (set_settings m v)
  unfolding set_settings done marked bench_in
  settings_keeps v = same_bench _ refl refl

  -- ---- where no job runs

  -- a call that leaves corrections, words and the number of the job, which is 0, and the lengths of its arrays
  idle_keeps : (n : Pw) → m.job.job ≡ 0 → n.calibration ≡ m.calibration → n.corrections ≡ m.corrections → n.job.job ≡ 0 → RoomWith n.job → Keeps w n b
  unfolding bench_in
  idle_keeps n none w-same c j room =
      record {
        calibration = w-same ∙ h.calibration;
        rel = record {
          held = subst (λ (x : Corrections). Holds x b.zeros b.gain) (sym c) h.rel.held;
          room = subst (λ (x : Corrections). Lengths x.zx x.zd n.job.job_zx n.job.job_zd x.vgain n.job.job_raw n.job.job_ref) (sym c) room;
          runs = subst (Runs w (bench_in n) b.zeros) (sym (book_idle w m b h none)) j;
        };
      }

  same_job : (n : Pw) → m.job.job ≡ 0 → n.calibration ≡ m.calibration → n.corrections ≡ m.corrections → n.job ≡ m.job → Keeps w n b
  unfolding bench_in
  same_job n none w-same c j = idle_keeps n none w-same c (ap (λ (x : Job). x.job) j ∙ none) (subst RoomWith (sym j) h.rel.room)

  -- re-apply is refused while a job runs
  reapply_keeps : (t : ℕ) → Kept b (switches.reapply m t)
  unfolding switches.reapply
  reapply_keeps t =
      either (Kept b) (late t) (refused_keeps b refusal.Late)
      (by_test (λ u. Kept b (cond (not u) (refused_with refusal.Busy m) (reapplied t))) (eqb m.job.job 0)
      (λ e. let c = reapply_carried m t in rw c.answer (same_job (reapplied t).pw (eqb-true m.job.job 0 e) c.leaves.1 c.leaves.2 c.job))
      (λ e. refused_keeps b refusal.Busy))

  -- ---- job starts

  begun_keeps : (k : Kind) (now : ℕ) → Rel w (begun now k (bench_in m)).bench (started k m.ranges b)
  unfolding begun bench_in
  begun_keeps k now =
      let t = with_job (bench_in m) (noted k (bench_in m)) in
      rw (step_as_law k now 0 t refl)
      (record {
        held = h.rel.held;
        room = record { zx = h.rel.room.zx; zd = h.rel.room.zd; job_zx = h.rel.room.zx; job_zd = h.rel.room.zd; vgain = h.rel.room.vgain; raw = h.rel.room.raw; ref = h.rel.room.ref };
        runs = step_serves (setting_of w m.ranges b.zeros) t k m.ranges [] 0
            (record { job = refl; res = refl; save = refl; vr = refl; used = refl; low = omega arith; len = refl; results = nothing k t });
      })
    where
      nothing : (q : Kind) (t : Bench) → Results q (setting_of w m.ranges b.zeros) 0 t []
      nothing Zero t = record { zx = λ i i6 is. absurd (omega arith); zd = λ i i6 is. absurd (omega arith) }
      nothing Gain t = record { dc = λ i. absurd (omega arith); raw0 = λ i. absurd (omega arith); ref0 = λ i. absurd (omega arith); raw1 = λ i. absurd (omega arith) }

  -- a start refused with 3 notes its result, and no job runs
  away_keeps : (k : Kind) → m.job.job ≡ 0 → Keeps w (job_turned_away m k) b
  unfolding job_turned_away with_bench bench_in turned_away
  away_keeps k none = idle_keeps (job_turned_away m k) none refl refl none h.rel.room

  away_kept : (k : Kind) → m.job.job ≡ 0 → Kept (started k m.ranges b) (refused_with refusal.Method (job_turned_away m k))
  unfolding refused_with
  away_kept k e = away_keeps k e

  accepted_kept : (k : Kind) (t : ℕ) → Kept (started k m.ranges b) (started_step (job_started m k t))
  unfolding job_started marked bench_in
  accepted_kept k t = record { calibration = h.calibration; rel = begun_keeps k t }

  start_keeps : (k : Kind) (t : ℕ) → Kept (started k m.ranges b) (start_job m t k)
  unfolding start_job
  start_keeps k t =
      let u = started k m.ranges b in
      either (Kept u) (late t) (refused_keeps u refusal.Late)
      (either (Kept u) (not m.mode.on) (refused_keeps u refusal.Off)
      (by_test (λ v. Kept u (cond (not v) (refused_with refusal.Busy m) (cond m.mode.alt (refused_with refusal.Method (job_turned_away m k)) (started_step (job_started m k t))))) (eqb m.job.job 0)
      (λ e. either (Kept u) m.mode.alt (away_kept k (eqb-true m.job.job 0 e)) (accepted_kept k t)) (λ e. refused_keeps u refusal.Busy)))

  -- ---- frames

  module _ (t flags : ℕ) (bytes : List ℕ) where
    abbrev call : Call
    call = Frame t flags bytes

    abbrev noted_as : Book
    noted_as = framed w flags (codes_of bytes) b.zeros b.gain b.job

    -- outside a job
    outside_keeps : m.job.job ≡ 0 → Kept noted_as (step m call)
    outside_keeps none =
        let l = outside_leaves m t flags bytes (eq-eqb m.job.job 0 none) in
        let k : Keeps w (step m call).pw b = same_job (step m call).pw none (made_with m call).1 l.0 l.1 in
        either (Keeps w (step m call).pw) (is_err (step m call).answer) k (changes_nothing b.job (book_idle w m b h none) k)
      where
        changes_nothing : (q : Running) → q ≡ idle → Keeps w (step m call).pw (book b.zeros b.gain q) → Keeps w (step m call).pw (framed w flags (codes_of bytes) b.zeros b.gain q)
        changes_nothing idle e k = k
        changes_nothing (serving k r fs) e i = cc

    -- in a job
    job_keeps : (m.job.job ≡ 0 → ⊥) → Rel w (job_frame t m.calibration flags (codes_of bytes) (bench_in m)).bench noted_as
    unfolding bench_in
    job_keeps runs = subst (λ (c : Calibration). Rel w (job_frame t c flags (codes_of bytes) (bench_in m)).bench noted_as) (sym h.calibration) (go b.job h.rel.runs)
      where
        go : (q : Running) → Runs w (bench_in m) b.zeros q → Rel w (job_frame t w flags (codes_of bytes) (bench_in m)).bench (framed w flags (codes_of bytes) b.zeros b.gain q)
        go idle p = absurd (runs p)
        go (serving k r fs) p =
            frame_keeps t w b (bench_in m) k r fs (codes_of bytes) (record { held = h.rel.held; room = h.rel.room; runs = p }) flags

    polled_keeps : (m.job.job ≡ 0 → ⊥) → Keeps w (job_polled m t flags (codes_of bytes)).pw noted_as
    unfolding job_polled bench_in
    polled_keeps runs = record { calibration = h.calibration; rel = job_keeps runs }

    in_job_keeps : (m.job.job ≡ 0 → ⊥) → Kept noted_as (step m call)
    in_job_keeps runs =
        refused_or_done (λ u. Keeps w (step m call).pw (cond u b noted_as)) (step m call).answer (λ e. subst (λ (n : Pw). Keeps w n b) (sym (refused_leaves m call refl e)) h)
        (λ d. subst (λ (s : Step). Keeps w s.pw noted_as) (sym (in_job_law m t flags bytes (ne_eqb m.job.job 0 runs) d)) (polled_keeps runs))

    poll_keeps : Kept noted_as (step m call)
    poll_keeps = go (eqb m.job.job 0) (eqb-true m.job.job 0) (eqb-false m.job.job 0)
      where
        go : (u : Bool) → (u ≡ true → m.job.job ≡ 0) → (u ≡ false → m.job.job ≡ 0 → ⊥) → Kept noted_as (step m call)
        go true f g = outside_keeps (f refl)
        go false f g = in_job_keeps (g refl)

-- ---- every call, every list

pub call_keeps : (w : Calibration) (m : Pw) (b : Book) (c : Call) → Keeps w m b → Keeps w (step m c).pw (entry w (asked m c) c b)
call_keeps w m b (ZeroJob t) h = start_keeps w m b h Zero t
call_keeps w m b (GainJob t) h = start_keeps w m b h Gain t
call_keeps w m b PhaseStart h = phase_keeps w m b h
call_keeps w m b EnergyReset h = reset_keeps w m b h
call_keeps w m b (Run on) h = run_keeps w m b h on
call_keeps w m b (Reapply t) h = reapply_keeps w m b h t
call_keeps w m b (SetSettings s) h = settings_keeps w m b h s
call_keeps w m b (Frame t flags bytes) h = poll_keeps w m b h t flags bytes
call_keeps w m b c h = ends w m b h c refl refl refl

list_keeps : (w : Calibration) (cs : List Call) (m : Pw) (b : Book) → Keeps w m b → Keeps w (after m cs) (books w m cs b)
list_keeps w [] m b h = h
list_keeps w (c ∷ cs) m b h = list_keeps w cs (step m c).pw (entry w (asked m c) c b) (call_keeps w m b c h)

-- ---- a meter just made

new_keeps : (d : Description) (w : Calibration) → Keeps w (new_pw d w) blank
unfolding new_pw bench_in zeros_in
new_keeps d w =
    record {
      calibration = refl;
      rel = record {
        held = record { zeros = refl; no_zeros = λ e. (refl, refl, refl); gains = gains; bounded = λ i x e. cc };
        room = record { zx = refl; zd = refl; job_zx = refl; job_zd = refl; vgain = refl; raw = refl; ref = refl };
        runs = refl;
      };
    }
  where
    gains : (i : ℕ) → i < 4 → get_or (replicate 4 zero_f) i nan ≡ zero_f
    gains zero h = refl
    gains (suc zero) h = refl
    gains (suc (suc zero)) h = refl
    gains (suc (suc (suc zero))) h = refl
    gains (suc (suc (suc (suc i)))) h = absurd (omega arith)

made_keeps : (d : Description) (words : List ℕ) (valid : Bool) (m : Pw) → make d words valid ≡ Ok m → Keeps (fed words valid) m blank
made_keeps d words valid m e = go (six_in_bounds d) (eqb (length words) 73) (sym (makes d words valid) ∙ e)
  where
    go : (six enough : Bool) → cond six (cond enough (Ok (new_pw d (fed words valid))) (Err refusal.Words)) (Err refusal.Description) ≡ Ok m → Keeps (fed words valid) m blank
    go true true i = let same : new_pw d (fed words valid) ≡ m = cc in subst (λ (n : Pw). Keeps (fed words valid) n blank) same (new_keeps d (fed words valid))
    go true false i = cc
    go false enough i = cc

pub reached : (d : Description) (words : List ℕ) (valid : Bool) (m : Pw) → make d words valid ≡ Ok m → (cs : List Call) → Keeps (fed words valid) (after m cs) (books (fed words valid) m cs blank)
reached d words valid m e cs = list_keeps (fed words valid) cs m blank (made_keeps d words valid m e)
