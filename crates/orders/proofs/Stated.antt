-- What follows from the definitions: what an order that is not refused answers, what every order leaves as it was, and what it means that an order first ends a job.
use mathlib.Core.Path.{◌≡◌, refl}
use mathlib.Core.Bool.{Bool, true, false, not, ◌&&◌, cond}
use mathlib.Core.Logic.{inl, inr}
use Prim.Native.Nat.{ℕ}
use borrow.Author.Tests.{eqb-true}
use lib.Dec.{eqb}
use Rattle.numbers.proofs.Cases.{either}
use Rattle.std.specs.Prelude.{Option, None, Ok}
use Rattle.tables.specs.Constants.{coup_dc, jr_abort, settle_ms}
use Rattle.tables.specs.Ranges.{coup_of}
use Rattle.figures.specs.Tally.{fresh_tally}
use Rattle.state.specs.declared.Job.{Job}
use Rattle.state.specs.declared.Pw.{Pw}
use Rattle.state.specs.declared.Settings.{Settings}
use Rattle.state.specs.Fresh.{no_time}
use Rattle.state.proofs.Marks.{MarkAt, of_apply}
use Rattle.ranging.specs.declared.apply.Keep.{Keep}
use Rattle.ranging.specs.declared.apply.Keep.TheVariants.{Nothing}
use Rattle.ranging.specs.Apply.{apply}
use Rattle.steps.specs.declared.place.Kind.{Kind}
use Rattle.steps.specs.Place.{settle_of}
use Rattle.phase.specs.Phase.{cal_started}
use Rattle.jobs.specs.declared.bench.Bench.{Bench}
use Rattle.jobs.specs.Bench.{place_in, at_step, noted, ended, ended_if_any, step_at, begun}
use Rattle.jobs.specs.Whole.{bench_in, with_bench, job_started, job_turned_away, job_ended}
use Rattle.jobs.proofs.Stated.{settle_of_law}
use Rattle.orders.specs.declared.answer.Step.{Step}
use Rattle.orders.specs.declared.ranges.Ask.{Ask}
use Rattle.orders.specs.With.{with_on, with_alt, with_coup, with_cal_req, with_run, with_t_last, with_mode, with_ranges, with_tally, with_settings, with_phase_cal}
use Rattle.orders.specs.Answer.{marked, done}
use Rattle.orders.specs.Apply.{applied, applied_if_on, aborted}
use Rattle.orders.specs.Switches.{switched_on, switched_off, method_set, takes_force, coupling_set}
use Rattle.orders.specs.Ranges.{ranges_asked, barred_asked, same_ranges, keep_of, ranges_set}
use Rattle.orders.specs.Starts.{started_step, energy_reset, set_run, set_settings}

-- what no order changes: description and words, zeros and gains, smoothed values, the powers of the next interval, since when the current is above its limit, the ring, and the last frame's time
abbrev pub Leaves : Pw → Pw → Type 0
Leaves m n =
    (n.description ≡ m.description) × (n.calibration ≡ m.calibration) × (n.corrections ≡ m.corrections) × (n.parts ≡ m.parts) × (n.powers ≡ m.powers)
    × (n.over_t0 ≡ m.over_t0) × (n.ring ≡ m.ring) × (n.clock.t_poll ≡ m.clock.t_poll)

pub leaves_all : (m : Pw) → Leaves m m
leaves_all m = (refl, refl, refl, refl, refl, refl, refl, refl)

-- an order of the time t on m that is carried out, with the job and the settings that it leaves: done, with no frame counted and no reading; its mark, if any, has "the deadline (the call's time plus the source's settle)"
pub record Carried (t : ℕ) (m : Pw) (j : Job) (w : Settings) (s : Step) : Type 0 where
  pub mark : Option ℕ
  pub answer : s.answer ≡ Ok (record { mark = mark; used = 0; reading = None })
  pub due : MarkAt t mark
  pub leaves : Leaves m s.pw
  pub job : s.pw.job ≡ j
  pub settings : s.pw.settings ≡ w

-- ---- an order that ends a job

-- "first end a job with `JR_ABORT`": none runs after it
pub aborted_none : (m : Pw) → (aborted m).job.job ≡ 0
unfolding aborted job_ended with_bench ended_if_any ended bench_in
aborted_none m = go (eqb m.job.job 0) (eqb-true m.job.job 0)
  where
    go : (none : Bool) → (none ≡ true → m.job.job ≡ 0) → (cond none (bench_in m) (ended jr_abort (bench_in m))).job.job ≡ 0
    go true f = f refl
    go false f = refl

-- one that ran has ended with `JR_ABORT`; "ranges and marks become those noted", and the host is to re-apply if the meter is on
pub aborted_running : (m : Pw) → eqb m.job.job 0 ≡ false
    → ((aborted m).job.job_res ≡ jr_abort) × ((aborted m).ranges ≡ m.job.job_save) × ((aborted m).mode ≡ with_cal_req m.mode m.mode.on)
unfolding aborted job_ended with_bench ended_if_any ended bench_in
aborted_running m e = (rw (e), rw (e), rw (e))

-- where none runs nothing changes
pub aborted_idle : (m : Pw) → eqb m.job.job 0 ≡ true → aborted m ≡ m
unfolding aborted job_ended with_bench ended_if_any bench_in
aborted_idle m e = rw (e)

aborted_leaves : (m : Pw) → Leaves m (aborted m)
unfolding aborted job_ended with_bench ended_if_any ended bench_in
aborted_leaves m =
    either (λ (b : Bench). Leaves m (with_bench m b)) (eqb m.job.job 0) {x = bench_in m} {y = ended jr_abort (bench_in m)} (leaves_all m) (leaves_all m)

aborted_settings : (m : Pw) → (aborted m).settings ≡ m.settings
unfolding aborted job_ended with_bench
aborted_settings m = refl

-- ---- each order, once it is not refused

module _ (t : ℕ) (m : Pw) (j : Job) (w : Settings) where
  applied_carried : (keep : Keep) (n : Pw) → Leaves m n → n.job ≡ j → n.settings ≡ w → Carried t m j w (applied keep n t)
  unfolding applied marked apply
  applied_carried keep n l e f = record { mark = _; answer = refl; due = inr (settle_ms, of_apply, refl); leaves = l; job = e; settings = f }

  done_carried : (n : Pw) → Leaves m n → n.job ≡ j → n.settings ≡ w → Carried t m j w (done n)
  unfolding done marked
  done_carried n l e f = record { mark = None; answer = refl; due = inl refl; leaves = l; job = e; settings = f }

module _ (m : Pw) (t : ℕ) where
  abbrev Ends : Step → Type 0
  Ends = Carried t m (aborted m).job m.settings

  pub on_carried : Ends (switched_on (aborted m) t)
  unfolding switched_on
  on_carried = let n = aborted m in applied_carried t m n.job m.settings Nothing (with_mode n (with_on n.mode true (eqb n.mode.coup coup_dc))) (aborted_leaves m) refl (aborted_settings m)

  pub off_carried : Ends (switched_off (aborted m))
  unfolding switched_off
  off_carried = let n = aborted m in done_carried t m n.job m.settings (with_mode n (with_on n.mode false n.mode.dc)) (aborted_leaves m) refl (aborted_settings m)

  pub method_carried : (alt : Bool) → Ends (method_set (aborted m) t alt)
  unfolding method_set applied_if_on
  method_carried alt =
      let n = with_mode (aborted m) (with_alt (aborted m).mode alt) in
      either Ends n.mode.on (applied_carried t m n.job m.settings Nothing n (aborted_leaves m) refl (aborted_settings m)) (done_carried t m n.job m.settings n (aborted_leaves m) refl (aborted_settings m))

  pub coupling_carried : (asked : ℕ) → Ends (coupling_set (aborted m) t asked)
  unfolding coupling_set
  coupling_carried asked =
      let n = aborted m in
      let dc = eqb (coup_of asked) coup_dc in
      either Ends (takes_force dc n.mode n.job.job_res)
      (applied_carried t m n.job m.settings Nothing (with_mode n (with_coup n.mode (coup_of asked) dc)) (aborted_leaves m) refl (aborted_settings m))
      (done_carried t m n.job m.settings (with_mode n (with_coup n.mode (coup_of asked) n.mode.dc)) (aborted_leaves m) refl (aborted_settings m))

  pub ranges_carried : (v i : Ask) → Ends (ranges_set (aborted m) t v i)
  unfolding ranges_set
  ranges_carried v i =
      let n = aborted m in
      let r = ranges_asked v i n.ranges in
      let after = with_ranges n r (barred_asked i n.barred) in
      either Ends (n.mode.on && not (same_ranges n.ranges r)) (applied_carried t m n.job m.settings (keep_of n.ranges r) after (aborted_leaves m) refl (aborted_settings m))
      (done_carried t m n.job m.settings after (aborted_leaves m) refl (aborted_settings m))

  pub reapply_carried : Carried t m m.job m.settings (applied Nothing (with_mode m (with_cal_req m.mode false)) t)
  reapply_carried = applied_carried t m m.job m.settings Nothing (with_mode m (with_cal_req m.mode false)) (leaves_all m) refl refl

  pub start_carried : (k : Kind) → Carried t m (job_started m k t).pw.job m.settings (started_step (job_started m k t))
  unfolding job_started begun step_at bench_in marked
  start_carried k = let p = place_in (at_step 0 (noted k (bench_in m))) in record { mark = _; answer = refl; due = inr (settle_of p, settle_of_law p, refl); leaves = leaves_all m; job = refl; settings = refl }

  -- these four carry no time, and give no mark
  pub phase_carried : Carried t m m.job m.settings (done (with_phase_cal m (cal_started m.phase_cal)))
  phase_carried = done_carried t m m.job m.settings (with_phase_cal m (cal_started m.phase_cal)) (leaves_all m) refl refl

  pub reset_carried : Carried t m m.job m.settings (energy_reset m)
  unfolding energy_reset
  reset_carried = done_carried t m m.job m.settings (with_tally m fresh_tally (with_t_last m.clock no_time)) (leaves_all m) refl refl

  pub run_carried : (b : Bool) → Carried t m m.job m.settings (set_run m b)
  unfolding set_run
  run_carried b = done_carried t m m.job m.settings (with_tally m m.tally (with_run m.clock b)) (leaves_all m) refl refl

  pub settings_carried : (w : Settings) → Carried t m m.job w (set_settings m w)
  unfolding set_settings
  settings_carried w = done_carried t m m.job w (with_settings m w) (leaves_all m) refl refl

-- a start that is refused with 3 changes the job's record alone
pub turned_away_leaves : (m : Pw) (k : Kind) → Leaves m (job_turned_away m k) × ((job_turned_away m k).settings ≡ m.settings)
unfolding job_turned_away with_bench bench_in
turned_away_leaves m k = (leaves_all m, refl)
