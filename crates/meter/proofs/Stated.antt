-- Document 01's sentences on calls, of every meter: what each call answers and leaves, by the definitions.
use Rattle.std.specs.Prelude.{Ok, Err, Result, is_err, IfOk, Option, None, Some}
use mathlib.Core.Path.{◌≡◌, refl, sym, ap, ◌∙◌, subst}
use mathlib.Core.Bool.{Bool, true, false, not, ◌&&◌, cond, true≢false}
use mathlib.Core.Logic.{inl}
use mathlib.Core.List.{List}
use Prim.Native.Nat.{ℕ}
use Rattle.std.proofs.Common.{Some, None, Result, Ok, Err, is_ok, IsOk}
use lib.Dec.{eqb}
use lib.ListN.{length}
use Rattle.figures.proofs.Exactly.{OnlyFull}
use Rattle.numbers.proofs.Cases.{either, by_test}
use Rattle.refusals.specs.declared.Refusal.{Refusal}
use Rattle.refusals.specs.declared.Refusal.TheVariants as refusal
use Rattle.codes.specs.declared.Codes.{Codes}
use Rattle.codes.specs.Frame.{codes_of, decoded}
use Rattle.tables.specs.declared.description.Description.{Description}
use Rattle.std.specs.List.{list_all}
use Rattle.tables.specs.Calibration.{calibration_of}
use Rattle.tables.specs.Description.{in_bounds, check_description}
use Rattle.figures.specs.declared.load.Figures.{Figures}
use Rattle.state.specs.declared.Job.{Job}
use Rattle.state.specs.declared.Pw.{Pw}
use Rattle.state.specs.Fresh.{new_pw}
use Rattle.state.proofs.Marks.{MarkAt}
use Rattle.paths.specs.Whole.{setup_in, measuring_in, with_measuring}
use Rattle.paths.proofs.Stated as path
use Rattle.jobs.specs.Whole.{job_polled}
use Rattle.jobs.proofs.Stated as job
use Rattle.values.specs.declared.power_vals.PowerVals.{PowerVals}
use Rattle.values.specs.Vals.{pw_vals}
use Rattle.accounting.specs.Account.{account}
use Rattle.accounting.proofs.Stated.{Untouched, untouched, refused_full}
use Rattle.orders.specs.declared.answer.Answer.{Answer}
use Rattle.orders.specs.declared.answer.Step.{Step}
use Rattle.orders.specs.With.{with_on, with_mode}
use Rattle.orders.specs.Answer.{late, refused_with, marked, done, mark_told, used_told, reading_told}
use Rattle.orders.specs.Apply.{aborted}
use Rattle.orders.specs.Switches as switches
use Rattle.orders.specs.Switches.{switched_off}
use Rattle.orders.proofs.Stated.{Leaves, aborted_none, aborted_idle, reset_carried, run_carried, settings_carried}
use Rattle.meter.specs.Making.{make, made_by}
use Rattle.meter.specs.Frame.{PathEnd, accounted_step, read_to, read, valued_by, valued, framed, measured, polled_step, in_job, taken, poll_by, poll, frame_at}
use Rattle.meter.specs.Calls.{step, Call, Off, PhaseStart, EnergyReset, Run, Reapply, SetSettings, Frame, Named, frame, job_start, about}
use Rattle.meter.specs.Table.{turned_away, left_by}
use Rattle.meter.proofs.Orders.{is_frame, time_of, job_left, settings_left, order_holds, refused_leaves}

-- what an accounting that is not refused leaves as it was
left_untouched : (p n : Pw) (load : Figures) (t : ℕ) → account p load t ≡ Ok n → Untouched n p
left_untouched p n load t e = subst (λ (a : Result Pw Refusal). IfOk a (λ (x : Pw). Untouched x p)) e (untouched p load t)

-- ---- a frame, by how it can end

module _ (P : Step → Type 0) (m : Pw) (refused : (n : Refusal) → P (refused_with n m)) where
  module _ (t flags : ℕ) (bytes : List ℕ) where
    abbrev codes : Codes
    codes = codes_of bytes

    abbrev end : PathEnd
    end = framed m t flags codes

    -- with no values; and with values, accounted
    abbrev Unvalued : Type 0
    Unvalued = P (marked end.pw end.mark)

    abbrev Accounted : Type 0
    Accounted = (load : Figures) (n : Pw) → account end.pw load t ≡ Ok n → P (accounted_step n end.mark)

    read_ends : (a : Result Pw Refusal) → OnlyFull a → ((n : Pw) → a ≡ Ok n → P (accounted_step n end.mark)) → P (read_to m end.mark a)
    read_ends (Ok n) f h = h n refl
    read_ends (Err r) f h = refused r

    valued_ends : (v : Option PowerVals) → Unvalued → Accounted → P (valued_by m end.pw t end.mark v)
    unfolding read
    valued_ends None unvalued accounted = unvalued
    valued_ends (Some v) unvalued accounted = read_ends (account end.pw v.load t) (refused_full end.pw v.load t) (accounted v.load)

    measured_ends : Unvalued → Accounted → P (measured m t flags codes)
    unfolding measured valued
    measured_ends unvalued accounted = either P end.to_values (valued_ends (pw_vals end.pw) unvalued accounted) unvalued

    frame_ends : (eqb m.job.job 0 ≡ false → P (in_job m t flags codes)) → (eqb m.job.job 0 ≡ true → Unvalued × Accounted) → P (step m (Frame t flags bytes))
    unfolding poll decoded taken
    frame_ends within outside =
        either P (late t) (refused refusal.Late)
        (by_test (λ b. P (poll_by m t flags (cond b (Ok codes) (Err refusal.Frame)))) (eqb (length bytes) 14)
        (λ e. either P (not m.mode.on) (refused refusal.Off)
        (by_test (λ b. P (cond (not b) (in_job m t flags codes) (measured m t flags codes))) (eqb m.job.job 0) (λ i. measured_ends (outside i).0 (outside i).1) within))
        (λ e. refused refusal.Frame))

every_call : (Q : Call → Type 0) → ((c : Call) → is_frame c ≡ false → Q c) → ((t flags : ℕ) (bytes : List ℕ) → Q (Frame t flags bytes)) → (c : Call) → Q c
every_call Q order polled (Frame t flags bytes) = polled t flags bytes
every_call Q order polled c = order c refl

abbrev IsDone : Step → Type 0
IsDone s = IsOk s.answer

not_done : (m : Pw) (n : Refusal) → IsDone (refused_with n m) → ⊥
unfolding refused_with
not_done m n d = true≢false (sym d)

-- ---- every order

-- of an order the count is 0 and there is no reading; its mark, if any, has the deadline; and it leaves what no order changes, the last frame's time and the zeros and gains among it
pub order_leaves : (m : Pw) (c : Call) → is_frame c ≡ false → let s = step m c in
    (used_told s.answer ≡ 0) × (reading_told s.answer ≡ None) × MarkAt (time_of c) (mark_told s.answer) × Leaves m s.pw
unfolding refused_with
order_leaves m c f =
    order_holds (λ s. (used_told s.answer ≡ 0) × (reading_told s.answer ≡ None) × MarkAt (time_of c) (mark_told s.answer) × Leaves m s.pw) m c f
    (λ n. (refl, refl, inl refl, refused_leaves m c n))
    (λ s h. (ap used_told h.answer, ap reading_told h.answer, subst (λ (a : Result Answer Refusal). MarkAt (time_of c) (mark_told a)) (sym h.answer) h.due, h.leaves))

-- "off clears only `on`"
pub off_clears_on : (m : Pw) (t : ℕ) → late t ≡ false → eqb m.job.job 0 ≡ true → (step m (Off t)).pw ≡ with_mode m (with_on m.mode false m.mode.dc)
unfolding switches.off switched_off done marked
off_clears_on m t l e = rw (l, aborted_idle m e)

-- ---- a frame

-- what a frame in a job leaves
abbrev pub InJob : Pw → Pw → Type 0
InJob m n =
    (n.tally ≡ m.tally) × (n.parts ≡ m.parts) × (n.powers ≡ m.powers) × (n.clock.run ≡ m.clock.run) × (n.clock.t_last ≡ m.clock.t_last) × (n.over_t0 ≡ m.over_t0)
    × (n.settings ≡ m.settings) × (n.phase_cal ≡ m.phase_cal) × (n.barred ≡ m.barred) × (n.comparator ≡ m.comparator) × (n.ring ≡ m.ring)

in_job_all : (m : Pw) → InJob m m
in_job_all m = (refl, refl, refl, refl, refl, refl, refl, refl, refl, refl, refl)

abbrev MadeWith : Pw → Pw → Type 0
MadeWith m n = (n.description ≡ m.description) × (n.calibration ≡ m.calibration)

module _ (m : Pw) (t flags : ℕ) (bytes : List ℕ) where
  abbrev frame_step : Step
  frame_step = step m (Frame t flags bytes)

  frame_poll : frame_step.pw.clock.t_poll ≡ cond (is_ok frame_step.answer) t m.clock.t_poll
  unfolding refused_with in_job job_polled framed marked
  frame_poll =
      frame_ends (λ s. s.pw.clock.t_poll ≡ cond (is_ok s.answer) t m.clock.t_poll) m (λ n. refl) t flags bytes (λ e. refl)
      (λ e. (refl, λ load n a. (left_untouched (framed m t flags (codes_of bytes)).pw n load t a).16))

  -- "and 0 for a frame taken outside a job"
  pub outside_counts_none : eqb m.job.job 0 ≡ true → used_told frame_step.answer ≡ 0
  unfolding refused_with marked
  outside_counts_none none =
      frame_ends (λ s. used_told s.answer ≡ 0) m (λ n. refl) t flags bytes (λ e. absurd (true≢false (sym none ∙ e))) (λ e. (refl, λ load n a. refl))

  -- the zeros and gains, the job, and the settings: no frame outside a job changes them
  pub outside_leaves : eqb m.job.job 0 ≡ true → (frame_step.pw.corrections ≡ m.corrections) × (frame_step.pw.job ≡ m.job) × (frame_step.pw.settings ≡ m.settings)
  unfolding refused_with framed with_measuring marked
  outside_leaves none =
      frame_ends (λ s. (s.pw.corrections ≡ m.corrections) × (s.pw.job ≡ m.job) × (s.pw.settings ≡ m.settings)) m (λ n. (refl, refl, refl)) t flags bytes
      (λ e. absurd (true≢false (sym none ∙ e))) (λ e. ((refl, refl, refl), λ load n a. let u = left_untouched (framed m t flags (codes_of bytes)).pw n load t a in (u.3, u.4, u.2)))

  -- an accepted frame in a job is the job's
  pub in_job_law : eqb m.job.job 0 ≡ false → IsDone frame_step → frame_step ≡ polled_step (job_polled m t flags (codes_of bytes))
  unfolding in_job
  in_job_law runs =
      frame_ends (λ s. IsDone s → s ≡ polled_step (job_polled m t flags (codes_of bytes))) m (λ n d. absurd (not_done m n d)) t flags bytes (λ e d. refl)
      (λ e. absurd (true≢false (sym e ∙ runs)))

  -- "The answer reports how many ready frames the job has used"
  pub in_job_counts : eqb m.job.job 0 ≡ false → IsDone frame_step → used_told frame_step.answer ≡ frame_step.pw.job.used
  unfolding job_polled
  in_job_counts runs d = let h = in_job_law runs d in ap (λ (s : Step). used_told s.answer) h ∙ sym (ap (λ (s : Step). s.pw.job.used) h)

  -- "An accepted frame in a job, its last included, leaves energies and counted times as before, and smoothed values too"; a refused one leaves all
  pub in_job_leaves : eqb m.job.job 0 ≡ false → InJob m frame_step.pw
  unfolding refused_with in_job job_polled
  in_job_leaves runs = frame_ends (λ s. InJob m s.pw) m (λ n. in_job_all m) t flags bytes (λ e. in_job_all m) (λ e. absurd (true≢false (sym e ∙ runs)))

  frame_made_with : MadeWith m frame_step.pw
  unfolding refused_with in_job job_polled framed with_measuring marked
  frame_made_with =
      frame_ends (λ s. MadeWith m s.pw) m (λ n. (refl, refl)) t flags bytes (λ e. (refl, refl))
      (λ e. ((refl, refl), λ load n a. let u = left_untouched (framed m t flags (codes_of bytes)).pw n load t a in (u.0, u.1)))

  frame_mark : MarkAt t (mark_told frame_step.answer)
  unfolding refused_with in_job framed marked
  frame_mark =
      let at-end = path.frame_mark (setup_in m) (frame_at t flags (codes_of bytes)) (measuring_in m) in
      frame_ends (λ s. MarkAt t (mark_told s.answer)) m (λ n. inl refl) t flags bytes (λ e. job.frame_mark t m flags (codes_of bytes)) (λ e. (at-end, λ load n a. at-end))

-- ---- every call

-- "a mark to the host, with the deadline (the call's time plus the source's settle)"
pub marks_at : (m : Pw) (c : Call) → MarkAt (time_of c) (mark_told (step m c).answer)
marks_at m = every_call (λ c. MarkAt (time_of c) (mark_told (step m c).answer)) (λ c f. (order_leaves m c f).2) (frame_mark m)

-- "`t_poll` is the frame's time": an accepted frame's, and no other call moves it
pub polls_at : (m : Pw) (c : Call) → (step m c).pw.clock.t_poll ≡ cond (is_frame c && is_ok (step m c).answer) (time_of c) m.clock.t_poll
polls_at m =
    every_call (λ c. (step m c).pw.clock.t_poll ≡ cond (is_frame c && is_ok (step m c).answer) (time_of c) m.clock.t_poll)
    (λ c f. rw (f) (order_leaves m c f).3.7) (frame_poll m)

-- description and words are those that the meter was made with
pub made_with : (m : Pw) (c : Call) → ((step m c).pw.description ≡ m.description) × ((step m c).pw.calibration ≡ m.calibration)
made_with m = every_call (λ c. MadeWith m (step m c).pw) (λ c f. let l = (order_leaves m c f).3 in (l.0, l.1)) (frame_made_with m)

-- zeros and gains change only by a frame in a job
abbrev pub job_frame : Pw → Call → Bool
job_frame m c = is_frame c && not (eqb m.job.job 0)

not_false : (b : Bool) → not b ≡ false → b ≡ true
not_false true e = refl
not_false false e = absurd (true≢false e)

pub corrections_stay : (m : Pw) (c : Call) → job_frame m c ≡ false → (step m c).pw.corrections ≡ m.corrections
corrections_stay m =
    every_call (λ c. job_frame m c ≡ false → (step m c).pw.corrections ≡ m.corrections) (λ c f e. (order_leaves m c f).3.2) (λ t flags bytes e. (outside_leaves m t flags bytes (not_false (eqb m.job.job 0) e)).0)

-- an accepted call leaves the job's record so
pub job_left_law : (m : Pw) (c : Call) → IsDone (step m c) → (step m c).pw.job ≡ job_left m c
job_left_law m =
    every_call (λ c. IsDone (step m c) → (step m c).pw.job ≡ job_left m c)
    (λ c f. order_holds (λ s. IsDone s → s.pw.job ≡ job_left m c) m c f (λ n d. absurd (not_done (left_by (Some n) m c) n d)) (λ s h d. h.job))
    (λ t flags bytes d. by_test (λ b. (step m (Frame t flags bytes)).pw.job ≡ cond b m.job (job_polled m t flags (codes_of bytes)).pw.job) (eqb m.job.job 0)
    (λ e. (outside_leaves m t flags bytes e).1) (λ e. ap (λ (s : Step). s.pw.job) (in_job_law m t flags bytes e d)))

-- and the settings so
pub settings_left_law : (m : Pw) (c : Call) → IsDone (step m c) → (step m c).pw.settings ≡ settings_left m c
settings_left_law m =
    every_call (λ c. IsDone (step m c) → (step m c).pw.settings ≡ settings_left m c)
    (λ c f. order_holds (λ s. IsDone s → s.pw.settings ≡ settings_left m c) m c f (λ n d. absurd (not_done (left_by (Some n) m c) n d)) (λ s h d. h.settings))
    (λ t flags bytes d. by_test (λ b. (step m (Frame t flags bytes)).pw.settings ≡ m.settings) (eqb m.job.job 0)
    (λ e. (outside_leaves m t flags bytes e).2) (λ e. (in_job_leaves m t flags bytes e).6))

-- orders that neither begin nor end a job, refused or not, leave its record: phase start, energy reset, run, settings and re-apply
abbrev leaves_job : Named → Bool
leaves_job (job_start k) = false
leaves_job (frame t flags bytes) = false
leaves_job _ = true

abbrev pub keeps_job : Call → Bool
keeps_job c = not (about c).ends_job && leaves_job (about c).named

away_keeps : (m : Pw) (a : Named) → leaves_job a ≡ true → (turned_away m a).job ≡ m.job
away_keeps m (job_start k) e = absurd (true≢false (sym e))
away_keeps m _ e = refl

refused_keeps : (m : Pw) (c : Call) (n : Refusal) → leaves_job (about c).named ≡ true → (left_by (Some n) m c).job ≡ m.job
refused_keeps m c refusal.Method e = away_keeps m (about c).named e
refused_keeps m c _ e = refl

pub job_stays : (m : Pw) (c : Call) → keeps_job c ≡ true → (step m c).pw.job ≡ m.job
unfolding refused_with
job_stays m (Frame t flags bytes) e = absurd (true≢false (sym e))
job_stays m PhaseStart e = order_holds (λ s. s.pw.job ≡ m.job) m PhaseStart refl (λ n. refused_keeps m PhaseStart n refl) (λ s h. h.job)
job_stays m EnergyReset e = (reset_carried m 0).job
job_stays m (Run b) e = (run_carried m 0 b).job
job_stays m (SetSettings w) e = (settings_carried m 0 w).job
job_stays m (Reapply t) e = order_holds (λ s. s.pw.job ≡ m.job) m (Reapply t) refl (λ n. refused_keeps m (Reapply t) n refl) (λ s h. h.job)
job_stays m _ e = absurd (true≢false (sym e))

-- "first end a job with `JR_ABORT`": the job's record is that of the aborted job
pub ends_job : (m : Pw) (c : Call) → (about c).ends_job ≡ true → IsDone (step m c) → (step m c).pw.job ≡ (aborted m).job
ends_job m c e d = job_left_law m c d ∙ rw (e)

-- and none runs
pub none_runs : (m : Pw) (c : Call) → (about c).ends_job ≡ true → IsDone (step m c) → (step m c).pw.job.job ≡ 0
none_runs m c e d = ap (λ (j : Job). j.job) (ends_job m c e d) ∙ aborted_none m

-- ---- a meter is made

abbrev pub six_in_bounds : Description → Bool
six_in_bounds d = list_all in_bounds d.mv_div && list_all in_bounds d.shunt && in_bounds d.over

-- number 7: "one of its six numbers is NaN or outside 2^-20 to 2^20"; then 8: "calibration words not 73"; else the meter is a new one of these
pub makes : (d : Description) (words : List ℕ) (valid : Bool)
    → make d words valid ≡ cond (six_in_bounds d) (cond (eqb (length words) 73) (Ok (new_pw d (record { words = words; valid = valid }))) (Err refusal.Words)) (Err refusal.Description)
unfolding make check_description calibration_of
makes d words valid = go (six_in_bounds d) (eqb (length words) 73)
  where
    go : (six enough : Bool) → made_by d (cond six (Ok tt) (Err refusal.Description)) (cond enough (Ok (record { words = words; valid = valid })) (Err refusal.Words))
        ≡ cond six (cond enough (Ok (new_pw d (record { words = words; valid = valid }))) (Err refusal.Words)) (Err refusal.Description)
    go true true = refl
    go true false = refl
    go false enough = refl

-- so it is made exactly where both hold
pub made_exactly : (d : Description) (words : List ℕ) (valid : Bool) → is_ok (make d words valid) ≡ six_in_bounds d && eqb (length words) 73
made_exactly d words valid = rw (makes d words valid) (go (six_in_bounds d) (eqb (length words) 73))
  where
    go : (six enough : Bool) → is_ok (cond six (cond enough (Ok (new_pw d (record { words = words; valid = valid }))) (Err refusal.Words)) (Err refusal.Description)) ≡ six && enough
    go true true = refl
    go true false = refl
    go false enough = refl

-- 6: "whole frame undone": where the accounting of a frame is refused, the meter after it is the one before
pub full_undone : (before after : Pw) (v : PowerVals) (t : ℕ) (mark : Option ℕ) → is_err (read before after v t mark).answer ≡ true → (read before after v t mark).pw ≡ before
unfolding read refused_with
full_undone before after v t mark = go (account after v.load t)
  where
    go : (a : Result Pw Refusal) → is_err (read_to before mark a).answer ≡ true → (read_to before mark a).pw ≡ before
    go (Ok n) e = absurd (true≢false (sym e))
    go (Err r) e = refl
