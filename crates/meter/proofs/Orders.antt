-- How each order ends: refused as the table says, or carried out.
use mathlib.Core.Path.{◌≡◌}
use mathlib.Core.Bool.{Bool, true, false, not, ◌||◌, cond, true≢false}
use Prim.Native.Nat.{ℕ}
use lib.Dec.{eqb}
use Rattle.std.proofs.Common.{Option, Some, None, unwrap_or}
use Rattle.refusals.specs.declared.Refusal.{Refusal}
use Rattle.refusals.specs.declared.Refusal.TheVariants as refusal
use Rattle.codes.specs.Frame.{codes_of}
use Rattle.state.specs.declared.Job.{Job}
use Rattle.state.specs.declared.Pw.{Pw}
use Rattle.state.specs.declared.Settings.{Settings}
use Rattle.steps.specs.declared.place.Kind.TheVariants.{Zero, Gain}
use Rattle.jobs.specs.Whole.{job_polled, job_started}
use Rattle.orders.specs.declared.answer.Step.{Step}
use Rattle.orders.specs.Answer.{late, refused_with}
use Rattle.orders.specs.Apply.{aborted}
use Rattle.orders.specs.Switches as switches
use Rattle.orders.specs.Ranges.{set_ranges}
use Rattle.orders.specs.Starts as starts
use Rattle.orders.specs.Starts.{started_step, start_job}
use Rattle.orders.proofs.Stated.{Leaves, leaves_all, Carried, on_carried, off_carried, method_carried, coupling_carried, ranges_carried, reapply_carried, start_carried, phase_carried, reset_carried, run_carried, settings_carried, turned_away_leaves}
use Rattle.meter.specs.Calls.{step, Call, On, Off, Method, SetRanges, Coupling, ZeroJob, GainJob, PhaseStart, EnergyReset, Run, Reapply, SetSettings, Frame, Named, frame, job_start, about}
use Rattle.meter.specs.Table.{refusal_of, turned_away, left_by}

abbrev pub is_frame : Call → Bool
is_frame (Frame t flags bytes) = true
is_frame _ = false

-- the call's time; 0 for those that carry none, which give no mark
abbrev pub time_of : Call → ℕ
time_of c = unwrap_or (about c).time 0

-- the job's record after an accepted call: ended by five orders, begun by two, carried on by a frame while it runs, and by all else left
abbrev pub job_left_as : Pw → ℕ → Named → Job
job_left_as m t (job_start k) = (job_started m k t).pw.job
job_left_as m t (frame t' flags bytes) = cond (eqb m.job.job 0) m.job (job_polled m t' flags (codes_of bytes)).pw.job
job_left_as m t _ = m.job

abbrev pub job_left : Pw → Call → Job
job_left m c = cond (about c).ends_job (aborted m).job (job_left_as m (time_of c) (about c).named)

-- the settings after an accepted call: one order writes them, whole
abbrev pub settings_left : Pw → Call → Settings
settings_left m (SetSettings s) = s
settings_left m _ = m.settings

-- refused with n, and the meter left as the table says; or carried out
pub data Ends (m : Pw) (c : Call) : Option Refusal → Step → Type 0 where
  refused : (n : Refusal) → Ends m c (Some n) (refused_with n (left_by (Some n) m c))
  carried : {s : Step} → Carried (time_of c) m (job_left m c) (settings_left m c) s → Ends m c None s

-- a row of the table: where its test holds the refusal is this row's, else that of the rows below
or_below : (m : Pw) (c : Call) (b : Bool) {n o : Option Refusal} {s u : Step} → Ends m c n s → Ends m c o u → Ends m c (cond b n o) (cond b s u)
or_below m c true here below = here
or_below m c false here below = below

pub order_ends : (m : Pw) (c : Call) → is_frame c ≡ false → Ends m c (refusal_of m c) (step m c)
unfolding switches.on switches.off switches.method switches.coupling switches.reapply set_ranges start_job starts.phase_start
order_ends m (On t) e = or_below m (On t) (late t) (refused refusal.Late) (carried (on_carried m t))
order_ends m (Off t) e = or_below m (Off t) (late t) (refused refusal.Late) (carried (off_carried m t))
order_ends m (Method t alt) e = or_below m (Method t alt) (late t) (refused refusal.Late) (carried (method_carried m t alt))
order_ends m (SetRanges t v i) e = or_below m (SetRanges t v i) (late t) (refused refusal.Late) (carried (ranges_carried m t v i))
order_ends m (Coupling t asked) e = or_below m (Coupling t asked) (late t) (refused refusal.Late) (carried (coupling_carried m t asked))
order_ends m (ZeroJob t) e =
    let c = ZeroJob t in
    or_below m c (late t) (refused refusal.Late)
    (or_below m c (not m.mode.on) (refused refusal.Off)
    (or_below m c (not (eqb m.job.job 0)) (refused refusal.Busy) (or_below m c m.mode.alt (refused refusal.Method) (carried (start_carried m t Zero)))))
order_ends m (GainJob t) e =
    let c = GainJob t in
    or_below m c (late t) (refused refusal.Late)
    (or_below m c (not m.mode.on) (refused refusal.Off)
    (or_below m c (not (eqb m.job.job 0)) (refused refusal.Busy) (or_below m c m.mode.alt (refused refusal.Method) (carried (start_carried m t Gain)))))
order_ends m PhaseStart e =
    or_below m PhaseStart (not m.mode.on) (refused refusal.Off) (or_below m PhaseStart (m.mode.alt || m.mode.dc) (refused refusal.Method) (carried (phase_carried m 0)))
order_ends m EnergyReset e = carried (reset_carried m 0)
order_ends m (Run b) e = carried (run_carried m 0 b)
order_ends m (Reapply t) e =
    or_below m (Reapply t) (late t) (refused refusal.Late) (or_below m (Reapply t) (not (eqb m.job.job 0)) (refused refusal.Busy) (carried (reapply_carried m t)))
order_ends m (SetSettings s) e = carried (settings_carried m 0 s)
order_ends m (Frame t flags bytes) e = absurd (true≢false e)

-- what holds of a refused order, and of one that is carried out, holds of every order
pub order_holds : (P : Step → Type 0) (m : Pw) (c : Call) → is_frame c ≡ false → ((n : Refusal) → P (refused_with n (left_by (Some n) m c)))
    → ((s : Step) → Carried (time_of c) m (job_left m c) (settings_left m c) s → P s) → P (step m c)
order_holds P m c e away done = go (order_ends m c e)
  where
    go : {n : Option Refusal} {s : Step} → Ends m c n s → P s
    go (refused n) = away n
    go (carried h) = done _ h

-- what no order changes, no refused one changes either
pub refused_leaves : (m : Pw) (c : Call) (n : Refusal) → Leaves m (left_by (Some n) m c)
refused_leaves m c refusal.Method = go (about c).named
  where
    go : (a : Named) → Leaves m (turned_away m a)
    go (job_start k) = (turned_away_leaves m k).0
    go _ = leaves_all m
refused_leaves m c _ = leaves_all m
