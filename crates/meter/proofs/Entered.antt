-- A frame by parts is the frame of the definitions: the accounting changes the ledger alone, the values look at nothing else that it changes, and `cal_req` at nothing.
use Rattle.std.specs.Prelude.{Result, Ok, Err, Option, None, Some}
use mathlib.Core.Path.{◌≡◌, refl, ap, ◌∙◌}
use mathlib.Core.Bool.{Bool, true, false, not, cond}
use mathlib.Core.List.{List}
use Prim.Native.Nat.{ℕ}
use lib.Dec.{eqb}
use Rattle.refusals.specs.declared.Refusal.{Refusal}
use Rattle.refusals.specs.declared.Refusal.TheVariants as refusal
use Rattle.codes.specs.declared.Codes.{Codes}
use Rattle.codes.specs.declared.Frame.{Frame}
use Rattle.codes.specs.Frame.{decoded}
use Rattle.state.specs.declared.Pw.{Pw}
use Rattle.values.specs.declared.power_vals.PowerVals.{PowerVals}
use Rattle.values.specs.Methods.{alternating, simultaneous, ac_only, ac_dc}
use Rattle.values.specs.Methods as methods
use Rattle.figures.specs.declared.load.Figures.{Figures}
use Rattle.values.specs.Floors.{used_parts}
use Rattle.values.specs.Load.{load_figures, split}
use Rattle.values.specs.Marks.{limits, limits_of, dc_is_better, ac_is_missed, hint, frequency}
use Rattle.values.specs.Vals.{in_force, dc_volts, dc_amperes, values, pw_vals}
use Rattle.values.specs.Divided.{in_force_of, basis_in, load_of, values_of}
use Rattle.accounting.specs.declared.Ledger.{Ledger}
use Rattle.accounting.specs.Account.{account}
use Rattle.accounting.specs.Divided.{changing, posted, ledger_in, with_ledger}
use Rattle.accounting.proofs.Posting.{pw_of, account_posted}
use Rattle.orders.specs.declared.answer.Step.{Step}
use Rattle.orders.specs.Answer.{late, refused_with, marked}
use Rattle.paths.specs.declared.measuring.Outcome.{Outcome}
use Rattle.paths.specs.Frame as path
use Rattle.paths.specs.Whole.{setup_in, measuring_in, with_measuring, with_outcome}
use Rattle.meter.specs.declared.frame.Entered.{Entered}
use Rattle.meter.specs.declared.frame.Opened.TheVariants.{InJob, Outside}
use Rattle.meter.specs.Frame.{reading_by, reading_of, frame_done, read_to, read, valued_by, valued, framed, measured, with_poll, in_job, taken, poll_by, poll, frame_at}
use Rattle.meter.specs.Divided.{reading_with, read_by, read_entry, no_entry, entry, basis_after, ledger_after, measurement_with, measurement, after_measurement, measured_step, open_by, open_frame, poll_opened}

-- the values of a meter with another ledger
values_of_ledger : (n : Pw) (b : Ledger) → values (with_ledger n b) ≡ values_of (basis_in n) (load_of (basis_in n)) (changing b)
unfolding values basis_in load_of values_of changing in_force in_force_of limits limits_of dc_volts dc_amperes used_parts load_figures split frequency hint dc_is_better ac_is_missed alternating simultaneous ac_only ac_dc
values_of_ledger n b = refl

-- whether there are any does not hang on the ledger
seen_of_ledger : (n : Pw) (b : Ledger) → methods.measured (with_ledger n b).mode n.cycle.seen ≡ methods.measured n.mode n.cycle.seen
unfolding methods.measured alternating
seen_of_ledger n b = refl

load_of_values : (n : Pw) → (values n).load ≡ load_of (basis_in n)
unfolding values basis_in load_of
load_of_values n = refl

-- a meter `n` after the path, whose `before` is the one that a full accounting gives back
abbrev step_of : Pw → Pw → Option ℕ → Result Entered Refusal → Step
step_of before n mark (Ok e) = frame_done (with_ledger n e.ledger) mark 0 e.reading
step_of before n mark (Err r) = refused_with r before

module _ (before n : Pw) (t : ℕ) (mark : Option ℕ) where
  reading_of_ledger : (b : Ledger) → methods.measured n.mode n.cycle.seen ≡ true → reading_of (with_ledger n b) ≡ Some (reading_with (basis_in n) (load_of (basis_in n)) b)
  unfolding reading_of pw_vals
  reading_of_ledger b s = rw (seen_of_ledger n b, s) (ap (λ (v : PowerVals). reading_by (Some v)) (values_of_ledger n b))

  by_account : methods.measured n.mode n.cycle.seen ≡ true → read before n (values n) t mark ≡ step_of before n mark (read_entry (basis_in n) (ledger_in n) t)
  unfolding read read_entry basis_in
  by_account s =
      ap (λ (load : Figures). read_to before mark (account n load t)) (load_of_values n)
      ∙ ap (read_to before mark) (account_posted n (load_of (basis_in n)) t)
      ∙ by_posted (posted (ledger_in n) (not (alternating n.mode)) n.settings.i_cont (load_of (basis_in n)) t)
    where
      by_posted : (a : Result Ledger Refusal) → read_to before mark (pw_of n a) ≡ step_of before n mark (read_by (basis_in n) (load_of (basis_in n)) a)
      by_posted (Ok b) = ap (frame_done (with_ledger n b) mark 0) (reading_of_ledger b s)
      by_posted (Err r) = refl

  by_seen : (s : Bool) → methods.measured n.mode n.cycle.seen ≡ s
      → valued_by before n t mark (cond s (Some (values n)) None) ≡ step_of before n mark (cond s (read_entry (basis_in n) (ledger_in n) t) (no_entry (ledger_in n)))
  unfolding marked
  by_seen true e = by_account e
  by_seen false e = refl

  by_values : (goes_on : Bool) → cond goes_on (valued before n t mark) (marked n mark) ≡ step_of before n mark (entry goes_on (basis_in n) (ledger_in n) t)
  unfolding valued pw_vals marked entry basis_in
  by_values true = by_seen (methods.measured n.mode n.cycle.seen) refl
  by_values false = refl

-- a frame outside a job
by_entry : (m : Pw) (f : Frame) (o : Outcome) (e : Result Entered Refusal)
    → step_of m (with_poll (with_outcome m f o) f.now) o.mark e ≡ measured_step m f (measurement_with o e)
unfolding after_measurement with_measuring
by_entry m f o (Ok e) = refl
by_entry m f o (Err r) = refl

pub measured_by_law : (m : Pw) (f : Frame) → measured m f.now f.flags f.codes ≡ measured_step m f (measurement m f)
unfolding measured framed measurement after_measurement with_measuring basis_in basis_after ledger_after
measured_by_law m f =
    let o = path.frame (setup_in m) f (measuring_in m) in
    let n = with_poll (with_outcome m f o) f.now in
    by_values m n f.now o.mark o.to_values ∙ by_entry m f o (entry o.to_values (basis_in n) (ledger_in n) f.now)

-- the whole call, by what becomes of the frame
module _ (m : Pw) (t flags : ℕ) where
  by_job : (on none : Bool) (codes : Codes)
      → cond (not on) (refused_with refusal.Off m) (cond (not none) (in_job m t flags codes) (measured m t flags codes))
      ≡ poll_opened m (cond (not on) (Err refusal.Off) (cond (not none) (Ok (InJob (frame_at t flags codes))) (Ok (Outside (frame_at t flags codes)))))
  by_job false none codes = refl
  by_job true false codes = refl
  by_job true true codes = refl

  by_length : (l : Bool) (d : Result Codes Refusal) → cond l (refused_with refusal.Late m) (poll_by m t flags d) ≡ poll_opened m (cond l (Err refusal.Late) (open_by m.mode.on m.job.job t flags d))
  unfolding taken
  by_length true d = refl
  by_length false (Ok codes) = by_job m.mode.on (eqb m.job.job 0) codes
  by_length false (Err n) = refl

  pub poll_opened_law : (bytes : List ℕ) → poll m t flags bytes ≡ poll_opened m (open_frame m.mode.on m.job.job t flags bytes)
  unfolding poll open_frame
  poll_opened_law bytes = by_length (late t) (decoded bytes)
