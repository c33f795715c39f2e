-- Document 01's table "What the meter says back", of every call on every meter: each refusal is given exactly where its column "When" says, in the paper's order, and the meter is left as its column "Leaves" says.
use Rattle.std.specs.Prelude.{Ok, Err, Result, is_err, Option, None, Some}
use mathlib.Core.Path.{◌≡◌, refl, sym, subst, ap}
use mathlib.Core.Bool.{Bool, true, false, not, ◌&&◌, cond}
use mathlib.Core.List.{List}
use Prim.Native.Nat.{ℕ, ◌<◌}
use native.Mathlib.Omega.{arith}
use lib.Dec.{eqb}
use lib.ListN.{length}
use Rattle.std.proofs.Common.{Option, Some, None, IfSome}
use Rattle.std.specs.Result.{result_err}
use Rattle.numbers.proofs.Cases.{either, by_test}
use Rattle.figures.proofs.Exactly.{OnlyFull}
use Rattle.refusals.specs.declared.Refusal.{Refusal}
use Rattle.refusals.specs.declared.Refusal.TheVariants as refusal
use Rattle.refusals.specs.Number.{refusal_number}
use Rattle.codes.specs.declared.Codes.{Codes}
use Rattle.codes.specs.Frame.{codes_of, decoded}
use Rattle.state.specs.declared.Pw.{Pw}
use Rattle.values.specs.declared.power_vals.PowerVals.{PowerVals}
use Rattle.values.specs.Vals.{pw_vals}
use Rattle.accounting.specs.Account.{account}
use Rattle.accounting.proofs.Stated.{refused_full}
use Rattle.orders.specs.declared.answer.Step.{Step}
use Rattle.orders.specs.Answer.{late, refused_with, marked}
use Rattle.meter.specs.Frame.{PathEnd, accounted_step, read_to, read, valued_by, valued, framed, measured_by, measured, in_job, taken, poll_by, poll}
use Rattle.meter.proofs.Full.{full_when_law}
use Rattle.meter.specs.Calls.{step, Call, Frame, about}
use Rattle.meter.specs.Table.{late_when, frame_when, off_when, busy_when, method_when, full_when, full_by, full_end, refusal_of, left_by, alone_by}
use Rattle.meter.proofs.Orders.{Ends, refused, carried, order_ends}

-- ---- one row of the table at a time

module _ (m : Pw) (c : Call) where
  -- the step s answers n, or is done; where s is the call's whole step the meter is left as n says, and of a refusal nothing else is told
  record Row (n : Option Refusal) (s : Step) : Type 0 where
    refusal : result_err s.answer ≡ n
    left : s.pw ≡ (step m c).pw → s.pw ≡ left_by n m c
    told : s.answer ≡ alone_by n s.answer

  accepted : (s : Step) → result_err s.answer ≡ None → Row None s
  accepted s e = record { refusal = e; left = λ same. same; told = refl }

  refused_row : (n : Refusal) → Row (Some n) (refused_with n (left_by (Some n) m c))
  unfolding refused_with
  refused_row n = record { refusal = refl; left = λ same. refl; told = refl }

  -- the row's test: where it holds the refusal is this row's, else that of the rows below
  test : (b : Bool) {n o : Option Refusal} {s u : Step} → Row n s → Row o u → Row (cond b n o) (cond b s u)
  test true here below = here
  test false here below = below

-- ---- a frame: 5, 4, 1 and 6

module _ (m : Pw) (t flags : ℕ) (bytes : List ℕ) where
  abbrev FrameRow : Option Refusal → Step → Type 0
  FrameRow = Row m (Frame t flags bytes)

  abbrev call : Call
  call = Frame t flags bytes

  marked_row : (n : Pw) (mark : Option ℕ) → FrameRow None (marked n mark)
  unfolding marked
  marked_row n mark = accepted m call (marked n mark) refl

  -- 6, by the accounting of its values, where it has any
  read_row : (mark : Option ℕ) (a : Result Pw Refusal) → OnlyFull a → FrameRow (cond (is_err a) (Some refusal.Full) None) (read_to m mark a)
  read_row mark (Ok n) f = accepted m call (accounted_step n mark) refl
  read_row mark (Err r) f = subst (λ (n : Refusal). FrameRow (Some refusal.Full) (refused_with n m)) (sym f) (refused_row m call refusal.Full)

  valued_row : (n : Pw) (mark : Option ℕ) (v : Option PowerVals) → FrameRow (cond (full_by n t v) (Some refusal.Full) None) (valued_by m n t mark v)
  unfolding read
  valued_row n mark None = marked_row n mark
  valued_row n mark (Some v) =
      subst (λ (b : Bool). FrameRow (cond b (Some refusal.Full) None) (read m n v t mark)) (full_when_law n v.load t)
      (read_row mark (account n v.load t) (refused_full n v.load t))

  measured_row : (f : PathEnd) → FrameRow (cond (full_end t f) (Some refusal.Full) None) (measured_by m t f)
  unfolding valued
  measured_row f =
      by_test (λ b. FrameRow (cond (b && full_by f.pw t (pw_vals f.pw)) (Some refusal.Full) None) (cond b (valued m f.pw t f.mark) (marked f.pw f.mark))) f.to_values
      (λ e. valued_row f.pw f.mark (pw_vals f.pw)) (λ e. marked_row f.pw f.mark)

  in_job_row : (codes : Codes) → FrameRow None (in_job m t flags codes)
  unfolding in_job
  in_job_row codes = accepted m call (in_job m t flags codes) refl

  -- a frame in a job is never full
  taken_row : (codes : Codes) → FrameRow (cond (not m.mode.on) (Some refusal.Off) (cond (eqb m.job.job 0 && full_end t (framed m t flags codes)) (Some refusal.Full) None)) (taken m t flags codes)
  unfolding taken measured
  taken_row codes =
      test m call (not m.mode.on) (refused_row m call refusal.Off)
      (by_test (λ b. FrameRow (cond (b && full_end t (framed m t flags codes)) (Some refusal.Full) None) (cond (not b) (in_job m t flags codes) (measured m t flags codes))) (eqb m.job.job 0)
      (λ e. measured_row (framed m t flags codes)) (λ e. in_job_row codes))

  frame_rows : FrameRow (refusal_of m call) (step m call)
  unfolding poll decoded
  frame_rows =
      let codes = codes_of bytes in
      let rest = cond (not m.mode.on) (Some refusal.Off) (cond (eqb m.job.job 0 && full_end t (framed m t flags codes)) (Some refusal.Full) None) in
      test m call (late t) (refused_row m call refusal.Late)
      (by_test (λ b. FrameRow (cond (not b) (Some refusal.Frame) rest) (poll_by m t flags (cond b (Ok codes) (Err refusal.Frame)))) (eqb (length bytes) 14) (λ e. taken_row codes) (λ e. refused_row m call refusal.Frame))

-- ---- every call

order_row : {m : Pw} {c : Call} {n : Option Refusal} {s : Step} → Ends m c n s → Row m c n s
order_row {m} {c} (refused n) = refused_row m c n
order_row {m} {c} (carried {s} h) = accepted m c s (ap result_err h.answer)

row : (m : Pw) (c : Call) → Row m c (refusal_of m c) (step m c)
row m (Frame t flags bytes) = frame_rows m t flags bytes
row m c = order_row (order_ends m c refl)

-- "When", and the order: "otherwise 5, 4, 1, 2, 3, and 6 last". "A refusal is given only under its condition"
pub refused_as : (m : Pw) (c : Call) → result_err (step m c).answer ≡ refusal_of m c
refused_as m c = (row m c).refusal

-- "Leaves"
pub leaves : (m : Pw) (c : Call) → (step m c).pw ≡ left_by (refusal_of m c) m c
leaves m c = (row m c).left refl

-- "A refused call returns its number alone: no reading, no mark to the host, a count of 0"
pub told_alone : (m : Pw) (c : Call) → (step m c).answer ≡ alone_by (refusal_of m c) (step m c).answer
told_alone m c = (row m c).told

abbrev Below7 : Option Refusal → Type 0
Below7 o = IfSome o (λ n. refusal_number n < 7)

-- "7, 8 when a meter is made", and by no call
pub below_7 : (m : Pw) (c : Call) → Below7 (result_err (step m c).answer)
below_7 m c =
    let a = about c in
    subst Below7 (sym (refused_as m c))
    (either Below7 (late_when a.time) (omega arith)
    (either Below7 (frame_when a.named) (omega arith)
    (either Below7 (off_when m a.named) (omega arith)
    (either Below7 (busy_when m a.named) (omega arith) (either Below7 (method_when m a.named) (omega arith) (either Below7 (full_when m a.named) (omega arith) tt))))))
