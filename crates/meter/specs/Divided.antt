-- The frame call as the code divides it. A reader of `poll`, and of pw_frame in C, need not believe it: proofs/Entered.antt says that it is `measured` and `poll` of specs/Frame.antt. The contracts of `measure`, `after_measurement` and `open_frame` speak of it. What the accounting changes is one record, the ledger, and what is shown is worked out of a basis and of the ledger after the accounting.
use Rattle.std.specs.Prelude.{Bool, not, if◌then◌else◌, ◌&&◌, List, ℕ, eqb, Result, Ok, Err, Some, None}
use Rattle.refusals.specs.declared.Refusal.{Refusal}
use Rattle.refusals.specs.declared.Refusal.TheVariants as refusal
use Rattle.figures.specs.declared.load.Figures.{Figures}
use Rattle.codes.specs.declared.Codes.{Codes}
use Rattle.codes.specs.declared.Frame.{Frame}
use Rattle.codes.specs.Frame.{decoded}
use Rattle.state.specs.declared.Pw.{Pw}
use Rattle.paths.specs.declared.measuring.Measuring.{Measuring}
use Rattle.paths.specs.declared.measuring.Outcome.{Outcome}
use Rattle.paths.specs.Ring.{ring_after}
use Rattle.paths.specs.Frame as path
use Rattle.paths.specs.Whole.{setup_in, measuring_in, with_measuring}
use Rattle.values.specs.declared.vals.Basis.{Basis}
use Rattle.values.specs.Methods.{alternating}
use Rattle.values.specs.Methods as methods
use Rattle.values.specs.Divided.{load_of, values_of}
use Rattle.readouts.specs.Readings.{reading_vals}
use Rattle.accounting.specs.declared.Ledger.{Ledger}
use Rattle.accounting.specs.Divided.{changing, posted, with_ledger}
use Rattle.orders.specs.declared.answer.Answer.{Answer}
use Rattle.orders.specs.declared.answer.Reading.{Reading}
use Rattle.orders.specs.declared.answer.Step.{Step}
use Rattle.orders.specs.Answer.{late, refused_with}
use Rattle.meter.specs.declared.frame.Entered.{Entered}
use Rattle.meter.specs.declared.frame.Measurement.{Measurement}
use Rattle.meter.specs.declared.frame.Opened.{Opened}
use Rattle.meter.specs.declared.frame.Opened.TheVariants.{InJob, Outside}
use Rattle.meter.specs.Frame.{frame_at, frame_done, measured, in_job}

abbrev pub reading_with : Basis → Figures → Ledger → Reading
reading_with b load ledger = let v = values_of b load (changing ledger) in record { readouts = reading_vals v; vals = v }

abbrev pub read_by : Basis → Figures → Result Ledger Refusal → Result Entered Refusal
read_by b load (Ok ledger) = Ok (record { ledger = ledger; reading = Some (reading_with b load ledger) })
read_by b load (Err r) = Err r

-- a frame with values
unfoldable pub read_entry : Basis → Ledger → ℕ → Result Entered Refusal
read_entry b ledger t = read_by b (load_of b) (posted ledger (not (alternating b.mode)) b.settings.i_cont (load_of b) t)

-- and one without: nothing is entered
abbrev pub no_entry : Ledger → Result Entered Refusal
no_entry ledger = Ok (record { ledger = ledger; reading = None })

unfoldable pub entry : Bool → Basis → Ledger → ℕ → Result Entered Refusal
entry goes_on b ledger t = if goes_on && methods.measured b.mode b.seen then read_entry b ledger t else no_entry ledger

-- what the values and the accounting take of a meter whose path's fields are `n` and whose last frame's time is t
unfoldable pub basis_after : Pw → Measuring → Basis
basis_after m n =
    record { mode = m.mode; ranges = n.ranges; parts = n.parts; seen = n.cycle.seen; comparator = n.comparator; settings = m.settings; over = m.description.over }

unfoldable pub ledger_after : Pw → Measuring → ℕ → Ledger
ledger_after m n t =
    record {
      tally = m.tally;
      clock = record m.clock { t_poll = t };
      powers = m.powers;
      over_t0 = m.over_t0;
      phase_cal = n.phase_cal;
      cal_req = m.mode.cal_req;
    }

-- what a frame outside a job comes to
abbrev pub measurement_with : Outcome → Result Entered Refusal → Result Measurement Refusal
measurement_with o (Ok e) = Ok (record { measuring = o.measuring; ledger = e.ledger; mark = o.mark; reading = e.reading; ad1_taken = o.ad1_taken })
measurement_with o (Err r) = Err r

abbrev pub measurement_by : Pw → ℕ → Outcome → Result Measurement Refusal
measurement_by m t o = measurement_with o (entry o.to_values (basis_after m o.measuring) (ledger_after m o.measuring t) t)

unfoldable pub measurement : Pw → Frame → Result Measurement Refusal
measurement m f = measurement_by m f.now (path.frame (setup_in m) f (measuring_in m))

-- what it answers
abbrev pub measured_answer : Measurement → Answer
measured_answer x = record { mark = x.mark; used = 0; reading = x.reading }

-- the meter after it, where it is not refused
unfoldable pub after_measurement : Pw → Frame → Measurement → Pw
after_measurement m f x = with_ledger (with_measuring m x.measuring (ring_after m.ring m.mode m.cycle f x.ad1_taken)) x.ledger

-- `measured` is this of `measurement`: full undoes the whole frame
abbrev pub measured_step : Pw → Frame → Result Measurement Refusal → Step
measured_step m f (Ok x) = frame_done (after_measurement m f x) x.mark 0 x.reading
measured_step m f (Err r) = refused_with r m

-- what becomes of a frame: refused, in a job, or measured
abbrev pub open_with : Bool → ℕ → Frame → Result Opened Refusal
open_with on job f = if not on then Err refusal.Off else if not (eqb job 0) then Ok (InJob f) else Ok (Outside f)

abbrev pub open_by : Bool → ℕ → ℕ → ℕ → Result Codes Refusal → Result Opened Refusal
open_by on job t flags (Ok codes) = open_with on job (frame_at t flags codes)
open_by on job t flags (Err n) = Err n

unfoldable pub open_frame : Bool → ℕ → ℕ → ℕ → List ℕ → Result Opened Refusal
open_frame on job t flags bytes = if late t then Err refusal.Late else open_by on job t flags (decoded bytes)

-- `poll` is this of `open_frame`: proofs/Entered.antt
abbrev pub poll_opened : Pw → Result Opened Refusal → Step
poll_opened m (Ok (InJob f)) = in_job m f.now f.flags f.codes
poll_opened m (Ok (Outside f)) = measured m f.now f.flags f.codes
poll_opened m (Err r) = refused_with r m
