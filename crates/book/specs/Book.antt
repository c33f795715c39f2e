-- The book of document 01: "It holds the zeros, a gain for each range and a running job, at first none of these." A running job is its kind, the ranges and automatic marks found, and the ready frames that it has used. Which step a frame serves, what is dropped, readings, means, ratios and outcomes are worked out from that list.
-- The formulas of one reading, one mean and one verdict, the old zero of a step and the order of steps that a kind has are the source's as crates/steps renders them, and what a frame's bytes say is crates/codes's; which orders start a job or end it is crates/meter's (`about`). The steps themselves, the drops, the list, and what a start, an end and a frame do to a job are written out here.
use Rattle.std.specs.Prelude.{Bool, if◌then◌else◌, List, [], ◌∷◌, ◌++◌, ℕ, zero, suc, ◌+◌, ◌%◌, min, ltb, leb, eqb, ℤ, pos, get_or, length, Float, Result, Ok, Err, is_err}
use Rattle.numbers.specs.Binary32.{◌+f◌, zero_f}
use Rattle.codes.specs.declared.Codes.{Codes}
use Rattle.codes.specs.Frame.{codes_of}
use Rattle.tables.specs.Constants.{jr_signal}
use Rattle.tables.specs.declared.calibration.Calibration.{Calibration}
use Rattle.state.specs.declared.Pw.{Pw}
use Rattle.state.specs.declared.Ranges.{Ranges}
use Rattle.steps.specs.declared.place.Kind.{Kind}
use Rattle.steps.specs.declared.place.Kind.TheVariants.{Zero, Gain}
use Rattle.steps.specs.declared.place.Place.{Place}
use Rattle.steps.specs.declared.place.Place.TheVariants.{ZeroX, ZeroD, ZeroY, Raw, RefDc, RefAc}
use Rattle.steps.specs.declared.reading.Reading.{Reading}
use Rattle.steps.specs.declared.error.JobError.{JobError}
use Rattle.steps.specs.Error.{error_number}
use Rattle.steps.specs.Place.{Layout, zero_steps, dc_steps, ac_steps, layout_of, ready}
use Rattle.steps.specs.Reading.{Zeros, none, kept, old_of, reading_of, signal}
use Rattle.steps.specs.Verdict.{mean_of, zero_mean, is_dc, part, raw_verdict, gain_verdict}
use Rattle.meter.specs.Calls.{Named, frame, job_start, about, step, Call}

-- ---- which step a ready frame serves: "Each ready frame serves its step: the dropped ones, then three readings"

-- "The zero job has 13 steps" ("zero steps 6 to 11" are AD1's). "The gain job has 4, raw and reference in turn"
abbrev pub steps_of : Layout → List Place
steps_of zero_steps = ZeroX ∷ ZeroX ∷ ZeroX ∷ ZeroX ∷ ZeroX ∷ ZeroX ∷ ZeroD ∷ ZeroD ∷ ZeroD ∷ ZeroD ∷ ZeroD ∷ ZeroD ∷ ZeroY ∷ []
steps_of dc_steps = Raw ∷ RefDc ∷ Raw ∷ RefDc ∷ []
steps_of ac_steps = Raw ∷ RefAc ∷ Raw ∷ RefAc ∷ []

abbrev pub measures : Layout → ℕ → Place
measures l s = get_or (steps_of l) s ZeroX

-- "Each step drops 1 ready frame (4 for the AC reference), then counts 3"
abbrev pub drops : Place → ℕ
drops ZeroX = 1
drops ZeroD = 1
drops ZeroY = 1
drops Raw = 1
drops RefDc = 1
drops RefAc = 4

-- how many ready frames the steps before step s take
abbrev pub begins : Layout → ℕ → ℕ
begins l zero = 0
begins l (suc s) = begins l s + drops (measures l s) + 3

-- the number of the first frame that step s counts, from 0
abbrev pub first : Layout → ℕ → ℕ
first l s = begins l s + drops (measures l s)

abbrev pub last_of : Layout → ℕ
last_of zero_steps = 12
last_of dc_steps = 3
last_of ac_steps = 3

-- the step that frame number i serves, of the steps up to n: the last that begins at or before it
abbrev pub step_up_to : Layout → ℕ → ℕ → ℕ
step_up_to l i zero = 0
step_up_to l i (suc n) = if leb (begins l (suc n)) i then suc n else step_up_to l i n

abbrev pub step_of : Layout → ℕ → ℕ
step_of l i = step_up_to l i (last_of l)

-- ---- readings and means of a list of ready frames

-- what is fixed while a job runs: the words, the voltage range found, and the zeros in the book
pub record Setting : Type 0 where
  pub calibration : Calibration
  pub vr : ℕ
  pub zeros : Zeros

abbrev pub no_frame : Codes
no_frame = record { ad1 = pos 0; lpf = pos 0; rms = pos 0 }

-- reading number j of step s, "by the source's formulas from frame, words, description and the book's zeros and gains": none of them asks for the description or a gain
abbrev pub reading_at : Setting → Layout → List Codes → ℕ → ℕ → Reading
reading_at c l fs s j = reading_of (measures l s) c.calibration c.vr c.zeros (get_or fs (first l s + j) no_frame)

-- the sum of the first n, from 0.0 on, each addition rounded
abbrev pub sum_of : ℕ → (ℕ → Float) → Float
sum_of zero g = zero_f
sum_of (suc n) g = sum_of n g +f g n

-- the means of step s, of the main values and of the second ones
unfoldable pub mean_x : Setting → Layout → List Codes → ℕ → Float
mean_x c l fs s = mean_of (sum_of 3 (λ j. (reading_at c l fs s j).x))

unfoldable pub mean_y : Setting → Layout → List Codes → ℕ → Float
mean_y c l fs s = mean_of (sum_of 3 (λ j. (reading_at c l fs s j).y))

-- "step 0 fixes DC or AC", by its means. Before they are there it is of missing frames, and makes no difference: step 0 is the same in both, and a zero job has one order
abbrev pub dc_of : Setting → List Codes → Bool
dc_of c fs = is_dc (mean_x c dc_steps fs 0) (mean_y c dc_steps fs 0)

abbrev pub layout_in : Setting → Kind → List Codes → Layout
layout_in c k fs = layout_of k (dc_of c fs)

-- what the next ready frame serves
abbrev pub step_in : Setting → Kind → List Codes → ℕ
step_in c k fs = step_of (layout_in c k fs) (length fs)

abbrev pub place_for : Setting → Kind → List Codes → Place
place_for c k fs = measures (layout_in c k fs) (step_in c k fs)

-- ---- what the frames come to

-- the job goes on; or it ends "other than with `JR_OK`", with this result; or well, with the zeros or the gain that it has earned
pub data Outcome : Type 0 where
  going : Outcome
  struck : ℕ → Outcome
  zeroed : Zeros → Outcome
  gained : Float → Outcome

-- g 0, g 1 .. g (n - 1)
abbrev pub tab : ℕ → (ℕ → ℤ) → List ℤ
tab zero g = []
tab (suc n) g = g 0 ∷ tab n (λ i. g (suc i))

-- "the 13 means, rounded and held to 16 bits, become the zeros"
unfoldable pub zero_at : Setting → List Codes → ℕ → ℤ
zero_at c fs s = zero_mean (mean_x c zero_steps fs s)

abbrev pub thirteen : Setting → List Codes → Zeros
thirteen c fs = kept (tab 6 (zero_at c fs)) (tab 6 (λ s. zero_at c fs (s + 6))) (zero_at c fs 12)

-- a raw step's mean that counts, and a reference's
abbrev pub raw_at : Setting → Bool → List Codes → ℕ → Float
raw_at c dc fs s = part dc (mean_x c (layout_of Gain dc) fs s) (mean_y c (layout_of Gain dc) fs s)

abbrev pub ref_at : Setting → Bool → List Codes → ℕ → Float
ref_at c dc fs s = mean_x c (layout_of Gain dc) fs s

abbrev pub raw_out : Result (Unit {0}) JobError → Outcome
raw_out (Ok x) = going
raw_out (Err e) = struck (error_number e)

abbrev pub verdict_of : Setting → Bool → List Codes → ℕ → Result (Unit {0}) JobError
verdict_of c dc fs s = raw_verdict dc c.vr (mean_x c (layout_of Gain dc) fs s) (mean_y c (layout_of Gain dc) fs s)

-- "or the half sum the gain"
abbrev pub gain_out : Result Float JobError → Outcome
gain_out (Ok g) = gained g
gain_out (Err e) = struck (error_number e)

abbrev pub ratio_of : Setting → Bool → List Codes → Result Float JobError
ratio_of c dc fs = gain_verdict (raw_at c dc fs 0) (ref_at c dc fs 1) (raw_at c dc fs 2) (ref_at c dc fs 3)

-- the list ends with step s's third reading
unfoldable pub finished : Kind → Setting → List Codes → ℕ → Outcome
finished Zero c fs s = if ltb s 12 then going else zeroed (thirteen c fs)
finished Gain c fs s =
    if eqb (s % 2) 0 then raw_out (verdict_of c (dc_of c fs) fs s)
    else if ltb s 3 then going
    else gain_out (ratio_of c (dc_of c fs) fs)

-- "further from the old zero (0 while none is stored)": the book's zeros are the old ones
abbrev pub signal_at : Setting → Layout → ℕ → Codes → Bool
signal_at c l s f = signal (measures l s) (old_of c.zeros s) f

-- a ready frame f after the frames fs, at step s: one of those dropped; or a signal where none may be; or not yet the step's third; or its third
abbrev pub outcome_by : Kind → Setting → List Codes → Codes → Layout → ℕ → Outcome
outcome_by k c fs f l s =
    if ltb (length fs) (first l s) then going
    else if signal_at c l s f then struck jr_signal
    else if ltb (suc (length fs)) (begins l (suc s)) then going
    else finished k c (fs ++ (f ∷ [])) s

unfoldable pub outcome : Kind → Setting → List Codes → Codes → Outcome
outcome k c fs f = outcome_by k c fs f (layout_in c k fs) (step_in c k fs)

-- ---- the book

-- of a range: none, which is the factory's, or the one that a job has earned
pub data RangeGain : Type 0 where
  factory : RangeGain
  earned : Float → RangeGain

pub data Running : Type 0 where
  idle : Running
  serving : Kind → Ranges → List Codes → Running

pub record Book : Type 0 where
  pub zeros : Zeros
  pub gain : ℕ → RangeGain
  pub job : Running

abbrev pub book : Zeros → (ℕ → RangeGain) → Running → Book
book z g r = record { zeros = z; gain = g; job = r }

-- "at first none of these"
abbrev pub blank : Book
blank = book none (λ i. factory) idle

-- a ready frame's outcome, entered: "strikes it"; "become the zeros, or the half sum the gain of the range that the source gives the job. Then no job runs"
abbrev pub entered : Kind → Ranges → List Codes → Outcome → Zeros → (ℕ → RangeGain) → Book
entered k r fs going z g = book z g (serving k r fs)
entered k r fs (struck res) z g = book z g idle
entered k r fs (zeroed y) z g = book y g idle
entered k r fs (gained x) z g = book z (λ i. if eqb i (min r.vr 3) then earned x else g i) idle

abbrev pub setting_of : Calibration → Ranges → Zeros → Setting
setting_of w r z = record { calibration = w; vr = r.vr; zeros = z }

-- a frame, by its flags and codes: outside a job, or not ready, it changes nothing
abbrev pub framed : Calibration → ℕ → Codes → Zeros → (ℕ → RangeGain) → Running → Book
framed w flags f z g idle = book z g idle
framed w flags f z g (serving k r fs) =
    if ready (place_for (setting_of w r z) k fs) flags then entered k r (fs ++ (f ∷ [])) (outcome k (setting_of w r z) fs f) z g
    else book z g (serving k r fs)

-- "An accepted job start notes the job, and the ranges and automatic marks found"
abbrev pub started : Kind → Ranges → Book → Book
started k found b = book b.zeros b.gain (serving k found [])

-- "strikes it": on, off, method, ranges and coupling, of which crates/meter's `about` says that they end a job
abbrev pub strikes : Book → Book
strikes b = book b.zeros b.gain idle

-- an accepted call that strikes no job, as the table names it. "Other calls change nothing"
abbrev pub noted : Calibration → Ranges → Named → Book → Book
noted w found (frame t flags bytes) b = framed w flags (codes_of bytes) b.zeros b.gain b.job
noted w found (job_start k) b = started k found b
noted w found _ b = b

-- an accepted call
abbrev pub note : Calibration → Ranges → Call → Book → Book
-- one "by which these rules or the source end the job" strikes it; a frame's own outcome ends a job in `framed`
note w found c b = if (about c).ends_job then strikes b else noted w found (about c).named b

-- "Whether a call is refused, and what else a rule asks, is what demand 2's definitions give for the calls up to this one": all that the book is told of the meter, whether this call is refused, and the ranges and marks that it finds
pub record Asked : Type 0 where
  pub refused : Bool
  pub found : Ranges

abbrev pub asked : Pw → Call → Asked
asked m c = record { refused = is_err (step m c).answer; found = m.ranges }

-- "A refused call changes nothing"
abbrev pub entry : Calibration → Asked → Call → Book → Book
entry w a c b = if a.refused then b else note w a.found c b

-- the book after the list; m is the definitions' meter, from which each call's questions are answered
abbrev pub books : Calibration → Pw → List Call → Book → Book
books w m [] b = b
books w m (c ∷ cs) b = books w (step m c).pw cs (entry w (asked m c) c b)
