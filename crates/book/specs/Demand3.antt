-- Demand 3, stated: of a meter just made and every list of calls, refused ones and smaller clock readings included.
use Rattle.std.specs.Prelude.{◌≡◌, Bool, true, false, if◌then◌else◌, List, [], ◌∷◌, ◌++◌, ℕ, suc, ◌<◌, ◌≤◌, Float, pos, get_or, length, replicate, Ok, IsOk}
use Rattle.std.specs.Float.{nan}
use Rattle.numbers.specs.Binary32.{zero_f}
use Rattle.codes.specs.declared.Codes.{Codes}
use Rattle.codes.specs.Frame.{codes_of}
use Rattle.tables.specs.Bounds.{within}
use Rattle.tables.specs.Constants.{jr_run, jr_ok, jr_abort}
use Rattle.tables.specs.Gain.{gain_least, gain_most, v_gain_factory, v_gain}
use Rattle.tables.specs.declared.calibration.Calibration.{Calibration}
use Rattle.tables.specs.declared.description.Description.{Description}
use Rattle.state.specs.declared.Corrections.{Corrections}
use Rattle.state.specs.declared.Pw.{Pw}
use Rattle.state.specs.declared.Ranges.{Ranges}
use Rattle.steps.specs.declared.place.Kind.{Kind}
use Rattle.steps.specs.declared.place.Kind.TheVariants.{Zero, Gain}
use Rattle.steps.specs.Place.{kind_number, ready}
use Rattle.steps.specs.Reading.{Zeros, none, zeros_in}
use Rattle.orders.specs.Answer.{used_told}
use Rattle.orders.specs.Apply.{aborted}
use Rattle.meter.specs.Making.{make}
use Rattle.meter.specs.Frame.{with_poll}
use Rattle.meter.specs.Calls.{about, step, after, Call, Frame}
use Rattle.book.specs.Book.{RangeGain, factory, earned, Running, idle, serving, Book, blank, asked, entry, books, setting_of, place_for, Outcome, going, struck, zeroed, gained, outcome, dc_of}

-- ---- what the book's entries are in a meter

-- the gain of a range that is in force: "none is .. the factory's gain"
abbrev pub in_force : Calibration → ℕ → RangeGain → Float
in_force w i factory = v_gain_factory w i
in_force w i (earned g) = g

-- and what is stored for it: 0.0 where there is none
abbrev pub stored : RangeGain → Float
stored factory = zero_f
stored (earned g) = g

-- the number of the running job, 0 for none
abbrev pub runs : Running → ℕ
runs idle = 0
runs (serving k r fs) = kind_number k

-- "a zero job uses at most 52, a gain job at most 22"
abbrev pub most_of : Kind → ℕ
most_of Zero = 52
most_of Gain = 22

-- `job_res` after a ready frame
abbrev pub result_of : Outcome → ℕ
result_of going = jr_run
result_of (struck res) = res
result_of (zeroed z) = jr_ok
result_of (gained g) = jr_ok

-- no number stands behind a mark that is off
abbrev pub NoZeros : Corrections → Type 0
NoZeros c = (c.zx ≡ replicate 6 (pos 0)) × (c.zd ≡ replicate 6 (pos 0)) × (c.zy ≡ pos 0)

-- ---- a job's end

-- "At each job's end in the list, ranges and marks become those noted, and the ending call goes on from there". `aborted m` is m after `pw_job_end` and nothing else: the order does to m what it does to that meter, in which no job runs
abbrev pub GoesOn : Call → Pw → Ranges → Type 0
GoesOn c m r = ((aborted m).ranges ≡ r) × ((aborted m).job.job ≡ 0) × ((aborted m).job.job_res ≡ jr_abort) × (step m c ≡ step (aborted m) c)

-- by an order, which goes on, or by a frame, of which the ranges and marks are said here and the rest in `quiet`, `result`, `zeros` and `gains`; no other call ends a job
abbrev pub Ended : Call → Pw → Ranges → Type 0
Ended (Frame t flags bytes) m r = (step m (Frame t flags bytes)).pw.ranges ≡ r
Ended c m r = ((about c).ends_job ≡ true) × GoesOn c m r

-- ---- a frame in a job

-- "leaves energies and counted times as before, and smoothed values too": energies with their counted time, the last accounted time, the smoothed values and which of them count (`seen`), the powers at which the next interval counts, and since when the current is above its limit. Document 01 goes on "save what the source resets in an apply or a job's end": no frame in a job applies, and a job's end resets none of these
abbrev pub Quiet : Pw → Pw → Type 0
Quiet m n = (n.tally ≡ m.tally) × (n.clock.t_last ≡ m.clock.t_last) × (n.parts ≡ m.parts) × (n.cycle.seen ≡ m.cycle.seen) × (n.powers ≡ m.powers) × (n.over_t0 ≡ m.over_t0)

-- ---- the claim

-- m and b stand after one list of calls; what is said of a next call is so said of each call in every list
pub record Agrees (w : Calibration) (m : Pw) (b : Book) : Type 0 where
  -- "the meter's zeros with their mark .. equal the book's; none is the mark off"
  pub zeros : zeros_in m.corrections ≡ b.zeros
  pub no_zeros : b.zeros ≡ none → NoZeros m.corrections
  -- the words with their mark are those that it was made with
  pub words : m.calibration ≡ w
  -- "and each range's gain", stored and in force
  pub kept_gains : (i : ℕ) → i < 4 → get_or m.corrections.vgain i nan ≡ stored (b.gain i)
  pub gains : (i : ℕ) → i < 4 → v_gain m.calibration m.corrections.vgain i ≡ in_force w i (b.gain i)
  -- one that a job has earned is from 0.9 to 1.1
  pub bounds : (i : ℕ) (g : Float) → b.gain i ≡ earned g → within gain_least gain_most g ≡ true
  -- a job runs where the book has one
  pub job : m.job.job ≡ runs b.job
  -- a call that ends a job, in the book and so in the meter
  pub back : (c : Call) (k : Kind) (r : Ranges) (fs : List Codes) → b.job ≡ serving k r fs → (entry w (asked m c) c b).job ≡ idle → Ended c m r
  -- an accepted frame in a job, its last included
  pub quiet : (t flags : ℕ) (bytes : List ℕ) (k : Kind) (r : Ranges) (fs : List Codes) → b.job ≡ serving k r fs
      → let s = step m (Frame t flags bytes) in IsOk s.answer → Quiet m s.pw
  -- its answer "reports how many ready frames the job has used, dropped ones included, the ending frame too"
  pub count : (t flags : ℕ) (bytes : List ℕ) (k : Kind) (r : Ranges) (fs : List Codes) → b.job ≡ serving k r fs
      → let s = step m (Frame t flags bytes) in IsOk s.answer
      → used_told s.answer ≡ (if ready (place_for (setting_of w r b.zeros) k fs) flags then suc (length fs) else length fs)
  -- and where it is ready its result is that of the book's outcome
  pub result : (t flags : ℕ) (bytes : List ℕ) (k : Kind) (r : Ranges) (fs : List Codes) → b.job ≡ serving k r fs
      → let s = step m (Frame t flags bytes) in IsOk s.answer → ready (place_for (setting_of w r b.zeros) k fs) flags ≡ true
      → s.pw.job.job_res ≡ result_of (outcome k (setting_of w r b.zeros) fs (codes_of bytes))
  -- "One not ready changes only `t_poll`"
  pub not_ready : (t flags : ℕ) (bytes : List ℕ) (k : Kind) (r : Ranges) (fs : List Codes) → b.job ≡ serving k r fs
      → let s = step m (Frame t flags bytes) in IsOk s.answer → ready (place_for (setting_of w r b.zeros) k fs) flags ≡ false → s.pw ≡ with_poll m t
  -- "and 0 for a frame taken outside a job"
  pub outside : (t flags : ℕ) (bytes : List ℕ) → b.job ≡ idle → used_told (step m (Frame t flags bytes)).answer ≡ 0
  -- with its next ready frame a job has used at most so many
  pub most : (k : Kind) (r : Ranges) (fs : List Codes) → b.job ≡ serving k r fs → suc (length fs) ≤ most_of k
  -- a zero job that ends well has used 52, a gain job 16 of DC or 22 of AC
  pub zero_length : (f : Codes) (r : Ranges) (fs : List Codes) → b.job ≡ serving Zero r fs
      → (z : Zeros) → outcome Zero (setting_of w r b.zeros) fs f ≡ zeroed z → suc (length fs) ≡ 52
  pub gain_length : (f : Codes) (r : Ranges) (fs : List Codes) → b.job ≡ serving Gain r fs
      → (g : Float) → outcome Gain (setting_of w r b.zeros) fs f ≡ gained g → suc (length fs) ≡ (if dc_of (setting_of w r b.zeros) (fs ++ (f ∷ [])) then 16 else 22)

-- the words and the valid mark that the book is fed
abbrev pub fed : List ℕ → Bool → Calibration
fed words valid = record { words = words; valid = valid }

-- for every description and words that make a meter, and every list of calls
unfoldable pub Demand3 : Type 0
Demand3 =
    (d : Description) (words : List ℕ) (valid : Bool) → (m : Pw) → make d words valid ≡ Ok m → (cs : List Call)
    → Agrees (fed words valid) (after m cs) (books (fed words valid) m cs blank)
