-- What the book holds after a list is none (of a gain: the factory's), or was earned by a call of that list; by `Demand3` the meter's zeros and gains are the book's. Such a call is a job's last frame, since with its outcome `entered` leaves no job; and since the book begins blank, the job began with an accepted start in the same list.
use Rattle.std.specs.Prelude.{◌≡◌, true, List, [], ◌∷◌, ◌++◌, ◌⊎◌, ℕ, min, Float, IsOk}
use Rattle.codes.specs.declared.Codes.{Codes}
use Rattle.codes.specs.Frame.{codes_of}
use Rattle.tables.specs.declared.calibration.Calibration.{Calibration}
use Rattle.state.specs.declared.Pw.{Pw}
use Rattle.state.specs.declared.Ranges.{Ranges}
use Rattle.steps.specs.declared.place.Kind.{Kind}
use Rattle.steps.specs.Place.{ready}
use Rattle.steps.specs.Reading.{Zeros, none}
use Rattle.meter.specs.Calls.{step, Call, Frame}
use Rattle.book.specs.Book.{Outcome, zeroed, gained, outcome, RangeGain, factory, earned, serving, Book, blank, entered, setting_of, place_for, asked, entry, books}

-- the call c, on the meter m and in the book b, is an accepted frame that is ready in a job, and this is what the job's frames come to with it
pub record Comes (w : Calibration) (m : Pw) (b : Book) (c : Call) (found : Ranges) (o : Outcome) : Type 0 where
  pub time : ℕ
  pub flags : ℕ
  pub bytes : List ℕ
  pub kind : Kind
  pub used : List Codes
  pub is : c ≡ Frame time flags bytes
  pub accepted : IsOk (step m c).answer
  pub runs : b.job ≡ serving kind found used
  pub serves : ready (place_for (setting_of w found b.zeros) kind used) flags ≡ true
  pub comes : outcome kind (setting_of w found b.zeros) used (codes_of bytes) ≡ o
  pub leaves : entry w (asked m c) c b ≡ entered kind found (used ++ (codes_of bytes ∷ [])) o b.zeros b.gain

-- it earns these zeros, or this gain for range i
pub data EarnsZeros (w : Calibration) (z : Zeros) (m : Pw) (b : Book) (c : Call) : Type 0 where
  earns : (found : Ranges) → Comes w m b c found (zeroed z) → EarnsZeros w z m b c

pub data EarnsGain (w : Calibration) (i : ℕ) (g : RangeGain) (m : Pw) (b : Book) (c : Call) : Type 0 where
  earns : (found : Ranges) (x : Float) → Comes w m b c found (gained x) → i ≡ min found.vr 3 → g ≡ earned x → EarnsGain w i g m b c

-- P of some call of the list, with the meter and the book before it
abbrev pub Sometime : Calibration → (Pw → Book → Call → Type 0) → Pw → Book → List Call → Type 0
Sometime w P m b [] = ⊥
Sometime w P m b (c ∷ cs) = P m b c ⊎ Sometime w P (step m c).pw (entry w (asked m c) c b) cs

-- of the book after the list cs
abbrev pub EarnedIn : Calibration → Pw → List Call → Book → Type 0
EarnedIn w m cs b =
    ((b.zeros ≡ none) ⊎ Sometime w (EarnsZeros w b.zeros) m blank cs) × ((i : ℕ) → (b.gain i ≡ factory) ⊎ Sometime w (EarnsGain w i (b.gain i)) m blank cs)

unfoldable pub Earned : Type 0
Earned = (w : Calibration) (m : Pw) (cs : List Call) → EarnedIn w m cs (books w m cs blank)
