-- The zeros in the book after a list are those that the last call of it to earn any earned, and so each range's gain: such a call is the last frame of a job that ended well (specs/Earned.antt).
use Rattle.std.specs.Prelude.{◌≡◌, List, [], ◌∷◌, ◌++◌, ◌⊎◌, ℕ}
use Rattle.tables.specs.declared.calibration.Calibration.{Calibration}
use Rattle.state.specs.declared.Pw.{Pw}
use Rattle.steps.specs.Reading.{Zeros, none}
use Rattle.meter.specs.Calls.{after, Call}
use Rattle.book.specs.Book.{RangeGain, factory, Book, blank, books}
use Rattle.book.specs.Earned.{EarnsZeros, EarnsGain, Sometime}

-- the call c, on the meter m and in the book b, earns zeros, whichever; or a gain for range i
pub data AnyZeros (w : Calibration) (m : Pw) (b : Book) (c : Call) : Type 0 where
  any : (z : Zeros) → EarnsZeros w z m b c → AnyZeros w m b c

pub data AnyGain (w : Calibration) (i : ℕ) (m : Pw) (b : Book) (c : Call) : Type 0 where
  any : (g : RangeGain) → EarnsGain w i g m b c → AnyGain w i m b c

-- a call of the list has P, and no later one has Q, each of the meter and the book before it
pub record LastOf (w : Calibration) (P Q : Pw → Book → Call → Type 0) (m : Pw) (b : Book) (cs : List Call) : Type 0 where
  pub before : List Call
  pub last : Call
  pub later : List Call
  pub is : cs ≡ before ++ (last ∷ later)
  pub earns : P (after m before) (books w m before b) last
  pub none_later : Sometime w Q (after m (before ++ (last ∷ []))) (books w m (before ++ (last ∷ [])) b) later → ⊥

-- of the book after the list cs
abbrev pub LastIn : Calibration → Pw → List Call → Book → Type 0
LastIn w m cs b =
    (((b.zeros ≡ none) × (Sometime w (AnyZeros w) m blank cs → ⊥)) ⊎ LastOf w (EarnsZeros w b.zeros) (AnyZeros w) m blank cs)
    × ((i : ℕ) → ((b.gain i ≡ factory) × (Sometime w (AnyGain w i) m blank cs → ⊥)) ⊎ LastOf w (EarnsGain w i (b.gain i)) (AnyGain w i) m blank cs)

unfoldable pub Last : Type 0
Last = (w : Calibration) (m : Pw) (cs : List Call) → LastIn w m cs (books w m cs blank)
