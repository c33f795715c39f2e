-- What the book holds was earned in the list: by the last call to earn any.
use mathlib.Core.List.{List, [], ◌∷◌, ◌++◌}
use mathlib.Core.Logic.{◌⊎◌, inl, inr}
use mathlib.Core.Path.{sym, subst}
use Rattle.tables.specs.declared.calibration.Calibration.{Calibration}
use Rattle.state.specs.declared.Pw.{Pw}
use Rattle.meter.specs.Calls.{step, after, Call}
use Rattle.book.specs.Book.{Book, asked, entry, books, blank}
use Rattle.book.specs.Earned.{EarnsZeros, EarnsGain, Sometime, Earned}
use Rattle.book.specs.Last.{LastOf, Last}
use Rattle.book.proofs.Last.{every_last}

module _ (w : Calibration) (P : Pw → Book → Call → Type 0) where
  -- a call of the list, with the meter and the book after those before it
  there : (before : List Call) (c : Call) (later : List Call) (m : Pw) (b : Book) → P (after m before) (books w m before b) c → Sometime w P m b (before ++ (c ∷ later))
  there [] c later m b p = inl p
  there (d ∷ ds) c later m b p = inr (there ds c later (step m d).pw (entry w (asked m d) d b) p)

  or_last : {Q : Pw → Book → Call → Type 0} {A R : Type 0} (m : Pw) (b : Book) (cs : List Call) → (A × R) ⊎ LastOf w P Q m b cs → A ⊎ Sometime w P m b cs
  or_last m b cs (inl a) = inl a.0
  or_last m b cs (inr l) = inr (subst (Sometime w P m b) (sym l.is) (there l.before l.last l.later m b l.earns))

pub all_earned : Earned
unfolding Earned Last
all_earned w m cs =
    let l = every_last w m cs in
    let b = books w m cs blank in
    (or_last w (EarnsZeros w b.zeros) m blank cs l.0, λ i. or_last w (EarnsGain w i (b.gain i)) m blank cs (l.1 i))
