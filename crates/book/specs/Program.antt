-- The program's meter after a list of calls. A host keeps a meter, hands it to a function of the C interface (crates/pw_c/src/calls.rt), and keeps the one that it is handed back.
use Rattle.std.specs.Prelude.{◌≡◌, Bool, List, [], ◌∷◌, ℕ}
use Rattle.tables.specs.declared.description.Description.{Description}
use Rattle.state.specs.declared.Pw.{Pw}
use Rattle.meter.specs.Making.{make}
use Rattle.meter.specs.Calls.{step, after, Call}
use Rattle.host.specs.declared.stepped.HostStep.{HostStep}
use Rattle.host.specs.Stepped.{host_step, host_made}
use Rattle.book.specs.Book.{books, blank}
use Rattle.book.specs.Demand3.{Agrees, fed}
use Rattle.book.specs.Earned.{EarnedIn}

-- what the function of each call returns: `f m (On t)` is the value of `pw_on(m, t)`, and so on. Each function's contract in crates/pw_c/src/calls.rt is this equation, for its own call. C hands over times of 64 bits, flags and bytes of 8, and so on; of a call with a larger number, or a meter that no struct of C can hold, f is what the equation says: none is met, since `pw_make` and each function hand out a meter that it can
abbrev pub Contracts : (Pw → Call → HostStep) → Type 0
Contracts f = (m : Pw) (c : Call) → f m c ≡ host_step (step m c)

-- the host's meter after the list
abbrev pub ran : (Pw → Call → HostStep) → Pw → List Call → Pw
ran f m [] = m
ran f m (c ∷ cs) = ran f (f m c).meter cs

-- for every meter that `pw_make` hands out and every list of calls: it is the definitions', the next call answers as theirs does, it agrees with the book, and what the book holds was earned in the list
unfoldable pub Program : Type 0
Program =
    (f : Pw → Call → HostStep) → Contracts f → (d : Description) (words : List ℕ) (valid : Bool) → let made = host_made (make d words valid) in made.refusal ≡ 0
    → (cs : List Call) → let m = made.meter in (ran f m cs ≡ after m cs) × ((c : Call) → f (ran f m cs) c ≡ host_step (step (after m cs) c)) × Agrees (fed words valid) (ran f m cs) (books (fed words valid) m cs blank) × EarnedIn (fed words valid) m cs (books (fed words valid) m cs blank)
