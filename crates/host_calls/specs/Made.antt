-- What holds of a meter that a host has made and then handed to calls, each getting what the last one left.
use Rattle.std.specs.Prelude.{◌≡◌, Bool, List, ℕ, Ok}
use Rattle.tables.specs.declared.calibration.Calibration.{Calibration}
use Rattle.tables.specs.declared.description.Description.{Description}
use Rattle.state.specs.declared.Pw.{Pw}
use Rattle.meter.specs.Making.{make}
use Rattle.meter.specs.Calls.{after, Call}
use Rattle.book.specs.Book.{books, blank}
use Rattle.book.specs.Demand3.{Agrees, fed}
use Rattle.book.specs.Earned.{EarnedIn}
use Rattle.book.specs.Last.{LastIn}

-- m is a meter just made, and w the words with their mark that it was made with
pub record IsMade (w : Calibration) (m : Pw) : Type 0 where
  pub description : Description
  pub words : List ℕ
  pub valid : Bool
  pub made : make description words valid ≡ Ok m
  pub fed : w ≡ fed words valid

-- n is where these calls lead from m: it is the definitions' meter, it agrees with the book of these calls, what the book holds was earned in them, and it is what was earned last
pub record Served (w : Calibration) (m : Pw) (cs : List Call) (n : Pw) : Type 0 where
  pub after : n ≡ after m cs
  pub agrees : Agrees w n (books w m cs blank)
  pub earned : EarnedIn w m cs (books w m cs blank)
  pub last : LastIn w m cs (books w m cs blank)
