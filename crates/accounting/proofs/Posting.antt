-- The accounting changes the ledger alone, and reads beside it only the mode, `i_cont`, the figures and the time.
use mathlib.Core.Path.{◌≡◌, refl}
use mathlib.Core.Bool.{not}
use Prim.Native.Nat.{ℕ}
use Rattle.std.specs.Prelude.{Result, Ok, Err}
use Rattle.refusals.specs.declared.Refusal.{Refusal}
use Rattle.figures.specs.declared.load.Figures.{Figures}
use Rattle.figures.specs.declared.tally.Counted.{Counted}
use Rattle.state.specs.declared.Pw.{Pw}
use Rattle.values.specs.Methods.{alternating}
use Rattle.accounting.specs.declared.Ledger.{Ledger}
use Rattle.accounting.specs.Account.{counted, account_by, account}
use Rattle.accounting.specs.Divided.{counted_of, ledger_in, with_ledger, posted_by, posted}

-- the meter of a ledger, where there is one
abbrev pub pw_of : Pw → Result Ledger Refusal → Result Pw Refusal
pw_of m (Ok b) = Ok (with_ledger m b)
pw_of m (Err r) = Err r

by_interval : (m : Pw) (load : Figures) (now : ℕ) (a : Result Counted Refusal) → account_by m load now a ≡ pw_of m (posted_by (ledger_in m) m.settings.i_cont load now a)
by_interval m load now (Ok c) = refl
by_interval m load now (Err r) = refl

pub account_posted : (m : Pw) (load : Figures) (now : ℕ) → account m load now ≡ pw_of m (posted (ledger_in m) (not (alternating m.mode)) m.settings.i_cont load now)
unfolding account posted counted counted_of
account_posted m load now = by_interval m load now (counted m now)
