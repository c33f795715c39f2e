-- The invariant: the walk over the entries met so far picked what is held.
use lib.ListN.{length}
use mathlib.Core.Path.{◌≡◌}
use Rattle.tables.specs.Window.{walk}
use Rattle.tables.proofs.window.walk.Given as goal

abbrev pub invariant-loop-code : goal.invariant-loop-code
invariant-loop-code l = l.best ≡ walk l.side l.limit l.codes l.levels (length l.yielded)
