-- After so many rounds s is ten to that number.
use Rattle.std.proofs.Common.{◌≡◌}
use Rattle.formats.specs.Readout.{tens}
use Rattle.formats.proofs.readout.tens.Given as goal

abbrev pub invariant-loop : goal.invariant-loop
invariant-loop l = l.s ≡ tens l.counter
