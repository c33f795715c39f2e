-- What is left of the search gives what the whole search gives.
use Rattle.std.proofs.Common.{◌≡◌}
use Rattle.formats.specs.Readout.{tens}
use Rattle.readouts.specs.Bluetooth.{decimals_that_fit}
use Rattle.readouts.proofs.bluetooth.decimals_that_fit.Given as goal

abbrev pub invariant-loop-dec : goal.invariant-loop-dec
invariant-loop-dec l = decimals_that_fit l.x l.k l.dec ≡ decimals_that_fit l.x (tens l.most) l.most
