-- what is left leads from the meter so far to where all leads from the first one
use Rattle.std.proofs.Common.{◌≡◌, drop}
use Rattle.meter.specs.Calls.{after}
use Rattle.host_calls.specs.Calls.{calls_of}
use Rattle.host_calls.proofs.run.Given as goal

abbrev pub invariant-loop-asked : goal.invariant-loop-asked
invariant-loop-asked l = after l.now (calls_of (drop l.asked-index l.calls)) ≡ after l.fn.meter (calls_of l.calls)
