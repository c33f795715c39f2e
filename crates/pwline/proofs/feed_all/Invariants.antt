-- The invariant: the session so far, fed with the bytes from the index on, is the one fed with all.
use Rattle.std.proofs.Common.{◌≡◌, drop}
use Rattle.pwline.specs.Divided.{fed_all}
use Rattle.pwline.proofs.feed_all.Given as goal

abbrev pub invariant-loop-b : goal.invariant-loop-b
invariant-loop-b g l = fed_all l.session (drop l.b-index l.part) ≡ fed_all l.initial.session l.part
