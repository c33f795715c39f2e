-- The invariant: the number read so far, read on, is what all digits spell; it is small enough that the next digit fits.
use Rattle.std.proofs.Common.{◌≡◌, ◌^◌, ◌<◌, drop}
use Rattle.lines.specs.Digits.{number_in}
use Rattle.lines.proofs.Digits.{reading}
use Rattle.lines.proofs.number.Given as goal

abbrev pub invariant-loop-b : goal.invariant-loop-b
invariant-loop-b l = (l.number < 10 ^ l.b-index) × (reading 10 l.number (drop l.b-index l.digits) ≡ number_in 10 l.digits)
