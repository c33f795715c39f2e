-- The invariant: the bytes so far, with those of the digits left, are what all digits spell.
use Rattle.std.proofs.Common.{◌≡◌, ◌+◌, ◌*◌, length}
use Rattle.lines.specs.Spelling.{frame_in}
use Rattle.lines.proofs.Pairs.{pairing}
use Rattle.lines.proofs.frame.Given as goal

abbrev pub invariant-loop-pair : goal.invariant-loop-pair
invariant-loop-pair l = record {
  in_pairs : l.pair-iterator.size ≡ 2;
  all : 2 * length l.bytes.items + length l.pair-iterator.rest.now ≡ length l.h;
  read : pairing l.bytes.items l.pair-iterator.rest.now ≡ frame_in l.h;
}
