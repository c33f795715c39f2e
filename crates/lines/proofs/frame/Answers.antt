-- What holds at each turn holds at the next. Tried: `common_steps` and `read_pair` in the function's attribute, where one call for all three fields gives up; so each field has a call of its own.
use Rattle.std.proofs.Common.{arith}
use Rattle.std.proofs.lemmas.Grind.{common_steps}
use Rattle.lines.proofs.Pairs.{read_pair}
use Rattle.lines.proofs.frame.Goals as goal

pub loop-pair-preserved : goal.loop-pair-preserved
loop-pair-preserved c =
    record {
      in_pairs = grind (arith, common_steps);
      all = grind (arith, common_steps);
      read = grind (arith, read_pair);
    }
