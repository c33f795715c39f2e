-- The theorem at this list. The check finds the other goals; this one gives up at a limit under `using(served_made)`, which has to guess three theorems and where the loop has come to.
use Rattle.std.proofs.Common.{arith, sym, ◌∙◌}
use Rattle.std.proofs.lemmas.List.{at_drop_all}
use Rattle.meter.specs.Calls.{after}
use Rattle.host_calls.specs.Calls.{calls_of}
use Rattle.host_calls.proofs.Made.{served_made}
use Rattle.host_calls.proofs.run.Goals as goal

pub returns-clause-served : goal.returns-clause-served
returns-clause-served c w made =
    let same = sym (at_drop_all (λ rest. after c.loop-asked.now (calls_of rest)) c.args.calls.now c.loop-asked.asked-index (omega arith)) ∙ c.loop-asked.invariant in
    served_made c.demand3.ensures c.earned.ensures c.last.ensures w c.args.meter made (calls_of c.args.calls.now) _ same
