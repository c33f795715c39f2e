-- What `run` says of a meter just made, at the one that `pw_make` made. The check finds the other goals; this one gives up at a limit under `using(handed)`.
use Rattle.std.proofs.Common.{rules, ◌≡◌}
use Rattle.host_calls.proofs.Made.{handed}
use Rattle.host_calls.proofs.make_and_run.Goals as goal

pub returns-clause-served : goal.returns-clause-served
returns-clause-served c none =
    let zero : c.pw_make-made.result.refusal ≡ 0 = search rules in
    handed c.args.description c.args.words.now c.args.valid c.pw_make-made.result c.pw_make-made.ensures zero _ _ c.run-meter.ensures.served
