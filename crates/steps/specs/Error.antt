-- How a job ends, and the number that `job_res` holds of it.
use Rattle.std.specs.Prelude.{ℕ, Result, Ok, Err}
use Rattle.tables.specs.Constants.{jr_ok, jr_signal, jr_small, jr_big, jr_unstable, jr_range, jr_abort}
use Rattle.steps.specs.declared.error.JobError.{JobError}
use Rattle.steps.specs.declared.error.JobError.TheVariants.{Signal, Small, Big, Unstable, Range, Abort}

-- `JR_SIGNAL`, `JR_SMALL`, `JR_BIG`, `JR_UNSTABLE`, `JR_RANGE` and `JR_ABORT`
abbrev pub error_number : JobError → ℕ
error_number Signal = jr_signal
error_number Small = jr_small
error_number Big = jr_big
error_number Unstable = jr_unstable
error_number Range = jr_range
error_number Abort = jr_abort

-- `JR_OK` of a job that ends well
abbrev pub result_number : Result (Unit {0}) JobError → ℕ
result_number (Ok x) = jr_ok
result_number (Err e) = error_number e
