-- `pw_apply` of the source on a whole meter, and what comes before an order that ends a job. Document 01: "`write_config` is not in the text, so it becomes a mark to the host, with the deadline".
use Rattle.std.specs.Prelude.{if◌then◌else◌, ℕ, Some}
use Rattle.tables.specs.Constants.{jr_abort}
use Rattle.state.specs.declared.Pw.{Pw}
use Rattle.ranging.specs.declared.apply.Keep.{Keep}
use Rattle.ranging.specs.declared.apply.Keep.TheVariants.{Nothing}
use Rattle.ranging.specs.Apply.{apply}
use Rattle.jobs.specs.Whole.{job_ended}
use Rattle.orders.specs.declared.answer.Step.{Step}
use Rattle.orders.specs.Answer.{marked, done}
use Rattle.orders.specs.With.{with_applied}

unfoldable pub applied : Keep → Pw → ℕ → Step
applied keep m t =
    let a = apply keep m.mode m.ranges.vr m.cycle m.comparator t in
    marked (with_applied m a.cycle a.comparator) (Some a.deadline)

-- "applies if on", with nothing kept
unfoldable pub applied_if_on : Pw → ℕ → Step
applied_if_on m t = if m.mode.on then applied Nothing m t else done m

-- "first end a job with `JR_ABORT`": where none runs nothing changes
unfoldable pub aborted : Pw → Pw
aborted m = job_ended m jr_abort
