-- What a line of `pwline` does to its meter, and what is written for it.
use Rattle.std.specs.Prelude.{ℕ, ◌+◌, ◌%◌, ◌^◌, List, take, Option, Some, None}
use Rattle.refusals.specs.Number.{told_number}
use Rattle.state.specs.declared.Pw.{Pw}
use Rattle.steps.specs.declared.place.Kind.TheVariants as job
use Rattle.orders.specs.declared.answer.Step.{Step}
use Rattle.orders.specs.Switches.{on}
use Rattle.orders.specs.Starts.{start_job}
use Rattle.meter.specs.Frame.{poll}
use Rattle.lines.specs.declared.Line.{Line}
use Rattle.lines.specs.declared.Line.TheVariants.{On, Zero, Poll}
use Rattle.lines.specs.Spelling.{line_of}
use Rattle.pwline.specs.declared.session.Reply.{Reply}
use Rattle.pwline.specs.declared.text.Answer.{Answer}

-- a line that was spelled as an order or a frame: the meter after it, and the number of its answer, "0, done" or the refusal's
unfoldable pub told_by : Step → Reply
told_by s = record { pw = s.pw; refusal = Some (told_number s.answer) }

-- "a line of another spelling changes nothing"
unfoldable pub not_told : Pw → Reply
not_told m = record { pw = m; refusal = None }

abbrev pub obeyed_by : Pw → Option Line → Reply
obeyed_by m (Some (On time)) = told_by (on m time)
obeyed_by m (Some (Zero time)) = told_by (start_job m time job.Zero)
obeyed_by m (Some (Poll time flags bytes)) = told_by (poll m time flags (take bytes.count bytes.bytes))
obeyed_by m None = not_told m

unfoldable pub obeyed : Pw → List ℕ → Reply
obeyed m l = obeyed_by m (line_of l)

-- "line number, refusal number, `job_res`"
abbrev pub answer_of : ℕ → Reply → Answer
answer_of n r = record { number = n; refusal = r.refusal; job_res = r.pw.job.job_res }

-- lines are numbered from 1; the one of number 2 ^ 64, which no run reaches, would be numbered 0
abbrev pub next_number : ℕ → ℕ
next_number n = (n + 1) % 2 ^ 64
