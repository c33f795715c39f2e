-- The orders on, off, method, coupling and re-apply. Document 01: "On, off and method first end a job with `JR_ABORT`; on sets `dc` from the coupling and applies with nothing kept; off clears only `on`; method applies if on. Re-apply clears `cal_req` and is `pw_apply`." The coupling is `pw_set_coupling` of the source.
use Rattle.std.specs.Prelude.{Bool, true, false, not, ◌&&◌, ◌||◌, if◌then◌else◌, ℕ, eqb}
use Rattle.std.specs.Bool.{beq}
use Rattle.refusals.specs.declared.Refusal.TheVariants as refusal
use Rattle.tables.specs.Constants.{coup_dc, jr_abort}
use Rattle.tables.specs.Ranges.{coup_of}
use Rattle.state.specs.declared.Mode.{Mode}
use Rattle.state.specs.declared.Pw.{Pw}
use Rattle.ranging.specs.declared.apply.Keep.TheVariants.{Nothing}
use Rattle.orders.specs.declared.answer.Step.{Step}
use Rattle.orders.specs.Answer.{late, refused_with, done}
use Rattle.orders.specs.Apply.{applied, applied_if_on, aborted}
use Rattle.orders.specs.With.{with_on, with_alt, with_coup, with_cal_req, with_mode}

-- ---- what each does once no job runs

unfoldable pub switched_on : Pw → ℕ → Step
switched_on m t = applied Nothing (with_mode m (with_on m.mode true (eqb m.mode.coup coup_dc))) t

unfoldable pub switched_off : Pw → Step
switched_off m = done (with_mode m (with_on m.mode false m.mode.dc))

unfoldable pub method_set : Pw → ℕ → Bool → Step
method_set m t alt = applied_if_on (with_mode m (with_alt m.mode alt)) t

-- `on && (dc != pw.dc || job_res == JR_ABORT)`. The result may be that of a job long ended
unfoldable pub takes_force : Bool → Mode → ℕ → Bool
takes_force dc mode res = mode.on && (not (beq dc mode.dc) || eqb res jr_abort)

-- `coup = coup_of(coup)`, and where that takes force at once `pw.dc = dc; keep = 0; pw_apply`, with `dc` for `coup == COUP_DC`
unfoldable pub coupling_set : Pw → ℕ → ℕ → Step
coupling_set m t asked =
    let coup = coup_of asked in
    let dc = eqb coup coup_dc in
    if takes_force dc m.mode m.job.job_res then applied Nothing (with_mode m (with_coup m.mode coup dc)) t
    else done (with_mode m (with_coup m.mode coup m.mode.dc))

-- ---- the orders: number 5 is all that refuses them, and re-apply alone also 2, "re-apply while a job runs"

unfoldable pub on : Pw → ℕ → Step
on m t = if late t then refused_with refusal.Late m else switched_on (aborted m) t

unfoldable pub off : Pw → ℕ → Step
off m t = if late t then refused_with refusal.Late m else switched_off (aborted m)

unfoldable pub method : Pw → ℕ → Bool → Step
method m t alt = if late t then refused_with refusal.Late m else method_set (aborted m) t alt

unfoldable pub coupling : Pw → ℕ → ℕ → Step
coupling m t asked = if late t then refused_with refusal.Late m else coupling_set (aborted m) t asked

unfoldable pub reapply : Pw → ℕ → Step
reapply m t =
    if late t then refused_with refusal.Late m
    else if not (eqb m.job.job 0) then refused_with refusal.Busy m
    else applied Nothing (with_mode m (with_cal_req m.mode false)) t
