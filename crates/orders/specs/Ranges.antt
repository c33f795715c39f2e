-- The order `ranges`: `pw_set_ranges` of the source. Document 01 of `barred`: "a range order naming the current clears it".
use Rattle.std.specs.Prelude.{Bool, true, false, not, ◌&&◌, if◌then◌else◌, ℕ, eqb, min}
use Rattle.refusals.specs.declared.Refusal.TheVariants as refusal
use Rattle.state.specs.declared.Pw.{Pw}
use Rattle.state.specs.declared.Ranges.{Ranges}
use Rattle.ranging.specs.declared.apply.Keep.{Keep}
use Rattle.ranging.specs.declared.apply.Keep.TheVariants.{Nothing, Voltage, Current}
use Rattle.orders.specs.declared.answer.Step.{Step}
use Rattle.orders.specs.declared.ranges.Ask.{Ask}
use Rattle.orders.specs.declared.ranges.Ask.TheVariants.{Stay, Auto, Fixed}
use Rattle.orders.specs.declared.ranges.OneRange.{OneRange}
use Rattle.orders.specs.Answer.{late, refused_with, done}
use Rattle.orders.specs.Apply.{applied, aborted}
use Rattle.orders.specs.With.{with_ranges}

-- of one channel: `Some(None) => auto = true, Some(Some(r)) => { auto = false; range = r.min(most) }, None => {}`
unfoldable pub asked : Ask → ℕ → OneRange → OneRange
asked Stay most c = c
asked Auto most c = record c { auto = true }
asked (Fixed n) most c = record { range = min n most; auto = false }

-- of the voltage up to 3, and of the current up to 5
unfoldable pub ranges_asked : Ask → Ask → Ranges → Ranges
ranges_asked v i r =
    let voltage = asked v 3 (record { range = r.vr; auto = r.v_auto }) in
    let current = asked i 5 (record { range = r.ik; auto = r.i_auto }) in
    record { vr = voltage.range; ik = current.range; v_auto = voltage.auto; i_auto = current.auto }

unfoldable pub barred_asked : Ask → ℕ → ℕ
barred_asked Stay barred = barred
barred_asked _ barred = 0

-- `(vr, ik) == (pw.vr, pw.ik)`
abbrev pub same_ranges : Ranges → Ranges → Bool
same_ranges found r = eqb r.vr found.vr && eqb r.ik found.ik

-- `keep = if pw.vr == vr { 2 } else if pw.ik == ik { 4 } else { 0 }`
unfoldable pub keep_of : Ranges → Ranges → Keep
keep_of found r = if eqb r.vr found.vr then Voltage else if eqb r.ik found.ik then Current else Nothing

-- once no job runs; `if on && (pw.vr, pw.ik) != (vr, ik)` it applies
unfoldable pub ranges_set : Pw → ℕ → Ask → Ask → Step
ranges_set m t v i =
    let r = ranges_asked v i m.ranges in
    let after = with_ranges m r (barred_asked i m.barred) in
    if m.mode.on && not (same_ranges m.ranges r) then applied (keep_of m.ranges r) after t else done after

-- a running job is ended first, by any such order
unfoldable pub set_ranges : Pw → ℕ → Ask → Ask → Step
set_ranges m t v i = if late t then refused_with refusal.Late m else ranges_set (aborted m) t v i
