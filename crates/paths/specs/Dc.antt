-- A frame in DC coupling: `pw_poll_dc` of the source. Document 01: "The DC path takes AD1 from the same frame, where the source reads the chip again."
use Rattle.std.specs.Prelude.{if◌then◌else◌, ◌-◌, ltb, is_some}
use Rattle.codes.specs.declared.Codes.{Codes}
use Rattle.codes.specs.declared.Frame.{Frame}
use Rattle.codes.specs.Flags.{holds_ad1, holds_rms_lpf}
use Rattle.takes.specs.declared.scales.Instrument.{Instrument}
use Rattle.ranging.specs.declared.autorange.Channel.TheVariants.{Voltage, Current}
use Rattle.takes.specs.Take.{dc_v_taken, dc_i_taken}
use Rattle.paths.specs.declared.measuring.Setup.{Setup}
use Rattle.paths.specs.declared.measuring.Measuring.{Measuring}
use Rattle.paths.specs.declared.measuring.Outcome.{Outcome}
use Rattle.paths.specs.Measuring.{ends, goes_on, drops, with_skip_y, with_cycle, with_ad1, measured_in, with_measured, autorange, unless_ranged}

-- the voltage is taken
abbrev pub dc_v_after : Instrument → Codes → Measuring → Measuring
dc_v_after w codes m = with_measured m (dc_v_taken w m.ranges.vr codes (measured_in m))

unfoldable pub dc_v_result : Setup → Frame → Measuring → Outcome
dc_v_result s f m =
    let after = dc_v_after s.with f.codes m in
    unless_ranged after (ends after) (autorange s Voltage f.now after)

-- dropped while `skip_y > 0`
unfoldable pub dc_v_part : Setup → Frame → Measuring → Outcome
dc_v_part s f m =
    if ltb 0 m.cycle.skip_y then ends (with_cycle m (with_skip_y m.cycle (m.cycle.skip_y - 1))) else dc_v_result s f m

-- the current is taken
abbrev pub dc_i_after : Instrument → Codes → Measuring → Measuring
dc_i_after w codes m = with_measured m (dc_i_taken w m.ranges.ik codes (measured_in m))

unfoldable pub dc_i_result : Setup → Frame → Measuring → Outcome
dc_i_result s f m =
    let after = dc_i_after s.with f.codes m in
    unless_ranged after (goes_on after) (autorange s Current f.now after)

-- where AD1 is ready; one that is taken is marked so, and the ring notes it, a dropped one is not
unfoldable pub dc_i_part : Setup → Frame → Measuring → Outcome
dc_i_part s f m =
    if holds_ad1 f.flags then (if ltb 0 m.cycle.skip then drops m else with_ad1 (dc_i_result s f m))
    else ends m

-- a V range that changed ends the frame, its AD1 unread
abbrev pub dc_after_v : Setup → Frame → Outcome → Outcome
dc_after_v s f v = if is_some v.mark then v else dc_i_part s f v.measuring

unfoldable pub dc_frame : Setup → Frame → Measuring → Outcome
dc_frame s f m =
    if holds_rms_lpf f.flags then dc_after_v s f (dc_v_part s f m) else dc_i_part s f m
