-- One result: None where it is turned down and nothing changes, else what stands once it is taken. Document 01: "XY is turned down when |RMS| > 2^36; XX and YY when the computed root exceeds 262,144". The source: `pw_take`, `pw_take_alt`, and the two halves of `pw_poll_dc`,
-- which turns nothing down.
use Rattle.std.specs.Prelude.{◌≡◌, Bool, not, if◌then◌else◌, ◌&&◌, ℕ, ◌%◌, ◌^◌, ltb, eqb, Option, Some, None, ℤ, nat_abs, Float}
use Rattle.std.specs.Float.{binary32}
use Rattle.std.specs.Float.Ieee.{lt, of_bits}
use Rattle.numbers.specs.Binary32.{◌+f◌, ◌*f◌, ◌/f◌, zero_f}
use Rattle.codes.specs.declared.Codes.{Codes}
use Rattle.tables.specs.Constants.{r34_xy, r34_xx, r34_yy}
use Rattle.state.specs.declared.Quantity.TheVariants.{Power, Voltage, Current}
use Rattle.state.specs.declared.Parts.{Parts}
use Rattle.state.specs.declared.PhaseCal.{PhaseCal}
use Rattle.state.specs.declared.Ranges.{Ranges}
use Rattle.state.specs.Seen.{also_seen, both_seen}
use Rattle.state.specs.Counting.{count_up}
use Rattle.takes.specs.declared.scales.Instrument.{Instrument}
use Rattle.takes.specs.declared.take.Measured.{Measured}
use Rattle.takes.specs.Scales.{rms_root, gain, zero_y}
use Rattle.takes.specs.Readings.{ac_volts, dc_volts, power, ac_amps, dc_amps, alt_volts, alt_amps, alt_dc_amps, ad1_amps}
use Rattle.takes.specs.Parts.{xy_parts, i_parts, v_parts, alt_v_parts, dc_v_parts, dc_i_parts}

-- `rms.unsigned_abs() > 1u64 << 36`
unfoldable pub xy_too_large : ℤ → Bool
xy_too_large rms = ltb (2 ^ 36) (nat_abs rms)

-- 262_144.0
abbrev pub root_most : Float
root_most = of_bits binary32 0x4880_0000

-- `sq > 262_144.0`
unfoldable pub root_too_large : Float → Bool
root_too_large root = lt root_most root

-- the root of an RMS code, None where it is too large
abbrev pub if_within : Float → Option Float
if_within root = if root_too_large root then None else Some root

unfoldable pub root_within : ℤ → Option Float
root_within rms = if_within (rms_root rms)

-- ---- method B

-- the phase calibration's sum and count with one power more, at the apparent power s
abbrev pub one_more : PhaseCal → Float → Float → PhaseCal
one_more c p s =
    record c { cal_n = count_up c.cal_n; cal_acc = c.cal_acc +f p /f s }

-- `if cal != 0 && seen & 6 == 6 { s = v_ac * i_ac; if s > 0.0 { cal_acc += p / s; cal_n += 1 } }`
unfoldable pub phase_counted : PhaseCal → Float → ℕ → Parts → PhaseCal
phase_counted c p seen parts =
    let s = parts.v_ac *f parts.i_ac in
    if not (eqb c.cal 0) && both_seen seen && lt zero_f s then one_more c p s
    else c

-- what XY leaves once the power p and the DC current are known; the calibration counts the power unsmoothed
abbrev pub xy_measured : Ranges → Float → Float → Measured → Measured
xy_measured r p iDc m =
    record {
      parts = xy_parts r m.seen p iDc m.parts;
      seen = also_seen m.seen Power;
      phase_cal = phase_counted m.phase_cal p (also_seen m.seen Power) (xy_parts r m.seen p iDc m.parts);
    }

unfoldable pub take_xy : Instrument → Ranges → Codes → Measured → Option Measured
take_xy w r codes m =
    if xy_too_large codes.rms then None
    else Some (xy_measured r (power w r codes.rms) (dc_amps w r.ik codes.lpf) m)

-- parts and marks after a result; the phase calibration stays
abbrev pub measured_to : Parts → ℕ → Measured → Measured
measured_to parts seen m = record { parts = parts; seen = seen; phase_cal = m.phase_cal }

unfoldable pub take_xx : Instrument → ℕ → Codes → Measured → Option Measured
take_xx w ik codes m =
    let root = rms_root codes.rms in
    if root_too_large root then None
    else Some (measured_to
    (i_parts ik m.seen (ac_amps w.description w.calibration ik root) (dc_amps w ik codes.lpf) m.parts)
    (also_seen m.seen Current) m)

unfoldable pub take_yy : Instrument → ℕ → Codes → Measured → Option Measured
take_yy w vr codes m =
    let root = rms_root codes.rms in
    if root_too_large root then None
    else Some (measured_to
    (v_parts vr m.seen (ac_volts root vr (gain w vr)) (dc_volts codes.lpf (zero_y w.corrections) vr (gain w vr)) m.parts)
    (also_seen m.seen Voltage) m)

-- by R34; any other is turned down
unfoldable pub take : Instrument → Ranges → ℕ → Codes → Measured → Option Measured
take w r stat codes m =
    if eqb stat r34_xy then take_xy w r codes m
    else if eqb stat r34_xx then take_xx w r.ik codes m
    else if eqb stat r34_yy then take_yy w r.vr codes m
    else None

-- ---- the alternating method

unfoldable pub take_alt_v : Instrument → ℕ → Float → Measured → Measured
take_alt_v w vr root m = measured_to (alt_v_parts vr m.seen (alt_volts w.calibration vr root) m.parts) (also_seen m.seen Voltage) m

unfoldable pub take_alt_i : Instrument → ℕ → Float → ℤ → Measured → Measured
take_alt_i w ik root lpf m =
    measured_to
    (i_parts ik m.seen (alt_amps w.description w.calibration ik root) (alt_dc_amps w.description w.calibration ik lpf) m.parts)
    (also_seen m.seen Current) m

-- `phase & 1 == 0` is the V phase
unfoldable pub take_alt : Instrument → Ranges → ℕ → Codes → Measured → Option Measured
take_alt w r phase codes m =
    let root = rms_root codes.rms in
    if root_too_large root then None
    else Some (if eqb (phase % 2) 0 then take_alt_v w r.vr root m else take_alt_i w r.ik root codes.lpf m)

-- ---- the DC row

unfoldable pub dc_v_taken : Instrument → ℕ → Codes → Measured → Measured
dc_v_taken w vr codes m =
    measured_to
    (dc_v_parts vr m.seen (dc_volts codes.lpf (zero_y w.corrections) vr (gain w vr)) (ac_volts (rms_root codes.rms) vr (gain w vr)) m.parts)
    (also_seen m.seen Voltage) m

-- `if seen & 6 == 6 { seen |= 1 }`
unfoldable pub seen_with_power : ℕ → ℕ
seen_with_power seen = if both_seen seen then also_seen seen Power else seen

unfoldable pub dc_i_taken : Instrument → ℕ → Codes → Measured → Measured
dc_i_taken w ik codes m =
    measured_to (dc_i_parts ik m.seen (ad1_amps w ik codes.ad1) m.parts) (seen_with_power (also_seen m.seen Current)) m

-- ---- what every take keeps of the phase calibration: all but the sum and its count
abbrev pub PhaseKept : PhaseCal → PhaseCal → Type 0
PhaseKept a b = (a.sph ≡ b.sph) × (a.cal ≡ b.cal) × (a.cal_s0 ≡ b.cal_s0) × (a.cal_pa ≡ b.cal_pa) × (a.cal_res ≡ b.cal_res)
