-- What a step's means come to: the second half of `pw_job_poll`.
use Rattle.std.specs.Prelude.{Bool, not, if◌then◌else◌, ◌||◌, ℕ, ℤ, Float, Result, Ok, Err}
use Rattle.std.specs.Float.{nan, binary32}
use Rattle.std.specs.Float.Ieee.{lt, le, of_bits, to_signed}
use Rattle.numbers.specs.Binary32.{◌+f◌, ◌-f◌, ◌*f◌, ◌/f◌, is_finite, abs_of}
use Rattle.numbers.specs.Convert.{half_f, half_away}
use Rattle.tables.specs.Bounds.{entry_at}
use Rattle.tables.specs.Constants.{v_lim, vcal_min, vcal_max_ac, vcal_max_dc, vcal_peak_max, vcal_spread}
use Rattle.tables.specs.Gain.{plausible}
use Rattle.steps.specs.declared.error.JobError.{JobError}
use Rattle.steps.specs.declared.error.JobError.TheVariants.{Small, Big, Unstable, Range}

-- `JOB_N as f32`, and the mean of a sum of three
abbrev pub three_f : Float
three_f = of_bits binary32 0x4040_0000  -- 3.0

abbrev pub mean_of : Float → Float
mean_of sum = sum /f three_f

-- "The mean is rounded half away from zero, by adding or taking 0.5 and cutting, and held to 16 signed bits": `to_signed 15` cuts toward zero and holds to 15 bits and a sign
unfoldable pub zero_mean : Float → ℤ
zero_mean mean = to_signed 15 (half_away mean)

-- "step 0 fixes DC or AC": `b.abs() > a`
unfoldable pub is_dc : Float → Float → Bool
is_dc a b = lt a (abs_of b)

-- the part that counts: `if job_dc { b } else { a }`
abbrev pub part : Bool → Float → Float → Float
part dc a b = if dc then b else a

-- `VCAL_MAX_DC` or `VCAL_MAX_AC`
abbrev pub vcal_max : Bool → Float
vcal_max dc = if dc then vcal_max_dc else vcal_max_ac

-- core's f32::consts::SQRT_2
abbrev pub sqrt2 : Float
sqrt2 = of_bits binary32 0x3fb5_04f3  -- 1.41421356

-- `b.abs() + SQRT_2 * a.abs()`
abbrev pub peak : Float → Float → Float
peak a b = abs_of b +f sqrt2 *f abs_of a

-- "`JR_SMALL` is tested before `JR_BIG`": `m.abs() < VCAL_MIN * lim`, then `m.abs() > max * lim || peak > VCAL_PEAK_MAX * lim`
unfoldable pub raw_verdict : Bool → ℕ → Float → Float → Result (Unit {0}) JobError
raw_verdict dc vr a b =
    let lim = entry_at nan v_lim vr in
    let m = abs_of (part dc a b) in
    if lt m (vcal_min *f lim) then Err Small
    else if lt (vcal_max dc *f lim) m || lt (vcal_peak_max *f lim) (peak a b) then Err Big
    else Ok tt

-- "The two ratios, their sum and its half are binary32's": `0.5 * (r0 + r1)`
abbrev pub half_sum : Float → Float → Float
half_sum r0 r1 = half_f *f (r0 +f r1)

-- `(raw0 - raw1).abs() <= VCAL_SPREAD * raw0.abs()`
abbrev pub steady : Float → Float → Bool
steady raw0 raw1 = le (abs_of (raw0 -f raw1)) (vcal_spread *f abs_of raw0)

-- `!g.is_finite() || (r0 - r1).abs() > VCAL_SPREAD * g.abs() || !steady`
unfoldable pub rounds_differ : Float → Float → Float → Bool → Bool
rounds_differ r0 r1 g still = not (is_finite g) || lt (vcal_spread *f abs_of g) (abs_of (r0 -f r1)) || not still

-- "`JR_UNSTABLE` before `JR_RANGE`", which is `!(0.9..=1.1).contains(&g)`
unfoldable pub ratio_verdict : Float → Float → Float → Bool → Result Float JobError
ratio_verdict r0 r1 g still = if rounds_differ r0 r1 g still then Err Unstable else if plausible g then Ok g else Err Range

-- of the two raw means and the two references
unfoldable pub gain_verdict : Float → Float → Float → Float → Result Float JobError
gain_verdict raw0 ref0 raw1 ref1 = ratio_verdict (ref0 /f raw0) (ref1 /f raw1) (half_sum (ref0 /f raw0) (ref1 /f raw1)) (steady raw0 raw1)
