-- Document 01: "`totals` gives power, apparent, reactive, factor, volts and amperes". The source's `totals`, rounded to binary32 at each operation, in the source's order.
use Rattle.std.specs.Prelude.{if◌then◌else◌, Float}
use Rattle.std.specs.Float.{binary32}
use Rattle.std.specs.Float.Ieee.{lt, neg, of_bits}
use Rattle.numbers.specs.Binary32.{◌+f◌, ◌-f◌, ◌*f◌, ◌/f◌, zero_f, one_f, max_of, clamp_of}
use Rattle.numbers.specs.Root.{sqrt_of, hypot_of}
use Rattle.figures.specs.declared.load.Figures.{Figures}

-- 2.0
abbrev pub two : Float
two = of_bits binary32 0x4000_0000

-- the volts behind a resistance r: vM volts and pM watts are measured in front of it, and i amperes flow. The source's `v2`, or zero where that is below zero or a NaN; then the root, which of infinity is a NaN
unfoldable pub load_volts : Float → Float → Float → Float → Float
load_volts vM pM i r = sqrt_of (max_of (vM *f vM -f two *f r *f pM +f r *f r *f i *f i) zero_f)

-- p / s, held to -1 to 1, where a NaN stays; 0 where s is not above zero
unfoldable pub power_factor : Float → Float → Float
power_factor p s = if lt zero_f s then clamp_of (p /f s) (neg one_f) one_f else zero_f

-- s * s - p * p, or zero where that is below zero or a NaN; then the root, which of infinity is a NaN
unfoldable pub reactive : Float → Float → Float
reactive p s = sqrt_of (max_of (s *f s -f p *f p) zero_f)

-- from the AC part of the power, the AC and DC parts of voltage and current, and r ohms between meter and load, 0 where they are not to be taken off
unfoldable pub totals : Float → Float → Float → Float → Float → Float → Figures
totals pAc vAc vDc iAc iDc r =
    let pM = pAc +f vDc *f iDc in
    let i = hypot_of iAc iDc in
    let p = pM -f i *f i *f r in
    let v = load_volts (hypot_of vAc vDc) pM i r in
    let s = v *f i in
    record { p = p; s = s; q = reactive p s; pf = power_factor p s; v = v; i = i }
