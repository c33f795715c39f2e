-- Document 01's table "Frames and figures on each side": its rows marked P, each a test of the definition that the contracts cite.
-- One list for all modules, checked as a whole in proofs/Checked.antt.
use Rattle.std.specs.Prelude.{Bool, true, false, ◌&&◌, List, [], ◌∷◌, ◌++◌, ℕ, eqb, ℤ, pos, negsuc, get_or, Float, Option, Some, None, Result, Ok, Err}
use Rattle.std.specs.Float.{binary32}
use Rattle.std.specs.Float.Ieee.{eq, round}
use Rattle.refusals.specs.declared.Refusal.{Refusal}
use Rattle.codes.specs.declared.Codes.{Codes}
use Rattle.codes.specs.Frame.{decoded}
use Rattle.numbers.specs.Decimal.{decimal}
use Rattle.tables.specs.Calibration.{no_calibration}
use Rattle.tables.specs.Ranges.{iu_ir}
use Rattle.tables.specs.Window.{cmp_window}
use Rattle.figures.specs.declared.acc.Sum.{Sum}
use Rattle.figures.specs.Acc.{fresh_acc, add_to}
use Rattle.state.specs.Fresh.{new_pw}
use Rattle.steps.specs.declared.place.Kind.TheVariants.{Zero}
use Rattle.jobs.specs.declared.bench.Bench.{Bench}
use Rattle.jobs.specs.Bench.{begun}
use Rattle.jobs.specs.Frame.{job_frame}
use Rattle.jobs.specs.Whole.{bench_in}

-- `negsuc n` is -(n + 1)
abbrev same_int : ℤ → ℤ → Bool
same_int (pos a) (pos b) = eqb a b
same_int (pos a) (negsuc b) = false
same_int (negsuc a) (pos b) = false
same_int (negsuc a) (negsuc b) = eqb a b

-- an answer with this AD1, LPF or RMS
abbrev has_ad1 : ℤ → Result Codes Refusal → Bool
has_ad1 z (Ok codes) = same_int codes.ad1 z
has_ad1 z (Err refusal) = false

abbrev has_lpf : ℤ → Result Codes Refusal → Bool
has_lpf z (Ok codes) = same_int codes.lpf z
has_lpf z (Err refusal) = false

abbrev has_rms : ℤ → Result Codes Refusal → Bool
has_rms z (Ok codes) = same_int codes.rms z
has_rms z (Err refusal) = false

-- a frame of three bytes of AD1, three of AD2, which nothing reads, three of LPF and five of RMS
abbrev frame : List ℕ → List ℕ → List ℕ → List ℕ
frame ad1 lpf rms = ad1 ++ (0xa5 ∷ 0xa5 ∷ 0xa5 ∷ []) ++ lpf ++ rms

-- bytes that a row does not speak of
abbrev three : List ℕ
three = 0x11 ∷ 0x22 ∷ 0x33 ∷ []

abbrev five : List ℕ
five = 0x11 ∷ 0x22 ∷ 0x33 ∷ 0x44 ∷ 0x55 ∷ []

-- `iu_ir` gives this unit and gain index
abbrev is_unit : ℕ → ℕ → ℕ → Bool
is_unit k u r = eqb (iu_ir k).iu u && eqb (iu_ir k).ir r

-- a window of this code, and none
abbrev is_r21 : ℕ → Option ℕ → Bool
is_r21 n None = false
is_r21 n (Some code) = eqb code n

abbrev is_none : Option ℕ → Bool
is_none None = true
is_none (Some code) = false

-- a meter's zero job that has begun: a description and words, of which a zero reading takes nothing
abbrev begun_bench : Bench
begun_bench = (begun 0 Zero (bench_in (new_pw (record { mv_div = []; shunt = []; over = decimal 1 0; a_auto = false }) no_calibration))).bench

-- a frame with this LPF code, RMS and LPF ready
abbrev zero_frame : ℤ → Bench → Bench
zero_frame lpf b = (job_frame 0 no_calibration 0x18 (record { ad1 = pos 0; lpf = lpf; rms = pos 0 }) b).bench

-- the zero that the first step notes, of a frame that is dropped and these three readings
abbrev zero_of : ℤ → ℤ → ℤ → ℤ
zero_of a b c = get_or (zero_frame c (zero_frame b (zero_frame a (zero_frame (pos 4000) begun_bench)))).job.job_zx 0 (pos 0)

-- an add to what an earlier one left
abbrev add_again : Float → Result Sum Refusal → Result Sum Refusal
add_again joules (Ok s) = add_to s.acc joules
add_again joules (Err r) = Err r

-- a count of this many millijoules and this fraction
abbrev is_sum : ℤ → Float → Result Sum Refusal → Bool
is_sum mj frac (Ok s) = same_int s.acc.mj mj && eq s.acc.frac frac
is_sum mj frac (Err r) = false

-- 1/1024 J
abbrev small : Float
small = round binary32 false 1 1024

unfoldable pub rows : List Bool
rows =
    has_lpf (pos 262143) (decoded (frame three (0xff ∷ 0xff ∷ 0x03 ∷ []) five))
    ∷ has_lpf (negsuc 262143) (decoded (frame three (0x00 ∷ 0x00 ∷ 0x04 ∷ []) five))
    ∷ has_lpf (pos 0) (decoded (frame three (0x00 ∷ 0x00 ∷ 0xf8 ∷ []) five))
    ∷ has_ad1 (negsuc 8388607) (decoded (frame (0x00 ∷ 0x00 ∷ 0x80 ∷ []) three five))
    ∷ has_rms (pos 137438953471) (decoded (frame three three (0xff ∷ 0xff ∷ 0xff ∷ 0xff ∷ 0x1f ∷ [])))
    ∷ has_rms (negsuc 137438953471) (decoded (frame three three (0x00 ∷ 0x00 ∷ 0x00 ∷ 0x00 ∷ 0x20 ∷ [])))
    ∷ (is_unit 0 2 0 && is_unit 5 0 1 && is_unit 200 0 1)
    ∷ is_r21 0xdd (cmp_window (decimal 0 0) (decimal 5 2))
    ∷ is_none (cmp_window (decimal 0 0) (decimal 2 2))
    ∷ is_r21 0x06 (cmp_window (decimal 1 0) (decimal 1 0))
    ∷ same_int (zero_of (negsuc 1) (negsuc 1) (negsuc 0)) (negsuc 1)
    ∷ is_sum (pos 1) (decimal 953125 6) (add_again small (add_to fresh_acc small))
    ∷ []

abbrev pub all : List Bool → Bool
all [] = true
all (b ∷ bs) = b && all bs
