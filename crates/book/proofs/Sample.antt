-- Lists of calls computed in the book, from a meter just made: it is no empty claim that a job ends well.
use mathlib.Core.Path.{◌≡◌, refl}
use mathlib.Core.List.{List, [], ◌∷◌, ◌++◌}
use Prim.Native.Nat.{ℕ, zero, suc, ◌/◌}
use lib.IntN.{pos, negsuc}
use lib.ListN.{replicate}
use lib.Ieee.{binary32, add, sum, sub, neg, mul, div, lt, le, eq, of_bits, of_int, to_signed, round}
use Rattle.numbers.specs.Binary32.{is_finite, abs_of}
use Rattle.numbers.specs.Convert.{half_away}
use Rattle.numbers.specs.Root.{sqrt_of}
use Rattle.codes.specs.Flags.{holds_ad1, holds_rms_lpf}
use Rattle.codes.specs.Frame.{little_endian, twos_complement, decoded}
use Rattle.tables.specs.Bounds.{at_most, entry_at, within}
use Rattle.tables.specs.Constants.{v_lim, kv}
use Rattle.tables.specs.Decided.{k_acv, dcv_negk}
use Rattle.tables.specs.Gain.{plausible}
use Rattle.tables.specs.Calibration.{no_calibration, factor, offset, cal}
use Rattle.state.specs.Counting.{deadline, count_up}
use Rattle.state.specs.Fresh.{new_pw}
use Rattle.takes.specs.Scales.{code_less, rms_root}
use Rattle.steps.specs.Place.{kind_of, zero_steps, ready}
use Rattle.steps.specs.Reading.{none, kept, zeros_in, reading_of, raw_reading, dc_reference, ad1_volts, distance, lpf_signal, signal}
use Rattle.steps.specs.Verdict.{zero_mean, is_dc, raw_verdict, gain_verdict, ratio_verdict, rounds_differ}
use Rattle.jobs.specs.Bench.{kind_in, place_in, ended, ended_if_any, step_at, next, begun}
use Rattle.jobs.specs.Step.{zero_done, gain_done, raw_done, ref_done, judged}
use Rattle.jobs.specs.Frame.{counted, served_by, served, job_frame}
use Rattle.jobs.specs.Whole.{bench_in, with_bench, job_started, job_ended, job_polled}
use Rattle.ranging.specs.Apply.{apply}
use Rattle.orders.specs.Answer.{late, refused_with, marked, done}
use Rattle.orders.specs.Apply.{applied, aborted}
use Rattle.orders.specs.Switches as switches
use Rattle.orders.specs.Switches.{switched_on, switched_off}
use Rattle.orders.specs.Starts.{start_job}
use Rattle.meter.specs.Making.{plain_description}
use Rattle.meter.specs.Frame.{in_job, taken, poll}
use Rattle.meter.specs.Calls.{Call, On, Off, ZeroJob, GainJob, Frame}
use Rattle.book.specs.Book.{step_of, mean_x, mean_y, zero_at, finished, outcome, Book, earned, blank, books}

-- a frame of AD1 5, LPF -2 and RMS 0, with all three bits set
abbrev frame : Call
frame = Frame 9 0x1c (5 ∷ 0 ∷ 0 ∷ 0 ∷ 0 ∷ 0 ∷ 0xfe ∷ 0xff ∷ 0xff ∷ 0 ∷ 0 ∷ 0 ∷ 0 ∷ 0 ∷ [])

-- some 200 V: AD1 120797 and LPF 4194
abbrev frame200 : Call
frame200 = Frame 9 0x1c (0xdd ∷ 0xd7 ∷ 1 ∷ 0 ∷ 0 ∷ 0 ∷ 0x62 ∷ 0x10 ∷ 0 ∷ 0 ∷ 0 ∷ 0 ∷ 0 ∷ 0 ∷ [])

-- the book after these calls on a plain meter
abbrev after_calls : List Call → Book
after_calls cs = books no_calibration (new_pw plain_description no_calibration) cs blank

-- on, a zero job, and its 52 frames: each mean is a zero
stores : (after_calls (On 0 ∷ ZeroJob 1 ∷ replicate 52 frame)).zeros ≡ kept (replicate 6 (negsuc 1)) (replicate 6 (pos 5)) (negsuc 1)
unfolding new_pw switches.on switches.off switched_on switched_off applied apply aborted job_ended with_bench ended_if_any bench_in late marked done deadline start_job job_started begun step_at kind_in kind_of place_in poll decoded little_endian twos_complement taken in_job job_polled job_frame served served_by counted count_up zero_done gain_done raw_done ref_done judged next ended refused_with ready holds_ad1 holds_rms_lpf outcome finished mean_x mean_y zero_at reading_of raw_reading dc_reference ad1_volts factor offset cal signal lpf_signal distance code_less rms_root sqrt_of zero_mean half_away is_dc raw_verdict gain_verdict ratio_verdict rounds_differ plausible within is_finite abs_of v_lim kv k_acv dcv_negk zeros_in at_most entry_at add sum sub neg mul div lt le eq of_bits of_int to_signed round
stores = refl

-- off before the last frame, which is then refused: none
aborts : (after_calls (On 0 ∷ ZeroJob 1 ∷ replicate 51 frame ++ (Off 2 ∷ frame ∷ []))).zeros ≡ none
unfolding new_pw switches.on switches.off switched_on switched_off applied apply aborted job_ended with_bench ended_if_any bench_in late marked done deadline start_job job_started begun step_at kind_in kind_of place_in poll decoded little_endian twos_complement taken in_job job_polled job_frame served served_by counted count_up zero_done gain_done raw_done ref_done judged next ended refused_with ready holds_ad1 holds_rms_lpf outcome finished mean_x mean_y zero_at reading_of raw_reading dc_reference ad1_volts factor offset cal signal lpf_signal distance code_less rms_root sqrt_of zero_mean half_away is_dc raw_verdict gain_verdict ratio_verdict rounds_differ plausible within is_finite abs_of v_lim kv k_acv dcv_negk zeros_in at_most entry_at add sum sub neg mul div lt le eq of_bits of_int to_signed round
aborts = refl

-- on, a gain job, and the 16 frames of a DC job: range 3 has its gain, which is the published Rust's
earns : (after_calls (On 0 ∷ GainJob 1 ∷ replicate 16 frame200)).gain 3 ≡ earned (of_bits binary32 0x3f80_02a9)
unfolding new_pw switches.on switches.off switched_on switched_off applied apply aborted job_ended with_bench ended_if_any bench_in late marked done deadline start_job job_started begun step_at kind_in kind_of place_in poll decoded little_endian twos_complement taken in_job job_polled job_frame served served_by counted count_up zero_done gain_done raw_done ref_done judged next ended refused_with ready holds_ad1 holds_rms_lpf outcome finished mean_x mean_y zero_at reading_of raw_reading dc_reference ad1_volts factor offset cal signal lpf_signal distance code_less rms_root sqrt_of zero_mean half_away is_dc raw_verdict gain_verdict ratio_verdict rounds_differ plausible within is_finite abs_of v_lim kv k_acv dcv_negk zeros_in at_most entry_at add sum sub neg mul div lt le eq of_bits of_int to_signed round
earns = refl

-- frame number i of a zero job serves step i / 4
steps : ℕ → ℕ → List ℕ
steps zero i = []
steps (suc n) i = step_of zero_steps i ∷ steps n (suc i)

quarters : ℕ → ℕ → List ℕ
quarters zero i = []
quarters (suc n) i = i / 4 ∷ quarters n (suc i)

fours : steps 52 0 ≡ quarters 52 0
unfolding steps quarters
fours = refl
