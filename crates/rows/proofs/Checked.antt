-- Every row holds, by computation, and none is lost.
use mathlib.Core.Path.{◌≡◌, refl}
use mathlib.Core.Bool.{true}
use lib.ListN.{length}
use lib.Ieee.{add, sum, sub, neg, mul, div, lt, le, eq, of_bits, of_int, to_signed, round}
use Rattle.codes.specs.Frame.{little_endian, twos_complement, decoded}
use Rattle.tables.specs.Bounds.{at_most}
use Rattle.tables.specs.Ranges.{iu_ir}
use Rattle.tables.specs.Window.{codes, levels, away, clears, nearer, picked, walk, inside, joined, cmp_window}
use Rattle.figures.specs.Acc.{sum_in_range, count_in_range, acc_step, add_to}
use Rattle.numbers.specs.Convert.{half_away}
use Rattle.numbers.specs.Root.{sqrt_of}
use Rattle.codes.specs.Flags.{holds_rms_lpf}
use Rattle.state.specs.Counting.{count_up}
use Rattle.state.specs.Fresh.{new_pw}
use Rattle.takes.specs.Scales.{code_less, rms_root}
use Rattle.steps.specs.Place.{kind_of, ready}
use Rattle.steps.specs.Reading.{zeros_in, reading_of, distance, lpf_signal, signal}
use Rattle.steps.specs.Verdict.{zero_mean}
use Rattle.jobs.specs.Bench.{kind_in, place_in, step_at, next, begun}
use Rattle.jobs.specs.Step.{zero_done}
use Rattle.jobs.specs.Frame.{counted, served_by, served, job_frame}
use Rattle.jobs.specs.Whole.{bench_in}
use Rattle.rows.specs.Rows.{all, rows}

pub checked : (all rows ≡ true) × (length rows ≡ 12)
unfolding rows decoded little_endian twos_complement at_most iu_ir codes levels away clears nearer picked walk inside joined cmp_window sum_in_range count_in_range acc_step add_to half_away sqrt_of holds_rms_lpf count_up new_pw code_less rms_root kind_of ready zeros_in reading_of distance lpf_signal signal zero_mean kind_in place_in step_at next begun zero_done counted served_by served job_frame bench_in add sum sub neg mul div lt le eq of_bits of_int to_signed round
checked = (refl, refl)
