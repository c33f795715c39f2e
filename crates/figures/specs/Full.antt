-- Refusal 6 in document 01's words: where "the accounting step would give" what cannot be kept. proofs/Stated.antt has it of `accounting_step`: `interval_full_law`.
use Rattle.std.specs.Prelude.{Bool, not, ◌&&◌, ◌||◌, ℕ, ◌+◌, ◌^◌, eqb, ltb, Float, ◌+ℤ◌, Result}
use Rattle.std.specs.Float.Ieee.{to_signed}
use Rattle.numbers.specs.Binary32.{◌+f◌, ◌*f◌}
use Rattle.refusals.specs.declared.Refusal.{Refusal}
use Rattle.refusals.specs.declared.Refusal.TheVariants as refusal
use Rattle.refusals.specs.Number.{refusal_number, told_number}
use Rattle.figures.specs.declared.acc.Acc.{Acc}
use Rattle.figures.specs.declared.tally.Tally.{Tally}
use Rattle.figures.specs.declared.tally.Counted.{Counted}
use Rattle.figures.specs.Acc.{sum_in_range, count_in_range, thousand}
use Rattle.figures.specs.Tally.{seconds}

-- of one energy: "a millijoule count .. outside signed 64 bits, or a sum in `Acc::add` that is not finite or outside -2^63 <= sum < 2^63" (one that is not finite is in no range)
abbrev pub add_full : Acc → Float → Bool
add_full a joules = let sum = a.frac +f (joules *f thousand) in not (sum_in_range sum) || not (count_in_range (a.mj +ℤ to_signed 63 sum))

-- of an interval of dt ms at the power p and the apparent power s: the energy (where `active`: it counts), the apparent energy, or the "counted time outside signed 64 bits"
abbrev pub interval_full : Tally → ℕ → Float → Float → Bool → Bool
interval_full t dt p s active = ((active && add_full t.e (p *f seconds dt)) || add_full t.va (s *f seconds dt)) || not (ltb (t.t_int + dt) (2 ^ 63))

-- the answer full, number 6
abbrev pub is_full : Result Counted Refusal → Bool
is_full answer = eqb (told_number answer) (refusal_number refusal.Full)
