-- The accounting step of one interval: what `pw_account` of the source adds to `e`, `va` and `t_int`, and refusal 6, "the accounting step would give a millijoule count or counted time outside signed 64 bits":
-- the counts are tested in each add (Acc.antt), the time here. The step is taken while running and after a last time; elapsed time, last time and the 0 for a power that is not finite are the meter's.
use Rattle.std.specs.Prelude.{◌≡◌, ◌⊎◌, Bool, true, false, if◌then◌else◌, ℕ, ◌+◌, ◌^◌, ltb, ℤ, pos, ◌+ℤ◌, Float, Result, Ok, Err}
use Rattle.std.specs.Float.{binary32}
use Rattle.std.specs.Float.Ieee.{of_bits, of_int}
use Rattle.numbers.specs.Binary32.{◌*f◌}
use Rattle.refusals.specs.declared.Refusal.{Refusal}
use Rattle.refusals.specs.declared.Refusal.TheVariants as refusal
use Rattle.refusals.specs.Number.{refusal_number, told_number}
use Rattle.figures.specs.declared.acc.Acc.{Acc}
use Rattle.figures.specs.declared.acc.Sum.{Sum}
use Rattle.figures.specs.declared.tally.Tally.{Tally}
use Rattle.figures.specs.declared.tally.Counted.{Counted}
use Rattle.figures.specs.Acc.{fresh_acc, add_to}

-- nothing counted: what `energy_reset` of the source leaves of these three (`t_last`, which it clears as well, is the meter's)
abbrev pub fresh_tally : Tally
fresh_tally = record { e = fresh_acc; va = fresh_acc; t_int = 0 }

-- 1e-3
abbrev pub milli : Float
milli = of_bits binary32 0x3a83_126f

-- the seconds of an interval of dt ms
unfoldable pub seconds : ℕ → Float
seconds dt = of_int binary32 (pos dt) *f milli

-- the active energy; in the alternating method without DC coupling (`!alt || dc` is false) it stays
unfoldable pub energy_step : Bool → Acc → Float → Result Sum Refusal
energy_step true e joules = add_to e joules
energy_step false e joules = Ok (record { acc = e; gained = pos 0 })

-- the two energies with the time tInt + dt where that is below 2^63, else full; the whole millijoules of the active one are handed on
unfoldable pub with_time : Sum → Acc → ℕ → ℕ → Result Counted Refusal
with_time e va tInt dt = if ltb (tInt + dt) (2 ^ 63) then Ok (record { tally = record { e = e.acc; va = va; t_int = tInt + dt }; gained = e.gained }) else Err refusal.Full

-- counted only where both energies took their part
unfoldable pub both : Result Sum Refusal → Result Sum Refusal → ℕ → ℕ → Result Counted Refusal
both (Ok e) (Ok va) tInt dt = with_time e va.acc tInt dt
both (Ok e) (Err r) tInt dt = Err r
both (Err r) apparent tInt dt = Err r

-- an interval of dt ms at the power p and the apparent power s, the source's `p_tot` and `s_last`; `active`: whether the active energy counts
unfoldable pub accounting_step : Tally → ℕ → Float → Float → Bool → Result Counted Refusal
accounting_step t dt p s active = both (energy_step active t.e (p *f seconds dt)) (add_to t.va (s *f seconds dt)) t.t_int dt

-- of each answer to a step from t: the tally that stands after it, and the whole millijoules that its active count gained (an allowance of active energy counts them; the apparent count's are not asked for);
-- document 01's number is its `told_number`
abbrev pub accounted_tally : Tally → Result Counted Refusal → Tally
accounted_tally t (Ok c) = c.tally
accounted_tally t (Err r) = t

abbrev pub accounted_whole : Result Counted Refusal → ℤ
accounted_whole (Ok c) = c.gained
accounted_whole (Err r) = pos 0

-- done; or full, and the tally as it was. Either way the active count gained what is told
unfoldable pub Told : Tally → Result Counted Refusal → Type 0
Told t answer =
    ((told_number answer ≡ 0) ⊎ ((told_number answer ≡ refusal_number refusal.Full) × (accounted_tally t answer ≡ t)))
    × ((accounted_tally t answer).e.mj ≡ t.e.mj +ℤ accounted_whole answer)
