-- What follows from the definitions: when there are values, and what they say of time, limit and phase.
use mathlib.Core.Path.{◌≡◌, refl, sym, subst}
use mathlib.Core.Logic.{◌⊎◌, inl, inr}
use mathlib.Core.Bool.{Bool, true, false, cond, ◌&&◌}
use Prim.Native.Nat.{ℕ, ◌-◌, ◌/◌, ◌<◌, ◌≤◌}
use native.Mathlib.Omega.{arith}
use borrow.Author.Tests.{ltb-true}
use lib.Dec.{ltb}
use lib.Ieee.{Float, nan, add, div, of_bits, of_int, round}
use Rattle.tables.specs.declared.calibration.Calibration.{Calibration}
use Rattle.tables.specs.declared.description.Description.{Description}
use Rattle.numbers.proofs.Cases.{either}
use Rattle.std.specs.Prelude.{None}
use Rattle.numbers.specs.Convert.{narrow}
use Rattle.figures.specs.Acc.{watt_hours}
use Rattle.figures.specs.declared.tally.Tally.{Tally}
use Rattle.state.specs.declared.Mode.{Mode}
use Rattle.state.specs.declared.Parts.{Parts}
use Rattle.state.specs.declared.Pw.{Pw}
use Rattle.state.specs.declared.Ranges.{Ranges}
use Rattle.state.specs.declared.Stamp.{Stamp}
use Rattle.state.specs.Counting.{elapsed}
use Rattle.state.specs.Fresh.{new_pw}
use Rattle.values.specs.declared.floors.Reached.{Reached}
use Rattle.values.specs.declared.marks.Countdown.{Countdown}
use Rattle.values.specs.declared.marks.Countdown.TheVariants.{Left, Expired}
use Rattle.values.specs.PowerVals.{zero_vals}
use Rattle.values.specs.Methods.{alternating, measured}
use Rattle.values.specs.Load.{alt_figures, load_figures}
use Rattle.values.specs.Marks.{over_number, over_left, over_elapsed, seconds_left, over_limit}
use Rattle.values.specs.Energy.{mean_power, energies}
use Rattle.values.specs.Vals.{in_force, pw_vals, state_only, pw_state}

-- ---- when there are values

pub off_has_none : (m : Pw) → m.mode.on ≡ false → pw_vals m ≡ None
unfolding pw_vals measured
off_has_none m h = rw h

-- a meter just made shows the source's ZERO
pub new_shows_zero : (d : Description) (c : Calibration) → pw_state (new_pw d c) ≡ zero_vals
unfolding pw_state pw_vals measured state_only new_pw in_force alternating energies mean_power watt_hours narrow add div of_int of_bits round zero_vals
new_shows_zero d c = refl

-- ---- time and limit

-- document 01: "Overload seconds are the low 16 bits of elapsed seconds": below 65,536 they are the seconds themselves
pub over_in_full : (tPoll t0 : ℕ) → elapsed tPoll t0 < 65536000 → over_elapsed tPoll t0 ≡ elapsed tPoll t0 / 1000
unfolding over_elapsed
over_in_full tPoll t0 h = omega (arith, h)

-- while it counts down there is a second left at least, and no more than the limit; else none
abbrev CountsDown : ℕ → Countdown → Type 0
CountsDown tLim n = ((over_number n ≡ 1) × (1 ≤ over_left n) × (over_left n ≤ tLim)) ⊎ ((over_left n ≡ 0) × ((over_number n ≡ 0) ⊎ (over_number n ≡ 2)))

left_by : (t : Bool) (tLim el : ℕ) → ltb el tLim ≡ t → CountsDown tLim (seconds_left tLim el)
unfolding seconds_left over_number over_left
left_by true tLim el h = subst (λ (b : Bool). CountsDown tLim (cond b (Left (tLim - el)) Expired)) (sym h) (inl (refl, omega (arith, ltb-true el tLim h), omega arith))
left_by false tLim el h = subst (λ (b : Bool). CountsDown tLim (cond b (Left (tLim - el)) Expired)) (sym h) (inr (refl, inr refl))

pub seconds_left_law : (t0 : Stamp) (tLim tPoll : ℕ) → CountsDown tLim (over_limit t0 tLim tPoll)
unfolding over_limit over_number over_left
seconds_left_law t0 tLim tPoll = either (CountsDown tLim) (t0.set && ltb 0 tLim) (left_by _ tLim (over_elapsed tPoll t0.at) refl) (inr (refl, inl refl))

-- below 2^32 seconds `secs` are the seconds counted
pub secs_in_full : (active : Bool) (t : Tally) → t.t_int < 4294967296000 → (energies active t).secs ≡ t.t_int / 1000
unfolding energies
secs_in_full active t h = omega (arith, h)

-- "NaN before any"
pub no_mean_yet : (active : Bool) (t : Tally) → t.t_int ≡ 0 → (energies active t).p_avg ≡ nan
unfolding energies mean_power
no_mean_yet active t h = rw h

-- ---- the alternating method has "no P, no PF"

pub no_power : (m : Mode) (a : Reached) (r : Ranges) (used : Parts) (ohms : Float) → alternating m ≡ true → let f = load_figures m a r used ohms in (f.p ≡ nan) × (f.q ≡ nan) × (f.pf ≡ nan)
unfolding load_figures alt_figures
no_power m a r used ohms h = (rw h, rw h, rw h)
