-- What follows from the definitions: document 01's row of `cal_outcome`, the range of its steps, when nothing changes, the phase step where the end of a round ends a calibration other than well, and the trial step.
use mathlib.Core.Path.{◌≡◌, refl, sym, ap, subst, ◌∙◌}
use mathlib.Core.Bool.{Bool, true, false, not, cond, ◌&&◌, ◌||◌}
use Prim.Native.Nat.{◌<◌, ◌≤◌}
use native.Mathlib.Nat.{suc-ne-zero}
use borrow.Author.Tests.{lt-leb}
use lib.Dec.{eqb, leb}
use lib.IntN.{ℤ, pos, negsuc, nat_abs, ◌+ℤ◌, ◌-ℤ◌, +ℤ_comm, +ℤ-neg_ℤ_cancel}
use lib.Signed.{lt_z}
use lib.Ieee.{Float, nan, inf, of_bits, round, add, sub, neg, lt, le, eq, to_signed}
use mir.Syntax.{w8}
use mir.Val.{SFits}
use Rattle.std.specs.Prelude.{Result, Ok, Err}
use Rattle.std.specs.Result.{result_unwrap_or}
use Rattle.numbers.specs.Binary32.{is_finite}
use Rattle.numbers.specs.Convert.{half_away}
use Rattle.numbers.specs.Decimal.{decimal, minus_decimal}
use Rattle.tables.specs.Bounds.{within}
use Rattle.tables.specs.Constants.{cal_ok}
use Rattle.state.specs.declared.PhaseCal.{PhaseCal}
use Rattle.phase.specs.declared.CalError.{CalError}
use Rattle.phase.specs.declared.CalError.TheVariants.{Flat, Range}
use Rattle.phase.specs.declared.PhaseStep.{PhaseStep}
use Rattle.phase.specs.Phase.{most_steps, cal_outcome, cal_number, cal_off, trial_steps, not_reactive, on_trial, finished, too_active, null_of, round_mean, round_ended, round_full, cal_accounted}
use Rattle.numbers.proofs.Cases.{either}
use Rattle.phase.proofs.Bound.{half_away_law}
use Rattle.phase.proofs.Trial.{down_fits, up_fits}

-- ---- document 01's row of `cal_outcome`: "127.49; 127.5; infinite" gives "127; CAL_RANGE; CAL_FLAT"; and on the other side

pub row : (cal_outcome (decimal 12749 2) ≡ Ok (pos 127)) × (cal_outcome (decimal 1275 1) ≡ Err Range) × (cal_outcome (inf false) ≡ Err Flat)
unfolding cal_outcome is_finite within half_away of_bits round add sub neg lt le eq to_signed
row = (refl, refl, refl)

pub row_below : (cal_outcome (minus_decimal 12749 2) ≡ Ok (negsuc 126)) × (cal_outcome (minus_decimal 1275 1) ≡ Err Range) × (cal_outcome (inf true) ≡ Err Flat) × (cal_outcome nan ≡ Err Flat)
unfolding cal_outcome is_finite within half_away of_bits round add sub neg lt le eq to_signed
row_below = (refl, refl, refl, refl)

-- ---- the steps of an outcome lie from -127 to 127

abbrev InSteps : Result ℤ CalError → Type 0
InSteps (Ok v) = nat_abs v ≤ 127
InSteps (Err e) = Unit {0}

in_steps : (s : Float) → InSteps (cal_outcome s)
unfolding cal_outcome within
in_steps s = go (is_finite s) (le (neg most_steps) s) (le s most_steps) refl refl
  where
    go : (f l u : Bool) → is_finite s ≡ f → le (neg most_steps) s ≡ l → InSteps (cond f (cond (l && u) (Ok (to_signed 7 (half_away s))) (Err Range)) (Err Flat))
    go false l u e k = tt
    go true false u e k = tt
    go true true false e k = tt
    go true true true e k = half_away_law s e k

pub steps_in : (s : Float) (v : ℤ) → cal_outcome s ≡ Ok v → nat_abs v ≤ 127
steps_in s v e = subst InSteps e (in_steps s)

-- ---- the accounting step leaves all as it was while no calibration runs, and while fewer than 8 are counted

abbrev same : PhaseCal → Bool → PhaseStep
same c req = record { phase_cal = c; cal_req = req }

module _ (c : PhaseCal) (req : Bool) where
  pub idle : c.cal ≡ 0 → cal_accounted c req ≡ same c req
  unfolding cal_accounted round_full
  idle e = rw (e)

  with_both : (b : Bool) → leb 8 c.cal_n ≡ false → cond (not b && leb 8 c.cal_n) (round_ended c req) (same c req) ≡ same c req
  with_both true e = refl
  with_both false e = rw (e)

  pub few : c.cal_n < 8 → cal_accounted c req ≡ same c req
  unfolding cal_accounted round_full
  few l = with_both (eqb c.cal 0) (lt-leb 8 c.cal_n l)

-- ---- a round's end

-- the phase step s, where no calibration is left and its result is not CAL_OK
abbrev Restored : PhaseCal → ℤ → Type 0
Restored a s = a.cal ≡ 0 → (a.cal_res ≡ cal_ok → ⊥) → a.sph ≡ s

not_ok : (o : Result ℤ CalError) (s0 : ℤ) → (cal_number o ≡ cal_ok → ⊥) → result_unwrap_or o s0 ≡ s0
not_ok (Ok v) s0 n = absurd (n refl)
not_ok (Err e) s0 n = refl

module _ (c : PhaseCal) (req : Bool) where
  abbrev step : Bool → Bool → PhaseStep
  step one active =
      cond one
      (cond active (record { phase_cal = not_reactive c; cal_req = req }) (record { phase_cal = on_trial c (round_mean c); cal_req = true }))
      (record { phase_cal = finished c (round_mean c); cal_req = true })

  -- the end of a round ends a calibration other than well: in round 1 the phase step stays, in round 2 it is put back
  pub ends_otherwise : round_full c ≡ true → let a = (cal_accounted c req).phase_cal in a.cal ≡ 0 → (a.cal_res ≡ cal_ok → ⊥) → a.sph ≡ cond (eqb c.cal 1) c.sph c.cal_s0
  unfolding cal_accounted round_ended not_reactive on_trial finished
  ends_otherwise full = subst (λ (b : Bool). Restored (cond b (round_ended c req) (same c req)).phase_cal (cond (eqb c.cal 1) c.sph c.cal_s0)) (sym full)
      (go (eqb c.cal 1) (too_active c))
    where
      go : (one active : Bool) → Restored (step one active).phase_cal (cond one c.sph c.cal_s0)
      go true true z n = refl
      go true false z n = absurd (suc-ne-zero 1 z)
      go false active z n = not_ok (cal_outcome (null_of c (round_mean c))) c.cal_s0 n

  -- every end of a round but that of a load that is not reactive asks the host to re-apply
  pub asks : round_full c ≡ true → (cal_accounted c req).cal_req ≡ (not (eqb c.cal 1 && too_active c) || req)
  unfolding cal_accounted round_ended
  asks full = rw (full) (go (eqb c.cal 1) (too_active c))
    where
      go : (one active : Bool) → (step one active).cal_req ≡ (not (one && active) || req)
      go true true = refl
      go true false = refl
      go false active = refl

-- ---- document 01: "A job start sets `cal` to 0 and leaves `sph` as it is"

pub off_leaves : (c : PhaseCal) → ((cal_off c).cal ≡ 0) × ((cal_off c).sph ≡ c.sph) × ((cal_off c).cal_res ≡ c.cal_res)
unfolding cal_off
off_leaves c = (refl, refl, refl)

-- ---- the trial step is 48 away, and fits 8 bits

apart : (z k : ℤ) → z +ℤ k -ℤ z ≡ k
apart z k = ap (λ (v : ℤ). v -ℤ z) (+ℤ_comm z k) ∙ +ℤ-neg_ℤ_cancel k z

pub trial_apart : (s0 : ℤ) → nat_abs (trial_steps s0 -ℤ s0) ≡ 48
unfolding trial_steps
trial_apart s0 = either (λ (v : ℤ). nat_abs (v -ℤ s0) ≡ 48) (lt_z (pos 79) s0) (ap nat_abs (apart s0 (negsuc 47))) (ap nat_abs (apart s0 (pos 48)))

pub trial_fits : (s0 : ℤ) → SFits w8 s0 → SFits w8 (trial_steps s0)
unfolding trial_steps
trial_fits s0 f = go (lt_z (pos 79) s0) refl
  where
    go : (b : Bool) → lt_z (pos 79) s0 ≡ b → SFits w8 (cond b (s0 +ℤ negsuc 47) (s0 +ℤ pos 48))
    go true e = down_fits s0 f e
    go false e = up_fits s0 f e
