-- What follows from the definitions: when a result is turned down, and what each take leaves as it was.
use mathlib.Core.Path.{◌≡◌, refl}
use mathlib.Core.Bool.{Bool, true, false, not, cond, ◌&&◌}
use Prim.Native.Nat.{ℕ, ◌%◌}
use lib.Dec.{eqb}
use lib.IntN.{pos}
use lib.Ieee.{Float, lt}
use Rattle.std.specs.Prelude.{Option, Some, None, is_some, IfSome}
use Rattle.numbers.specs.Binary32.{◌*f◌, zero_f}
use Rattle.codes.specs.declared.Codes.{Codes}
use Rattle.tables.specs.Constants.{r34_xy, r34_xx, r34_yy}
use Rattle.state.specs.declared.Corrections.{Corrections}
use Rattle.state.specs.declared.Parts.{Parts}
use Rattle.state.specs.declared.PhaseCal.{PhaseCal}
use Rattle.state.specs.declared.Ranges.{Ranges}
use Rattle.state.specs.Seen.{both_seen}
use Rattle.takes.specs.declared.scales.Instrument.{Instrument}
use Rattle.takes.specs.declared.take.Measured.{Measured}
use Rattle.takes.specs.Scales.{zero_at, zero_x, zero_d, zero_y, rms_root}
use Rattle.takes.specs.Parts.{xy_parts, i_parts, v_parts, alt_v_parts, dc_v_parts, dc_i_parts}
use Rattle.takes.specs.Take.{xy_too_large, root_too_large, phase_counted, take_xy, take_xx, take_yy, take, take_alt_v, take_alt_i, take_alt, dc_v_taken, dc_i_taken, PhaseKept}
use Rattle.numbers.proofs.Cases.{either}

-- ---- document 01: "XY is turned down when |RMS| > 2^36; XX and YY when the computed root exceeds 262,144"

down_exactly : (t : Bool) (x : Measured) → is_some (cond t None (Some x)) ≡ not t
down_exactly true x = refl
down_exactly false x = refl

module _ (w : Instrument) (codes : Codes) (m : Measured) where
  pub xy_exactly : (r : Ranges) → is_some (take_xy w r codes m) ≡ not (xy_too_large codes.rms)
  unfolding take_xy
  xy_exactly r = down_exactly (xy_too_large codes.rms) _

  pub xx_exactly : (ik : ℕ) → is_some (take_xx w ik codes m) ≡ not (root_too_large (rms_root codes.rms))
  unfolding take_xx
  xx_exactly ik = down_exactly (root_too_large (rms_root codes.rms)) _

  pub yy_exactly : (vr : ℕ) → is_some (take_yy w vr codes m) ≡ not (root_too_large (rms_root codes.rms))
  unfolding take_yy
  yy_exactly vr = down_exactly (root_too_large (rms_root codes.rms)) _

  pub alt_exactly : (r : Ranges) (phase : ℕ) → is_some (take_alt w r phase codes m) ≡ not (root_too_large (rms_root codes.rms))
  unfolding take_alt
  alt_exactly r phase = down_exactly (root_too_large (rms_root codes.rms)) _

-- ---- what each take leaves of the smoothed values

module _ (seen : ℕ) (x y : Float) (p : Parts) where
  -- a power result leaves the voltage and the AC current
  pub xy_leaves : (r : Ranges) → let q = xy_parts r seen x y p in (q.v_ac ≡ p.v_ac) × (q.v_dc ≡ p.v_dc) × (q.i_ac ≡ p.i_ac) × (q.vac_dc ≡ p.vac_dc)
  unfolding xy_parts
  xy_leaves r = (refl, refl, refl, refl)

  -- a current result leaves the power and the voltage
  pub i_leaves : (ik : ℕ) → let q = i_parts ik seen x y p in (q.p_ac ≡ p.p_ac) × (q.v_ac ≡ p.v_ac) × (q.v_dc ≡ p.v_dc) × (q.vac_dc ≡ p.vac_dc)
  unfolding i_parts
  i_leaves ik = (refl, refl, refl, refl)

  -- a voltage result leaves the power and the current, in each of the three paths
  pub v_leaves : (vr : ℕ) → let q = v_parts vr seen x y p in (q.p_ac ≡ p.p_ac) × (q.i_ac ≡ p.i_ac) × (q.i_dc ≡ p.i_dc) × (q.vac_dc ≡ p.vac_dc)
  unfolding v_parts
  v_leaves vr = (refl, refl, refl, refl)

  pub alt_v_leaves : (vr : ℕ) → let q = alt_v_parts vr seen x p in (q.p_ac ≡ p.p_ac) × (q.i_ac ≡ p.i_ac) × (q.i_dc ≡ p.i_dc) × (q.vac_dc ≡ p.vac_dc)
  unfolding alt_v_parts
  alt_v_leaves vr = (refl, refl, refl, refl)

  pub dc_v_leaves : (vr : ℕ) → let q = dc_v_parts vr seen x y p in (q.p_ac ≡ p.p_ac) × (q.i_ac ≡ p.i_ac) × (q.i_dc ≡ p.i_dc)
  unfolding dc_v_parts
  dc_v_leaves vr = (refl, refl, refl)

  -- the DC row's current leaves the voltage
  pub dc_i_leaves : (ik : ℕ) → let q = dc_i_parts ik seen x p in (q.v_ac ≡ p.v_ac) × (q.v_dc ≡ p.v_dc) × (q.vac_dc ≡ p.vac_dc)
  unfolding dc_i_parts
  dc_i_leaves ik = (refl, refl, refl)

-- ---- what each take leaves of the phase calibration: only the sum and its count ever change

same : (c : PhaseCal) → PhaseKept c c
same c = (refl, refl, refl, refl, refl)

pub phase_leaves : (c : PhaseCal) (p : Float) (seen : ℕ) (parts : Parts) → PhaseKept (phase_counted c p seen parts) c
unfolding phase_counted
phase_leaves c p seen parts =
    let counts = not (eqb c.cal 0) && both_seen seen && lt zero_f (parts.v_ac *f parts.i_ac) in
    either (λ (x : PhaseCal). PhaseKept x c) counts (same c) (same c)

module _ (w : Instrument) (r : Ranges) (codes : Codes) (m : Measured) where
  pub take_keeps_phase : (stat : ℕ) → IfSome (take w r stat codes m) (λ t. PhaseKept t.phase_cal m.phase_cal)
  unfolding take take_xy take_xx take_yy
  take_keeps_phase stat =
      let c = m.phase_cal in
      let P : Option Measured → Type 0 = λ o. IfSome o (λ t. PhaseKept t.phase_cal c) in
      let large = root_too_large (rms_root codes.rms) in
      either P (eqb stat r34_xy) (either P (xy_too_large codes.rms) tt (phase_leaves c _ _ _))
      (either P (eqb stat r34_xx) (either P large tt (same c)) (either P (eqb stat r34_yy) (either P large tt (same c)) tt))

  pub alt_keeps_phase : (phase : ℕ) → IfSome (take_alt w r phase codes m) (λ t. t.phase_cal ≡ m.phase_cal)
  unfolding take_alt take_alt_v take_alt_i
  alt_keeps_phase phase =
      either (λ (o : Option Measured). IfSome o (λ t. t.phase_cal ≡ m.phase_cal)) (root_too_large (rms_root codes.rms)) tt
      (either (λ (x : Measured). x.phase_cal ≡ m.phase_cal) (eqb (phase % 2) 0) refl refl)

  pub dc_keeps_phase : ((dc_v_taken w r.vr codes m).phase_cal ≡ m.phase_cal) × ((dc_i_taken w r.ik codes m).phase_cal ≡ m.phase_cal)
  unfolding dc_v_taken dc_i_taken
  dc_keeps_phase = (refl, refl)

  -- ---- each R34 has its own take; any other is turned down
  pub by_stat : (take w r r34_xy codes m ≡ take_xy w r codes m) × (take w r r34_xx codes m ≡ take_xx w r.ik codes m) × (take w r r34_yy codes m ≡ take_yy w r.vr codes m)
  unfolding take
  by_stat = (refl, refl, refl)

-- ---- while no zero is stored, each counts as 0
module _ (c : Corrections) (none : c.zero_ok ≡ false) (ik : ℕ) where
  pub no_zero_x : zero_x c ik ≡ pos 0
  unfolding zero_at
  no_zero_x = rw (none)

  pub no_zero_d : zero_d c ik ≡ pos 0
  unfolding zero_at
  no_zero_d = rw (none)

  pub no_zero_y : zero_y c ≡ pos 0
  unfolding zero_y
  no_zero_y = rw (none)
