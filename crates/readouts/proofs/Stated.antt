-- What follows from the definitions: an energy is never over and what is over has the number 0.0; no readout is minus zero; what the energy box takes from the source's `reading_vals`; and a count that the phone is sent fits.
use mathlib.Core.Path.{◌≡◌, refl, sym, ◌∙◌}
use mathlib.Core.Logic.{◌⊎◌, inl, inr}
use mathlib.Core.Bool.{Bool, true, false, cond, not, ◌||◌, true≢false}
use Prim.Native.Nat.{ℕ, zero, suc, ◌-◌, ◌≤◌}
use native.Mathlib.Omega.{arith}
use lib.Dec.{eqb}
use lib.Ieee.{Float}
use Rattle.numbers.specs.Binary32.{◌*f◌, zero_f, is_finite, signum_of}
use Rattle.numbers.proofs.Cases.{either}
use Rattle.tables.specs.Bounds.{at_most}
use Rattle.tables.specs.Constants.{main_p, main_wh, main_vah}
use Rattle.tables.specs.Ranges.{iu_ir}
use Rattle.formats.specs.declared.format.Format.{Format}
use Rattle.formats.specs.declared.readout.Val.{Val}
use Rattle.formats.specs.declared.units.Unit.{Unit}
use Rattle.formats.specs.declared.units.Unit.TheVariants.{Volt, Kilowatt}
use Rattle.formats.specs.Formats.{energy_format, p_format}
use Rattle.formats.specs.Readout.{val_of, over_val, tens, shown, shown_unless}
use Rattle.formats.proofs.Stated.{minus_zero, plus_zero, shown_no_minus_zero, unless_no_minus_zero, energy_decimals, power_decimals}
use Rattle.values.specs.declared.power_vals.PowerVals.{PowerVals}
use Rattle.readouts.specs.declared.bluetooth.Fitted.{Fitted}
use Rattle.readouts.specs.Readings.{full_scale, volt_decimals, main_si, any_over, v_readout, i_format, i_readout, energy_readout, power_readout, main_readout, reading_vals, energy_val}
use Rattle.readouts.specs.Bluetooth.{tenth, held_count, too_large, decimals_that_fit, held_number, volts_for, volt_group, bt_val, bt_main}

-- ---- document 01: "over gives number 0.0"

pub v_over_is_zero : (pv : PowerVals) → pv.limits.v_ol ≡ true → (v_readout pv).number ≡ zero_f
unfolding v_readout shown_unless over_val
v_over_is_zero pv h = rw h

pub i_over_is_zero : (pv : PowerVals) → pv.limits.i_ol ≡ true → (i_readout pv).number ≡ zero_f
unfolding i_readout shown_unless over_val
i_over_is_zero pv h = rw h

pub power_over_is_zero : (pv : PowerVals) → any_over pv.limits ≡ true → ((power_readout pv).number ≡ zero_f) × ((reading_vals pv).si ≡ zero_f) × ((bt_main pv).number ≡ zero_f)
unfolding power_readout reading_vals bt_main shown_unless over_val
power_over_is_zero pv h = (rw h, rw h, rw h)

-- the source: "Energy (the fallback has no Wh: VAh): never OL, the integral holds"
pub wh_not_over : (pv : PowerVals) → pv.in_force.main ≡ main_wh → (main_readout pv).over ≡ false
unfolding main_readout energy_readout shown val_of
wh_not_over pv h = rw h

pub vah_not_over : (pv : PowerVals) → pv.in_force.main ≡ main_vah → (main_readout pv).over ≡ false
unfolding main_readout energy_readout shown val_of
vah_not_over pv h = rw h

-- ---- the energy box

abbrev with_main : ℕ → PowerVals → PowerVals
with_main main pv =
    record {
      load = pv.load;
      vdc = pv.vdc;
      idc = pv.idc;
      f_ok = pv.f_ok;
      burden_v = pv.burden_v;
      energies = pv.energies;
      ranges = pv.ranges;
      in_force = record {
        alt = pv.in_force.alt;
        dc = pv.in_force.dc;
        coup = pv.in_force.coup;
        comp = pv.in_force.comp;
        run = pv.in_force.run;
        sph = pv.in_force.sph;
        main = main;
      };
      limits = pv.limits;
      hint = pv.hint;
      split = pv.split;
    }

-- the source's `reading_vals(&PowerVals { main: MAIN_P, ..*pv }).0` is the power's readout
pub box_of_power : (pv : PowerVals) → (reading_vals (with_main main_p pv)).main ≡ power_readout pv
unfolding reading_vals main_readout power_readout main_si
box_of_power pv = refl

-- ---- "the readouts never show a negative zero"

-- not minus zero
abbrev Plain : Val → Type 0
Plain v = v.number ≡ minus_zero → ⊥

abbrev Few : Format → Type 0
Few f = f.decimals ≤ 4

pub v_plain : (pv : PowerVals) → Plain (v_readout pv)
unfolding v_readout volt_decimals
v_plain pv = unless_no_minus_zero pv.limits.v_ol (record { number = pv.load.v; decimals = 4 - at_most 3 pv.ranges.vr; unit = Volt }) (omega arith)

i_few : (ik : ℕ) (i : Float) → Few (i_format ik i)
unfolding i_format
i_few ik i = either Few (eqb (iu_ir ik).iu 0) (omega arith) (either Few (eqb (iu_ir ik).iu 1) (omega arith) (omega arith))

pub i_plain : (pv : PowerVals) → Plain (i_readout pv)
unfolding i_readout
i_plain pv = unless_no_minus_zero pv.limits.i_ol (i_format pv.ranges.ik pv.load.i) (i_few pv.ranges.ik pv.load.i)

energy_plain : (va : Bool) (pv : PowerVals) → Plain (energy_readout va pv)
unfolding energy_readout
energy_plain va pv =
    let wh = cond va pv.energies.vah pv.energies.e_wh in
    shown_no_minus_zero (energy_format wh va) (energy_decimals wh va).1

power_plain : (pv : PowerVals) → Plain (power_readout pv)
unfolding power_readout
power_plain pv =
    let fs = full_scale pv.ranges in
    let watts = not pv.in_force.alt in
    unless_no_minus_zero (any_over pv.limits) (p_format fs (main_si pv) watts) (power_decimals fs (main_si pv) watts).1

pub main_plain : (pv : PowerVals) → Plain (main_readout pv)
unfolding main_readout
main_plain pv =
    let main = pv.in_force.main in
    either Plain (eqb main main_wh) (energy_plain pv.in_force.alt pv) (either Plain (eqb main main_vah) (energy_plain true pv) (power_plain pv))

pub box_plain : (pv : PowerVals) → Plain (energy_val pv)
unfolding energy_val
box_plain pv = either Plain (eqb pv.in_force.main main_p) (energy_plain pv.in_force.alt pv) (power_plain pv)

-- ---- "at most 65534 counts (0xFFFF = no value) with as many of its decimals as fit"

more : (n m : ℕ) → n ≤ m → n ≤ suc m
more n m h = omega (arith, h)

pub fits_most : (x k : Float) (most : ℕ) → (decimals_that_fit x k most).dec ≤ most
unfolding decimals_that_fit
fits_most x k zero = omega arith
fits_most x k (suc most) =
    either (λ (f : Fitted). f.dec ≤ suc most) (too_large x k) (more (decimals_that_fit x (k *f tenth) most).dec most (fits_most x (k *f tenth) most)) (omega arith)

-- the count fits, or no decimal is left
abbrev Fits : Float → Fitted → Type 0
Fits x f = (too_large x f.k ≡ false) ⊎ (f.dec ≡ 0)

fits_by : (t : Bool) (x k : Float) (most : ℕ) (f : Fitted) → too_large x k ≡ t → Fits x f → Fits x (cond t f (record { k = k; dec = suc most }))
fits_by true x k most f e h = h
fits_by false x k most f e h = inl e

pub fits : (x k : Float) (most : ℕ) → Fits x (decimals_that_fit x k most)
unfolding decimals_that_fit
fits x k zero = inr refl
fits x k (suc most) = fits_by (too_large x k) x k most (decimals_that_fit x (k *f tenth) most) refl (fits x (k *f tenth) most)

-- so the number that is sent is the figure itself, with a count that fits, or 65534 with its sign and no decimal
abbrev Sent : Float → Fitted → Type 0
Sent x f = ((too_large x f.k ≡ false) × (held_number x f.k ≡ x)) ⊎ ((f.dec ≡ 0) × (held_number x f.k ≡ signum_of x *f held_count))

sent_by : (t : Bool) (x : Float) (f : Fitted) → too_large x f.k ≡ t → Fits x f → Sent x f
unfolding held_number
sent_by false x f e h = inl (e, rw e)
sent_by true x f e (inl d) = absurd (true≢false (sym e ∙ d))
sent_by true x f e (inr d) = inr (d, rw e)

pub sent_fits_or_held : (x k : Float) (most : ℕ) → Sent x (decimals_that_fit x k most)
sent_fits_or_held x k most = sent_by _ x (decimals_that_fit x k most) refl (fits x k most)

less : (n m k : ℕ) → n ≤ m → m ≤ k → n ≤ k
less n m k h j = omega (arith, h, j)

volts_few : (u : Unit) (f : Format) → Few f → Few (volts_for u f)
volts_few Kilowatt f h = omega (arith, h)
volts_few u f h = h

volt_few : (f : Format) → Few f → Few (volt_group f)
unfolding volt_group
volt_few f h = volts_few f.unit f h

bt_plain : (f : Format) → Few f → Plain (bt_val f)
unfolding bt_val
bt_plain f h =
    let fit = decimals_that_fit f.number (tens f.decimals) f.decimals in
    shown_no_minus_zero (record { number = held_number f.number fit.k; decimals = fit.dec; unit = f.unit })
    (less fit.dec f.decimals 4 (fits_most f.number (tens f.decimals) f.decimals) h)

over_plain : (dec : ℕ) (u : Unit) → Plain (over_val dec u)
unfolding over_val
over_plain dec u = plus_zero

pub phone_plain : (pv : PowerVals) → Plain (bt_main pv)
unfolding bt_main
phone_plain pv =
    let fs = full_scale pv.ranges in
    let f = volt_group (p_format fs (main_si pv) true) in
    either Plain (any_over pv.limits || not (is_finite f.number)) (over_plain f.decimals f.unit)
    (bt_plain f (volt_few (p_format fs (main_si pv) true) (power_decimals fs (main_si pv) true).1))
