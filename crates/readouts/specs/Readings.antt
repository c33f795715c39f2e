-- `reading_vals` and `energy_val` of the source.
use Rattle.std.specs.Prelude.{Bool, true, if◌then◌else◌, not, ◌||◌, ℕ, ◌-◌, eqb, Float}
use Rattle.std.specs.Float.{nan}
use Rattle.numbers.specs.Binary32.{◌*f◌, zero_f, one_f}
use Rattle.tables.specs.Bounds.{at_most, entry_at}
use Rattle.tables.specs.Calibration.{million}
use Rattle.tables.specs.Constants.{v_lim, i_lim, main_p, main_wh, main_vah}
use Rattle.tables.specs.Ranges.{iu_ir}
use Rattle.figures.specs.Acc.{thousand}
use Rattle.state.specs.declared.Ranges.{Ranges}
use Rattle.formats.specs.declared.format.Format.{Format}
use Rattle.formats.specs.declared.readout.Val.{Val}
use Rattle.formats.specs.declared.units.Unit.TheVariants.{Volt, Ampere, Milliampere, Microampere}
use Rattle.formats.specs.Formats.{energy_format, p_format}
use Rattle.formats.specs.Readout.{shown, shown_unless}
use Rattle.values.specs.declared.power_vals.Limits.{Limits}
use Rattle.values.specs.declared.power_vals.PowerVals.{PowerVals}
use Rattle.readouts.specs.declared.readings.Readouts.{Readouts}

-- `V_LIM[vr.min(3)] * I_LIM[ik.min(5)]`
unfoldable pub full_scale : Ranges → Float
full_scale r = entry_at nan v_lim r.vr *f entry_at nan i_lim r.ik

-- `vd`
unfoldable pub volt_decimals : ℕ → ℕ
volt_decimals vr = 4 - at_most 3 vr

-- `main_si`: s in the alternating method, else p
unfoldable pub main_si : PowerVals → Float
main_si pv = if pv.in_force.alt then pv.load.s else pv.load.p

-- `ol`
unfoldable pub any_over : Limits → Bool
any_over l = l.v_ol || l.i_ol

-- `v`
unfoldable pub v_readout : PowerVals → Val
v_readout pv = shown_unless pv.limits.v_ol (record { number = pv.load.v; decimals = volt_decimals pv.ranges.vr; unit = Volt })

-- `us`, `unit` and `idec` by the unit of the current range: `(1.0, "A", 4 - ir)`, `(1e3, "mA", 3 - ir)`, `(1e6, "uA", 2 - ir)`
unfoldable pub i_format : ℕ → Float → Format
i_format ik i =
    let u = iu_ir ik in
    if eqb u.iu 0 then record { number = i *f one_f; decimals = 4 - u.ir; unit = Ampere }
    else if eqb u.iu 1 then record { number = i *f thousand; decimals = 3 - u.ir; unit = Milliampere }
    else record { number = i *f million; decimals = 2 - u.ir; unit = Microampere }

-- `i`
unfoldable pub i_readout : PowerVals → Val
i_readout pv = shown_unless pv.limits.i_ol (i_format pv.ranges.ik pv.load.i)

-- "never OL, the integral holds"
unfoldable pub energy_readout : Bool → PowerVals → Val
energy_readout va pv = shown (energy_format (if va then pv.energies.vah else pv.energies.e_wh) va)

unfoldable pub power_readout : PowerVals → Val
power_readout pv = shown_unless (any_over pv.limits) (p_format (full_scale pv.ranges) (main_si pv) (not pv.in_force.alt))

-- `main`: "Energy (the fallback has no Wh: VAh)", else the power
unfoldable pub main_readout : PowerVals → Val
main_readout pv =
    if eqb pv.in_force.main main_wh then energy_readout pv.in_force.alt pv
    else if eqb pv.in_force.main main_vah then energy_readout true pv
    else power_readout pv

-- `(main, v, i, if ol { 0.0 } else { main_si })`
unfoldable pub reading_vals : PowerVals → Readouts
reading_vals pv =
    record { main = main_readout pv; v = v_readout pv; i = i_readout pv; si = if any_over pv.limits then zero_f else main_si pv }

-- `energy_val`: "the energy (Wh; VAh in the fallback)" where `main` is MAIN_P, and P for every other number, also one that is none of the three. The source takes P from `reading_vals` with main P: the law `box_of_power` (proofs/Stated.antt) says that this is the same
unfoldable pub energy_val : PowerVals → Val
energy_val pv = if eqb pv.in_force.main main_p then energy_readout pv.in_force.alt pv else power_readout pv
