-- `pw_autorange` and `pw_ovl_trip` of the source: a range that changes is applied at once ("A range change of one channel keeps the other's parts"). Document 01: "Overload keeps only `barred`: a trip sets it".
use Rattle.std.specs.Prelude.{if◌then◌else◌, ℕ, Option, Some, None}
use Rattle.tables.specs.declared.description.Description.{Description}
use Rattle.state.specs.declared.Mode.{Mode}
use Rattle.state.specs.declared.Parts.{Parts}
use Rattle.ranging.specs.declared.apply.Keep.{Keep}
use Rattle.ranging.specs.declared.apply.Keep.TheVariants as keep
use Rattle.ranging.specs.declared.apply.Applied.{Applied}
use Rattle.ranging.specs.declared.autorange.Channel.{Channel}
use Rattle.ranging.specs.declared.autorange.Channel.TheVariants.{Voltage, Current}
use Rattle.ranging.specs.declared.autorange.Ranging.{Ranging}
use Rattle.ranging.specs.declared.autorange.Ranged.{Ranged}
use Rattle.ranging.specs.Apply.{apply}
use Rattle.ranging.specs.Change.{v_change, trips, barred_after, i_change}

-- what an apply keeps: `keep = 4` where the V range changes, 2 where the current's does
unfoldable pub other_than : Channel → Keep
other_than Voltage = keep.Current
other_than Current = keep.Voltage

-- what an apply leaves in these ranges
abbrev pub ranged : Ranging → Applied → Ranged
ranged g a =
    record {
      ranging = record { ranges = g.ranges; barred = g.barred; cycle = a.cycle; comparator = a.comparator };
      deadline = a.deadline;
    }

unfoldable pub applied : Keep → Mode → Ranging → ℕ → Ranged
applied keep mode g now = ranged g (apply keep mode g.ranges.vr g.cycle g.comparator now)

-- the V range becomes vr
abbrev pub with_vr : Ranging → ℕ → Ranging
with_vr g vr =
    record g {
      ranges = record { vr = vr; ik = g.ranges.ik; v_auto = g.ranges.v_auto; i_auto = g.ranges.i_auto };
    }

-- the current range becomes ik
abbrev pub with_ik : Ranging → ℕ → ℕ → Ranging
with_ik g barred ik =
    record g {
      ranges = record { vr = g.ranges.vr; ik = ik; v_auto = g.ranges.v_auto; i_auto = g.ranges.i_auto };
      barred = barred;
    }

abbrev pub by_change_v : Ranging → Option ℕ → Option Ranging
by_change_v g None = None
by_change_v g (Some vr) = Some (with_vr g vr)

abbrev pub by_change_i : Ranging → Option ℕ → Option Ranging
by_change_i g None = None
by_change_i g (Some ik) = Some (with_ik g g.barred ik)

-- after a V result: None where the range stays
unfoldable pub asked_v : Description → Parts → Ranging → Option Ranging
asked_v d p g = by_change_v g (v_change d g.ranges p)

-- after a current result: a trip goes to 10 A, range 5, and bars the unit
unfoldable pub asked_i : Description → Parts → Ranging → Option Ranging
asked_i d p g = if trips d g.ranges p then Some (with_ik g (barred_after g.barred g.ranges.ik) 5) else by_change_i g (i_change d g.ranges g.barred p)

unfoldable pub asked : Channel → Description → Parts → Ranging → Option Ranging
asked Voltage d p g = asked_v d p g
asked Current d p g = asked_i d p g

abbrev pub applied_by : Keep → Mode → ℕ → Option Ranging → Option Ranged
applied_by keep mode now None = None
applied_by keep mode now (Some g) = Some (applied keep mode g now)

-- a range that is asked for is applied; None: the ranges stay, nothing changes, and no mark is given
unfoldable pub autorange : Channel → Description → Mode → Parts → Ranging → ℕ → Option Ranged
autorange channel d mode p g now = applied_by (other_than channel) mode now (asked channel d p g)
