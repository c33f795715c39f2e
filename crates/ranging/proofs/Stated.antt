-- What follows from the definitions: which quantities an apply leaves marked, what an autorange leaves as it was, that ranges stay within the tables, that `stat` goes with the phase, and what a mark holds.
use mathlib.Core.Bool.{Bool, true, false, cond, ◌&&◌}
use mathlib.Core.Path.{◌≡◌, refl, ap}
use Prim.Native.Nat.{ℕ, ◌+◌, ◌-◌, ◌/◌, ◌%◌, ◌≤◌, min}
use native.Mathlib.Omega.{arith}
use borrow.Author.Tests.{ltb-true}
use lib.Dec.{eqb, ltb, leb}
use lib.Ieee.{Float, nan, lt}
use Rattle.std.specs.Prelude.{Option, Some, None, IsSomeAnd}
use Rattle.std.specs.Option.{ForSome}
use Rattle.numbers.specs.Binary32.{◌*f◌, ◌/f◌}
use Rattle.numbers.specs.Root.{hypot_of}
use Rattle.tables.specs.Bounds.{entry_at}
use Rattle.tables.specs.Constants.{v_lim, i_lim, cycle_at, settle_ms}
use Rattle.tables.specs.Ranges.{iu_ir}
use Rattle.tables.proofs.Held.{iu_most}
use Rattle.tables.specs.declared.calibration.Calibration.{Calibration}
use Rattle.tables.specs.declared.description.Description.{Description}
use Rattle.state.specs.declared.Comparator.{Comparator}
use Rattle.state.specs.declared.Cycle.{Cycle}
use Rattle.state.specs.declared.Mode.{Mode}
use Rattle.state.specs.declared.Quantity.TheVariants as part
use Rattle.state.specs.declared.Parts.{Parts}
use Rattle.state.specs.declared.Ranges.{Ranges}
use Rattle.state.specs.Fresh.{new_pw}
use Rattle.state.specs.Seen.{bit_of, has_seen}
use Rattle.state.specs.Counting.{deadline}
use Rattle.ranging.specs.declared.apply.Keep.{Keep}
use Rattle.ranging.specs.declared.apply.Keep.TheVariants.{Nothing, Voltage, Current}
use Rattle.ranging.specs.declared.autorange.Ranging.{Ranging}
use Rattle.ranging.specs.declared.autorange.Ranged.{Ranged}
use Rattle.ranging.specs.declared.autorange.Channel.{Channel}
use Rattle.ranging.specs.declared.autorange.Channel.TheVariants as of
use Rattle.ranging.specs.Apply.{bit_in, kept_seen, apply}
use Rattle.ranging.specs.Change.{tenth, step, v_change, is_over, trips, barred_after, least_ik, i_change}
use Rattle.ranging.specs.Cycle.{advance, alt_switch}
use Rattle.ranging.specs.Bounds.{InBounds}
use Rattle.ranging.specs.Autorange.{other_than, applied, with_ik, by_change_v, by_change_i, asked_v, asked_i, asked, applied_by, autorange}

-- ---- an apply
module _ (mode : Mode) (vr : ℕ) (cycle : Cycle) (comparator : Comparator) (now : ℕ) where
  -- the power has to be measured anew
  pub apply_drops_power : (keep : Keep) → has_seen (apply keep mode vr cycle comparator now).cycle.seen part.Power ≡ false
  unfolding apply kept_seen bit_in has_seen bit_of
  apply_drops_power Nothing = refl
  apply_drops_power Voltage = go (eqb (cycle.seen / 2 % 2) 1)
    where
      go : (b : Bool) → eqb (cond b 2 0 / 1 % 2) 1 ≡ false
      go true = refl
      go false = refl
  apply_drops_power Current = go (eqb (cycle.seen / 4 % 2) 1)
    where
      go : (b : Bool) → eqb (cond b 4 0 / 1 % 2) 1 ≡ false
      go true = refl
      go false = refl

  -- of voltage and current the one kept is as it was, the other not measured
  pub apply_keeps_voltage : let seen = (apply Voltage mode vr cycle comparator now).cycle.seen in (has_seen seen part.Voltage ≡ has_seen cycle.seen part.Voltage) × (has_seen seen part.Current ≡ false)
  unfolding apply kept_seen bit_in has_seen bit_of
  apply_keeps_voltage = go (eqb (cycle.seen / 2 % 2) 1)
    where
      go : (b : Bool) → (eqb (cond b 2 0 / 2 % 2) 1 ≡ b) × (eqb (cond b 2 0 / 4 % 2) 1 ≡ false)
      go true = (refl, refl)
      go false = (refl, refl)

  pub apply_keeps_current : let seen = (apply Current mode vr cycle comparator now).cycle.seen in (has_seen seen part.Current ≡ has_seen cycle.seen part.Current) × (has_seen seen part.Voltage ≡ false)
  unfolding apply kept_seen bit_in has_seen bit_of
  apply_keeps_current = go (eqb (cycle.seen / 4 % 2) 1)
    where
      go : (b : Bool) → (eqb (cond b 4 0 / 4 % 2) 1 ≡ b) × (eqb (cond b 4 0 / 2 % 2) 1 ≡ false)
      go true = (refl, refl)
      go false = (refl, refl)

-- ---- an autorange: what stands after it, which is what stood before where no range is applied
abbrev pub after : Ranging → Option Ranged → Ranging
after g None = g
after g (Some r) = r.ranging

module _ (d : Description) (mode : Mode) (p : Parts) (g : Ranging) (now : ℕ) where
  -- the automatic marks, the barred unit and the current range are as they were
  pub v_leaves : let a = after g (autorange of.Voltage d mode p g now) in
      (a.ranges.v_auto ≡ g.ranges.v_auto) × (a.ranges.i_auto ≡ g.ranges.i_auto) × (a.barred ≡ g.barred) × (a.ranges.ik ≡ g.ranges.ik)
  unfolding autorange asked asked_v applied
  v_leaves = go (v_change d g.ranges p)
    where
      go : (o : Option ℕ) → let a = after g (applied_by (other_than of.Voltage) mode now (by_change_v g o)) in
          (a.ranges.v_auto ≡ g.ranges.v_auto) × (a.ranges.i_auto ≡ g.ranges.i_auto) × (a.barred ≡ g.barred) × (a.ranges.ik ≡ g.ranges.ik)
      go None = (refl, refl, refl, refl)
      go (Some vr) = (refl, refl, refl, refl)

  -- the automatic marks and the V range are as they were
  pub i_leaves : let a = after g (autorange of.Current d mode p g now) in
      (a.ranges.v_auto ≡ g.ranges.v_auto) × (a.ranges.i_auto ≡ g.ranges.i_auto) × (a.ranges.vr ≡ g.ranges.vr)
  unfolding autorange asked asked_i applied
  i_leaves = go (trips d g.ranges p) (i_change d g.ranges g.barred p)
    where
      go : (trip : Bool) (o : Option ℕ) → let a = after g (applied_by (other_than of.Current) mode now (cond trip (Some (with_ik g (barred_after g.barred g.ranges.ik) 5)) (by_change_i g o))) in
          (a.ranges.v_auto ≡ g.ranges.v_auto) × (a.ranges.i_auto ≡ g.ranges.i_auto) × (a.ranges.vr ≡ g.ranges.vr)
      go true o = (refl, refl, refl)
      go false None = (refl, refl, refl)
      go false (Some ik) = (refl, refl, refl)

  -- where no range is applied, nothing has changed
  pub v_unmarked : autorange of.Voltage d mode p g now ≡ None → after g (autorange of.Voltage d mode p g now) ≡ g
  v_unmarked none = ap (after g) none

  pub i_unmarked : autorange of.Current d mode p g now ≡ None → after g (autorange of.Current d mode p g now) ≡ g
  i_unmarked none = ap (after g) none

  -- and none is applied where none is asked for; so the V range, set by hand, stays
  pub v_unasked : v_change d g.ranges p ≡ None → autorange of.Voltage d mode p g now ≡ None
  unfolding autorange asked asked_v
  v_unasked none = rw none refl

  pub i_unasked : trips d g.ranges p ≡ false → i_change d g.ranges g.barred p ≡ None → autorange of.Current d mode p g now ≡ None
  unfolding autorange asked asked_i
  i_unasked none unchanged = rw (none, unchanged) refl

  pub v_by_hand : g.ranges.v_auto ≡ false → autorange of.Voltage d mode p g now ≡ None
  unfolding v_change
  v_by_hand hand = v_unasked (rw hand refl)

-- ---- a trip: only by hand
pub auto_never_trips : (d : Description) (r : Ranges) (p : Parts) → r.i_auto ≡ true → trips d r p ≡ false
unfolding trips
auto_never_trips d r p auto = rw auto

-- ---- ranges within the tables stay so, and what is barred is none, mA or uA

abbrev Below : ℕ → Option ℕ → Type 0
Below most None = Unit
Below most (Some k) = k ≤ most

step_below : (over limit m : Float) (k least most : ℕ) → k ≤ most → Below most (step over limit m k least most)
unfolding step
step_below over limit m k least most h = go (lt (over *f limit) m) (ltb k most) refl (lt m (tenth *f limit /f over) && ltb least k)
  where
    go : (up below : Bool) → ltb k most ≡ below → (down : Bool) → Below most (cond (up && below) (Some (k + 1)) (cond down (Some (k - 1)) None))
    go true true e down = omega (arith, ltb-true k most e)
    go true false e true = omega arith
    go true false e false = tt
    go false below e true = omega arith
    go false below e false = tt

v_below : (d : Description) (r : Ranges) (p : Parts) → r.vr ≤ 3 → Below 3 (v_change d r p)
unfolding v_change
v_below d r p h = go r.v_auto
  where
    go : (auto : Bool) → Below 3 (cond auto (step d.over (entry_at nan v_lim r.vr) (hypot_of p.v_ac p.v_dc) r.vr 0 3) None)
    go true = step_below d.over (entry_at nan v_lim r.vr) (hypot_of p.v_ac p.v_dc) r.vr 0 3 h
    go false = tt

i_below : (d : Description) (r : Ranges) (barred : ℕ) (p : Parts) → r.ik ≤ 5 → Below 5 (i_change d r barred p)
unfolding i_change
i_below d r barred p h = go r.i_auto (is_over d.over r.ik p && leb 1 (iu_ir r.ik).iu)
  where
    go : (auto hop : Bool) → Below 5 (cond auto (cond hop (Some 4) (step d.over (entry_at nan i_lim r.ik) (hypot_of p.i_ac p.i_dc) r.ik (least_ik d.a_auto barred) 5)) None)
    go true true = omega arith
    go true false = step_below d.over (entry_at nan i_lim r.ik) (hypot_of p.i_ac p.i_dc) r.ik (least_ik d.a_auto barred) 5 h
    go false hop = tt

barred_below : (barred ik : ℕ) → barred ≤ 2 → barred_after barred ik ≤ 2
unfolding barred_after
barred_below barred ik h = go (eqb barred 0)
  where
    go : (none : Bool) → cond none (iu_ir ik).iu (min barred (iu_ir ik).iu) ≤ 2
    go true = iu_most ik
    go false = omega (arith, iu_most ik)

module _ (d : Description) (mode : Mode) (p : Parts) (g : Ranging) (now : ℕ) (h : InBounds g.ranges g.barred) where
  pub v_bounds : let a = after g (autorange of.Voltage d mode p g now) in InBounds a.ranges a.barred
  unfolding autorange asked asked_v applied
  v_bounds = go (v_change d g.ranges p) (v_below d g.ranges p h.0)
    where
      go : (o : Option ℕ) → Below 3 o → let a = after g (applied_by (other_than of.Voltage) mode now (by_change_v g o)) in InBounds a.ranges a.barred
      go None b = h
      go (Some vr) b = (b, h.1, h.2)

  pub i_bounds : let a = after g (autorange of.Current d mode p g now) in InBounds a.ranges a.barred
  unfolding autorange asked asked_i applied
  i_bounds = go (trips d g.ranges p) (i_change d g.ranges g.barred p) (i_below d g.ranges g.barred p h.1)
    where
      go : (trip : Bool) (o : Option ℕ) → Below 5 o → let a = after g (applied_by (other_than of.Current) mode now (cond trip (Some (with_ik g (barred_after g.barred g.ranges.ik) 5)) (by_change_i g o))) in InBounds a.ranges a.barred
      go true o b = (h.0, omega arith, barred_below g.barred g.ranges.ik h.2)
      go false None b = h
      go false (Some ik) b = (h.0, b, h.2)

-- ---- `stat` is `CYCLE[phase]` after an apply, an advance and a switch of the alternating method
pub apply_stat : (keep : Keep) (mode : Mode) (vr : ℕ) (c : Cycle) (k : Comparator) (now : ℕ) → let a = (apply keep mode vr c k now).cycle in a.stat ≡ cycle_at a.phase
unfolding apply
apply_stat keep mode vr c k now = refl

pub advance_stat : (c : Cycle) → (advance c).stat ≡ cycle_at (advance c).phase
unfolding advance
advance_stat c = refl

pub switch_stat : (c : Cycle) (now : ℕ) → let a = (alt_switch c now).cycle in a.stat ≡ cycle_at a.phase
unfolding alt_switch
switch_stat c now = refl

-- what they leave: an advance all but phase, `stat` and `skip`; a switch `seen` and `skip_y`
pub advance_leaves : (c : Cycle) → ((advance c).seen ≡ c.seen) × ((advance c).taken ≡ c.taken) × ((advance c).skip_y ≡ c.skip_y)
unfolding advance
advance_leaves c = (refl, refl, refl)

pub switch_leaves : (c : Cycle) (now : ℕ) → let a = (alt_switch c now).cycle in (a.seen ≡ c.seen) × (a.skip_y ≡ c.skip_y)
unfolding alt_switch
switch_leaves c now = (refl, refl)

-- ---- a meter just made is within the tables
pub new_in_bounds : (d : Description) (c : Calibration) → InBounds (new_pw d c).ranges (new_pw d c).barred
unfolding new_pw
new_in_bounds d c = (omega arith, omega arith, omega arith)

-- ---- document 01: "a trip sets it"; nothing else moves what is barred
module _ (d : Description) (mode : Mode) (p : Parts) (g : Ranging) (now : ℕ) where
  pub trip_does : trips d g.ranges p ≡ true → IsSomeAnd (autorange of.Current d mode p g now) (λ r. (r.ranging.ranges.ik ≡ 5) × (r.ranging.barred ≡ barred_after g.barred g.ranges.ik))
  unfolding autorange asked asked_i applied
  trip_does trip = rw trip (refl, refl)

  pub no_trip : trips d g.ranges p ≡ false → (after g (autorange of.Current d mode p g now)).barred ≡ g.barred
  unfolding autorange asked asked_i applied
  no_trip none = rw none (go (i_change d g.ranges g.barred p))
    where
      go : (o : Option ℕ) → (after g (applied_by (other_than of.Current) mode now (by_change_i g o))).barred ≡ g.barred
      go None = refl
      go (Some ik) = refl

-- ---- an apply that keeps nothing marks nothing
pub apply_keeps_nothing : (mode : Mode) (vr : ℕ) (c : Cycle) (k : Comparator) (now : ℕ) → (apply Nothing mode vr c k now).cycle.seen ≡ 0
unfolding apply kept_seen
apply_keeps_nothing mode vr c k now = refl

-- ---- a range that is applied gives the deadline of the call's time
pub deadline_of : (channel : Channel) (d : Description) (mode : Mode) (p : Parts) (g : Ranging) (now : ℕ) → ForSome (autorange channel d mode p g now) (λ r. r.deadline ≡ deadline now settle_ms)
unfolding autorange applied apply
deadline_of channel d mode p g now = go (asked channel d p g)
  where
    go : (o : Option Ranging) → ForSome (applied_by (other_than channel) mode now o) (λ r. r.deadline ≡ deadline now settle_ms)
    go None r e = cc
    go (Some x) r e = cc
