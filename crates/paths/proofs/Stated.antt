-- What follows from the definitions: the ring notes every RMS and LPF result, dropped or turned down too, and every AD1 result that is taken; a result turned down changes nothing, a V range that changes ends the DC path, a frame leaves the automatic marks, ranges within the tables stay so, of the phase calibration only the sum and its count change, and a mark has its frame's deadline.
use mathlib.Core.Path.{◌≡◌, refl, sym, ap, subst, ◌∙◌}
use mathlib.Core.Bool.{true, false, cond}
use mathlib.Core.Logic.{inl, inr}
use mathlib.Core.List.{List}
use Prim.Native.Nat.{ℕ, ◌-◌, ◌%◌}
use native.Mathlib.Omega.{arith}
use lib.Dec.{eqb, ltb}
use lib.IntN.{pos}
use lib.ListN.{length, get_or, set}
use Rattle.std.specs.Prelude.{Option, Some, None, is_some, IfSome}
use Rattle.std.specs.Option.{ForSome}
use lib.Seq.{get_or-set_same, get_or-set_other}
use Rattle.codes.specs.declared.Frame.{Frame}
use Rattle.codes.specs.Flags.{holds_ad1, holds_rms_lpf}
use Rattle.tables.specs.Constants.{r34_xy, settle_ms, alt_v_settle_ms, alt_n}
use Rattle.tables.specs.declared.description.Description.{Description}
use Rattle.state.specs.declared.Mode.{Mode}
use Rattle.state.specs.declared.Parts.{Parts}
use Rattle.state.specs.declared.PhaseCal.{PhaseCal}
use Rattle.state.specs.declared.Pw.{Pw}
use Rattle.state.specs.declared.Ring.{Ring}
use Rattle.state.specs.declared.Ranges.{Ranges}
use Rattle.state.specs.Counting.{count_up}
use Rattle.state.proofs.Marks.{MarkAt, Settle, of_apply, of_voltage}
use Rattle.takes.specs.declared.take.Measured.{Measured}
use Rattle.takes.specs.Take.{PhaseKept, take, take_alt}
use Rattle.numbers.proofs.Cases.{either}
use Rattle.takes.proofs.Stated.{take_keeps_phase, alt_keeps_phase, dc_keeps_phase}
use Rattle.ranging.specs.declared.autorange.Channel.{Channel}
use Rattle.ranging.specs.declared.autorange.Channel.TheVariants.{Voltage, Current}
use Rattle.ranging.specs.declared.autorange.Ranging.{Ranging}
use Rattle.ranging.specs.declared.autorange.Ranged.{Ranged}
use Rattle.ranging.specs.Bounds.{InBounds}
use Rattle.ranging.specs.Cycle.{other_phase, alt_switch}
use Rattle.ranging.specs.Autorange as ranging
use Rattle.ranging.proofs.Stated.{after, v_leaves, i_leaves, v_bounds, i_bounds, deadline_of}
use Rattle.paths.specs.declared.measuring.Setup.{Setup}
use Rattle.paths.specs.declared.measuring.Measuring.{Measuring}
use Rattle.paths.specs.declared.measuring.Outcome.{Outcome}
use Rattle.paths.specs.declared.ring.Raw.{Raw}
use Rattle.paths.specs.Ring.{noted, note_result, note_current, result_stat, is_dropped, ring_after}
use Rattle.paths.specs.Measuring.{ends, goes_on, drops, with_skip_y, with_taken, with_cycle, measured_in, with_measured, ranging_in, autorange, ranged_to, unless_ranged}
use Rattle.paths.specs.MethodB.{advanced, b_unranged, channel_of, b_next}
use Rattle.paths.specs.Alternating.{switched, channel_in, alt_phase_done, alt_next}
use Rattle.paths.specs.Dc.{dc_v_after, dc_v_result, dc_v_part, dc_i_after, dc_i_result, dc_i_part, dc_frame}
use Rattle.paths.specs.Frame.{take_by, next_by, taken_by, method_frame, frame}
use Rattle.paths.specs.Whole.{instrument_in, measuring_in, with_measuring}

-- ---- each path by cases: what holds however a result goes holds of the path

module _ (P : Outcome → Type 0) (m : Measuring) where
  -- a range is applied, or none is
  range_cases : (otherwise : Outcome) (o : Option Ranged) → ForSome o (λ r. P (ranged_to m r)) → P otherwise → P (unless_ranged m otherwise o)
  range_cases otherwise None ranged unranged = unranged
  range_cases otherwise (Some r) ranged unranged = ranged r refl

module _ (s : Setup) (now : ℕ) (m : Measuring) where
  -- what stands once the phase has counted a result
  abbrev counted : Measuring
  counted = with_cycle m (with_taken m.cycle (count_up m.cycle.taken))

  -- what a range that is applied leaves
  abbrev Ranges-to : (Outcome → Type 0) → Channel → Type 0
  Ranges-to P channel = ForSome (autorange s channel now m) (λ r. P (ranged_to m r))

module _ (s : Setup) (now : ℕ) (P : Outcome → Type 0) (m : Measuring) where
  -- in method B: it was XY, or a range changes, or none does
  b_cases : P (goes_on (advanced m)) → ((channel : Channel) → Ranges-to s now m P channel) → P (b_unranged s.with m) → P (b_next s now m)
  unfolding b_next
  b_cases xy ranged unranged = let channel = channel_of m.cycle.stat in
      either P (eqb m.cycle.stat r34_xy) xy (range_cases P m (b_unranged s.with m) (autorange s channel now m) (ranged channel) unranged)

  -- in the alternating method: the phase goes on, or a range changes, or the row does
  alt_cases : let n = counted s now m in P (goes_on n) → ((channel : Channel) → Ranges-to s now n P channel) → P (switched now n) → P (alt_next s now m)
  unfolding alt_next alt_phase_done
  alt_cases more ranged other = let n = counted s now m in let channel = channel_in m.cycle.phase in
      either P (ltb n.cycle.taken alt_n) more (range_cases P n (switched now n) (autorange s channel now n) (ranged channel) other)

module _ (s : Setup) (f : Frame) (P : Outcome → Type 0) (m : Measuring) where
  -- both methods: dropped, turned down, or taken
  method_cases : P (drops m) → P (ends m) → ForSome (take_by s f.codes m) (λ t. P (next_by s f.now (with_measured m t))) → P (method_frame s f m)
  unfolding method_frame
  method_cases dropped down taken = either P (ltb 0 m.cycle.skip) dropped (go (take_by s f.codes m) taken)
    where
      go : (o : Option Measured) → ForSome o (λ t. P (next_by s f.now (with_measured m t))) → P (taken_by s f.now m o)
      go None h = down
      go (Some t) h = h t refl

  -- the voltage's part of the DC path: dropped, or taken, and then a range changes or not
  dc_v_cases : let n = dc_v_after s.with f.codes m in
      P (ends (with_cycle m (with_skip_y m.cycle (m.cycle.skip_y - 1)))) → Ranges-to s f.now n P Voltage → P (ends n) → P (dc_v_part s f m)
  unfolding dc_v_part dc_v_result
  dc_v_cases dropped ranged unranged = let n = dc_v_after s.with f.codes m in
      either P (ltb 0 m.cycle.skip_y) dropped (range_cases P n (ends n) (autorange s Voltage f.now n) ranged unranged)

  -- the current's part of it, taken: a range changes or not
  dc_i_cases : let n = dc_i_after s.with f.codes m in Ranges-to s f.now n P Current → P (goes_on n) → P (dc_i_result s f m)
  unfolding dc_i_result
  dc_i_cases = let n = dc_i_after s.with f.codes m in range_cases P n (goes_on n) (autorange s Current f.now n)

-- ---- document 01: "The ring notes it all the same"

module _ (s : Setup) (f : Frame) (m : Measuring) where
  -- a result of RMS and LPF: dropped, turned down or taken, whatever the frame comes to; where there is none, and no AD1 is taken, nothing is noted
  pub result_noted : (r : Ring) → holds_rms_lpf f.flags ≡ true → ring_after r s.mode m.cycle f false ≡ note_result r f.now (result_stat s.mode m.cycle) (is_dropped s.mode m.cycle) f.codes
  unfolding ring_after
  result_noted r ready = rw (ready)

  pub none_noted : (r : Ring) → holds_rms_lpf f.flags ≡ false → ring_after r s.mode m.cycle f false ≡ r
  unfolding ring_after
  none_noted r none = rw (none)

  -- one of AD1 comes after it
  pub ad1_noted : (r : Ring) → ring_after r s.mode m.cycle f true ≡ note_current (ring_after r s.mode m.cycle f false) f.codes.ad1
  unfolding ring_after
  ad1_noted r = refl

  -- AD1 is taken in the DC path alone, where it is ready and not dropped
  pub ad1_is_taken : holds_ad1 f.flags ≡ true → ltb 0 m.cycle.skip ≡ false → (dc_i_part s f m).ad1_taken ≡ true
  unfolding dc_i_part
  ad1_is_taken ready kept = rw (ready, kept)

  pub ad1_is_dropped : holds_ad1 f.flags ≡ true → ltb 0 m.cycle.skip ≡ true → (dc_i_part s f m).ad1_taken ≡ false
  unfolding dc_i_part drops ends
  ad1_is_dropped ready dropped = rw (ready, dropped)

  pub methods_take_none : (method_frame s f m).ad1_taken ≡ false
  unfolding next_by b_unranged switched drops ends goes_on ranged_to
  methods_take_none =
      let P : Outcome → Type 0 = λ o. o.ad1_taken ≡ false in
      method_cases s f P m refl refl
      (λ t e. let n = with_measured m t in either P s.mode.alt (alt_cases s f.now P n refl (λ c r h. refl) refl) (b_cases s f.now P n refl (λ c r h. refl) refl))

  -- ---- document 01: "single writes of R34 and R21 give no mark"
  pub next_phase_unmarked : (b_unranged s.with m).mark ≡ None
  unfolding b_unranged goes_on
  next_phase_unmarked = refl

  -- ---- a result turned down changes nothing; the ring notes it all the same (`result_noted`)
  pub down_changes_nothing : ltb 0 m.cycle.skip ≡ false → take_by s f.codes m ≡ None → method_frame s f m ≡ ends m
  unfolding method_frame
  down_changes_nothing kept down = rw (kept, down)

  -- in method B, and in the alternating method: what is measured stays as it was
  pub down_leaves : s.mode.alt ≡ false → ltb 0 m.cycle.skip ≡ false → take s.with m.ranges m.cycle.stat f.codes (measured_in m) ≡ None → (method_frame s f m).measuring ≡ m
  unfolding method_frame take_by ends
  down_leaves method kept down = rw (kept, method, down)

  pub alt_down_leaves : s.mode.alt ≡ true → ltb 0 m.cycle.skip ≡ false → take_alt s.with m.ranges m.cycle.phase f.codes (measured_in m) ≡ None → (method_frame s f m).measuring ≡ m
  unfolding method_frame take_by ends
  alt_down_leaves method kept down = rw (kept, method, down)

  -- ---- the DC path ends where the V range changes: AD1 is not looked at
  pub v_range_ends : holds_rms_lpf f.flags ≡ true → is_some (dc_v_part s f m).mark ≡ true → dc_frame s f m ≡ dc_v_part s f m
  unfolding dc_frame
  v_range_ends ready marked = rw (ready, marked)

  -- ---- outside DC coupling nothing happens unless both RMS and LPF are ready; in it, nothing unless one of the two parts is
  pub not_ready : s.mode.dc ≡ false → holds_rms_lpf f.flags ≡ false → frame s f m ≡ ends m
  unfolding frame
  not_ready other none = rw (other, none)

  pub dc_not_ready : s.mode.dc ≡ true → holds_rms_lpf f.flags ≡ false → holds_ad1 f.flags ≡ false → frame s f m ≡ ends m
  unfolding frame dc_frame dc_i_part
  dc_not_ready dc none no-ad1 = rw (dc, none, no-ad1)

-- ---- what both autoranges keep of the ranges and the barred unit, and every take of the phase calibration, a frame keeps
module _ (R : Ranges → ℕ → PhaseCal → Type 0)
    (keeps : (channel : Channel) (d : Description) (mode : Mode) (p : Parts) (g : Ranging) (now : ℕ) (c : PhaseCal) → R g.ranges g.barred c → let h = after g (ranging.autorange channel d mode p g now) in R h.ranges h.barred c)
    (keeps-c : (r : Ranges) (barred : ℕ) (a b : PhaseCal) → PhaseKept a b → R r barred b → R r barred a)
    (s : Setup) (f : Frame) where
  abbrev Held : Measuring → Type 0
  Held m = R m.ranges m.barred m.phase_cal

  abbrev Keeps : Outcome → Type 0
  Keeps o = Held o.measuring

  ranged : (m : Measuring) → Held m → (channel : Channel) → Ranges-to s f.now m Keeps channel
  unfolding autorange ranging_in ranged_to
  ranged m h channel r e =
      subst (λ (o : Option Ranged). let a = after (ranging_in m) o in R a.ranges a.barred m.phase_cal) e
      (keeps channel s.with.description s.mode m.parts (ranging_in m) f.now m.phase_cal h)

  -- every take of the two methods
  take_keeps : (m : Measuring) → Held m → ForSome (take_by s f.codes m) (λ t. Held (with_measured m t))
  unfolding take_by with_measured measured_in
  take_keeps m h t e = keeps-c m.ranges m.barred t.phase_cal m.phase_cal (kept t e) h
    where
      P : Option Measured → Type 0
      P o = IfSome o (λ t. PhaseKept t.phase_cal m.phase_cal)

      of_alt : (o : Option Measured) → IfSome o (λ t. t.phase_cal ≡ m.phase_cal) → P o
      of_alt None i = tt
      of_alt (Some x) i = rw i (refl, refl, refl, refl, refl)

      all : P (take_by s f.codes m)
      all =
          either P s.mode.alt (of_alt (take_alt s.with m.ranges m.cycle.phase f.codes (measured_in m)) (alt_keeps_phase s.with m.ranges f.codes (measured_in m) m.cycle.phase))
          (take_keeps_phase s.with m.ranges f.codes (measured_in m) m.cycle.stat)

      kept : (t : Measured) → take_by s f.codes m ≡ Some t → PhaseKept t.phase_cal m.phase_cal
      kept t e = subst P e all

  method_keeps : (m : Measuring) → Held m → Keeps (method_frame s f m)
  unfolding next_by b_unranged switched drops ends goes_on
  method_keeps m h =
      method_cases s f Keeps m h h
      (λ t e.
      let n = with_measured m t in
      let k = take_keeps m h t e in
      either Keeps s.mode.alt (alt_cases s f.now Keeps n k (ranged (counted s f.now n) k) k) (b_cases s f.now Keeps n k (ranged n k) k))

  dc_v_keeps : (m : Measuring) → Held m → Keeps (dc_v_part s f m)
  unfolding ends with_measured measured_in
  dc_v_keeps m h =
      let k = subst (R m.ranges m.barred) (sym (dc_keeps_phase s.with m.ranges f.codes (measured_in m)).0) h in
      dc_v_cases s f Keeps m h (ranged (dc_v_after s.with f.codes m) k Voltage) k

  dc_i_keeps : (m : Measuring) → Held m → Keeps (dc_i_part s f m)
  unfolding dc_i_part drops ends goes_on with_measured measured_in
  dc_i_keeps m h =
      let k = subst (R m.ranges m.barred) (sym (dc_keeps_phase s.with m.ranges f.codes (measured_in m)).1) h in
      either Keeps (holds_ad1 f.flags)
      (either Keeps (ltb 0 m.cycle.skip) h (dc_i_cases s f Keeps m (ranged (dc_i_after s.with f.codes m) k Current) k)) h

  dc_keeps : (m : Measuring) → Held m → Keeps (dc_frame s f m)
  unfolding dc_frame
  dc_keeps m h =
      let v = dc_v_part s f m in
      let e = dc_v_keeps m h in
      either Keeps (holds_rms_lpf f.flags) (either Keeps (is_some v.mark) e (dc_i_keeps v.measuring e)) (dc_i_keeps m h)

  pub frame_keeps : (m : Measuring) → Held m → Keeps (frame s f m)
  unfolding frame ends
  frame_keeps m h =
      either Keeps s.mode.dc (dc_keeps m h)
      (either Keeps (holds_rms_lpf f.flags) (method_keeps m h) h)

module _ (s : Setup) (f : Frame) (m : Measuring) where
  -- ---- the automatic marks stay as they were
  pub marks_stay : let r = (frame s f m).measuring.ranges in (r.v_auto ≡ m.ranges.v_auto) × (r.i_auto ≡ m.ranges.i_auto)
  marks_stay = frame_keeps Same leaves (λ r barred a b k h. h) s f m (refl, refl)
    where
      Same : Ranges → ℕ → PhaseCal → Type 0
      Same r barred c = (r.v_auto ≡ m.ranges.v_auto) × (r.i_auto ≡ m.ranges.i_auto)

      leaves : (channel : Channel) (d : Description) (mode : Mode) (p : Parts) (g : Ranging) (now : ℕ) (c : PhaseCal) → Same g.ranges g.barred c → let h = after g (ranging.autorange channel d mode p g now) in Same h.ranges h.barred c
      leaves Voltage d mo p g t c h = let l = v_leaves d mo p g t in (l.0 ∙ h.0, l.1 ∙ h.1)
      leaves Current d mo p g t c h = let l = i_leaves d mo p g t in (l.0 ∙ h.0, l.1 ∙ h.1)

  -- ---- ranges within the tables, and what is barred none, mA or uA, stay so
  pub bounds_stay : InBounds m.ranges m.barred → let o = (frame s f m).measuring in InBounds o.ranges o.barred
  bounds_stay h = frame_keeps (λ r barred c. InBounds r barred) bounds (λ r barred a b k h. h) s f m h
    where
      bounds : (channel : Channel) (d : Description) (mode : Mode) (p : Parts) (g : Ranging) (now : ℕ) (c : PhaseCal) → InBounds g.ranges g.barred → let h = after g (ranging.autorange channel d mode p g now) in InBounds h.ranges h.barred
      bounds Voltage d mo p g t c h = v_bounds d mo p g t h
      bounds Current d mo p g t c h = i_bounds d mo p g t h

  -- ---- of the phase calibration a frame changes the sum and its count alone
  pub phase_stays : PhaseKept (frame s f m).measuring.phase_cal m.phase_cal
  phase_stays =
      frame_keeps (λ r barred c. PhaseKept c m.phase_cal)
      (λ channel d mo p g t c h. h)
      (λ r barred a b k h. (k.0 ∙ h.0, k.1 ∙ h.1, k.2 ∙ h.2, k.3 ∙ h.3, k.4 ∙ h.4))
      s f m (refl, refl, refl, refl, refl)

-- ---- a whole meter: what is put in is what is read, and nothing else moves
pub read_back : (m : Pw) (x : Measuring) (r : Ring) → measuring_in (with_measuring m x r) ≡ x
unfolding measuring_in with_measuring
read_back m x r = refl

pub put_back : (m : Pw) → with_measuring m (measuring_in m) m.ring ≡ m
unfolding measuring_in with_measuring
put_back m = refl

pub rest_stays : (m : Pw) (x : Measuring) (r : Ring) → let n = with_measuring m x r in
    (n.mode ≡ m.mode) × (n.powers ≡ m.powers) × (n.tally ≡ m.tally) × (n.clock ≡ m.clock) × (n.over_t0 ≡ m.over_t0) × (n.settings ≡ m.settings) × (n.job ≡ m.job)
unfolding with_measuring
rest_stays m x r = (refl, refl, refl, refl, refl, refl, refl)

pub instrument_stays : (m : Pw) (x : Measuring) (r : Ring) → instrument_in (with_measuring m x r) ≡ instrument_in m
unfolding instrument_in with_measuring
instrument_stays m x r = refl

-- ---- the ring: an entry is read back at its place, from all five arrays, and every other place stays as it was
abbrev pub entry : Ring → ℕ → Raw
entry r j = record { stat = get_or r.stat j 0; disc = get_or r.disc j false; rms = get_or r.rms j (pos 0); lpf = get_or r.lpf j (pos 0); dt = get_or r.dt j 0 }

module _ (r : Ring) (raw : Raw) where
  at_place : {A : Type 0} (l : List A) (a d : A) → length l ≡ 16 → get_or (set l (r.ring_k % 16) a) (r.ring_k % 16) d ≡ a
  at_place l a d whole = get_or-set_same l (r.ring_k % 16) a d (omega (arith, whole))

  pub entry_read : length r.stat ≡ 16 → length r.disc ≡ 16 → length r.rms ≡ 16 → length r.lpf ≡ 16 → length r.dt ≡ 16 → entry (noted r raw) (r.ring_k % 16) ≡ raw
  unfolding noted
  entry_read stat disc rms lpf dt = simp (at_place, stat, disc, rms, lpf, dt)

  pub entries_stay : (j : ℕ) → (j ≡ r.ring_k % 16 → ⊥) → entry (noted r raw) j ≡ entry r j
  unfolding noted
  entries_stay j other = simp (get_or-set_other, other)

-- ---- a mark has the deadline of the frame's time
module _ (s : Setup) (f : Frame) where
  abbrev Marks : Outcome → Type 0
  Marks o = MarkAt f.now o.mark

  ranged_mark : (m : Measuring) (channel : Channel) → Ranges-to s f.now m Marks channel
  unfolding autorange ranged_to
  ranged_mark m channel r e = inr (settle_ms, of_apply, ap (λ (at : ℕ). Some at) (deadline_of channel s.with.description s.mode m.parts (ranging_in m) f.now r e))

  switch_mark : (m : Measuring) → Marks (switched f.now m)
  unfolding switched alt_switch
  switch_mark m =
      let v = eqb (other_phase m.cycle.phase % 2) 0 in
      inr (cond v alt_v_settle_ms settle_ms, either Settle v of_voltage of_apply, refl)

  method_mark : (m : Measuring) → Marks (method_frame s f m)
  unfolding next_by b_unranged drops ends goes_on
  method_mark m =
      method_cases s f Marks m (inl refl) (inl refl)
      (λ t e.
      let n = with_measured m t in
      let k = counted s f.now n in
      either Marks s.mode.alt (alt_cases s f.now Marks n (inl refl) (ranged_mark k) (switch_mark k)) (b_cases s f.now Marks n (inl refl) (ranged_mark n) (inl refl)))

  dc_v_mark : (m : Measuring) → Marks (dc_v_part s f m)
  unfolding ends
  dc_v_mark m = dc_v_cases s f Marks m (inl refl) (ranged_mark (dc_v_after s.with f.codes m) Voltage) (inl refl)

  dc_i_mark : (m : Measuring) → Marks (dc_i_part s f m)
  unfolding dc_i_part drops ends goes_on
  dc_i_mark m =
      either Marks (holds_ad1 f.flags) (either Marks (ltb 0 m.cycle.skip) (inl refl) (dc_i_cases s f Marks m (ranged_mark (dc_i_after s.with f.codes m) Current) (inl refl))) (inl refl)

  pub frame_mark : (m : Measuring) → Marks (frame s f m)
  unfolding frame dc_frame ends
  frame_mark m =
      let v = dc_v_part s f m in
      either Marks s.mode.dc (either Marks (holds_rms_lpf f.flags) (either Marks (is_some v.mark) (dc_v_mark m) (dc_i_mark v.measuring)) (dc_i_mark m))
      (either Marks (holds_rms_lpf f.flags) (method_mark m) (inl refl))
