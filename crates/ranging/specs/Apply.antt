-- `pw_apply` of the source. Document 01: "An apply also sets `stat` to `CYCLE[phase]`; `write_config` is not in the text, so it becomes a mark to the host, with the deadline (the call's time plus the source's settle)".
use Rattle.std.specs.Prelude.{true, if◌then◌else◌, ◌||◌, ℕ, eqb}
use Rattle.tables.specs.Constants.{cycle_at, r20_sense, r21_default, settle_ms, alt_v_skip, dc_skip}
use Rattle.state.specs.declared.Mode.{Mode}
use Rattle.state.specs.declared.Cycle.{Cycle}
use Rattle.state.specs.declared.Comparator.{Comparator}
use Rattle.state.specs.declared.Quantity.{Quantity}
use Rattle.state.specs.declared.Quantity.TheVariants as part
use Rattle.state.specs.Seen.{bit_of, has_seen}
use Rattle.state.specs.Counting.{deadline}
use Rattle.ranging.specs.declared.apply.Keep.{Keep}
use Rattle.ranging.specs.declared.apply.Keep.TheVariants.{Nothing, Voltage, Current}
use Rattle.ranging.specs.declared.apply.Applied.{Applied}

-- "After a range change of one channel its own statistic comes first": phase 3 is the current's, phase 1 the voltage's
abbrev pub first_phase : Keep → ℕ
first_phase Nothing = 0
first_phase Voltage = 3
first_phase Current = 1

-- in method B only; in DC coupling and in the alternating method phase 0
unfoldable pub phase_after : Keep → Mode → ℕ
phase_after keep mode = if mode.dc || mode.alt then 0 else first_phase keep

-- `seen & bit`
unfoldable pub bit_in : ℕ → Quantity → ℕ
bit_in seen p = if has_seen seen p then bit_of p else 0

-- `seen &= keep & !1`, with `keep` 0, 2 or 4
unfoldable pub kept_seen : Keep → ℕ → ℕ
kept_seen Nothing seen = 0
kept_seen Voltage seen = bit_in seen part.Voltage
kept_seen Current seen = bit_in seen part.Current

-- `skip`: `DC_SKIP` in DC coupling, `ALT_V_SKIP` in the alternating method, else none
unfoldable pub skip_after : Mode → ℕ
skip_after mode = if mode.dc then dc_skip else if mode.alt then alt_v_skip else 0

-- "The window was for another tap: back to the default"
unfoldable pub comparator_for : ℕ → Comparator → Comparator
comparator_for vr c = if eqb c.cmp_vr vr then c else record { r20 = r20_sense; r21 = r21_default; f_ok = true; cmp_vr = vr }

unfoldable pub apply : Keep → Mode → ℕ → Cycle → Comparator → ℕ → Applied
apply keep mode vr cycle comparator now =
    record {
      cycle = record {
        phase = phase_after keep mode;
        skip = skip_after mode;
        skip_y = dc_skip;
        taken = 0;
        stat = cycle_at (phase_after keep mode);
        seen = kept_seen keep cycle.seen;
      };
      comparator = comparator_for vr comparator;
      deadline = deadline now settle_ms;
    }
