-- The way to the next phase: the ends of the two branches of `poll_power` in the source.
use Rattle.std.specs.Prelude.{if◌then◌else◌, ℕ, ◌+◌, ◌-◌, ◌%◌, eqb}
use Rattle.tables.specs.Constants.{cycle_at, disc_default, alt_v_skip, alt_v_settle_ms, settle_ms}
use Rattle.state.specs.declared.Cycle.{Cycle}
use Rattle.state.specs.Counting.{deadline}
use Rattle.ranging.specs.declared.cycle.Switched.{Switched}

-- method B: `phase = (phase + 1) % 4`; where `CYCLE[phase]` is not `stat`, it becomes `stat` and `skip` is `DISC_DEFAULT`
abbrev pub next_phase : Cycle → ℕ
next_phase c = (c.phase + 1) % 4

unfoldable pub advance : Cycle → Cycle
advance c =
    record c {
      phase = next_phase c;
      skip = if eqb (cycle_at (next_phase c)) c.stat then c.skip else disc_default;
      stat = cycle_at (next_phase c);
    }

-- `phase ^= 1`
unfoldable pub other_phase : ℕ → ℕ
other_phase phase = if eqb (phase % 2) 0 then phase + 1 else phase - 1

-- the alternating method: an even phase is V's. "settle 600 ms and drop 4"
abbrev pub switched_to : ℕ → Cycle → ℕ → Switched
switched_to phase c now =
    record {
      cycle = record {
        phase = phase;
        skip = if eqb (phase % 2) 0 then alt_v_skip else 0;
        skip_y = c.skip_y;
        taken = 0;
        stat = cycle_at phase;
        seen = c.seen;
      };
      deadline = deadline now (if eqb (phase % 2) 0 then alt_v_settle_ms else settle_ms);
    }

unfoldable pub alt_switch : Cycle → ℕ → Switched
alt_switch c now = switched_to (other_phase c.phase) c now
