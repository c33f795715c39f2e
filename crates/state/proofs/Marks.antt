-- A mark to the host, as document 01 has it: "with the deadline (the call's time plus the source's settle)".
use mathlib.Core.Path.{◌≡◌}
use mathlib.Core.Logic.{◌⊎◌}
use Prim.Native.Nat.{ℕ}
use Rattle.std.specs.Prelude.{Option, Some, None}
use Rattle.tables.specs.Constants.{settle_ms, alt_v_settle_ms, vcal_ac_settle_ms, vcal_dc_settle_ms}
use Rattle.state.specs.Counting.{deadline}

-- the source's settles, in ms: of an apply, of the alternating method's voltage, and of the two references of the gain job
pub data Settle : ℕ → Type 0 where
  of_apply : Settle settle_ms
  of_voltage : Settle alt_v_settle_ms
  of_ac : Settle vcal_ac_settle_ms
  of_dc : Settle vcal_dc_settle_ms

-- no mark, or one of a call at the time t: a mark is its deadline
abbrev pub MarkAt : ℕ → Option ℕ → Type 0
MarkAt t mark = (mark ≡ None) ⊎ ((settle : ℕ) × Settle settle × (mark ≡ Some (deadline t settle)))
