-- The ring. Document 01, of a result that is turned down: "The ring notes it all the same: sixteen latest conversions are kept with the meter, by `ring_k` modulo 16."
use Rattle.std.specs.Prelude.{Bool, false, if◌then◌else◌, ℕ, min, ◌+◌, ◌%◌, ◌^◌, ltb, ℤ, pos, set}
use Rattle.codes.specs.declared.Codes.{Codes}
use Rattle.codes.specs.declared.Frame.{Frame}
use Rattle.codes.specs.Flags.{holds_rms_lpf}
use Rattle.tables.specs.Constants.{ring_n}
use Rattle.state.specs.declared.Cycle.{Cycle}
use Rattle.state.specs.declared.Mode.{Mode}
use Rattle.state.specs.declared.Ring.{Ring}
use Rattle.state.specs.Counting.{elapsed}
use Rattle.paths.specs.declared.ring.Raw.{Raw}

-- `now.saturating_sub(t_res).min(u16::MAX)`
unfoldable pub held_dt : ℕ → ℕ → ℕ
held_dt now tRes = min (elapsed now tRes) 65535

-- `ring_k.wrapping_add(1)`
abbrev pub next_number : ℕ → ℕ
next_number k = (k + 1) % 2 ^ 32

-- `ring[ring_k % RING_N] = raw`
unfoldable pub noted : Ring → Raw → Ring
noted r raw =
    let k = r.ring_k % ring_n in
    record {
      stat = set r.stat k raw.stat;
      disc = set r.disc k raw.disc;
      rms = set r.rms k raw.rms;
      lpf = set r.lpf k raw.lpf;
      dt = set r.dt k raw.dt;
      ring_k = next_number r.ring_k;
      t_res = r.t_res;
    }

abbrev pub at_time : ℕ → Ring → Ring
at_time now r = record r { t_res = now }

-- a result of RMS and LPF: `Raw { stat, disc, rms, lpf, dt }`, and `t_res = now`, the time of the last such result
unfoldable pub note_result : Ring → ℕ → ℕ → Bool → Codes → Ring
note_result r now stat disc codes =
    at_time now (noted r (record { stat = stat; disc = disc; rms = codes.rms; lpf = codes.lpf; dt = held_dt now r.t_res }))

-- a result of AD1 in the DC row: `Raw { stat: 4, disc: false, rms: 0, lpf: ad1, dt: 0 }`
unfoldable pub note_current : Ring → ℤ → Ring
note_current r ad1 = noted r (record { stat = 4; disc = false; rms = pos 0; lpf = ad1; dt = 0 })

-- which result it is: `if alt { 1 + (phase & 1) } else { stat }`; in DC coupling `stat: 3`
unfoldable pub result_stat : Mode → Cycle → ℕ
result_stat mode c = if mode.dc then 3 else if mode.alt then 1 + c.phase % 2 else c.stat

-- `disc = skip > 0`; in DC coupling `disc: skip_y > 0`
unfoldable pub is_dropped : Mode → Cycle → Bool
is_dropped mode c = if mode.dc then ltb 0 c.skip_y else ltb 0 c.skip

-- the ring after a frame that came upon the cycle c: a result of RMS and LPF is noted before it is looked at, one of AD1 once it is to be taken
unfoldable pub ring_after : Ring → Mode → Cycle → Frame → Bool → Ring
ring_after r mode c f ad1Taken =
    let first = (if holds_rms_lpf f.flags then note_result r f.now (result_stat mode c) (is_dropped mode c) f.codes else r) in
    if ad1Taken then note_current first f.codes.ad1 else first
