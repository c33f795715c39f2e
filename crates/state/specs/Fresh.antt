-- `Pw::new` of the source: the meter just made. Five fields are not in the source's `Pw`: `description` and `calibration` are what the meter is made with, `t_poll` and `barred` are dmm.rs's, `used` is ours; docs/DECISIONS.md lists the fields of the source that nothing in scope reads.
use Rattle.std.specs.Prelude.{ℕ, Option, None, Some, true, false, if◌then◌else◌, pos, replicate}
use Rattle.numbers.specs.Binary32.{zero_f}
use Rattle.tables.specs.declared.calibration.Calibration.{Calibration}
use Rattle.tables.specs.declared.description.Description.{Description}
use Rattle.tables.specs.Constants.{coup_dc, r34_xy, shunt_ohm, i_cont_default, t_lim_default, main_p, cal_none, jr_none, r20_sense, r21_default}
use Rattle.figures.specs.Tally.{fresh_tally}
use Rattle.state.specs.declared.Stamp.{Stamp}
use Rattle.state.specs.declared.Mode.{Mode}
use Rattle.state.specs.declared.Ranges.{Ranges}
use Rattle.state.specs.declared.Cycle.{Cycle}
use Rattle.state.specs.declared.Parts.{Parts}
use Rattle.state.specs.declared.Powers.{Powers}
use Rattle.state.specs.declared.Clock.{Clock}
use Rattle.state.specs.declared.Settings.{Settings}
use Rattle.state.specs.declared.PhaseCal.{PhaseCal}
use Rattle.state.specs.declared.Corrections.{Corrections}
use Rattle.state.specs.declared.Job.{Job}
use Rattle.state.specs.declared.Comparator.{Comparator}
use Rattle.state.specs.declared.Ring.{Ring}
use Rattle.state.specs.declared.Pw.{Pw}

-- no time: the source's `None`
abbrev pub no_time : Stamp
no_time = record { set = false; at = 0 }

-- this time: its `Some(t)`
abbrev pub at_time : ℕ → Stamp
at_time t = record { set = true; at = t }

-- the stamp of an `Option<u64>`, and the `Option<u64>` of a stamp
abbrev pub stamp_of : Option ℕ → Stamp
stamp_of None = no_time
stamp_of (Some t) = at_time t

abbrev pub time_in : Stamp → Option ℕ
time_in s = if s.set then Some s.at else None

abbrev pub fresh_mode : Mode
fresh_mode = record { on = false; alt = false; coup = coup_dc; dc = false; cal_req = false }

-- 1000 V, 10 A, both automatic; so are the ranges that a job would put back
abbrev pub fresh_ranges : Ranges
fresh_ranges = record { vr = 3; ik = 5; v_auto = true; i_auto = true }

abbrev pub fresh_cycle : Cycle
fresh_cycle = record { phase = 0; skip = 0; skip_y = 0; taken = 0; stat = r34_xy; seen = 0 }

abbrev pub fresh_parts : Parts
fresh_parts = record { p_ac = zero_f; v_ac = zero_f; v_dc = zero_f; i_ac = zero_f; i_dc = zero_f; vac_dc = zero_f }

abbrev pub fresh_powers : Powers
fresh_powers = record { p_tot = zero_f; s_last = zero_f }

-- `t_poll` is dmm.rs's: 0 before the first frame
abbrev pub fresh_clock : Clock
fresh_clock = record { run = true; t_last = no_time; t_poll = 0 }

abbrev pub fresh_settings : Settings
fresh_settings = record { comp = false; r_path = shunt_ohm; i_cont = i_cont_default; t_lim = t_lim_default; main = main_p }

abbrev pub fresh_phase_cal : PhaseCal
fresh_phase_cal = record { sph = pos 0; cal = 0; cal_n = 0; cal_acc = zero_f; cal_s0 = pos 0; cal_pa = zero_f; cal_res = cal_none }

-- no zero and no gain stored
abbrev pub no_corrections : Corrections
no_corrections =
    record { zx = replicate 6 (pos 0); zd = replicate 6 (pos 0); zy = pos 0; zero_ok = false; vgain = replicate 4 zero_f }

-- no job; `used`, the ready frames that it has used, is ours
abbrev pub no_job : Job
no_job =
    record {
      job = 0;
      job_step = 0;
      job_n = 0;
      job_a = zero_f;
      job_b = zero_f;
      job_dc = false;
      job_raw = replicate 2 zero_f;
      job_ref = replicate 2 zero_f;
      job_zx = replicate 6 (pos 0);
      job_zd = replicate 6 (pos 0);
      job_save = fresh_ranges;
      job_res = jr_none;
      job_vr = 0;
      job_last = 0;
      used = 0;
    }

abbrev pub fresh_comparator : Comparator
fresh_comparator = record { r20 = r20_sense; r21 = r21_default; f_ok = true; cmp_vr = 255 }

abbrev pub empty_ring : Ring
empty_ring =
    record {
      stat = replicate 16 0;
      disc = replicate 16 false;
      rms = replicate 16 (pos 0);
      lpf = replicate 16 (pos 0);
      dt = replicate 16 0;
      ring_k = 0;
      t_res = 0;
    }

-- with the description and the words that it was made with. `barred` is dmm.rs's overload, of which document 01 keeps the barred unit alone: 0 is none
unfoldable pub new_pw : Description → Calibration → Pw
new_pw d c =
    record {
      description = d;
      calibration = c;
      mode = fresh_mode;
      ranges = fresh_ranges;
      barred = 0;
      cycle = fresh_cycle;
      parts = fresh_parts;
      powers = fresh_powers;
      tally = fresh_tally;
      clock = fresh_clock;
      over_t0 = no_time;
      settings = fresh_settings;
      phase_cal = fresh_phase_cal;
      corrections = no_corrections;
      job = no_job;
      comparator = fresh_comparator;
      ring = empty_ring;
    }
