-- What a call takes and answers, as a C host hands it over and is handed it: document 01's number for the refusal, and all else of the answer as it is.
use Rattle.std.specs.Prelude.{false, if◌then◌else◌, ℕ, ltb, eqb, pos, Option, Some, None, is_some, Result, Ok, Err}
use Rattle.std.specs.Result.{result_unwrap_or}
use Rattle.numbers.specs.Binary32.{zero_f}
use Rattle.refusals.specs.declared.Refusal.{Refusal}
use Rattle.refusals.specs.Number.{told_number}
use Rattle.state.specs.declared.Pw.{Pw}
use Rattle.state.specs.Fresh.{no_time, stamp_of}
use Rattle.values.specs.declared.power_vals.PowerVals.{PowerVals}
use Rattle.orders.specs.declared.answer.Answer.{Answer}
use Rattle.orders.specs.declared.answer.Reading.{Reading}
use Rattle.orders.specs.declared.answer.Step.{Step}
use Rattle.orders.specs.declared.ranges.Ask.{Ask}
use Rattle.orders.specs.declared.ranges.Ask.TheVariants.{Stay, Auto, Fixed}
use Rattle.meter.specs.Making.{plain_meter}
use Rattle.host.specs.declared.stepped.HostAnswer.{HostAnswer}
use Rattle.host.specs.declared.stepped.HostReading.{HostReading}
use Rattle.host.specs.declared.stepped.HostMade.{HostMade}
use Rattle.host.specs.declared.stepped.HostStep.{HostStep}
use Rattle.host.specs.Shown.{no_val, host_readouts}

-- a range asked for, by its number: below 256 that range, 256 automatic, any other no change
unfoldable pub ask_of : ℕ → Ask
ask_of n = if ltb n 256 then Fixed n else if eqb n 256 then Auto else Stay

-- where there is no reading every number is 0 and every mark no
abbrev pub no_vals : PowerVals
no_vals =
    record {
      load = record { p = zero_f; s = zero_f; q = zero_f; pf = zero_f; v = zero_f; i = zero_f };
      vdc = zero_f;
      idc = zero_f;
      f_ok = false;
      burden_v = zero_f;
      energies = record { e_wh = zero_f; vah = zero_f; secs = 0; p_avg = zero_f };
      ranges = record { vr = 0; ik = 0; v_auto = false; i_auto = false };
      in_force = record { alt = false; dc = false; coup = 0; comp = false; run = false; sph = pos 0; main = 0 };
      limits = record { v_ol = false; i_ol = false; over = 0; over_left = 0 };
      hint = 0;
      split = record { v_dc = zero_f; v_ac = zero_f; i_dc = zero_f; i_ac = zero_f; p_dc = zero_f; p_ac = zero_f };
    }

abbrev pub no_reading : HostReading
no_reading = record { readouts = record { main = no_val; v = no_val; i = no_val; si = zero_f }; vals = no_vals }

unfoldable pub host_reading : Option Reading → HostReading
host_reading (Some r) = record { readouts = host_readouts r.readouts; vals = r.vals }
host_reading None = no_reading

-- "A refused call returns its number alone: no reading, no mark to the host, a count of 0"
unfoldable pub host_answer : Result Answer Refusal → HostAnswer
host_answer (Ok a) = record { refusal = told_number (Ok a); mark = stamp_of a.mark; used = a.used; has_reading = is_some a.reading; reading = host_reading a.reading }
host_answer (Err n) = record { refusal = told_number {A = Answer} (Err n); mark = no_time; used = 0; has_reading = false; reading = no_reading }

abbrev pub host_step : Step → HostStep
host_step s = record { meter = s.pw; answer = host_answer s.answer }

-- "no meter made": what stands in its place is a plain one, off
unfoldable pub host_made : Result Pw Refusal → HostMade
host_made made = record { refusal = told_number made; meter = result_unwrap_or made plain_meter }
