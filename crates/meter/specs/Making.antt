-- A meter is made: refusal 7, then 8. Document 01: "A description is a record of floats".
use Rattle.std.specs.Prelude.{Bool, false, List, ℕ, replicate, Result, Ok, Err}
use Rattle.numbers.specs.Binary32.{one_f}
use Rattle.refusals.specs.declared.Refusal.{Refusal}
use Rattle.tables.specs.declared.description.Description.{Description}
use Rattle.tables.specs.declared.calibration.Calibration.{Calibration}
use Rattle.tables.specs.Calibration.{no_calibration, calibration_of}
use Rattle.tables.specs.Description.{check_description}
use Rattle.state.specs.declared.Pw.{Pw}
use Rattle.state.specs.Fresh.{new_pw}

-- of `pwline`: "six description numbers of 1.0, `a_auto` no"
abbrev pub plain_description : Description
plain_description = record { mv_div = replicate 2 one_f; shunt = replicate 3 one_f; over = one_f; a_auto = false }

-- and with no calibration word valid
abbrev pub plain_meter : Pw
plain_meter = new_pw plain_description no_calibration

-- "Order: 7, 8 when a meter is made"; of either refusal, "no meter made"
abbrev pub made_by : Description → Result Unit Refusal → Result Calibration Refusal → Result Pw Refusal
made_by d (Err n) words = Err n
made_by d (Ok checked) (Err n) = Err n
made_by d (Ok checked) (Ok calibration) = Ok (new_pw d calibration)

unfoldable pub make : Description → List ℕ → Bool → Result Pw Refusal
make d words valid = made_by d (check_description d) (calibration_of words valid)
