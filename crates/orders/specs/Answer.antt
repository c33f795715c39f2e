-- What a call answers, by document 01's table: a number, and with it "A refused call returns its number alone: no reading, no mark to the host, a count of 0".
use Rattle.std.specs.Prelude.{Bool, if◌then◌else◌, ℕ, ◌^◌, leb, Option, None, Result, Ok, Err}
use Rattle.refusals.specs.declared.Refusal.{Refusal}
use Rattle.state.specs.declared.Pw.{Pw}
use Rattle.orders.specs.declared.answer.Answer.{Answer}
use Rattle.orders.specs.declared.answer.Reading.{Reading}
use Rattle.orders.specs.declared.answer.Step.{Step}

-- number 5: "time of 2^48 ms or more"
unfoldable pub late : ℕ → Bool
late t = leb (2 ^ 48) t

-- a check: the refusal, where its condition holds
abbrev pub refused_if : Bool → Refusal → Result (Unit {0}) Refusal
refused_if b n = if b then Err n else Ok tt

unfoldable pub refused_with : Refusal → Pw → Step
refused_with n m = record { pw = m; answer = Err n }

-- how a call on m went: carried out; or refused, and m is as it was
abbrev pub told : Result Step Refusal → Pw → Step
told (Ok s) m = s
told (Err n) m = refused_with n m

-- done, with this mark to the host, its deadline; no frame in a job, and no reading
unfoldable pub marked : Pw → Option ℕ → Step
marked m mark = record { pw = m; answer = Ok (record { mark = mark; used = 0; reading = None }) }

-- and with none
unfoldable pub done : Pw → Step
done m = marked m None

-- ---- what the answer of a call tells, refused or not: "no reading, no mark to the host, a count of 0" where it is

abbrev pub mark_told : Result Answer Refusal → Option ℕ
mark_told (Ok a) = a.mark
mark_told (Err n) = None

abbrev pub used_told : Result Answer Refusal → ℕ
used_told (Ok a) = a.used
used_told (Err n) = 0

abbrev pub reading_told : Result Answer Refusal → Option Reading
reading_told (Ok a) = a.reading
reading_told (Err n) = None
