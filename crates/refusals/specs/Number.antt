-- The numbers of document 01's table "What the meter says back".
use Rattle.std.specs.Prelude.{ℕ, Result, Ok, Err}
use Rattle.refusals.specs.declared.Refusal.{Refusal}
use Rattle.refusals.specs.declared.Refusal.TheVariants.{Off, Busy, Method, Frame, Late, Full, Description, Words}

abbrev pub refusal_number : Refusal → ℕ
refusal_number Off = 1
refusal_number Busy = 2
refusal_number Method = 3
refusal_number Frame = 4
refusal_number Late = 5
refusal_number Full = 6
refusal_number Description = 7
refusal_number Words = 8

-- "0, done", or the number of the refusal
abbrev pub told_number : {A : Type 0} → Result A Refusal → ℕ
told_number (Ok x) = 0
told_number (Err n) = refusal_number n
