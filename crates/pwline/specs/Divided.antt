-- The input as the code takes it, byte by byte: a meter, the number of the line that is being read, and of that line as much as is kept. proofs/Stated.antt says that what is written so for a whole input is `output` of specs/Whole.antt.
use Rattle.std.specs.Prelude.{◌≡◌, ℕ, if◌then◌else◌, List, [], ◌∷◌, ◌++◌, ◌==◌, nat_lt, length, Option, Some, None}
use Rattle.pwline.specs.declared.session.Reply.{Reply}
use Rattle.pwline.specs.declared.session.Session.{Session}
use Rattle.meter.specs.Making.{plain_meter}
use Rattle.pwline.specs.Obeyed.{obeyed, next_number, answer_of}
use Rattle.pwline.specs.declared.text.Answer.{Answer}
use Rattle.pwline.specs.Text.{due_text}

-- nothing is read yet
unfoldable pub started : Session
started = record { pw = plain_meter; number = 1; kept = record { items = [] } }

-- one more byte of the line, of which no more than the first 128 are kept
unfoldable pub noted : Session → ℕ → Session
noted s b = if nat_lt (length s.kept.items) 128 then record s { kept = record { items = s.kept.items ++ (b ∷ []) } } else s

-- a line is at its end: the meter after it, and the answer to it
abbrev pub ended_by : Session → Reply → Session
ended_by s r = record { pw = r.pw; number = next_number s.number; kept = record { items = [] } }

unfoldable pub ended : Session → Session
ended s = ended_by s (obeyed s.pw s.kept.items)

unfoldable pub ended_answer : Session → Answer
ended_answer s = answer_of s.number (obeyed s.pw s.kept.items)

-- one byte: a line feed ends the line
unfoldable pub fed : Session → ℕ → Session
fed s b = if b == 10 then ended s else noted s b

unfoldable pub fed_answer : Session → ℕ → Option Answer
fed_answer s b = if b == 10 then Some (ended_answer s) else None

-- the end of the input: "A last line without a line feed counts as a line"
unfoldable pub last_answer : Session → Option Answer
last_answer s = if length s.kept.items == 0 then None else Some (ended_answer s)

-- many bytes
unfoldable pub fed_all : Session → List ℕ → Session
fed_all s [] = s
fed_all s (b ∷ l) = fed_all (fed s b) l

-- one that some bytes have led to, whichever were read
abbrev pub FedSome : Session → Session → Type 0
FedSome s x = (part : List ℕ) × (x ≡ fed_all s part)

-- what is written for bytes that end the input
unfoldable pub written_from : Session → List ℕ → List ℕ
written_from s [] = due_text (last_answer s)
written_from s (b ∷ l) = due_text (fed_answer s b) ++ written_from (fed s b) l
