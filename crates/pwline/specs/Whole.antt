-- The whole of `pwline`: what it writes for an input, with nothing of how the input is read. proofs/Stated.antt shows that feeding the bytes one by one writes just this.
use Rattle.std.specs.Prelude.{ℕ, if◌then◌else◌, Some, List, [], ◌∷◌, ◌++◌, length, ◌==◌}
use Rattle.state.specs.declared.Pw.{Pw}
use Rattle.meter.specs.Making.{plain_meter}
use Rattle.pwline.specs.Obeyed.{obeyed, next_number, answer_of}
use Rattle.pwline.specs.Text.{due_text}

-- the lines of an input, `line` having been read of the first: a line feed ends each; "A last line without a line feed counts as a line"
unfoldable pub lines_from : List ℕ → List ℕ → List (List ℕ)
lines_from line [] = if length line == 0 then [] else line ∷ []
lines_from line (b ∷ input) = if b == 10 then line ∷ lines_from [] input else lines_from (line ++ (b ∷ [])) input

-- the answers to lines numbered from n on, each line's meter as the last one left it
unfoldable pub answers_from : ℕ → Pw → List (List ℕ) → List ℕ
answers_from n m [] = []
answers_from n m (l ∷ ls) = due_text (Some (answer_of n (obeyed m l))) ++ answers_from (next_number n) (obeyed m l).pw ls

unfoldable pub output : List ℕ → List ℕ
output input = answers_from 1 plain_meter (lines_from [] input)
