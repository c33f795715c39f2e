-- What `pwline` writes for a line. Document 01: "It writes line number, refusal number, `job_res`", as in its example `(1 0 0)`; "a line of another spelling .. has `-` for the refusal number".
use Rattle.std.specs.Prelude.{ℕ, List, [], ◌∷◌, ◌++◌, Option, Some, None, decimal}
use Rattle.pwline.specs.declared.text.Answer.{Answer}

-- the refusal number, or `-` where the line is of another spelling
abbrev pub refusal_text : Option ℕ → List ℕ
refusal_text (Some refusal) = decimal refusal
refusal_text None = 45 ∷ []

-- `(N R J)` and a line feed
abbrev pub answer_text : Answer → List ℕ
answer_text a = (40 ∷ []) ++ decimal a.number ++ (32 ∷ []) ++ refusal_text a.refusal ++ (32 ∷ []) ++ decimal a.job_res ++ (41 ∷ 10 ∷ [])

-- the answer that is due, if one is
abbrev pub due_text : Option Answer → List ℕ
due_text (Some a) = answer_text a
due_text None = []
