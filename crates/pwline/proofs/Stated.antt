-- What `pwline` writes for a whole input: feeding its bytes one by one writes document 01's answers to its lines, long lines among them, of which no more than 128 bytes are kept.
use Rattle.std.proofs.Common.{◌≡◌, ℕ, ◌+◌, ◌<◌, min, Bool, true, false, cond, eqb, ltb, List, [], ◌∷◌, ◌++◌, length, take, Option, Some, None, sym, refl, ap, ◌∙◌, append-nil, arith, lit<, length-append, length-take, take_all, ltb-false, ltb-true, eq-eqb, ne_eqb, eqb-true}
use borrow.Author.Tests.{eqb-false}
use lib.Seq.{take-append-le}
use Rattle.state.specs.declared.Pw.{Pw}
use Rattle.lines.specs.declared.Line.{Line}
use Rattle.lines.specs.Spelling.{line_of}
use Rattle.lines.proofs.Lengths.{cut}
use Rattle.pwline.specs.declared.session.Reply.{Reply}
use Rattle.pwline.specs.declared.session.Session.{Session}
use Rattle.pwline.specs.Text.{due_text}
use Rattle.pwline.specs.Obeyed.{obeyed_by, obeyed, next_number, answer_of}
use Rattle.pwline.specs.Divided.{started, noted, ended, ended_answer, fed, fed_answer, last_answer, written_from}
use Rattle.pwline.specs.Whole.{lines_from, answers_from, output}

-- ---- the line so far, p, and what the session keeps of it
record Keeps (s : Session) (p : List ℕ) : Type 0 where
  pub line : s.kept.items ≡ take 128 p

module _ (s : Session) (p : List ℕ) (r : Keeps s p) where
  size : length s.kept.items ≡ min 128 (length p)
  size = ap length r.line ∙ length-take 128 p

  -- what is kept is answered as the whole line
  same_reply : obeyed s.pw s.kept.items ≡ obeyed s.pw p
  unfolding obeyed
  same_reply = ap (λ (x : Option Line). obeyed_by s.pw x) (ap line_of r.line ∙ cut 128 p (lit< tt))

  keeps_none : Keeps (ended s) []
  unfolding ended
  keeps_none = record { line = refl }

  keeps_more : (b : ℕ) → Keeps (noted s b) (p ++ (b ∷ []))
  unfolding noted
  keeps_more b = go (ltb (length s.kept.items) 128) refl
    where
      one : length (p ++ (b ∷ [])) ≡ length p + 1
      one = length-append p (b ∷ [])

      go : (t : Bool) → ltb (length s.kept.items) 128 ≡ t → Keeps (cond t (record s { kept = record { items = s.kept.items ++ (b ∷ []) } }) s) (p ++ (b ∷ []))
      go true e =
          let h : length p < 128 = omega (arith, size, ltb-true (length s.kept.items) 128 e) in
          record {
            line =
                ap (λ (l : List ℕ). l ++ (b ∷ [])) (r.line ∙ take_all 128 p (omega arith))
                ∙ sym (take_all 128 (p ++ (b ∷ [])) (omega (arith, one)));
          }
      go false e = record { line = r.line ∙ sym (take-append-le 128 p (b ∷ []) (omega (arith, size, ltb-false (length s.kept.items) 128 e))) }

-- a byte that is noted leaves the number and the meter
number_kept : (s : Session) (b : ℕ) → (noted s b).number ≡ s.number
unfolding noted
number_kept s b = go (ltb (length s.kept.items) 128)
  where
    go : (t : Bool) → (cond t (record s { kept = record { items = s.kept.items ++ (b ∷ []) } }) s).number ≡ s.number
    go true = refl
    go false = refl

meter_kept : (s : Session) (b : ℕ) → (noted s b).pw ≡ s.pw
unfolding noted
meter_kept s b = go (ltb (length s.kept.items) 128)
  where
    go : (t : Bool) → (cond t (record s { kept = record { items = s.kept.items ++ (b ∷ []) } }) s).pw ≡ s.pw
    go true = refl
    go false = refl

-- ---- the whole input
from_here : (input : List ℕ) (s : Session) (p : List ℕ) → Keeps s p → written_from s input ≡ answers_from s.number s.pw (lines_from p input)
unfolding written_from answers_from lines_from last_answer ended_answer fed fed_answer ended
from_here [] s p r = go (eqb (length p) 0) refl
  where
    go : (t : Bool) → eqb (length p) 0 ≡ t → due_text (cond (eqb (length s.kept.items) 0) None (Some (ended_answer s))) ≡ answers_from s.number s.pw (cond t [] (p ∷ []))
    go true e = rw (eq-eqb (length s.kept.items) 0 (omega (arith, size s p r, eqb-true (length p) 0 e)))
    go false e =
        ap (λ (t : Bool). due_text (cond t None (Some (ended_answer s)))) (ne_eqb (length s.kept.items) 0 (λ z. eqb-false (length p) 0 e (omega (arith, size s p r))))
        ∙ ap (λ (x : Reply). due_text (Some (answer_of s.number x))) (same_reply s p r)
        ∙ sym (append-nil (due_text (Some (answer_of s.number (obeyed s.pw p)))))
from_here (b ∷ input) s p r = go (eqb b 10) (from_here input (ended s) [] (keeps_none s p r)) (from_here input (noted s b) (p ++ (b ∷ [])) (keeps_more s p r b))
  where
    go : (t : Bool)
        → written_from (ended s) input ≡ answers_from (ended s).number (ended s).pw (lines_from [] input)
        → written_from (noted s b) input ≡ answers_from (noted s b).number (noted s b).pw (lines_from (p ++ (b ∷ [])) input)
        → due_text (cond t (Some (ended_answer s)) None) ++ written_from (cond t (ended s) (noted s b)) input
        ≡ answers_from s.number s.pw (cond t (p ∷ lines_from [] input) (lines_from (p ++ (b ∷ [])) input))
    go true e f =
        ap (λ (l : List ℕ). due_text (Some (ended_answer s)) ++ l) e
        ∙ ap (λ (x : Reply). due_text (Some (answer_of s.number x)) ++ answers_from (next_number s.number) x.pw (lines_from [] input)) (same_reply s p r)
    go false e f = f ∙ ap (λ (n : ℕ). answers_from n (noted s b).pw (lines_from (p ++ (b ∷ [])) input)) (number_kept s b) ∙ ap (λ (m : Pw). answers_from s.number m (lines_from (p ++ (b ∷ [])) input)) (meter_kept s b)

-- the bytes fed one by one write the answers to the lines
pub whole : (input : List ℕ) → written_from started input ≡ output input
unfolding output started
whole input = from_here input started [] (record { line = refl })
