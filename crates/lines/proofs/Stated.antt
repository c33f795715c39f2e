-- What follows from the definitions: document 01's example lines, spellings at the limits. Each of the three forms is read whatever its items are (proofs/Spelled.antt), and nothing else is (proofs/Only.antt); how long a line can be stands in proofs/Lengths.antt.
use Rattle.std.proofs.Common.{◌≡◌, ℕ, List, [], ◌∷◌, ◌++◌, replicate, Some, None, refl}
use Rattle.lines.specs.Digits.{bytes_of}
use Rattle.lines.specs.Spelling.{item_of, rest_of, is_time, is_flags, is_frame, timed_line, padded, poll_line, form_of, bracketed, line_of}
use Rattle.lines.specs.declared.Line.TheVariants.{On, Zero, Poll}

-- ---- document 01's example
-- (on 0)
pub on_0 : line_of (40 ∷ 111 ∷ 110 ∷ 32 ∷ 48 ∷ 41 ∷ []) ≡ Some (On 0)
unfolding line_of bracketed form_of item_of rest_of timed_line is_time
on_0 = refl

-- (poll 9 00 00)
pub poll_9 : line_of (40 ∷ 112 ∷ 111 ∷ 108 ∷ 108 ∷ 32 ∷ 57 ∷ 32 ∷ 48 ∷ 48 ∷ 32 ∷ 48 ∷ 48 ∷ 41 ∷ []) ≡ Some (Poll 9 0 (record { bytes = replicate 32 0; count = 1 }))
unfolding line_of bracketed form_of item_of rest_of poll_line is_time is_flags is_frame padded bytes_of
poll_9 = refl

-- (zero 10), (zero 11)
pub zero_10 : line_of (40 ∷ 122 ∷ 101 ∷ 114 ∷ 111 ∷ 32 ∷ 49 ∷ 48 ∷ 41 ∷ []) ≡ Some (Zero 10)
unfolding line_of bracketed form_of item_of rest_of timed_line is_time
zero_10 = refl

pub zero_11 : line_of (40 ∷ 122 ∷ 101 ∷ 114 ∷ 111 ∷ 32 ∷ 49 ∷ 49 ∷ 41 ∷ []) ≡ Some (Zero 11)
unfolding line_of bracketed form_of item_of rest_of timed_line is_time
zero_11 = refl

-- ---- at the limits
-- an empty line
pub empty : line_of [] ≡ None
unfolding line_of bracketed
empty = refl

-- (on T) of 15 nines, and of 16
abbrev on_nines : ℕ → List ℕ
on_nines n = 40 ∷ 111 ∷ 110 ∷ 32 ∷ (replicate n 57 ++ (41 ∷ []))

pub fifteen : line_of (on_nines 15) ≡ Some (On 999999999999999)
unfolding line_of bracketed form_of item_of rest_of timed_line is_time
fifteen = refl

pub sixteen : line_of (on_nines 16) ≡ None
unfolding line_of bracketed form_of item_of rest_of timed_line is_time
sixteen = refl

-- (poll 9 aF Fa)
pub either_case : line_of (40 ∷ 112 ∷ 111 ∷ 108 ∷ 108 ∷ 32 ∷ 57 ∷ 32 ∷ 97 ∷ 70 ∷ 32 ∷ 70 ∷ 97 ∷ 41 ∷ []) ≡ Some (Poll 9 0xaf (record { bytes = 0xfa ∷ replicate 31 0; count = 1 }))
unfolding line_of bracketed form_of item_of rest_of poll_line is_time is_flags is_frame padded bytes_of
either_case = refl

-- (poll 9 00 H) of 64, 65 and 66 zeros
abbrev poll_zeros : ℕ → List ℕ
poll_zeros n = 40 ∷ 112 ∷ 111 ∷ 108 ∷ 108 ∷ 32 ∷ 57 ∷ 32 ∷ 48 ∷ 48 ∷ 32 ∷ (replicate n 48 ++ (41 ∷ []))

pub sixty_four : line_of (poll_zeros 64) ≡ Some (Poll 9 0 (record { bytes = replicate 32 0; count = 32 }))
unfolding line_of bracketed form_of item_of rest_of poll_line is_time is_flags is_frame padded bytes_of
sixty_four = refl

pub sixty_three : line_of (poll_zeros 63) ≡ None
unfolding line_of bracketed form_of item_of rest_of poll_line is_time is_flags is_frame padded bytes_of
sixty_three = refl

pub sixty_six : line_of (poll_zeros 66) ≡ None
unfolding line_of bracketed form_of item_of rest_of poll_line is_time is_flags is_frame padded bytes_of
sixty_six = refl
