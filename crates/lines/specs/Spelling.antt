-- A line of `pwline`, by document 01: "`(on T)`, `(zero T)`, `(poll T F H)`: T of 1 to 15 decimal digits in ms, F two hex digits of either case, H 2 to 64 such digits,
-- even in number, one space between items"; every other line is "a line of another spelling". Lines and items are lists of ASCII bytes.
use Rattle.std.specs.Prelude.{ℕ, ◌-◌, ◌%◌, Bool, if◌then◌else◌, ◌&&◌, List, [], ◌∷◌, ◌++◌, replicate, ◌==◌, nat_le, length, take, drop, slice_index, Option, Some, None}
use Rattle.std.specs.List.{before_first, after_first}
use Rattle.std.specs.Str.{bytes_eq}
use Rattle.arrayvec.specs.ArrayVec.{ArrayVec}
use Rattle.lines.specs.Digits.{within, all_digits, number_of, bytes_of}
use Rattle.lines.specs.declared.brought.FrameBytes.{FrameBytes}
use Rattle.lines.specs.declared.Line.{Line}
use Rattle.lines.specs.declared.Line.TheVariants.{On, Zero, Poll}

-- ---- items
abbrev pub is_space : ℕ → Bool
is_space b = b == 32

-- the first item: all in front of the first space
unfoldable pub item_of : List ℕ → List ℕ
item_of l = before_first is_space l

-- all behind the first space, nothing where there is none
unfoldable pub rest_of : List ℕ → List ℕ
rest_of l = after_first is_space l

-- on, zero, poll
abbrev pub on_word : List ℕ
on_word = 111 ∷ 110 ∷ []

abbrev pub zero_word : List ℕ
zero_word = 122 ∷ 101 ∷ 114 ∷ 111 ∷ []

abbrev pub poll_word : List ℕ
poll_word = 112 ∷ 111 ∷ 108 ∷ 108 ∷ []

-- "T of 1 to 15 decimal digits"
unfoldable pub is_time : List ℕ → Bool
is_time t = within 1 15 (length t) && all_digits 10 t

-- "F two hex digits of either case"
unfoldable pub is_flags : List ℕ → Bool
is_flags f = (length f == 2) && all_digits 16 f

-- "H 2 to 64 such digits, even in number"
unfoldable pub is_frame : List ℕ → Bool
is_frame h = within 2 64 (length h) && (length h % 2 == 0) && all_digits 16 h

-- ---- what an item says, if it is one
abbrev pub time_in : List ℕ → Option ℕ
time_in t = if is_time t then Some (number_of 10 t) else None

abbrev pub flags_in : List ℕ → Option ℕ
flags_in f = if is_flags f then Some (number_of 16 f) else None

abbrev pub frame_in : List ℕ → Option (ArrayVec ℕ)
frame_in h = if is_frame h then Some (record { items = bytes_of h }) else None

-- 32 bytes that begin with these, and how many these are
unfoldable pub padded : List ℕ → FrameBytes
padded l = record { bytes = l ++ replicate (32 - length l) 0; count = length l }

-- ---- lines; "a line of another spelling" is none
-- an order with a time alone
unfoldable pub timed_line : (ℕ → Line) → List ℕ → Option Line
timed_line order t = if is_time t then Some (order (number_of 10 t)) else None

-- a frame: its time, its flags, and as many bytes as it brings
unfoldable pub poll_line : List ℕ → List ℕ → List ℕ → Option Line
poll_line t f h = if is_time t && is_flags f && is_frame h then Some (Poll (number_of 10 t) (number_of 16 f) (padded (bytes_of h))) else None

-- what stands between the brackets: a word and its items, one space between them
unfoldable pub form_of : List ℕ → Option Line
form_of l =
    if bytes_eq (item_of l) on_word then timed_line On (rest_of l)
    else if bytes_eq (item_of l) zero_word then timed_line Zero (rest_of l)
    else if bytes_eq (item_of l) poll_word then poll_line (item_of (rest_of l)) (item_of (rest_of (rest_of l))) (rest_of (rest_of (rest_of l)))
    else None

-- whether a line is bracketed: ( first and ) last
unfoldable pub bracketed : List ℕ → Bool
bracketed l = nat_le 2 (length l) && (slice_index l 0 == 40) && (slice_index l (length l - 1) == 41)

-- a line of any length
unfoldable pub line_of : List ℕ → Option Line
line_of l = if bracketed l then form_of (take (length l - 2) (drop 1 l)) else None
