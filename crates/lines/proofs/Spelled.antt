-- The three forms as document 01 writes them: `(on T)`, `(zero T)` and `(poll T F H)` are read as what they say, whatever T, F and H are.
use Rattle.std.proofs.Common.{◌≡◌, ℕ, suc, ◌+◌, ◌-◌, ◌≤◌, true, List, [], ◌∷◌, ◌++◌, replicate, eqb, length, get_or, take, Option, Some, None, refl, ap, ◌∙◌, arith, length-append}
use borrow.Author.Tests.{le-leb, eq-eqb, ne_eqb, ltb-true}
use lib.Seq.{take-append_seam, drop-append-add, get_or-append_seam}
use Rattle.std.specs.Char.{digit_value, is_digit}
use Rattle.lines.specs.Digits.{within, all_digits, number_of, bytes_of}
use Rattle.lines.specs.Spelling.{item_of, rest_of, on_word, zero_word, poll_word, is_time, is_flags, is_frame, timed_line, padded, poll_line, form_of, bracketed, line_of}
use Rattle.lines.specs.declared.Line.{Line}
use Rattle.lines.specs.declared.Line.TheVariants.{On, Zero, Poll}
use Rattle.lines.proofs.Digits.{both}
use Rattle.lines.proofs.Items.{space_at}

-- ---- the notation: brackets round a form, and a space between a word or an item and the rest
abbrev pub in_brackets : List ℕ → List ℕ
in_brackets form = 40 ∷ (form ++ (41 ∷ []))

abbrev pub then : List ℕ → List ℕ → List ℕ
then item rest = item ++ (32 ∷ rest)

-- ---- what stands in brackets
between_brackets : (form : List ℕ) → line_of (in_brackets form) ≡ form_of form
unfolding line_of bracketed
between_brackets form = rw (le-leb 2 (length (in_brackets form)) (omega (arith, size)), eq-eqb (get_or (in_brackets form) (length (in_brackets form) - 1) 0) 41 last) (ap form_of inside)
  where
    size : length (form ++ (41 ∷ [])) ≡ length form + 1
    size = length-append form (41 ∷ [])

    last : get_or (in_brackets form) (length (in_brackets form) - 1) 0 ≡ 41
    last = ap (λ (n : ℕ). get_or (in_brackets form) n 0) (at (length form) size) ∙ get_or-append_seam form 41 [] 0
      where
        at : (n : ℕ) → length (form ++ (41 ∷ [])) ≡ n + 1 → suc (length (form ++ (41 ∷ []))) - 1 ≡ suc n
        at n e = omega arith

    inside : take (length (in_brackets form) - 2) (form ++ (41 ∷ [])) ≡ form
    inside = ap (λ (n : ℕ). take n (form ++ (41 ∷ []))) (at (length form) size) ∙ take-append_seam form (41 ∷ [])
      where
        at : (n : ℕ) → length (form ++ (41 ∷ [])) ≡ n + 1 → suc (length (form ++ (41 ∷ []))) - 2 ≡ n
        at n e = omega arith

-- ---- no digit is a space
no_space : (base : ℕ) (t rest : List ℕ) → base ≤ 16 → all_digits base t ≡ true → space_at (then t rest) ≡ length t
no_space base [] rest h e = refl
no_space base (b ∷ t) rest h e =
    rw (ne_eqb b 32 (λ k. unlike k (both (is_digit b base) (all_digits base t) e).0)) (omega (arith, no_space base t rest h (both (is_digit b base) (all_digits base t) e).1))
  where
    unlike : b ≡ 32 → is_digit b base ≡ true → ⊥
    unlike k l = omega (arith, ltb-true (digit_value b) base l, ap digit_value k)

module _ (base : ℕ) (t rest : List ℕ) (h : base ≤ 16) (e : all_digits base t ≡ true) where
  first_item : item_of (then t rest) ≡ t
  unfolding item_of
  first_item = rw (no_space base t rest h e) (take-append_seam t (32 ∷ rest))

  behind_it : rest_of (then t rest) ≡ rest
  unfolding rest_of
  behind_it = rw (no_space base t rest h e) (drop-append-add t (32 ∷ rest) 1)

-- ---- the digits of T and F
time_digits : (t : List ℕ) → is_time t ≡ true → all_digits 10 t ≡ true
unfolding is_time
time_digits t e = (both (within 1 15 (length t)) (all_digits 10 t) e).1

flags_are_digits : (f : List ℕ) → is_flags f ≡ true → all_digits 16 f ≡ true
unfolding is_flags
flags_are_digits f e = (both (eqb (length f) 2) (all_digits 16 f) e).1

-- ---- the three forms
pub on_read : (t : List ℕ) → is_time t ≡ true → line_of (in_brackets (then on_word t)) ≡ Some (On (number_of 10 t))
unfolding form_of item_of rest_of timed_line
on_read t e = between_brackets (then on_word t) ∙ rw e

pub zero_read : (t : List ℕ) → is_time t ≡ true → line_of (in_brackets (then zero_word t)) ≡ Some (Zero (number_of 10 t))
unfolding form_of item_of rest_of timed_line
zero_read t e = between_brackets (then zero_word t) ∙ rw e

by_word : (items : List ℕ) → form_of (then poll_word items) ≡ poll_line (item_of items) (item_of (rest_of items)) (rest_of (rest_of items))
unfolding form_of item_of rest_of
by_word items = refl

pub poll_read : (t f h : List ℕ) → is_time t ≡ true → is_flags f ≡ true → is_frame h ≡ true
    → line_of (in_brackets (then poll_word (then t (then f h)))) ≡ Some (Poll (number_of 10 t) (number_of 16 f) (padded (bytes_of h)))
unfolding poll_line
poll_read t f h p q r = between_brackets (then poll_word (then t (then f h))) ∙ by_word (then t (then f h)) ∙ items ∙ rw (p, q, r)
  where
    items : poll_line (item_of (then t (then f h))) (item_of (rest_of (then t (then f h)))) (rest_of (rest_of (then t (then f h)))) ≡ poll_line t f h
    items = rw (first_item 10 t (then f h) (omega arith) (time_digits t p), behind_it 10 t (then f h) (omega arith) (time_digits t p), first_item 16 f h (omega arith) (flags_are_digits f q), behind_it 16 f h (omega arith) (flags_are_digits f q))

-- of a frame's 32 bytes the first `count` are those that its digits say
pub brought : (l : List ℕ) → take (padded l).count (padded l).bytes ≡ l
unfolding padded
brought l = take-append_seam l (replicate (32 - length l) 0)

abbrev pub bytes_in : Option Line → List ℕ
bytes_in (Some (On t)) = []
bytes_in (Some (Zero t)) = []
bytes_in (Some (Poll t f b)) = take b.count b.bytes
bytes_in None = []

pub frame_bytes : (t f h : List ℕ) → is_time t ≡ true → is_flags f ≡ true → is_frame h ≡ true → bytes_in (poll_line t f h) ≡ bytes_of h
unfolding poll_line
frame_bytes t f h p q r = rw (p, q, r) (brought (bytes_of h))
