-- How long a line can be that is of no other spelling, so that of a longer one no more need be kept; and how many bytes a frame brings.
use Rattle.std.proofs.Common.{◌≡◌, ℕ, suc, ◌+◌, ◌-◌, ◌≤◌, ◌<◌, Bool, true, false, cond, ◌&&◌, List, leb, eqb, length, take, drop, Option, Some, None, sym, refl, ap, ◌∙◌, arith, length-take, length-drop, take_all, length-take-le, replicate, ◌*◌, ◌++◌, [], ◌∷◌, length-append}
use borrow.Author.Tests.{leb-true, leb-false, eqb-true}
use lib.ListN.{length-replicate}
use Rattle.std.specs.Str.{bytes_eq}
use Rattle.lines.specs.Digits.{within, all_digits, number_of, bytes_of}
use Rattle.lines.specs.Spelling.{item_of, rest_of, on_word, zero_word, poll_word, is_time, is_flags, is_frame, timed_line, padded, poll_line, form_of, bracketed, line_of}
use Rattle.lines.specs.declared.Line.{Line}
use Rattle.lines.specs.declared.Line.TheVariants.{On, Zero, Poll}
use Rattle.lines.proofs.Digits.{both}
use Rattle.lines.proofs.Items.{space_at, same_is}
use Rattle.lines.proofs.Pairs.{frame}

-- the first item, a space and the rest are no shorter than the whole
parts : (l : List ℕ) → length l ≤ suc (length (item_of l) + length (rest_of l))
unfolding item_of rest_of
parts l = omega (arith, length-take (space_at l) l, length-drop (space_at l + 1) l)

time_short : (t : List ℕ) → is_time t ≡ true → length t ≤ 15
unfolding is_time
time_short t e = leb-true (length t) 15 (both (leb 1 (length t)) (leb (length t) 15) (both (within 1 15 (length t)) (all_digits 10 t) e).0).1

flags_two : (f : List ℕ) → is_flags f ≡ true → length f ≡ 2
unfolding is_flags
flags_two f e = eqb-true (length f) 2 (both (eqb (length f) 2) (all_digits 16 f) e).0

same_length : (a b : List ℕ) → bytes_eq a b ≡ true → length a ≡ length b
same_length a b e = ap length (same_is a b e)

timed_long : (order : ℕ → Line) (t : List ℕ) → 15 < length t → timed_line order t ≡ None
unfolding timed_line
timed_long order t h = go (is_time t) refl
  where
    go : (b : Bool) → is_time t ≡ b → cond b (Some (order (number_of 10 t))) None ≡ None
    go true e = absurd (omega (arith, time_short t e))
    go false e = refl

poll_long : (t f h : List ℕ) → 81 < length t + length f + length h → poll_line t f h ≡ None
unfolding poll_line
poll_long t f h k = go _ (is_time t) (is_flags f) (is_frame h) refl refl refl
  where
    go : (x : Option Line) (a b c : Bool) → is_time t ≡ a → is_flags f ≡ b → is_frame h ≡ c → cond (a && b && c) x None ≡ None
    go x false b c p q r = refl
    go x true false c p q r = refl
    go x true true false p q r = refl
    go x true true true p q r = absurd (omega (arith, time_short t p, flags_two f q, (frame h r).longest))

form_long : (l : List ℕ) → 88 < length l → form_of l ≡ None
unfolding form_of
form_long l k = go (bytes_eq (item_of l) on_word) (bytes_eq (item_of l) zero_word) (bytes_eq (item_of l) poll_word) refl refl refl
  where
    go : (a b c : Bool) → bytes_eq (item_of l) on_word ≡ a → bytes_eq (item_of l) zero_word ≡ b → bytes_eq (item_of l) poll_word ≡ c
        → cond a (timed_line On (rest_of l)) (cond b (timed_line Zero (rest_of l)) (cond c (poll_line (item_of (rest_of l)) (item_of (rest_of (rest_of l))) (rest_of (rest_of (rest_of l)))) None)) ≡ None
    go true b c p q r = timed_long _ (rest_of l) (omega (arith, parts l, same_length (item_of l) on_word p))
    go false true c p q r = timed_long _ (rest_of l) (omega (arith, parts l, same_length (item_of l) zero_word q))
    go false false true p q r = poll_long (item_of (rest_of l)) (item_of (rest_of (rest_of l))) (rest_of (rest_of (rest_of l))) (omega (arith, parts l, parts (rest_of l), parts (rest_of (rest_of l)), same_length (item_of l) poll_word r))
    go false false false p q r = refl

-- `(poll T F H)` with 15, 2 and 64 digits has 90 bytes
pub long : (l : List ℕ) → 90 < length l → line_of l ≡ None
unfolding line_of
long l k = go (bracketed l)
  where
    size : length (take (length l - 2) (drop 1 l)) ≡ length l - 2
    size = length-take-le (length l - 2) (drop 1 l) (omega (arith, length-drop 1 l))

    go : (b : Bool) → cond b (form_of (take (length l - 2) (drop 1 l))) None ≡ None
    go true = form_long (take (length l - 2) (drop 1 l)) (omega (arith, size))
    go false = refl

-- so of a line no more than the first 91 bytes count
pub cut : (n : ℕ) (l : List ℕ) → 90 < n → line_of (take n l) ≡ line_of l
cut n l k = go (leb (length l) n) refl
  where
    go : (b : Bool) → leb (length l) n ≡ b → line_of (take n l) ≡ line_of l
    go true e = ap line_of (take_all n l (leb-true (length l) n e))
    go false e = let h : n < length l = leb-false (length l) n e in long (take n l) (omega (arith, length-take n l)) ∙ sym (long l (omega arith))

-- ---- a frame has 32 bytes at the most, and there is room for just as many
abbrev pub Few : Option Line → Type 0
Few (Some (On t)) = Unit {0}
Few (Some (Zero t)) = Unit {0}
Few (Some (Poll t f b)) = (b.count ≤ 32) × (length b.bytes ≡ 32)
Few None = Unit {0}

either : (t : Bool) (x y : Option Line) → (t ≡ true → Few x) → Few y → Few (cond t x y)
either false x y f k = k
either true x y f k = f refl

pairs : (h : List ℕ) → length (bytes_of h) * 2 ≤ length h
unfolding bytes_of
pairs [] = omega arith
pairs (b ∷ []) = omega arith
pairs (a ∷ b ∷ l) = omega (arith, pairs l)

poll_few : (t f h : List ℕ) → Few (poll_line t f h)
unfolding poll_line padded
poll_few t f h = either (is_time t && is_flags f && is_frame h) _ None (λ e. few (both (is_time t && is_flags f) (is_frame h) e).1) tt
  where
    few : is_frame h ≡ true → (length (bytes_of h) ≤ 32) × (length (bytes_of h ++ replicate (32 - length (bytes_of h)) 0) ≡ 32)
    few e = (omega (arith, pairs h, (frame h e).longest), length-append (bytes_of h) (replicate (32 - length (bytes_of h)) 0) ∙ omega (arith, pairs h, (frame h e).longest, length-replicate {A = ℕ} (32 - length (bytes_of h)) 0))

form_few : (l : List ℕ) → Few (form_of l)
unfolding form_of timed_line
form_few l =
    either (bytes_eq (item_of l) on_word) _ _ (λ e. either (is_time (rest_of l)) _ None (λ e. tt) tt)
    (either (bytes_eq (item_of l) zero_word) _ _ (λ e. either (is_time (rest_of l)) _ None (λ e. tt) tt)
    (either (bytes_eq (item_of l) poll_word) _ None (λ e. poll_few (item_of (rest_of l)) (item_of (rest_of (rest_of l))) (rest_of (rest_of (rest_of l)))) tt))

pub count_fits : (l : List ℕ) → Few (line_of l)
unfolding line_of
count_fits l = either (bracketed l) _ None (λ e. form_few (take (length l - 2) (drop 1 l))) tt
