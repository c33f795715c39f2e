-- No other line is read: each is of another spelling, or one of the three forms. With proofs/Spelled.antt this is document 01's sentence, both ways.
use Rattle.std.proofs.Common.{◌≡◌, ℕ, suc, ◌-◌, ◌+◌, ◌≤◌, ◌<◌, Bool, true, false, cond, ◌&&◌, ◌⊎◌, inl, inr, List, [], ◌∷◌, ◌++◌, eqb, leb, length, get_or, take, drop, Option, None, sym, refl, ap, ◌∙◌, subst, arith, length-drop}
use borrow.Author.Tests.{leb-true, eqb-true}
use lib.Seq.{take-suc, take-length, split_at}
use Rattle.std.specs.Prelude.{not}
use Rattle.std.specs.Str.{bytes_eq}
use Rattle.lines.specs.Digits.{within, all_digits}
use Rattle.lines.specs.Spelling.{item_of, rest_of, on_word, zero_word, poll_word, is_time, is_flags, is_frame, timed_line, poll_line, form_of, bracketed, line_of}
use Rattle.lines.specs.declared.Line.{Line}
use Rattle.lines.specs.declared.Line.TheVariants.{On, Zero}
use Rattle.lines.proofs.Digits.{both}
use Rattle.lines.proofs.Items.{space_at, same_is}
use Rattle.lines.proofs.Pairs.{frame}
use Rattle.lines.proofs.Spelled.{in_brackets, then}

-- `(on T)`, `(zero T)`, `(poll T F H)`
pub data Form : List ℕ → Type 0 where
  on_form : (t : List ℕ) → is_time t ≡ true → Form (in_brackets (then on_word t))
  zero_form : (t : List ℕ) → is_time t ≡ true → Form (in_brackets (then zero_word t))
  poll_form : (t f h : List ℕ) → is_time t ≡ true → is_flags f ≡ true → is_frame h ≡ true → Form (in_brackets (then poll_word (then t (then f h))))

-- ---- brackets
in_brackets_law : (l : List ℕ) → bracketed l ≡ true → l ≡ in_brackets (take (length l - 2) (drop 1 l))
unfolding bracketed
in_brackets_law [] e = absurd (omega (arith, leb-true 2 0 (both (leb 2 0) (eqb 0 40) (both (leb 2 0 && eqb 0 40) (eqb 0 41) e).0).0))
in_brackets_law (x ∷ l) e = ap (λ (b : ℕ). b ∷ l) first ∙ ap (λ (r : List ℕ). 40 ∷ r) (sym (take-length l) ∙ ap (λ (n : ℕ). take n l) size ∙ take-suc l (suc (length l) - 2) 0 (omega (arith, two)) ∙ ap (λ (b : ℕ). take (suc (length l) - 2) l ++ (b ∷ [])) last)
  where
    ends : (leb 2 (suc (length l)) ≡ true) × (eqb x 40 ≡ true)
    ends = both (leb 2 (suc (length l))) (eqb x 40) (both (leb 2 (suc (length l)) && eqb x 40) (eqb (get_or (x ∷ l) (suc (length l) - 1) 0) 41) e).0

    two : 2 ≤ suc (length l)
    two = leb-true 2 (suc (length l)) ends.0

    first : x ≡ 40
    first = eqb-true x 40 ends.1

    size : length l ≡ suc (suc (length l) - 2)
    size = omega (arith, two)

    last : get_or l (suc (length l) - 2) 0 ≡ 41
    last = ap (λ (n : ℕ). get_or (x ∷ l) n 0) down ∙ eqb-true (get_or (x ∷ l) (suc (length l) - 1) 0) 41 (both (leb 2 (suc (length l)) && eqb x 40) (eqb (get_or (x ∷ l) (suc (length l) - 1) 0) 41) e).1
      where
        down : suc (suc (length l) - 2) ≡ suc (length l) - 1
        down = omega (arith, two)

-- ---- items
space_there : (m : List ℕ) → space_at m < length m → get_or m (space_at m) 0 ≡ 32
space_there [] h = absurd (omega arith)
space_there (b ∷ m) h = go (eqb b 32) refl h (space_there m)
  where
    go : (t : Bool) → eqb b 32 ≡ t → cond (not t) (1 + space_at m) 0 < suc (length m) → (space_at m < length m → get_or m (space_at m) 0 ≡ 32) → get_or (b ∷ m) (cond (not t) (1 + space_at m) 0) 0 ≡ 32
    go true e k f = eqb-true b 32 e
    go false e k f = ap (λ (n : ℕ). get_or (b ∷ m) n 0) up ∙ f (omega arith)
      where
        up : 1 + space_at m ≡ suc (space_at m)
        up = omega arith

-- where anything stands behind the first space, the list is the item, the space and that
parted : (m : List ℕ) → 0 < length (rest_of m) → m ≡ then (item_of m) (rest_of m)
unfolding item_of rest_of
parted m h = split_at m (space_at m) 0 there ∙ ap (λ (b : ℕ). take (space_at m) m ++ (b ∷ drop (suc (space_at m)) m)) (space_there m there) ∙ ap (λ (n : ℕ). then (take (space_at m) m) (drop n m)) up
  where
    there : space_at m < length m
    there = omega (arith, length-drop (space_at m + 1) m)

    up : suc (space_at m) ≡ space_at m + 1
    up = omega arith

shorter : (m : List ℕ) → length (rest_of m) ≤ length m
unfolding rest_of
shorter m = omega (arith, length-drop (space_at m + 1) m)

time_some : (t : List ℕ) → is_time t ≡ true → 0 < length t
unfolding is_time
time_some t e = leb-true 1 (length t) (both (leb 1 (length t)) (leb (length t) 15) (both (within 1 15 (length t)) (all_digits 10 t) e).0).0

-- ---- between the brackets
module _ (m : List ℕ) where
  abbrev Outcome : Option Line → Type 0
  Outcome r = (r ≡ None) ⊎ Form (in_brackets m)

  timed_or : (order : ℕ → Line) (word : List ℕ) → bytes_eq (item_of m) word ≡ true → ((t : List ℕ) → is_time t ≡ true → Form (in_brackets (then word t))) → Outcome (timed_line order (rest_of m))
  unfolding timed_line
  timed_or order word s form = go _ (is_time (rest_of m)) refl
    where
      go : (x : Option Line) (t : Bool) → is_time (rest_of m) ≡ t → Outcome (cond t x None)
      go x true e = inr (subst (λ (l : List ℕ). Form (in_brackets l)) (sym (parted m (time_some (rest_of m) e) ∙ ap (λ (w : List ℕ). then w (rest_of m)) (same_is (item_of m) word s))) (form (rest_of m) e))
      go x false e = inl refl

  abbrev items : List ℕ
  items = rest_of m

  abbrev after : List ℕ
  after = rest_of items

  poll_or : bytes_eq (item_of m) poll_word ≡ true → Outcome (poll_line (item_of items) (item_of after) (rest_of after))
  unfolding poll_line
  poll_or s = go _ (is_time (item_of items)) (is_flags (item_of after)) (is_frame (rest_of after)) refl refl refl
    where
      whole : 0 < length (rest_of after) → m ≡ then poll_word (then (item_of items) (then (item_of after) (rest_of after)))
      whole h =
          parted m (omega (arith, shorter items, shorter after))
          ∙ ap (λ (w : List ℕ). then w items) (same_is (item_of m) poll_word s)
          ∙ ap (λ (l : List ℕ). then poll_word l) (parted items (omega (arith, shorter after)) ∙ ap (λ (l : List ℕ). then (item_of items) l) (parted after h))

      go : (x : Option Line) (a b c : Bool) → is_time (item_of items) ≡ a → is_flags (item_of after) ≡ b → is_frame (rest_of after) ≡ c → Outcome (cond (a && b && c) x None)
      go x true true true p q r =
          inr (subst (λ (l : List ℕ). Form (in_brackets l)) (sym (whole (omega (arith, (frame (rest_of after) r).least)))) (poll_form (item_of items) (item_of after) (rest_of after) p q r))
      go x true true false p q r = inl refl
      go x true false c p q r = inl refl
      go x false b c p q r = inl refl

  form_or : Outcome (form_of m)
  unfolding form_of
  form_or = go (bytes_eq (item_of m) on_word) (bytes_eq (item_of m) zero_word) (bytes_eq (item_of m) poll_word) refl refl refl
    where
      go : (a b c : Bool) → bytes_eq (item_of m) on_word ≡ a → bytes_eq (item_of m) zero_word ≡ b → bytes_eq (item_of m) poll_word ≡ c
          → Outcome (cond a (timed_line On items) (cond b (timed_line Zero items) (cond c (poll_line (item_of items) (item_of after) (rest_of after)) None)))
      go true b c p q r = timed_or On on_word p on_form
      go false true c p q r = timed_or Zero zero_word q zero_form
      go false false true p q r = poll_or r
      go false false false p q r = inl refl

-- ---- a line
pub nothing_else : (l : List ℕ) → (line_of l ≡ None) ⊎ Form l
unfolding line_of
nothing_else l = go (bracketed l) refl
  where
    named : bracketed l ≡ true → (form_of (take (length l - 2) (drop 1 l)) ≡ None) ⊎ Form (in_brackets (take (length l - 2) (drop 1 l))) → (form_of (take (length l - 2) (drop 1 l)) ≡ None) ⊎ Form l
    named e (inl o) = inl o
    named e (inr f) = inr (subst (λ (x : List ℕ). Form x) (sym (in_brackets_law l e)) f)

    go : (b : Bool) → bracketed l ≡ b → (cond b (form_of (take (length l - 2) (drop 1 l))) None ≡ None) ⊎ Form l
    go true e = named e (form_or (take (length l - 2) (drop 1 l)))
    go false e = inl refl
