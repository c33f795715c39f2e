-- An item and the rest, by the place of the first space.
use Rattle.std.proofs.Common.{◌≡◌, ℕ, ◌+◌, ◌-◌, ◌≤◌, Bool, true, false, cond, ltb, List, [], length, take, drop, Some, None, sym, refl, ap, ◌∙◌, arith, take_all, length-drop, ltb-false, drop_of_length-le}
use Rattle.std.proofs.lemmas.Slice.Eq.{bytes_eq-Decides}
use Rattle.std.specs.Str.{bytes_eq}
use Rattle.std.specs.List.{position, position_or_len}
use native.Mathlib.Nat.{le_of_eq}
use Rattle.lines.specs.Spelling.{is_space, item_of, rest_of}

-- where the first space stands, or the length where there is none
abbrev pub space_at : List ℕ → ℕ
space_at l = position_or_len is_space l

pub in_front : (s : List ℕ) (n : ℕ) → Some n ≡ position is_space s → take n s ≡ item_of s
unfolding item_of
in_front s n = go (ltb (space_at s) (length s))
  where
    go : (t : Bool) → Some n ≡ cond t (Some (space_at s)) None → take n s ≡ take (space_at s) s
    go true e = let k : n ≡ space_at s = cc in ap (λ (m : ℕ). take m s) k
    go false e = cc

pub behind : (s : List ℕ) (n : ℕ) → Some n ≡ position is_space s → take (length s - (n + 1)) (drop (n + 1) s) ≡ rest_of s
unfolding rest_of
behind s n = go (ltb (space_at s) (length s))
  where
    go : (t : Bool) → Some n ≡ cond t (Some (space_at s)) None → take (length s - (n + 1)) (drop (n + 1) s) ≡ drop (space_at s + 1) s
    go true e =
        let k : n ≡ space_at s = cc in
        take_all (length s - (n + 1)) (drop (n + 1) s) (le_of_eq (length-drop (n + 1) s)) ∙ ap (λ (m : ℕ). drop (m + 1) s) k
    go false e = cc

no_space : (s : List ℕ) → None ≡ position is_space s → length s ≤ space_at s
no_space s = go (ltb (space_at s) (length s)) refl
  where
    go : (t : Bool) → ltb (space_at s) (length s) ≡ t → None ≡ cond t (Some (space_at s)) None → length s ≤ space_at s
    go true e k = cc
    go false e k = ltb-false (space_at s) (length s) e

pub no_front : (s : List ℕ) → None ≡ position is_space s → s ≡ item_of s
unfolding item_of
no_front s e = sym (take_all (space_at s) s (no_space s e))

pub no_more : (s : List ℕ) → None ≡ position is_space s → [] ≡ rest_of s
unfolding rest_of
no_more s e = let h = no_space s e in sym (drop_of_length-le s (omega arith))

-- items that are the same
pub same_is : (a b : List ℕ) → bytes_eq a b ≡ true → a ≡ b
same_is a b = (bytes_eq-Decides a b).0
