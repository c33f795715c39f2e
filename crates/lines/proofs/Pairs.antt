-- The bytes that pairs of hex digits spell, pair by pair.
use Rattle.std.proofs.Common.{◌≡◌, ℕ, ◌%◌, ◌≤◌, Bool, true, false, cond, ◌&&◌, eqb, leb, List, [], ◌∷◌, ◌++◌, length, get_or, Option, Some, None, sym, refl, ap, ◌∙◌, arith, append-nil}
use mathlib.Core.List.{append_assoc}
use Prim.Native.Nat.{◌-◌}
use lib.ListN.{drop, replicate}
use Rattle.std.proofs.lemmas.List.{drop-replicate}
use borrow.Author.Tests.{leb-true, eqb-true, le-leb, eq-eqb}
use Rattle.arrayvec.specs.ArrayVec.{ArrayVec}
use Rattle.std.specs.Char.{is_digit}
use Rattle.lines.specs.Digits.{within, all_digits, number_of, bytes_of, byte_in}
use Rattle.lines.specs.Spelling.{is_frame, frame_in}
use Rattle.lines.proofs.Digits.{both}

-- what is known of H
pub record Frame (h : List ℕ) : Type 0 where
  pub least : 2 ≤ length h
  pub longest : length h ≤ 64
  pub even : length h % 2 ≡ 0
  pub digits : all_digits 16 h ≡ true

pub frame : (h : List ℕ) → is_frame h ≡ true → Frame h
unfolding is_frame
frame h e =
    let size = both (within 2 64 (length h)) (eqb (length h % 2) 0) (both (within 2 64 (length h) && eqb (length h % 2) 0) (all_digits 16 h) e).0 in
    let ends = both (leb 2 (length h)) (leb (length h) 64) size.0 in
    record {
      least = leb-true 2 (length h) ends.0;
      longest = leb-true (length h) 64 ends.1;
      even = eqb-true (length h % 2) 0 size.1;
      digits = (both (within 2 64 (length h) && eqb (length h % 2) 0) (all_digits 16 h) e).1;
    }

-- a list of two is its two elements
of_two : (l : List ℕ) → length l ≡ 2 → l ≡ get_or l 0 0 ∷ get_or l 1 0 ∷ []
of_two [] h = absurd (omega (arith, h))
of_two (a ∷ []) h = absurd (omega (arith, h))
of_two (a ∷ b ∷ []) h = refl
of_two (a ∷ b ∷ c ∷ l) h = absurd (omega (arith, h))

-- ---- pair by pair: what the digits left are read as, some bytes having been read before them
abbrev pub pairing : List ℕ → List ℕ → Option (ArrayVec ℕ)
pairing bytes l = cond (all_digits 16 l) (Some (record { items = bytes ++ bytes_of l })) None

pub first : (h : List ℕ) → 2 ≤ length h → length h ≤ 64 → length h % 2 ≡ 0 → pairing [] h ≡ frame_in h
unfolding is_frame
first h a b k = rw (le-leb 2 (length h) a, le-leb (length h) 64 b, eq-eqb (length h % 2) 0 k)

-- a pair of digits, and one that is none
module _ (bytes l : List ℕ) (r : Option (ArrayVec ℕ)) where
  read_two : (a b v : ℕ) → Some v ≡ byte_in a b → pairing bytes (a ∷ b ∷ l) ≡ r → pairing (bytes ++ (v ∷ [])) l ≡ r
  unfolding bytes_of
  read_two a b v = go (is_digit a 16) (is_digit b 16)
    where
      go : (s t : Bool) → Some v ≡ cond (s && (t && true)) (Some (number_of 16 (a ∷ b ∷ []))) None
          → cond (s && (t && all_digits 16 l)) (Some (record { items = bytes ++ (number_of 16 (a ∷ b ∷ []) ∷ bytes_of l) })) None ≡ r
          → pairing (bytes ++ (v ∷ [])) l ≡ r
      go true true e k =
          let w : v ≡ number_of 16 (a ∷ b ∷ []) = cc in
          ap (λ (x : List ℕ). cond {A = Option (ArrayVec ℕ)} (all_digits 16 l) (Some (record { items = x })) None) (append_assoc bytes (v ∷ []) (bytes_of l) ∙ ap (λ (x : ℕ). bytes ++ (x ∷ bytes_of l)) w) ∙ k
      go true false e k = cc
      go false t e k = cc

  none_of_two : (a b : ℕ) → None ≡ byte_in a b → pairing bytes (a ∷ b ∷ l) ≡ r → None ≡ r
  none_of_two a b = go (is_digit a 16) (is_digit b 16)
    where
      go : (s t : Bool) → None ≡ cond (s && (t && true)) (Some (number_of 16 (a ∷ b ∷ []))) None
          → cond (s && (t && all_digits 16 l)) (Some (record { items = bytes ++ bytes_of (a ∷ b ∷ l) })) None ≡ r
          → None ≡ r
      go true true e k = cc
      go true false e k = k
      go false t e k = k

  module _ (p all : List ℕ) (h : length p ≡ 2) (e : all ≡ p ++ l) (k : pairing bytes all ≡ r) where
    whole : pairing bytes (get_or p 0 0 ∷ get_or p 1 0 ∷ l) ≡ r
    whole = ap (λ (x : List ℕ). pairing bytes x) (sym (e ∙ ap (λ (x : List ℕ). x ++ l) (of_two p h))) ∙ k

    pub read_pair : (v : ℕ) → Some v ≡ byte_in (get_or p 0 0) (get_or p 1 0) → pairing (bytes ++ (v ∷ [])) l ≡ r
    read_pair v d = read_two (get_or p 0 0) (get_or p 1 0) v d whole

    pub read_none : None ≡ byte_in (get_or p 0 0) (get_or p 1 0) → None ≡ r
    read_none d = none_of_two (get_or p 0 0) (get_or p 1 0) d whole

-- no pair is left
pub read_all : (bytes l : List ℕ) (r : Option (ArrayVec ℕ)) → length l ≡ 0 → pairing bytes l ≡ r → Some (record { items = bytes }) ≡ r
unfolding bytes_of
read_all bytes [] r h k = ap (λ (x : List ℕ). Some (record { items = x })) (sym (append-nil bytes)) ∙ k
read_all bytes (a ∷ l) r h k = absurd (omega (arith, h))

-- zeros stand behind the bytes that are brought
pub zeros_behind : (l : List ℕ) → l ++ drop (length l) (replicate 32 0) ≡ l ++ replicate (32 - length l) 0
zeros_behind l = ap (λ (z : List ℕ). l ++ z) (drop-replicate (length l) 32 0)
