-- The checked sum of two counts is there, and is their sum, exactly where the definition's test says so; and the size of a difference.
use mathlib.Core.Bool.{Bool, true, false, cond}
use mathlib.Core.Path.{◌≡◌, refl, sym, ap, ◌∙◌, subst}
use Prim.Native.Nat.{ℕ, suc, ◌-◌, ◌≤◌, ◌<◌}
use native.Mathlib.Omega.{arith}
use borrow.Author.Tests.{lt-ltb, ltb-true}
use lib.Dec.{ltb}
use lib.IntN.{ℤ, pos, negsuc, sub_ℕ, ◌+ℤ◌}
use lib.Signed.{mag}
use mir.Syntax.{w64}
use mir.Val.{SFits, to_z, of_z}
use mir.ValLaws.{to_z-of_z}
use Rattle.std.specs.Prelude.{Option, Some, None, SomeIff}
use Rattle.figures.specs.Acc.{count_in_range}

-- the range as the machine's laws have it
range_is : (z : ℤ) → ltb (mag z) 9223372036854775808 ≡ count_in_range z
unfolding count_in_range
range_is (pos n) = refl
range_is (negsuc n) = refl

fits_is : (z : ℤ) → SFits w64 z → count_in_range z ≡ true
fits_is z f = sym (range_is z) ∙ lt-ltb (mag z) 9223372036854775808 f.sfits

fits_from : (z : ℤ) → count_in_range z ≡ true → SFits w64 z
fits_from z e = record { sfits = ltb-true (mag z) 9223372036854775808 (range_is z ∙ e) }

-- each signed number is written as bits and read back
abbrev pub back : ℤ → ℤ
back z = to_z w64 (of_z w64 z)

abbrev pub Checked : Option ℤ → ℤ → Type 0
Checked r z = SomeIff r (SFits w64 z) z

-- a - b is no larger than a and b are
pub apart : (a b c : ℕ) → a < c → b ≤ c → mag (sub_ℕ a b) < c
apart a b c h k = go (ltb a b) (ltb-true a b)
  where
    below : a < b → b - suc a < c
    below l = omega arith

    go : (t : Bool) → (t ≡ true → a < b) → mag (cond t (negsuc (b - suc a)) (pos (a - b))) < c
    go true l = below (l refl)
    go false l = omega arith

pub there : (m w x : ℤ) (r : Option ℤ) → SFits w64 m → SFits w64 w → Checked r (back m +ℤ back w) → r ≡ Some x → (count_in_range (m +ℤ w) ≡ true) × (back x ≡ m +ℤ w)
there m w x r F G h e =
    let s : back m +ℤ back w ≡ m +ℤ w = ap (λ (z : ℤ). z +ℤ back w) (to_z-of_z w64 m F) ∙ ap (λ (z : ℤ). m +ℤ z) (to_z-of_z w64 w G) in
    let k : Checked (Some x) (m +ℤ w) = subst (λ (z : ℤ). Checked (Some x) z) s (subst (λ (q : Option ℤ). Checked q (back m +ℤ back w)) e h) in
    (fits_is (m +ℤ w) k.0, ap back k.1 ∙ to_z-of_z w64 (m +ℤ w) k.0)

pub missing : (m w : ℤ) (r : Option ℤ) → SFits w64 m → SFits w64 w → Checked r (back m +ℤ back w) → r ≡ None → count_in_range (m +ℤ w) ≡ false
missing m w r F G h e = go (count_in_range (m +ℤ w)) refl
  where
    s : back m +ℤ back w ≡ m +ℤ w
    s = ap (λ (z : ℤ). z +ℤ back w) (to_z-of_z w64 m F) ∙ ap (λ (z : ℤ). m +ℤ z) (to_z-of_z w64 w G)

    none : SFits w64 (m +ℤ w) → ⊥
    none = subst (λ (z : ℤ). Checked None z) s (subst (λ (q : Option ℤ). Checked q (back m +ℤ back w)) e h)

    go : (t : Bool) → count_in_range (m +ℤ w) ≡ t → t ≡ false
    go true k = absurd (none (fits_from (m +ℤ w) k))
    go false k = refl
