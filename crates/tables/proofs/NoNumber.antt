-- What the window's rule gives where the middle is a NaN or infinite, or the swing a NaN: none.
use mathlib.Core.Path.{◌≡◌, sym, ◌∙◌, subst}
use mathlib.Core.Logic.{inl, inr}
use mathlib.Core.Bool.{Bool, true, false, ◌&&◌, true≢false}
use Prim.Native.Nat.{ℕ, ◌<◌, ◌≤◌}
use native.Mathlib.Nat.{not-le_of_lt}
use lib.Dec.{T}
use lib.Ieee.{Float, nan, inf, add, sub, mul, neg, sum, lt, of_bits, round}
use Rattle.numbers.proofs.NoNumber.{plus_nan}
use Rattle.numbers.proofs.Order.{lt_numbers, le_numbers, lt→nle}
use Rattle.tables.proofs.Both.{and_l, and_r, holds}
use Rattle.std.specs.List.{list_all}
use Rattle.tables.proofs.Every.{each}
use Rattle.tables.specs.declared.window.Side.{Side}
use Rattle.tables.specs.declared.window.Side.TheVariants.{Upper, Lower}
use Rattle.std.specs.Prelude.{None}
use Rattle.tables.specs.Window.{levels, away, clears, nearer, inside, cmp_window}
use Rattle.tables.specs.Rule.{level}
use Rattle.tables.proofs.WindowRule.{twelve, none_exactly}

pub middle_nan : (a : Float) → cmp_window nan a ≡ None
unfolding clears away add sum
middle_nan a = (none_exactly nan a).1 (inl (λ j s. (le_numbers nan (level Upper j) s.1).0))

pub swing_nan : (c : Float) → cmp_window c nan ≡ None
unfolding inside nearer away mul of_bits
swing_nan c =
    (none_exactly c nan).1
    (inl (λ j s. (lt_numbers (level Upper j) nan (subst (λ (x : Float). lt (level Upper j) x ≡ true) (plus_nan c) s.2)).1))

-- ---- every level lies between the infinities: a computed test
abbrev between : Float → Bool
between v = lt v (inf false) && lt (inf true) v

all_between : (side : Side) → T (list_all between (levels side))
unfolding levels lt round
all_between Upper = tt
all_between Lower = tt

between_at : (side : Side) (j : ℕ) → j < 12 → T (between (level side j))
between_at side j l = each between nan (levels side) j (all_between side) (λ h. absurd (not-le_of_lt l (subst (λ (n : ℕ). n ≤ j) (twelve side) h)))

upper_between : (j : ℕ) → j < 12 → lt (level Upper j) (inf false) ≡ true
upper_between j l = holds (lt (level Upper j) (inf false)) (and_l (lt (level Upper j) (inf false)) (lt (inf true) (level Upper j)) (between_at Upper j l))

lower_between : (j : ℕ) → j < 12 → lt (inf true) (level Lower j) ≡ true
lower_between j l = holds (lt (inf true) (level Lower j)) (and_r (lt (level Lower j) (inf false)) (lt (inf true) (level Lower j)) (between_at Lower j l))

pub middle_infinite : (s : Bool) (a : Float) → cmp_window (inf s) a ≡ None
unfolding clears away add sub sum neg of_bits
middle_infinite false a =
    (none_exactly (inf false) a).1 (inl (λ j s. true≢false (sym s.1 ∙ lt→nle (level Upper j) (inf false) (upper_between j s.0))))
middle_infinite true a =
    (none_exactly (inf true) a).1 (inr (λ j s. true≢false (sym s.1 ∙ lt→nle (inf true) (level Lower j) (lower_between j s.0))))
