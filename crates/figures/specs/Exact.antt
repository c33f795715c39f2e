-- Document 01: "whole part plus fraction equals the rounded sum exactly". Said over whole numbers, so that nothing is rounded in the saying.
use Rattle.std.specs.Prelude.{◌≡◌, ◌⊎◌, Bool, true, if◌then◌else◌, ℕ, ◌*◌, ℤ, pos, neg_ℤ, ◌+ℤ◌, ◌*ℤ◌, Float, Result, Ok, Err}
use Rattle.std.specs.Float.{nan, inf, fin}
use Rattle.std.specs.Float.Ieee.{up, down, lt, to_signed}
use Rattle.numbers.specs.Binary32.{◌+f◌, ◌*f◌, one_f, is_finite, abs_of}
use Rattle.refusals.specs.declared.Refusal.{Refusal}
use Rattle.refusals.specs.declared.Refusal.TheVariants as refusal
use Rattle.refusals.specs.Number.{refusal_number}
use Rattle.figures.specs.declared.acc.Acc.{Acc}
use Rattle.figures.specs.declared.acc.Sum.{Sum}
use Rattle.figures.specs.Acc.{thousand}

-- n, or minus n for a minus sign
abbrev pub with_sign : Bool → ℕ → ℤ
with_sign minus n = if minus then neg_ℤ (pos n) else pos n

-- A finite float is numerator / denominator: `fin s m e` is m * 2 ^ e with the sign s, and 2 ^ e is up e / down e. A NaN and the infinities have no value; what stands for them here is never used.
abbrev pub numerator : Float → ℤ
numerator nan = pos 0
numerator (inf s) = pos 0
numerator (fin s m e) = with_sign s (m * up e)

abbrev pub denominator : Float → ℕ
denominator nan = 1
denominator (inf s) = 1
denominator (fin s m e) = down e

-- x is finite, f is below one in size (so it is finite too), and x = w + f
unfoldable pub IsWholePlus : Float → ℤ → Float → Type 0
IsWholePlus x w f = (is_finite x ≡ true) × (lt (abs_of f) one_f ≡ true) × (numerator x *ℤ pos (denominator f) ≡ (w *ℤ pos (denominator f) +ℤ numerator f) *ℤ pos (denominator x))

-- w is the whole part of x, x cut toward zero; b's count is a's plus w, and w plus b's fraction is x
abbrev pub Parts : Acc → Float → Acc → ℤ → Type 0
Parts a x b w = (w ≡ to_signed 63 x) × (b.mj ≡ a.mj +ℤ w) × IsWholePlus x w b.frac

-- If the answer to millijoules that join a is a sum, its parts are those of the rounded sum of a's fraction and the millijoules. Of full nothing is asked.
unfoldable pub Exact : Acc → Float → Result Sum Refusal → Type 0
Exact a millijoules (Ok s) = Parts a (a.frac +f millijoules) s.acc s.gained
Exact a millijoules (Err r) = Unit {0}

-- An add of joules to a lent record a that is answered with this number and leaves b: done, and its parts are those of the rounded sum; or full, and b is a.
unfoldable pub ExactAfter : Acc → Float → ℕ → Acc → Type 0
ExactAfter a joules number b =
    ((number ≡ 0) × ((w : ℤ) × Parts a (a.frac +f joules *f thousand) b w))
    ⊎ ((number ≡ refusal_number refusal.Full) × (b ≡ a))
