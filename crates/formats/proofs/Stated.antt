-- What follows from the definitions: a format has 1 to 4 decimals, and what is shown is never minus zero.
use mathlib.Core.Path.{◌≡◌, refl, sym, ap, ◌∙◌}
use mathlib.Core.Bool.{Bool, true, false, cond, not, ◌&&◌, ◌||◌, true≢false}
use Prim.Native.Nat.{ℕ, zero, suc, ◌≤◌}
use native.Mathlib.Omega.{arith}
use lib.Ieee.{Float, fin, lt, le, mul, of_bits, round}
use lib.IntN.{pos}
use Rattle.numbers.specs.Binary32.{◌*f◌, zero_f, one_f, abs_of, is_minus}
use Rattle.numbers.proofs.Cases.{either}
use Rattle.figures.specs.Acc.{thousand}
use Rattle.figures.specs.Tally.{milli}
use Rattle.formats.specs.declared.units.Unit.{Unit}
use Rattle.formats.specs.declared.format.Format.{Format}
use Rattle.formats.specs.Formats.{ten, hundred, nine_thousand, hundred_thousand, full_scale_margin, decimals_of, scaled, energy_at, energy_format, range_format, p_format}
use Rattle.formats.specs.Readout.{val_of, over_val, tens, half, no_neg_zero, shown, shown_unless}

-- ---- decimals

-- 1 to 4
abbrev Few : ℕ → Type 0
Few dec = (1 ≤ dec) × (dec ≤ 4)

few_by : (t u v : Bool) → Few (cond t 4 (cond u 3 (cond v 2 1)))
few_by true u v = (omega arith, omega arith)
few_by false true v = (omega arith, omega arith)
few_by false false true = (omega arith, omega arith)
few_by false false false = (omega arith, omega arith)

few : (a : Float) → Few (decimals_of a)
unfolding decimals_of
few a = few_by (lt a ten) (lt a hundred) (lt a thousand)

abbrev FewOf : Format → Type 0
FewOf f = Few f.decimals

-- a format's by its own size
sized : (x k : Float) (u : Unit) → FewOf (scaled x k u)
unfolding scaled
sized x k u = few (abs_of (x *f k))

pub energy_decimals : (wh : Float) (va : Bool) → FewOf (energy_format wh va)
unfolding energy_format energy_at
energy_decimals wh va =
    let m = abs_of wh in
    either FewOf (lt m one_f && not va) (sized wh thousand _) (either FewOf (lt m thousand || (va && lt m hundred_thousand)) (sized wh one_f _) (sized wh milli _))

-- and by the full scale of a pair of ranges
ranged : (fs si k : Float) (u : Unit) → FewOf (range_format fs si k u)
unfolding range_format
ranged fs si k u = few (fs *f k *f full_scale_margin)

pub power_decimals : (fs si : Float) (watts : Bool) → FewOf (p_format fs si watts)
unfolding p_format
power_decimals fs si watts = either FewOf (le nine_thousand fs) (omega arith, omega arith) (either FewOf (lt fs one_f) (ranged fs si thousand _) (ranged fs si one_f _))

-- ---- the source: "the readouts never show a negative zero"

abbrev pub minus_zero : Float
minus_zero = fin true 0 (pos 0)

-- with as many decimals as a format has, minus zero counts as shown as zero
abbrev Small : ℕ → Type 0
Small dec = lt (abs_of (minus_zero *f tens dec)) half ≡ true

small : (dec : ℕ) → dec ≤ 4 → Small dec
unfolding tens abs_of lt mul of_bits round
small zero h = refl
small (suc zero) h = refl
small (suc (suc zero)) h = refl
small (suc (suc (suc zero))) h = refl
small (suc (suc (suc (suc zero)))) h = refl
small (suc (suc (suc (suc (suc n))))) h = absurd (omega (arith, h))

pub plus_zero : zero_f ≡ minus_zero → ⊥
unfolding of_bits is_minus
plus_zero h = true≢false (sym (ap is_minus h))

by_test : (t : Bool) (x : Float) → (x ≡ minus_zero → t ≡ true) → cond t zero_f x ≡ minus_zero → ⊥
by_test true x h e = plus_zero e
by_test false x h e = true≢false (sym (h e))

pub no_minus_zero : (x : Float) (dec : ℕ) → dec ≤ 4 → no_neg_zero x dec ≡ minus_zero → ⊥
unfolding no_neg_zero
no_minus_zero x dec h = by_test _ x (λ (e : x ≡ minus_zero). ap (λ (y : Float). lt (abs_of (y *f tens dec)) half) e ∙ small dec h)

-- so no figure with such decimals is shown as minus zero, and neither is one that is over
pub shown_no_minus_zero : (f : Format) → f.decimals ≤ 4 → (shown f).number ≡ minus_zero → ⊥
unfolding shown val_of
shown_no_minus_zero f = no_minus_zero f.number f.decimals

pub unless_no_minus_zero : (over : Bool) (f : Format) → f.decimals ≤ 4 → (shown_unless over f).number ≡ minus_zero → ⊥
unfolding shown_unless over_val
unless_no_minus_zero true f h = plus_zero
unless_no_minus_zero false f h = shown_no_minus_zero f h
