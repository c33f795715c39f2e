-- The accumulator's step by its cases: a sum out of range, a count that is, or both in range.
use mathlib.Core.Bool.{true, false}
use mathlib.Core.Path.{◌≡◌, sym, ap, ◌∙◌, subst}
use lib.Ieee.{Float, binary32, of_int, to_signed}
use lib.IntN.{ℤ, ◌+ℤ◌}
use mir.Syntax.{w64}
use mir.Val.{SFits}
use mir.ValLaws.{to_z-of_z}
use Rattle.std.specs.Prelude.{Option, Some, None, Ok, Err}
use Rattle.numbers.specs.Binary32.{◌+f◌, ◌-f◌}
use Rattle.refusals.specs.declared.Refusal.TheVariants as refusal
use Rattle.figures.specs.Acc.{sum_in_range, count_in_range, acc_step}
use Rattle.figures.specs.declared.acc.Acc.{Acc}
use Rattle.figures.proofs.Within.{back, Checked, there, missing}

pub out_case : (a : Acc) (j : Float) → sum_in_range (a.frac +f j) ≡ false → Err refusal.Full ≡ acc_step a j
unfolding acc_step
out_case a j out = rw (out)

module _ (a : Acc) (j : Float) (w : ℤ) (F : SFits w64 a.mj) (G : SFits w64 w) (sum_in : sum_in_range (a.frac +f j) ≡ true) (cut : w ≡ to_signed 63 (a.frac +f j)) (n : Option ℤ) (h : Checked n (back a.mj +ℤ back w)) where
  pub sum_case : (x : ℤ) (r : Float) → n ≡ Some x → r ≡ of_int binary32 (back w) → Ok (record { acc = record { mj = back x; frac = a.frac +f j -f r }; gained = back w }) ≡ acc_step a j
  unfolding acc_step
  sum_case x r e float =
      let k = there a.mj w x n F G h e in
      let x' = a.frac +f j in
      ap (λ (y : Float). Ok (record { acc = record { mj = back x; frac = x' -f y }; gained = back w })) float
      ∙ ap (λ (z : ℤ). Ok (record { acc = record { mj = z; frac = x' -f of_int binary32 (back w) }; gained = back w })) k.1
      ∙ ap (λ (z : ℤ). Ok (record { acc = record { mj = a.mj +ℤ w; frac = x' -f of_int binary32 z }; gained = z })) (to_z-of_z w64 w G)
      ∙ ap (λ (z : ℤ). Ok (record { acc = record { mj = a.mj +ℤ z; frac = x' -f of_int binary32 z }; gained = z })) cut
      ∙ sym (rw (sum_in, subst (λ (z : ℤ). count_in_range (a.mj +ℤ z) ≡ true) cut k.0))

  pub full_case : n ≡ None → Err refusal.Full ≡ acc_step a j
  unfolding acc_step
  full_case e = rw (sum_in, subst (λ (z : ℤ). count_in_range (a.mj +ℤ z) ≡ false) cut (missing a.mj w n F G h e))
