-- How many ready frames a job that ends well has used.
use mathlib.Core.Path.{◌≡◌, refl, ap, sym, ◌∙◌}
use mathlib.Core.Bool.{Bool, true, false, cond}
use mathlib.Core.List.{List, [], ◌∷◌, ◌++◌}
use Prim.Native.Nat.{ℕ, suc, ◌%◌, ◌≤◌}
use native.Mathlib.Omega.{arith}
use borrow.Author.Tests.{ltb-false}
use lib.Dec.{ltb, eqb}
use lib.Ieee.{Float}
use lib.ListN.{length}
use Rattle.std.specs.Prelude.{Result, Ok, Err}
use Rattle.codes.specs.declared.Codes.{Codes}
use Rattle.tables.specs.Constants.{jr_signal}
use Rattle.state.specs.declared.Ranges.{Ranges}
use Rattle.steps.specs.declared.place.Kind.TheVariants.{Zero, Gain}
use Rattle.steps.specs.declared.error.JobError.{JobError}
use Rattle.steps.specs.Place.{zero_steps, layout_of}
use Rattle.steps.specs.Reading.{Zeros}
use Rattle.jobs.specs.declared.bench.Bench.{Bench}
use Rattle.book.specs.Book.{measures, drops, begins, first, Setting, dc_of, going, struck, zeroed, gained, thirteen, raw_out, gain_out, verdict_of, ratio_of, finished, signal_at, outcome}
use Rattle.book.proofs.Lists.{begins_mono, dc_old}
use Rattle.book.proofs.Relation.{lay_in, Serving, three_steps, after_begin, before_next, outcome_is}
use Rattle.book.proofs.Serve.{four}

-- ---- a frame that ends a job well is its last step's third

module _ (c : Setting) (t : Bench) (r : Ranges) (fs : List Codes) (f : Codes) where
  abbrev s : ℕ
  s = t.job.job_step

  pub zero_length : Serving c t Zero r fs → (z : Zeros) → outcome Zero c fs f ≡ zeroed z → suc (length fs) ≡ 52
  unfolding finished
  zero_length sv z e =
      go (ltb (length fs) (first zero_steps s)) (signal_at c zero_steps s f) (ltb (suc (length fs)) (begins zero_steps (suc s))) (ltb s 12) refl refl
      (sym (outcome_is c t Zero r fs sv f) ∙ e)
    where
      go : (d q n u : Bool) → ltb (suc (length fs)) (begins zero_steps (suc s)) ≡ n → ltb s 12 ≡ u
          → cond d going (cond q (struck jr_signal) (cond n going (cond u going (zeroed (thirteen c (fs ++ (f ∷ []))))))) ≡ zeroed z → suc (length fs) ≡ 52
      go true q n u en eu i = cc
      go false true n u en eu i = cc
      go false false true u en eu i = cc
      go false false false true en eu i = cc
      go false false false false en eu i =
          let e12 : s ≡ 12 = omega (arith, sv.low, ltb-false s 12 eu) in
          let x : begins zero_steps s ≡ 48 = ap (begins zero_steps) e12 in
          let y : drops (measures zero_steps s) ≡ 1 = ap (λ (n : ℕ). drops (measures zero_steps n)) e12 in
          omega (arith, before_next c t Zero r fs sv, ltb-false (suc (length fs)) (begins zero_steps (suc s)) en)

  no_gain : (v : Result (Unit {0}) JobError) (g : Float) → raw_out v ≡ gained g → ⊥
  no_gain (Err x) g e = cc
  no_gain (Ok x) g e = cc

  whole : (d : Bool) → begins (layout_of Gain d) 4 ≡ cond d 16 22
  whole true = refl
  whole false = refl

  pub gain_length : Serving c t Gain r fs → (g : Float) → outcome Gain c fs f ≡ gained g → suc (length fs) ≡ cond (dc_of c (fs ++ (f ∷ []))) 16 22
  unfolding finished
  gain_length sv g e =
      go (ltb (length fs) (first (lay_in Gain t) s)) (signal_at c (lay_in Gain t) s f) (ltb (suc (length fs)) (begins (lay_in Gain t) (suc s))) (eqb (s % 2) 0) (ltb s 3) refl refl
      (sym (outcome_is c t Gain r fs sv f) ∙ e)
    where
      go : (d q n v u : Bool) → ltb (suc (length fs)) (begins (lay_in Gain t) (suc s)) ≡ n → ltb s 3 ≡ u
          → let gs = fs ++ (f ∷ []) in
          cond d going (cond q (struck jr_signal) (cond n going (cond v (raw_out (verdict_of c (dc_of c gs) gs s)) (cond u going (gain_out (ratio_of c (dc_of c gs) gs)))))) ≡ gained g → suc (length fs) ≡ cond (dc_of c gs) 16 22
      go true q n v u en eu i = cc
      go false true n v u en eu i = cc
      go false false true v u en eu i = cc
      go false false false true u en eu i = absurd (no_gain (verdict_of c (dc_of c (fs ++ (f ∷ []))) (fs ++ (f ∷ [])) s) g i)
      go false false false false true en eu i = cc
      go false false false false false en eu i =
          let l = lay_in Gain t in
          let e3 : s ≡ 3 = omega (arith, sv.low, three_steps t.job.job_dc, ltb-false s 3 eu) in
          let n : suc (length fs) ≡ begins l (suc s) = omega (arith, before_next c t Gain r fs sv, ltb-false (suc (length fs)) (begins l (suc s)) en) in
          let m : begins l 1 ≤ begins l s = begins_mono l 1 s (omega arith) in
          let d : t.job.job_dc ≡ dc_of c (fs ++ (f ∷ [])) = sv.results.dc (omega arith) ∙ sym (dc_old c fs f (omega (arith, after_begin c t Gain r fs sv, four t.job.job_dc, m))) in
          n ∙ ap (λ (x : ℕ). begins l (suc x)) e3 ∙ whole t.job.job_dc ∙ ap (λ (x : Bool). cond x 16 22) d
