-- The accounting step by its cases: both energies took their part, or one of them is refused.
use mathlib.Core.Bool.{Bool}
use mathlib.Core.Path.{◌≡◌, sym, ap, ◌∙◌}
use Prim.Native.Nat.{ℕ}
use lib.Ieee.{Float, binary32, of_int}
use lib.IntN.{pos}
use Rattle.std.specs.Prelude.{Result, Ok, Err}
use Rattle.numbers.specs.Binary32.{◌*f◌}
use Rattle.refusals.specs.declared.Refusal.{Refusal}
use Rattle.figures.specs.Acc.{add_to}
use Rattle.figures.specs.Tally.{milli, seconds, energy_step, with_time, both, accounting_step, Told}
use Rattle.figures.specs.declared.acc.Sum.{Sum}
use Rattle.figures.specs.declared.tally.Counted.{Counted}
use Rattle.figures.specs.declared.tally.Tally.{Tally}
use Rattle.figures.proofs.Stated.{told_of}

module _ (t : Tally) (dt : ℕ) (p s : Float) (active : Bool) (ms : Float) (told : ms ≡ of_int binary32 (pos dt)) where
  -- what the code's two adds answer is what the definition's do
  energy_is : (E : Result Sum Refusal) → E ≡ energy_step active t.e (p *f (ms *f milli)) → energy_step active t.e (p *f seconds dt) ≡ E
  unfolding seconds
  energy_is E e = ap (λ (x : Float). energy_step active t.e (p *f (x *f milli))) (sym told) ∙ sym e

  apparent_is : (A : Result Sum Refusal) → A ≡ add_to t.va (s *f (ms *f milli)) → add_to t.va (s *f seconds dt) ≡ A
  unfolding seconds
  apparent_is A a = ap (λ (x : Float). add_to t.va (s *f (x *f milli))) (sym told) ∙ sym a

  energy_refused : (R : Result Counted Refusal) (E : Result Sum Refusal) (r : Refusal) → R ≡ Err r → E ≡ energy_step active t.e (p *f (ms *f milli)) → E ≡ Err r → R ≡ accounting_step t dt p s active
  unfolding accounting_step both
  energy_refused R E r is is-e refused = is ∙ sym (rw (energy_is E is-e ∙ refused))

  apparent_refused : (R : Result Counted Refusal) (E A : Result Sum Refusal) (e : Sum) (r : Refusal) → R ≡ Err r → E ≡ energy_step active t.e (p *f (ms *f milli)) → A ≡ add_to t.va (s *f (ms *f milli)) → E ≡ Ok e → A ≡ Err r → R ≡ accounting_step t dt p s active
  unfolding accounting_step both
  apparent_refused R E A e r is is-e is-a sum refused = is ∙ sym (rw (energy_is E is-e ∙ sum, apparent_is A is-a ∙ refused))

  counted : (R : Result Counted Refusal) (E A : Result Sum Refusal) (e va : Sum) → R ≡ with_time e va.acc t.t_int dt → E ≡ energy_step active t.e (p *f (ms *f milli)) → A ≡ add_to t.va (s *f (ms *f milli)) → E ≡ Ok e → A ≡ Ok va → R ≡ accounting_step t dt p s active
  unfolding accounting_step both
  counted R E A e va is is-e is-a sum-e sum-a = is ∙ sym (rw (energy_is E is-e ∙ sum-e, apparent_is A is-a ∙ sum-a))

  -- and it tells what the definition does
  pub energy_told : (R : Result Counted Refusal) (E : Result Sum Refusal) (r : Refusal) → R ≡ Err r → E ≡ energy_step active t.e (p *f (ms *f milli)) → E ≡ Err r → Told t R
  energy_told R E r is is-e refused = told_of t dt p s active R (energy_refused R E r is is-e refused)

  pub apparent_told : (R : Result Counted Refusal) (E A : Result Sum Refusal) (e : Sum) (r : Refusal) → R ≡ Err r → E ≡ energy_step active t.e (p *f (ms *f milli)) → A ≡ add_to t.va (s *f (ms *f milli)) → E ≡ Ok e → A ≡ Err r → Told t R
  apparent_told R E A e r is is-e is-a sum refused = told_of t dt p s active R (apparent_refused R E A e r is is-e is-a sum refused)

  pub counted_told : (R : Result Counted Refusal) (E A : Result Sum Refusal) (e va : Sum) → R ≡ with_time e va.acc t.t_int dt → E ≡ energy_step active t.e (p *f (ms *f milli)) → A ≡ add_to t.va (s *f (ms *f milli)) → E ≡ Ok e → A ≡ Ok va → Told t R
  counted_told R E A e va is is-e is-a sum-e sum-a = told_of t dt p s active R (counted R E A e va is is-e is-a sum-e sum-a)
