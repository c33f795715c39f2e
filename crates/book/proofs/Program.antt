-- The corollary over the contracts of the C interface: what holds of the definitions' meter holds of the program's.
use mathlib.Core.Path.{◌≡◌, refl, ap, sym, ◌∙◌, subst}
use mathlib.Core.Bool.{Bool, true, false, cond}
use mathlib.Core.List.{List, [], ◌∷◌}
use Prim.Native.Nat.{ℕ}
use native.Mathlib.Omega.{arith}
use lib.Dec.{eqb}
use lib.ListN.{length}
use Rattle.std.proofs.Common.{Ok, Err}
use Rattle.refusals.specs.declared.Refusal.TheVariants as refusal
use Rattle.tables.specs.declared.description.Description.{Description}
use Rattle.state.specs.declared.Pw.{Pw}
use Rattle.state.specs.Fresh.{new_pw}
use Rattle.meter.specs.Making.{make}
use Rattle.meter.specs.Calls.{step, after, Call}
use Rattle.meter.proofs.Stated.{six_in_bounds, makes}
use Rattle.host.specs.declared.stepped.HostStep.{HostStep}
use Rattle.host.specs.Stepped.{host_step, host_made}
use Rattle.book.specs.Book.{books, blank}
use Rattle.book.specs.Demand3.{Agrees, fed, Demand3}
use Rattle.book.specs.Earned.{Earned}
use Rattle.book.specs.Program.{Contracts, ran, Program}
use Rattle.book.proofs.Demand3.{demand3}
use Rattle.book.proofs.Earned.{all_earned}

-- call by call
ran_is : (f : Pw → Call → HostStep) → Contracts f → (m : Pw) (cs : List Call) → ran f m cs ≡ after m cs
ran_is f h m [] = refl
ran_is f h m (c ∷ cs) = ap (λ (n : Pw). ran f n cs) (ap (λ (s : HostStep). s.meter) (h m c)) ∙ ran_is f h (step m c).pw cs

-- a meter is handed out where the definitions make one
pub hands_out : (d : Description) (words : List ℕ) (valid : Bool) → (host_made (make d words valid)).refusal ≡ 0 → make d words valid ≡ Ok (host_made (make d words valid)).meter
unfolding host_made
hands_out d words valid = rw (makes d words valid) (go (six_in_bounds d) (eqb (length words) 73))
  where
    go : (six enough : Bool)
        → let a = cond six (cond enough (Ok (new_pw d (fed words valid))) (Err refusal.Words)) (Err refusal.Description) in (host_made a).refusal ≡ 0 → a ≡ Ok (host_made a).meter
    go true true e = refl
    go true false e = absurd (omega (arith, e))
    go false enough e = absurd (omega (arith, e))

pub program : Program
unfolding Program Demand3 Earned
program f h d words valid e cs =
    let m = (host_made (make d words valid)).meter in
    let same = ran_is f h m cs in
    (same, λ c. h (ran f m cs) c ∙ ap (λ (n : Pw). host_step (step n c)) same, subst (λ (n : Pw). Agrees (fed words valid) n (books (fed words valid) m cs blank)) (sym same) (demand3 d words valid m (hands_out d words valid e) cs), all_earned (fed words valid) m cs)
