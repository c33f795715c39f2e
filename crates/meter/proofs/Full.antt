-- The accounting is full exactly where document 01's words for number 6 hold.
use mathlib.Core.Path.{◌≡◌, refl, sym, ap, ◌∙◌}
use mathlib.Core.Bool.{Bool, true, false, not, ◌&&◌, cond}
use Prim.Native.Nat.{ℕ}
use lib.IntN.{pos}
use Rattle.std.specs.Prelude.{Result, Ok, Err, is_err}
use Rattle.refusals.specs.declared.Refusal.{Refusal}
use Rattle.figures.specs.declared.load.Figures.{Figures}
use Rattle.figures.specs.declared.tally.Counted.{Counted}
use Rattle.figures.specs.Full.{interval_full, is_full}
use Rattle.figures.specs.Tally.{accounting_step}
use Rattle.figures.proofs.Exactly.{OnlyFull}
use Rattle.figures.proofs.Stated.{interval_full_law}
use Rattle.state.specs.declared.Pw.{Pw}
use Rattle.state.specs.Counting.{elapsed}
use Rattle.values.specs.Methods.{alternating}
use Rattle.accounting.specs.Account.{counted, account_by, account}
use Rattle.accounting.proofs.Stated.{counted_full}
use Rattle.meter.specs.Table.{step_full}

answer_full : (m : Pw) (load : Figures) (now : ℕ) (a : Result Counted Refusal) → OnlyFull a → is_err (account_by m load now a) ≡ is_full a
answer_full m load now (Ok c) f = refl
answer_full m load now (Err r) f = sym (ap (λ (x : Refusal). is_full (Err x)) f)

pub full_when_law : (m : Pw) (load : Figures) (now : ℕ) → is_err (account m load now) ≡ step_full m now
unfolding account counted
full_when_law m load now = answer_full m load now (counted m now) (counted_full m load now) ∙ go (m.clock.run && m.clock.t_last.set)
  where
    dt : ℕ
    dt = elapsed now m.clock.t_last.at

    active : Bool
    active = not (alternating m.mode)

    go : (b : Bool) → is_full (cond b (accounting_step m.tally dt m.powers.p_tot m.powers.s_last active) (Ok (record { tally = m.tally; gained = pos 0 })))
        ≡ (b && interval_full m.tally dt m.powers.p_tot m.powers.s_last active)
    go true = interval_full_law m.tally dt m.powers.p_tot m.powers.s_last active
    go false = refl
