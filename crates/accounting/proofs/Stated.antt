-- What follows from the definition: what an accounting leaves as it was, and what it does to the counted time and to the last time.
use mathlib.Core.Path.{◌≡◌, refl, sym}
use mathlib.Core.Bool.{Bool, true, false, not, ◌&&◌, true≢false}
use Prim.Native.Nat.{ℕ, ◌+◌, ◌^◌, ◌≤◌}
use native.Mathlib.Omega.{arith}
use lib.Dec.{ltb}
use lib.IntN.{pos}
use lib.Ieee.{Float}
use Rattle.std.specs.Prelude.{Result, Ok, Err, IfOk, IsOkAnd, is_err}
use Rattle.std.specs.Result.{result_unwrap_or}
use Rattle.numbers.specs.Binary32.{◌*f◌}
use Rattle.numbers.proofs.Cases.{either}
use Rattle.refusals.specs.declared.Refusal.{Refusal}
use Rattle.figures.specs.declared.acc.Sum.{Sum}
use Rattle.figures.specs.declared.load.Figures.{Figures}
use Rattle.figures.specs.declared.tally.Tally.{Tally}
use Rattle.figures.specs.declared.tally.Counted.{Counted}
use Rattle.figures.specs.Acc.{add_to}
use Rattle.figures.proofs.Exactly.{OnlyFull}
use Rattle.figures.proofs.Stated.{only_full}
use Rattle.figures.specs.Tally.{seconds, energy_step, with_time, both, accounting_step}
use Rattle.state.specs.declared.Pw.{Pw}
use Rattle.state.specs.Fresh.{no_time}
use Rattle.state.specs.Counting.{elapsed}
use Rattle.values.specs.Methods.{alternating}
use Rattle.accounting.specs.Account.{counted, last_time, account_by, account}

-- all but the powers of the next interval, the tally, the last time, `over_t0`, the phase calibration and `cal_req`
abbrev pub Untouched : Pw → Pw → Type 0
Untouched n m =
    (n.description ≡ m.description) × (n.calibration ≡ m.calibration) × (n.settings ≡ m.settings) × (n.corrections ≡ m.corrections) × (n.job ≡ m.job)
    × (n.ranges ≡ m.ranges) × (n.barred ≡ m.barred) × (n.cycle ≡ m.cycle) × (n.parts ≡ m.parts) × (n.comparator ≡ m.comparator) × (n.ring ≡ m.ring)
    × (n.mode.on ≡ m.mode.on) × (n.mode.alt ≡ m.mode.alt) × (n.mode.coup ≡ m.mode.coup) × (n.mode.dc ≡ m.mode.dc)
    × (n.clock.run ≡ m.clock.run) × (n.clock.t_poll ≡ m.clock.t_poll)

no_both : (b : Bool) → b && false ≡ false
no_both true = refl
no_both false = refl

module _ (m : Pw) (load : Figures) (now : ℕ) where
  pub untouched : IfOk (account m load now) (λ n. Untouched n m)
  unfolding account
  untouched = go (counted m now)
    where
      go : (a : Result Counted Refusal) → IfOk (account_by m load now a) (λ n. Untouched n m)
      go (Ok c) = (refl, refl, refl, refl, refl, refl, refl, refl, refl, refl, refl, refl, refl, refl, refl, refl, refl)
      go (Err r) = tt

  -- a refusal of the accounting is full
  pub counted_full : OnlyFull (counted m now)
  unfolding counted
  counted_full =
      either OnlyFull (m.clock.run && m.clock.t_last.set) (only_full m.tally (elapsed now m.clock.t_last.at) m.powers.p_tot m.powers.s_last (not (alternating m.mode))) tt

  pub refused_full : OnlyFull (account m load now)
  unfolding account
  refused_full = go (counted m now) counted_full
    where
      go : (a : Result Counted Refusal) → OnlyFull a → OnlyFull (account_by m load now a)
      go (Ok c) f = tt
      go (Err r) f = f

  -- full: "whole frame undone": with a refused accounting no meter comes, and the one that is kept is as it was
  pub full_undone : is_err (account m load now) ≡ true → result_unwrap_or (account m load now) m ≡ m
  full_undone = go (account m load now)
    where
      go : (a : Result Pw Refusal) → is_err a ≡ true → result_unwrap_or a m ≡ m
      go (Ok n) e = absurd (true≢false (sym e))
      go (Err r) e = refl

  -- document 01: "its time becomes the last (none while stopped)", where the accounting is not refused
  pub last_time_law : IfOk (account m load now) (λ n. n.clock.t_last ≡ last_time m.clock.run now)
  unfolding account
  last_time_law = go (counted m now)
    where
      go : (a : Result Counted Refusal) → IfOk (account_by m load now a) (λ n. n.clock.t_last ≡ last_time m.clock.run now)
      go (Ok c) = refl
      go (Err r) = tt

  not_counted : m.clock.run && m.clock.t_last.set ≡ false → counted m now ≡ Ok (record { tally = m.tally; gained = pos 0 })
  unfolding counted
  not_counted e = rw (e)

  -- while stopped nothing is counted, and there is no last time
  pub stopped : m.clock.run ≡ false → IsOkAnd (account m load now) (λ n. (n.tally ≡ m.tally) × (n.clock.t_last ≡ no_time))
  unfolding account counted last_time
  stopped e = rw (e) (refl, refl)

  -- nor is anything counted where there is no last time
  pub first_frame : m.clock.t_last.set ≡ false → IsOkAnd (account m load now) (λ n. n.tally ≡ m.tally)
  unfolding account
  first_frame e = let none = not_counted (rw (e) (no_both m.clock.run)) in rw (none)

-- ---- the counted time

abbrev TimeIs : ℕ → Result Counted Refusal → Type 0
TimeIs n (Ok c) = c.tally.t_int ≡ n
TimeIs n (Err r) = Unit

both_time : (e va : Result Sum Refusal) (t dt : ℕ) → TimeIs (t + dt) (both e va t dt)
unfolding both with_time
both_time (Ok e) (Ok va) t dt = either (TimeIs (t + dt)) (ltb (t + dt) (2 ^ 63)) refl tt
both_time (Ok e) (Err r) t dt = tt
both_time (Err r) va t dt = tt

step_time : (t : Tally) (dt : ℕ) (p s : Float) (active : Bool) → TimeIs (t.t_int + dt) (accounting_step t dt p s active)
unfolding accounting_step
step_time t dt p s active = both_time (energy_step active t.e (p *f seconds dt)) (add_to t.va (s *f seconds dt)) t.t_int dt

module _ (m : Pw) (load : Figures) (now : ℕ) (run : m.clock.run ≡ true) (after : m.clock.t_last.set ≡ true) where
  abbrev gained : ℕ
  gained = m.tally.t_int + elapsed now m.clock.t_last.at

  counted_time : TimeIs gained (counted m now)
  unfolding counted
  counted_time = rw (run, after) (step_time m.tally (elapsed now m.clock.t_last.at) m.powers.p_tot m.powers.s_last (not (alternating m.mode)))

  -- the counted time gains what has elapsed since the last time, where the accounting is not refused
  pub gains_elapsed : IfOk (account m load now) (λ n. n.tally.t_int ≡ gained)
  unfolding account
  gains_elapsed = go (counted m now) counted_time
    where
      go : (a : Result Counted Refusal) → TimeIs gained a → IfOk (account_by m load now a) (λ n. n.tally.t_int ≡ gained)
      go (Ok c) h = h
      go (Err r) h = tt

  -- document 01: "A smaller clock reading than the last is no refusal; an accounted frame then counts zero elapsed"
  pub smaller_clock : now ≤ m.clock.t_last.at → IfOk (account m load now) (λ n. n.tally.t_int ≡ m.tally.t_int)
  smaller_clock h = go (account m load now) gains_elapsed
    where
      go : (a : Result Pw Refusal) → IfOk a (λ n. n.tally.t_int ≡ gained) → IfOk a (λ n. n.tally.t_int ≡ m.tally.t_int)
      go (Ok n) g = omega (arith, g)
      go (Err r) g = tt
