-- Three things that follow from the definitions: the accounting step is full exactly under refusal 6's condition, and an add at every sum "that is not finite"; what the accounting step tells; and a counted time
-- is within signed 64 bits.
use mathlib.Core.Bool.{Bool, true, false, not, ◌&&◌, ◌||◌, cond, true≢false}
use mathlib.Core.Logic.{◌⊎◌, inl, inr}
use mathlib.Core.Path.{◌≡◌, refl, sym, ◌∙◌, ap, subst}
use Prim.Native.Nat.{ℕ, ◌+◌, ◌^◌, ◌<◌}
use borrow.Author.Tests.{ltb-true}
use lib.Dec.{ltb}
use lib.Ieee.{Float, nan, inf, fin, le, lt, eq, neg, of_bits, binary32, of_int, to_signed}
use lib.IntN.{◌+ℤ◌, +ℤ_idr}
use Rattle.std.specs.Prelude.{Result, Ok, Err}
use Rattle.numbers.specs.Binary32.{◌+f◌, ◌-f◌, ◌*f◌, is_finite}
use Rattle.numbers.proofs.Cases.{either, either_by}
use Rattle.refusals.specs.declared.Refusal.{Refusal}
use Rattle.refusals.specs.declared.Refusal.TheVariants as refusal
use Rattle.refusals.specs.Number.{refusal_number, told_number}
use Rattle.figures.specs.Acc.{sum_in_range, count_in_range, acc_step, thousand, add_to, added_acc, added_whole}
use Rattle.figures.specs.Exact.{Exact}
use Rattle.figures.specs.Full.{add_full, interval_full, is_full}
use Rattle.figures.specs.Tally.{seconds, energy_step, with_time, both, accounting_step, accounted_tally, accounted_whole, Told}
use Rattle.figures.specs.declared.acc.Acc.{Acc}
use Rattle.figures.specs.declared.acc.Sum.{Sum}
use Rattle.figures.specs.declared.tally.Counted.{Counted}
use Rattle.figures.specs.declared.tally.Tally.{Tally}
use Rattle.figures.proofs.Exactly.{exactly, OnlyFull, step_only_full}

outside : (x : Float) → is_finite x ≡ false → sum_in_range x ≡ false
unfolding is_finite sum_in_range le lt eq neg of_bits
outside nan h = refl
outside (inf true) h = refl
outside (inf false) h = refl
outside (fin s m e) h = absurd (true≢false h)

pub not_finite_is_full : (a : Acc) (millijoules : Float) → is_finite (a.frac +f millijoules) ≡ false → acc_step a millijoules ≡ Err refusal.Full
unfolding acc_step
not_finite_is_full a j h = rw (outside (a.frac +f j) h)

-- ---- full
abbrev is_full_add : Result Sum Refusal → Bool
is_full_add (Ok x) = false
is_full_add (Err r) = true

add_full_law : (a : Acc) (joules : Float) → is_full_add (add_to a joules) ≡ add_full a joules
unfolding add_to acc_step
add_full_law a joules = go (sum_in_range x) (count_in_range (a.mj +ℤ to_signed 63 x))
  where
    x : Float
    x = a.frac +f (joules *f thousand)

    sum : Result Sum Refusal
    sum = Ok (record { acc = record { mj = a.mj +ℤ to_signed 63 x; frac = x -f of_int binary32 (to_signed 63 x) }; gained = to_signed 63 x })

    go : (s c : Bool) → is_full_add (cond (s && c) sum (Err refusal.Full)) ≡ (not s || not c)
    go true true = refl
    go true false = refl
    go false true = refl
    go false false = refl

energy_full : (active : Bool) (a : Acc) (joules : Float) → is_full_add (energy_step active a joules) ≡ (active && add_full a joules)
unfolding energy_step
energy_full true a joules = add_full_law a joules
energy_full false a joules = refl

energy_only_full : (active : Bool) (a : Acc) (joules : Float) → OnlyFull (energy_step active a joules)
unfolding energy_step add_to
energy_only_full true a joules = step_only_full a (joules *f thousand)
energy_only_full false a joules = tt

apparent_only_full : (a : Acc) (joules : Float) → OnlyFull (add_to a joules)
unfolding add_to
apparent_only_full a joules = step_only_full a (joules *f thousand)

both_only_full : (E A : Result Sum Refusal) (tInt dt : ℕ) → OnlyFull E → OnlyFull A → OnlyFull (both E A tInt dt)
unfolding both with_time
both_only_full (Ok e) (Ok va) tInt dt f g = either OnlyFull (ltb (tInt + dt) (2 ^ 63)) tt refl
both_only_full (Ok e) (Err r) tInt dt f g = g
both_only_full (Err r) A tInt dt f g = f

-- no other refusal comes of the accounting step
pub only_full : (t : Tally) (dt : ℕ) (p s : Float) (active : Bool) → OnlyFull (accounting_step t dt p s active)
unfolding accounting_step
only_full t dt p s active = both_only_full _ _ t.t_int dt (energy_only_full active t.e (p *f seconds dt)) (apparent_only_full t.va (s *f seconds dt))

full_is : (r : Refusal) → r ≡ refusal.Full → is_full (Err r) ≡ true
full_is r e = ap (λ (x : Refusal). is_full (Err x)) e

both_full : (E A : Result Sum Refusal) (tInt dt : ℕ) → OnlyFull E → OnlyFull A → is_full (both E A tInt dt) ≡ ((is_full_add E || is_full_add A) || not (ltb (tInt + dt) (2 ^ 63)))
unfolding both with_time
both_full (Ok e) (Ok va) tInt dt f g = go (ltb (tInt + dt) (2 ^ 63))
  where
    go : (b : Bool) → is_full (cond b (Ok (record { tally = record { e = e.acc; va = va.acc; t_int = tInt + dt }; gained = e.gained })) (Err refusal.Full)) ≡ not b
    go true = refl
    go false = refl
both_full (Ok e) (Err r) tInt dt f g = full_is r g
both_full (Err r) A tInt dt f g = full_is r f

-- the accounting step is full exactly where document 01's words for number 6 hold
pub interval_full_law : (t : Tally) (dt : ℕ) (p s : Float) (active : Bool) → is_full (accounting_step t dt p s active) ≡ interval_full t dt p s active
unfolding accounting_step
interval_full_law t dt p s active =
    both_full (energy_step active t.e (p *f seconds dt)) (add_to t.va (s *f seconds dt)) t.t_int dt (energy_only_full active t.e (p *f seconds dt)) (apparent_only_full t.va (s *f seconds dt))
    ∙ ap (λ (b : Bool). (b || is_full_add (add_to t.va (s *f seconds dt))) || not (ltb (t.t_int + dt) (2 ^ 63))) (energy_full active t.e (p *f seconds dt))
    ∙ ap (λ (b : Bool). ((active && add_full t.e (p *f seconds dt)) || b) || not (ltb (t.t_int + dt) (2 ^ 63))) (add_full_law t.va (s *f seconds dt))

-- ---- the whole millijoules
answer_gains : (a : Acc) (j : Float) (r : Result Sum Refusal) → Exact a j r → (added_acc a r).mj ≡ a.mj +ℤ added_whole r
unfolding Exact
answer_gains a j (Ok x) h = h.1
answer_gains a j (Err r) h = sym (+ℤ_idr a.mj)

energy_gains : (active : Bool) (a : Acc) (j : Float) → (added_acc a (energy_step active a j)).mj ≡ a.mj +ℤ added_whole (energy_step active a j)
unfolding energy_step add_to
energy_gains true a j = answer_gains a (j *f thousand) (acc_step a (j *f thousand)) (exactly a (j *f thousand))
energy_gains false a j = sym (+ℤ_idr a.mj)

both_gain : (t : Tally) (E A : Result Sum Refusal) (dt : ℕ) → (added_acc t.e E).mj ≡ t.e.mj +ℤ added_whole E
    → (accounted_tally t (both E A t.t_int dt)).e.mj ≡ t.e.mj +ℤ accounted_whole (both E A t.t_int dt)
unfolding both with_time
both_gain t (Ok e) (Ok va) dt h = go (ltb (t.t_int + dt) (2 ^ 63))
  where
    on : Result Counted Refusal
    on = Ok (record { tally = record { e = e.acc; va = va.acc; t_int = t.t_int + dt }; gained = e.gained })

    go : (b : Bool) → (accounted_tally t (cond b on (Err refusal.Full))).e.mj ≡ t.e.mj +ℤ accounted_whole (cond b on (Err refusal.Full))
    go true = h
    go false = sym (+ℤ_idr t.e.mj)
both_gain t (Ok e) (Err r) dt h = sym (+ℤ_idr t.e.mj)
both_gain t (Err r) A dt h = sym (+ℤ_idr t.e.mj)

pub whole_is_gained : (t : Tally) (dt : ℕ) (p s : Float) (active : Bool)
    → (accounted_tally t (accounting_step t dt p s active)).e.mj ≡ t.e.mj +ℤ accounted_whole (accounting_step t dt p s active)
unfolding accounting_step
whole_is_gained t dt p s active = both_gain t _ _ dt (energy_gains active t.e (p *f seconds dt))

number_told : (t : Tally) (r : Result Counted Refusal) → OnlyFull r → (told_number r ≡ 0) ⊎ ((told_number r ≡ 6) × (accounted_tally t r ≡ t))
number_told t (Ok c) f = inl refl
number_told t (Err r) f = inr (ap refusal_number f, refl)

pub told_of : (t : Tally) (dt : ℕ) (p s : Float) (active : Bool) (r : Result Counted Refusal) → r ≡ accounting_step t dt p s active → Told t r
unfolding Told
told_of t dt p s active r h =
    (number_told t r (subst OnlyFull (sym h) (only_full t dt p s active)), subst (λ (z : Result Counted Refusal). (accounted_tally t z).e.mj ≡ t.e.mj +ℤ accounted_whole z) (sym h) (whole_is_gained t dt p s active))

-- ---- the time
abbrev pub TimeInRange : Result Counted Refusal → Type 0
TimeInRange (Ok c) = c.tally.t_int < 2 ^ 63
TimeInRange (Err r) = Unit {0}

both_time : (E A : Result Sum Refusal) (t dt : ℕ) → TimeInRange (both E A t dt)
unfolding both with_time
both_time (Ok e) (Ok va) t dt = either_by TimeInRange (ltb (t + dt) (2 ^ 63)) (ltb-true (t + dt) (2 ^ 63)) (λ h. tt)
both_time (Ok e) (Err r) t dt = tt
both_time (Err r) A t dt = tt

pub time_in_range : (t : Tally) (dt : ℕ) (p s : Float) (active : Bool) → TimeInRange (accounting_step t dt p s active)
unfolding accounting_step
time_in_range t dt p s active = both_time _ _ t.t_int dt
