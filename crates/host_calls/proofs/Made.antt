-- The theorem over every list of calls, at a meter just made.
use mathlib.Core.Path.{◌≡◌, refl, sym, subst}
use mathlib.Core.Bool.{Bool}
use mathlib.Core.List.{List}
use Prim.Native.Nat.{ℕ}
use Rattle.tables.specs.declared.calibration.Calibration.{Calibration}
use Rattle.tables.specs.declared.description.Description.{Description}
use Rattle.state.specs.declared.Pw.{Pw}
use Rattle.meter.specs.Making.{make}
use Rattle.meter.specs.Calls.{after, Call}
use Rattle.host.specs.declared.stepped.HostMade.{HostMade}
use Rattle.host.specs.Stepped.{host_made}
use Rattle.book.specs.Book.{books, blank}
use Rattle.book.specs.Demand3.{Agrees, fed, Demand3}
use Rattle.book.specs.Earned.{Earned}
use Rattle.book.specs.Last.{Last}
use Rattle.book.proofs.Program.{hands_out}
use Rattle.host_calls.specs.Made.{IsMade, Served}

pub served_made : Demand3 → Earned → Last → (w : Calibration) (m : Pw) → IsMade w m → (cs : List Call) (n : Pw) → n ≡ after m cs → Served w m cs n
unfolding Demand3 Earned Last
served_made agreed had those w m p cs n same =
    let at_make = agreed p.description p.words p.valid m p.made cs in
    let at_w = subst (λ (v : Calibration). Agrees v (after m cs) (books v m cs blank)) (sym p.fed) at_make in
    record { after = same; agrees = subst (λ (o : Pw). Agrees w o (books w m cs blank)) (sym same) at_w; earned = had w m cs; last = those w m cs }

-- and at the meter that a host is handed
pub handed : (d : Description) (words : List ℕ) (valid : Bool) (made : HostMade) → made ≡ host_made (make d words valid) → made.refusal ≡ 0 → (cs : List Call) (n : Pw)
    → ((w : Calibration) → IsMade w made.meter → Served w made.meter cs n) → Served (fed words valid) (host_made (make d words valid)).meter cs n
handed d words valid made is none cs n served =
    let one : IsMade (fed words valid) (host_made (make d words valid)).meter = record { description = d; words = words; valid = valid; made = hands_out d words valid (subst (λ (h : HostMade). h.refusal ≡ 0) is none); fed = refl } in
    subst (λ (h : HostMade). (w : Calibration) → IsMade w h.meter → Served w h.meter cs n) is served (fed words valid) one
