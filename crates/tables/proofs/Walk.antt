-- A walk over a table: its codes have four bits, and so has the picked one.
use mathlib.Core.Bool.{Bool, true, false, cond}
use mathlib.Core.List.{List}
use Prim.Native.Nat.{ℕ, zero, suc, ◌<◌}
use lib.Dec.{T, ltb, ltb→lt}
use lib.ListN.{get_or}
use lib.Ieee.{Float, nan}
use Rattle.std.specs.List.{list_all}
use Rattle.tables.proofs.Every.{each}
use Rattle.tables.specs.declared.window.Side.{Side}
use Rattle.tables.specs.declared.window.Side.TheVariants.{Upper, Lower}
use Rattle.tables.specs.declared.window.Entry.{Entry}
use Rattle.std.specs.Prelude.{Option, Some}
use Rattle.tables.specs.Window.{codes, nearer_than, clears, picked, entry_of, walk, FourBits}

-- ---- every code of a table has four bits, and so has the picked one
abbrev small : ℕ → Bool
small k = ltb k 16

codes_small : (side : Side) → T (list_all small (codes side))
unfolding codes
codes_small Upper = tt
codes_small Lower = tt

either : (t u : Bool) (e : Entry) (b : Option Entry) → e.code < 16 → FourBits b → FourBits (cond t (cond u (Some e) b) b)
unfolding FourBits
either true true e b h f = h
either true false e b h f = f
either false u e b h f = f

pub four_bits : (side : Side) (limit : Float) (vs : List Float) (n : ℕ) → FourBits (walk side limit (codes side) vs n)
unfolding walk picked FourBits
four_bits side limit vs zero = tt
four_bits side limit vs (suc n) =
    let b = walk side limit (codes side) vs n in
    let v = get_or vs n nan in
    either (clears side limit v) (nearer_than side v b) (entry_of (codes side) vs n) b (ltb→lt (get_or (codes side) n 0) 16 (each small 0 (codes side) n (codes_small side) (λ l. tt))) (four_bits side limit vs n)
