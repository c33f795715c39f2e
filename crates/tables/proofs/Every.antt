-- A test that each entry of a list passes, at an index.
use mathlib.Core.Bool.{Bool}
use mathlib.Core.List.{List, [], ◌∷◌}
use Prim.Native.Nat.{ℕ, zero, suc, ◌≤◌}
use native.Mathlib.Omega.{arith}
use lib.Dec.{T}
use lib.ListN.{length, get_or}
use Rattle.std.specs.List.{list_all}
use Rattle.tables.proofs.Both.{and_l, and_r}

-- entry j passes, or what stands for it past the end
pub each : {A : Type 0} (test : A → Bool) (none : A) (xs : List A) (j : ℕ) → T (list_all test xs) → (length xs ≤ j → T (test none)) → T (test (get_or xs j none))
each test none [] j h o = o (omega arith)
each test none (x ∷ xs) zero h o = and_l (test x) (list_all test xs) h
each test none (x ∷ xs) (suc j) h o = each test none xs j (and_r (test x) (list_all test xs) h) (λ l. o (omega (arith, l)))
