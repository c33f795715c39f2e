-- One of two answers by a test.
use Rattle.std.proofs.Common.{◌≡◌, Bool, true, false, cond, refl}

-- what both answers have, the one that the test gives has
pub either : {A : Type 0} (P : A → Type 0) (t : Bool) {x y : A} → P x → P y → P (cond t x y)
either P true f g = f
either P false f g = g

-- the same, where each may ask how the test came out
pub by_test : (P : Bool → Type 0) (t : Bool) → (t ≡ true → P true) → (t ≡ false → P false) → P t
by_test P true f g = f refl
by_test P false f g = g refl

pub either_by : {A : Type 0} (P : A → Type 0) (t : Bool) {x y : A} → (t ≡ true → P x) → (t ≡ false → P y) → P (cond t x y)
either_by P true f g = f refl
either_by P false f g = g refl
