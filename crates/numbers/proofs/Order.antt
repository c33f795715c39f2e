-- The order of floats: laws of `lt`, `le`, `eq` over every value, NaN and the infinities included.
-- One fact carries them all: of any three values that are not NaN, each has a rank, a natural number, and `lt`, `le`, `eq` of two of them are the tests of the ranks.
use Rattle.std.proofs.Common.{◌≡◌, ℕ, suc, ◌+◌, ◌-◌, ◌*◌, ◌<◌, ◌≤◌, Bool, true, false, not, ◌&&◌, ◌||◌, eqb, ltb, leb, sym, refl, ap, ◌∙◌, mul_assoc, mul_comm, add_comm, lt_of_mul-lt-mul_right, mul-lt-mul_of_pos_right, mul-pos, not-le_of_lt, mul_left_comm, arith, ltb-false, ltb-true, le-ltb, lt-ltb, eq-eqb, ne_eqb, eqb-true, le-leb, leb-true}
use mathlib.Core.Bool.{beq, false≢true}
use native.Mathlib.Nat.{eq_of_mul-eq-mul_right}
use borrow.Author.Tests.{eqb-false, lt-leb}
use lib.Ieee.{Float, nan, inf, fin, up, down, below, level, lt, le, eq, neg}
use lib.Ieee.Positive.{num, den, den_pos}

-- ---- tests on numbers are equal where the facts they stand for are the same
same_lt : (a b c d : ℕ) → (a < b → c < d) → (c < d → a < b) → ltb a b ≡ ltb c d
same_lt a b c d f g = go (ltb a b) (ltb c d) refl refl
  where
    go : (t u : Bool) → ltb a b ≡ t → ltb c d ≡ u → ltb a b ≡ ltb c d
    go true u e k = e ∙ sym (lt-ltb c d (f (ltb-true a b e)))
    go false true e k = absurd (not-le_of_lt (g (ltb-true c d k)) (ltb-false a b e))
    go false false e k = e ∙ sym k

same_eq : (t : Bool) (c d : ℕ) → (t ≡ true → c ≡ d) → (c ≡ d → t ≡ true) → t ≡ eqb c d
same_eq true c d f g = sym (eq-eqb c d (f refl))
same_eq false c d f g = sym (ne_eqb c d (λ h. false≢true (g h)))

same_false : (c d : ℕ) → d ≤ c → false ≡ ltb c d
same_false c d h = sym (le-ltb c d h)

and_true : (a b : Bool) → a && b ≡ true → (a ≡ true) × (b ≡ true)
and_true true b e = (refl, e)
and_true false b e = absurd (false≢true e)

true_and : (a b : Bool) → a ≡ true → b ≡ true → a && b ≡ true
true_and true b p q = q
true_and false b p q = p

le_or : (p q : ℕ) (t u : Bool) → t ≡ ltb p q → u ≡ eqb p q → (t || u) ≡ leb p q
le_or p q true u e f = sym (le-leb p q (omega (arith, ltb-true p q (sym e))))
le_or p q false true e f = sym (le-leb p q (omega (arith, eqb-true p q (sym f))))
le_or p q false false e f = sym (lt-leb p q (strict p q (ltb-false p q (sym e)) (eqb-false p q (sym f))))
  where
    strict : (p q : ℕ) → q ≤ p → (p ≡ q → ⊥) → q < p
    strict p q a b = omega arith

-- ---- one fraction for another of the same value
module _ (a b c d k l : ℕ) (K : 0 < k) (L : 0 < l) (p : a * k ≡ c * l) (q : b * k ≡ d * l) where
  over_lt : a < b → c < d
  over_lt h = lt_of_mul-lt-mul_right l (omega (arith, mul-lt-mul_of_pos_right h K))

  over_eq : a ≡ b → c ≡ d
  over_eq h = eq_of_mul-eq-mul_right l L c d (sym p ∙ ap (λ (x : ℕ). x * k) h ∙ q)

-- ---- a sign and a size at most B as a number: the larger the value the larger the number, from 1 to B + B + 1
abbrev key : ℕ → Bool → ℕ → ℕ
key B true a = suc (B - a)
key B false a = suc (B + a)

module _ (B : ℕ) where
  key_lt : (s : Bool) (a : ℕ) (t : Bool) (b : ℕ) → a ≤ B → b ≤ B → below s a t b ≡ ltb (key B s a) (key B t b)
  key_lt false a false b x y = same_lt a b (suc (B + a)) (suc (B + b)) (λ h. omega arith) (λ h. omega arith)
  key_lt false a true b x y = same_false (suc (B + a)) (suc (B - b)) (omega arith)
  key_lt true a false b x y = same_lt 0 (a + b) (suc (B - a)) (suc (B + b)) (λ h. omega arith) (λ h. omega arith)
  key_lt true a true b x y = same_lt b a (suc (B - a)) (suc (B - b)) (λ h. omega arith) (λ h. omega arith)

  key_eq : (s : Bool) (a : ℕ) (t : Bool) (b : ℕ) → a ≤ B → b ≤ B → level s a t b ≡ eqb (key B s a) (key B t b)
  key_eq false a false b x y = same_eq (eqb a b && true) (suc (B + a)) (suc (B + b)) (λ h. omega (arith, eqb-true a b (and_true (eqb a b) true h).0)) (λ h. true_and (eqb a b) true (eq-eqb a b (omega arith)) refl)
  key_eq false a true b x y = same_eq (eqb a b && eqb a 0) (suc (B + a)) (suc (B - b)) (λ h. omega (arith, eqb-true a b (and_true (eqb a b) (eqb a 0) h).0, eqb-true a 0 (and_true (eqb a b) (eqb a 0) h).1)) (λ h. true_and (eqb a b) (eqb a 0) (eq-eqb a b (omega arith)) (eq-eqb a 0 (omega arith)))
  key_eq true a false b x y = same_eq (eqb a b && eqb a 0) (suc (B - a)) (suc (B + b)) (λ h. omega (arith, eqb-true a b (and_true (eqb a b) (eqb a 0) h).0, eqb-true a 0 (and_true (eqb a b) (eqb a 0) h).1)) (λ h. true_and (eqb a b) (eqb a 0) (eq-eqb a b (omega arith)) (eq-eqb a 0 (omega arith)))
  key_eq true a true b x y = same_eq (eqb a b && true) (suc (B - a)) (suc (B - b)) (λ h. omega (arith, eqb-true a b (and_true (eqb a b) true h).0)) (λ h. true_and (eqb a b) true (eq-eqb a b (omega arith)) refl)

-- ---- `below` and `level` do not change where both sizes are scaled alike
module _ (a b c d k l : ℕ) (K : 0 < k) (L : 0 < l) (p : a * k ≡ c * l) (q : b * k ≡ d * l) where
  lt_same : ltb a b ≡ ltb c d
  lt_same = same_lt a b c d (over_lt a b c d k l K L p q) (over_lt c d a b l k L K (sym p) (sym q))

  gt_same : ltb b a ≡ ltb d c
  gt_same = same_lt b a d c (over_lt b a d c k l K L q p) (over_lt d c b a l k L K (sym q) (sym p))

  sum_same : ltb 0 (a + b) ≡ ltb 0 (c + d)
  sum_same = same_lt 0 (a + b) 0 (c + d) (over_lt 0 (a + b) 0 (c + d) k l K L (omega arith) (omega arith)) (over_lt 0 (c + d) 0 (a + b) l k L K (omega arith) (omega arith))

  below_same : (s t : Bool) → below s a t b ≡ below s c t d
  below_same false false = lt_same
  below_same false true = refl
  below_same true false = sum_same
  below_same true true = gt_same

  eqb_same : eqb a b ≡ eqb c d
  eqb_same = same_eq (eqb a b) c d (λ h. over_eq a b c d k l K L p q (eqb-true a b h)) (λ h. eq-eqb a b (over_eq c d a b l k L K (sym p) (sym q) h))

  zero_same : eqb a 0 ≡ eqb c 0
  zero_same = same_eq (eqb a 0) c 0 (λ h. over_eq a 0 c 0 k l K L p (omega arith) (eqb-true a 0 h)) (λ h. eq-eqb a 0 (over_eq c 0 a 0 l k L K (sym p) (omega arith) h))

  level_same : (s t : Bool) → level s a t b ≡ level s c t d
  level_same s t = ap (λ (x : Bool). x && (beq s t || eqb a 0)) eqb_same ∙ ap (λ (x : Bool). eqb c d && (beq s t || x)) zero_same

-- ---- ranks
abbrev pub Number : Float → Type 0
Number nan = ⊥
Number (inf s) = Unit
Number (fin s m e) = Unit

-- q is what the denominator is multiplied by, and B is at least the size so scaled
abbrev rank : ℕ → ℕ → Float → ℕ
rank B q nan = 0
rank B q (inf true) = 0
rank B q (inf false) = suc (suc (B + B))
rank B q (fin s m e) = key B s (m * up e * q)

key_low : (B : ℕ) (s : Bool) (a : ℕ) → 0 < key B s a
key_low B true a = omega arith
key_low B false a = omega arith

key_high : (B : ℕ) (s : Bool) (a : ℕ) → a ≤ B → key B s a < suc (suc (B + B))
key_high B true a h = omega arith
key_high B false a h = omega arith

module _ (B : ℕ) where
  fin_lt : (s : Bool) (X de qx : ℕ) (t : Bool) (Y dd qy : ℕ) → 0 < qx → 0 < qy → 0 < de → de * qx ≡ dd * qy → X * qx ≤ B → Y * qy ≤ B
      → (below s (X * dd) t (Y * de) ≡ ltb (key B s (X * qx)) (key B t (Y * qy))) × (level s (X * dd) t (Y * de) ≡ eqb (key B s (X * qx)) (key B t (Y * qy)))
  fin_lt s X de qx t Y dd qy P Q D e x y =
      let k = qx * qy in
      let l = de * qx in
      let u : X * dd * k ≡ X * qx * l = simp (mul_assoc, mul_left_comm) (simp (mul_assoc, mul_left_comm) at (ap (λ (z : ℕ). X * qx * z) (sym e))) in
      let v : Y * de * k ≡ Y * qy * l = simp (mul_assoc, mul_comm, mul_left_comm) in (
        below_same (X * dd) (Y * de) (X * qx) (Y * qy) k l (mul-pos P Q) (mul-pos D P) u v s t ∙ key_lt B s (X * qx) t (Y * qy) x y,
        level_same (X * dd) (Y * de) (X * qx) (Y * qy) k l (mul-pos P Q) (mul-pos D P) u v s t ∙ key_eq B s (X * qx) t (Y * qy) x y,
      )

-- `lt`, `le` and `eq` of x and y are the tests of p and q
abbrev pub Agree : Float → ℕ → Float → ℕ → Type 0
Agree x p y q = (lt x y ≡ ltb p q) × (le x y ≡ leb p q) × (eq x y ≡ eqb p q)

agree : (x : Float) (p : ℕ) (y : Float) (q : ℕ) → lt x y ≡ ltb p q → eq x y ≡ eqb p q → Agree x p y q
unfolding le
agree x p y q e f = (e, le_or p q (lt x y) (eq x y) e f, f)

module _ (B : ℕ) where
  pair : (x : Float) (qx : ℕ) (y : Float) (qy : ℕ) → Number x → Number y → 0 < qx → 0 < qy → den x * qx ≡ den y * qy → num x * qx ≤ B → num y * qy ≤ B
      → Agree x (rank B qx x) y (rank B qy y)
  unfolding lt eq
  pair nan qx y qy N M P Q e a b = absurd N
  pair (inf s) qx nan qy N M P Q e a b = absurd M
  pair (inf true) qx (inf true) qy N M P Q e a b = agree (inf true) 0 (inf true) 0 refl refl
  pair (inf true) qx (inf false) qy N M P Q e a b = agree (inf true) 0 (inf false) (suc (suc (B + B))) (sym (lt-ltb 0 (suc (suc (B + B))) (omega arith))) (sym (ne_eqb 0 (suc (suc (B + B))) (λ h. omega arith)))
  pair (inf false) qx (inf true) qy N M P Q e a b = agree (inf false) (suc (suc (B + B))) (inf true) 0 (same_false (suc (suc (B + B))) 0 (omega arith)) (sym (ne_eqb (suc (suc (B + B))) 0 (λ h. omega arith)))
  pair (inf false) qx (inf false) qy N M P Q e a b = agree (inf false) (suc (suc (B + B))) (inf false) (suc (suc (B + B))) (same_false (suc (suc (B + B))) (suc (suc (B + B))) (omega arith)) (sym (eq-eqb (suc (suc (B + B))) (suc (suc (B + B))) refl))
  pair (inf true) qx (fin t n d) qy N M P Q e a b =
      let k = key B t (n * up d * qy) in
      let l : 0 < k = key_low B t (n * up d * qy) in
      agree (inf true) 0 (fin t n d) k (sym (lt-ltb 0 k l)) (sym (ne_eqb 0 k (λ h. omega arith)))
  pair (inf false) qx (fin t n d) qy N M P Q e a b =
      let k = key B t (n * up d * qy) in
      let l : k < suc (suc (B + B)) = key_high B t (n * up d * qy) b in
      agree (inf false) (suc (suc (B + B))) (fin t n d) k (same_false (suc (suc (B + B))) k (omega arith)) (sym (ne_eqb (suc (suc (B + B))) k (λ h. omega arith)))
  pair (fin s m e) qx nan qy N M P Q f a b = absurd M
  pair (fin s m e) qx (inf true) qy N M P Q f a b =
      let k = key B s (m * up e * qx) in
      let l : 0 < k = key_low B s (m * up e * qx) in
      agree (fin s m e) k (inf true) 0 (same_false k 0 (omega arith)) (sym (ne_eqb k 0 (λ h. omega arith)))
  pair (fin s m e) qx (inf false) qy N M P Q f a b =
      let k = key B s (m * up e * qx) in
      let l : k < suc (suc (B + B)) = key_high B s (m * up e * qx) a in
      agree (fin s m e) k (inf false) (suc (suc (B + B))) (sym (lt-ltb k (suc (suc (B + B))) l)) (sym (ne_eqb k (suc (suc (B + B))) (λ h. omega arith)))
  pair (fin s m e) qx (fin t n d) qy N M P Q f a b =
      let r = fin_lt B s (m * up e) (down e) qx t (n * up d) (down d) qy P Q (den_pos (fin s m e)) f a b in
      agree (fin s m e) (key B s (m * up e * qx)) (fin t n d) (key B t (n * up d * qy)) r.0 r.1

-- of any three values that are not NaN
pub record Ranks (x y z : Float) : Type 0 where
  pub p : ℕ
  pub q : ℕ
  pub r : ℕ
  pub xy : Agree x p y q
  pub yx : Agree y q x p
  pub yz : Agree y q z r
  pub xz : Agree x p z r

pub ranks : (x y z : Float) → Number x → Number y → Number z → Ranks x y z
ranks x y z N M L =
    let a = den y * den z in
    let b = den x * den z in
    let c = den x * den y in
    let A : 0 < a = mul-pos (den_pos y) (den_pos z) in
    let B : 0 < b = mul-pos (den_pos x) (den_pos z) in
    let C : 0 < c = mul-pos (den_pos x) (den_pos y) in
    let top = num x * a + num y * b + num z * c in
    let X : num x * a ≤ top = omega arith in
    let Y : num y * b ≤ top = omega arith in
    let Z : num z * c ≤ top = omega arith in
    let e : den x * a ≡ den y * b = mul_left_comm (den x) (den y) (den z) in
    let f : den y * b ≡ den z * c = simp (mul_comm, mul_left_comm) in
    record {
      p = rank top a x;
      q = rank top b y;
      r = rank top c z;
      xy = pair top x a y b N M A B e X Y;
      yx = pair top y b x a M N B A (sym e) Y X;
      yz = pair top y b z c M L B C f Y Z;
      xz = pair top x a z c N L A C (e ∙ f) X Z;
    }

-- ---- a comparison that passed had no NaN
pub lt_numbers : (x y : Float) → lt x y ≡ true → Number x × Number y
unfolding lt
lt_numbers nan y h = absurd (false≢true h)
lt_numbers (inf s) nan h = absurd (false≢true h)
lt_numbers (inf s) (inf t) h = (tt, tt)
lt_numbers (inf s) (fin t n d) h = (tt, tt)
lt_numbers (fin s m e) nan h = absurd (false≢true h)
lt_numbers (fin s m e) (inf t) h = (tt, tt)
lt_numbers (fin s m e) (fin t n d) h = (tt, tt)

pub eq_numbers : (x y : Float) → eq x y ≡ true → Number x × Number y
unfolding eq
eq_numbers nan y h = absurd (false≢true h)
eq_numbers (inf s) nan h = absurd (false≢true h)
eq_numbers (inf s) (inf t) h = (tt, tt)
eq_numbers (inf s) (fin t n d) h = absurd (false≢true h)
eq_numbers (fin s m e) nan h = absurd (false≢true h)
eq_numbers (fin s m e) (inf t) h = absurd (false≢true h)
eq_numbers (fin s m e) (fin t n d) h = (tt, tt)

pub le_numbers : (x y : Float) → le x y ≡ true → Number x × Number y
unfolding le
le_numbers x y h = go (lt x y) (eq x y) refl refl h
  where
    go : (t u : Bool) → lt x y ≡ t → eq x y ≡ u → t || u ≡ true → Number x × Number y
    go true u a b k = lt_numbers x y a
    go false true a b k = eq_numbers x y b
    go false false a b k = absurd (false≢true k)

-- ---- two values
module _ (x y : Float) where
  two : Number x → Number y → Ranks x y y
  two N M = ranks x y y N M M

  pub lt_asym : lt x y ≡ true → lt y x ≡ false
  lt_asym h =
      let n = lt_numbers x y h in
      let k = two n.0 n.1 in
      (k.yx).0 ∙ le-ltb k.q k.p (omega (arith, ltb-true k.p k.q (sym (k.xy).0 ∙ h)))

  pub eq_sym : eq x y ≡ true → eq y x ≡ true
  eq_sym h =
      let n = eq_numbers x y h in
      let k = two n.0 n.1 in
      (k.yx).2 ∙ eq-eqb k.q k.p (omega (arith, eqb-true k.p k.q (sym (k.xy).2 ∙ h)))

  pub lt→nle : lt x y ≡ true → le y x ≡ false
  lt→nle h =
      let n = lt_numbers x y h in
      let k = two n.0 n.1 in
      (k.yx).1 ∙ lt-leb k.q k.p (omega (arith, ltb-true k.p k.q (sym (k.xy).0 ∙ h)))

  -- of two numbers, one is no more than the other
  pub nlt→le : Number x → Number y → lt x y ≡ false → le y x ≡ true
  nlt→le N M h =
      let k = two N M in
      (k.yx).1 ∙ le-leb k.q k.p (omega (arith, ltb-false k.p k.q (sym (k.xy).0 ∙ h)))

  pub le_antisym : le x y ≡ true → le y x ≡ true → eq x y ≡ true
  le_antisym h g =
      let n = le_numbers x y h in
      let k = two n.0 n.1 in
      (k.xy).2 ∙ eq-eqb k.p k.q (omega (arith, leb-true k.p k.q (sym (k.xy).1 ∙ h), leb-true k.q k.p (sym (k.yx).1 ∙ g)))

-- ---- one value
pub lt_irrefl : (x : Float) → lt x x ≡ false
lt_irrefl x = go (lt x x) refl
  where
    go : (t : Bool) → lt x x ≡ t → lt x x ≡ false
    go true e = lt_asym x x e
    go false e = e

-- ---- three values
module _ (x y z : Float) where
  pub lt_trans : lt x y ≡ true → lt y z ≡ true → lt x z ≡ true
  lt_trans g h =
      let n = lt_numbers x y g in
      let k = ranks x y z n.0 n.1 (lt_numbers y z h).1 in
      (k.xz).0 ∙ lt-ltb k.p k.r (omega (arith, ltb-true k.p k.q (sym (k.xy).0 ∙ g), ltb-true k.q k.r (sym (k.yz).0 ∙ h)))

  pub le_lt_trans : le x y ≡ true → lt y z ≡ true → lt x z ≡ true
  le_lt_trans g h =
      let n = le_numbers x y g in
      let k = ranks x y z n.0 n.1 (lt_numbers y z h).1 in
      (k.xz).0 ∙ lt-ltb k.p k.r (omega (arith, leb-true k.p k.q (sym (k.xy).1 ∙ g), ltb-true k.q k.r (sym (k.yz).0 ∙ h)))

  pub lt_le_trans : lt x y ≡ true → le y z ≡ true → lt x z ≡ true
  lt_le_trans g h =
      let n = lt_numbers x y g in
      let k = ranks x y z n.0 n.1 (le_numbers y z h).1 in
      (k.xz).0 ∙ lt-ltb k.p k.r (omega (arith, ltb-true k.p k.q (sym (k.xy).0 ∙ g), leb-true k.q k.r (sym (k.yz).1 ∙ h)))

-- ---- the other way round
below_neg : (s : Bool) (a : ℕ) (t : Bool) (b : ℕ) → below (not s) a (not t) b ≡ below t b s a
below_neg false a false b = refl
below_neg false a true b = ap (ltb 0) (add_comm a b)
below_neg true a false b = refl
below_neg true a true b = refl

pub lt_neg : (x y : Float) → lt (neg x) (neg y) ≡ lt y x
unfolding lt neg
lt_neg nan nan = refl
lt_neg nan (inf t) = refl
lt_neg nan (fin t n d) = refl
lt_neg (inf s) nan = refl
lt_neg (inf true) (inf true) = refl
lt_neg (inf true) (inf false) = refl
lt_neg (inf false) (inf true) = refl
lt_neg (inf false) (inf false) = refl
lt_neg (inf true) (fin t n d) = refl
lt_neg (inf false) (fin t n d) = refl
lt_neg (fin s m e) nan = refl
lt_neg (fin s m e) (inf true) = refl
lt_neg (fin s m e) (inf false) = refl
lt_neg (fin s m e) (fin t n d) = below_neg s (m * up e * down d) t (n * up d * down e)

beq_not : (s t : Bool) → beq (not s) (not t) ≡ beq s t
beq_not false false = refl
beq_not false true = refl
beq_not true false = refl
beq_not true true = refl

pub eq_neg : (x y : Float) → eq (neg x) (neg y) ≡ eq x y
unfolding eq neg
eq_neg nan nan = refl
eq_neg nan (inf t) = refl
eq_neg nan (fin t n d) = refl
eq_neg (inf s) nan = refl
eq_neg (inf s) (inf t) = beq_not s t
eq_neg (inf s) (fin t n d) = refl
eq_neg (fin s m e) nan = refl
eq_neg (fin s m e) (inf t) = refl
eq_neg (fin s m e) (fin t n d) = ap (λ (b : Bool). eqb (m * up e * down d) (n * up d * down e) && (b || eqb (m * up e * down d) 0)) (beq_not s t)

pub eq_comm : (x y : Float) → eq x y ≡ eq y x
eq_comm x y = go (eq x y) (eq y x) refl refl
  where
    go : (t u : Bool) → eq x y ≡ t → eq y x ≡ u → eq x y ≡ eq y x
    go true u e f = e ∙ sym (eq_sym x y e)
    go false true e f = eq_sym y x f ∙ sym f
    go false false e f = e ∙ sym f

pub le_neg : (x y : Float) → le (neg x) (neg y) ≡ le y x
unfolding le
le_neg x y = ap (λ (b : Bool). b || eq (neg x) (neg y)) (lt_neg x y) ∙ ap (λ (b : Bool). lt y x || b) (eq_neg x y ∙ eq_comm x y)
