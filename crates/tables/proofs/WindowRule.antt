-- The window's rule (specs/Rule) holds of the definition by two walks (specs/Window), for every middle and every swing: any float, NaN and the infinities included.
-- What a walk picks is one law for both sides: the side gives the test against the limit, what is nearer, and the test against the swing.
use mathlib.Core.Path.{◌≡◌, refl, sym, ap, ◌∙◌, subst}
use mathlib.Core.Logic.{◌⊎◌, inl, inr, ◌↔◌}
use mathlib.Core.Bool.{Bool, true, false, cond, not, ◌&&◌, true≢false, false≢true}
use mathlib.Core.List.{List, [], ◌∷◌}
use Prim.Native.Nat.{ℕ, zero, suc, ◌+◌, ◌*◌, ◌<◌}
use native.Mathlib.Nat.{not-suc-le-zero, not-le_of_lt}
use native.Mathlib.Omega.{arith}
use lib.Dec.{T}
use lib.ListN.{get_or, length}
use lib.Ieee.{Float, nan, eq, round}
use Rattle.numbers.specs.Binary32.{◌*f◌}
use Rattle.numbers.proofs.Order.{le_numbers, lt_irrefl, lt_trans, nlt→le, le_lt_trans, lt_le_trans, le_antisym, eq_comm}
use Rattle.tables.proofs.Below.{up_to}
use Rattle.tables.proofs.Both.{and_l, and_r}
use Rattle.std.specs.List.{list_all}
use Rattle.tables.proofs.Every.{each}
use Rattle.tables.specs.declared.window.Side.{Side}
use Rattle.tables.specs.declared.window.Side.TheVariants.{Upper, Lower}
use Rattle.tables.specs.declared.window.Entry.{Entry}
use Rattle.std.specs.Prelude.{Option, Some, None}
use Rattle.tables.specs.Window.{codes, levels, away, clears, nearer, picked, entry_of, walk, margin, reach, nearest, inside, joined, cmp_window}
use Rattle.tables.specs.Rule.{level, Serves, NoEntryServes, as_near, NearestServes, Pair}

-- ---- the order seen from each side

near_self : (side : Side) (x : Float) → nearer side x x ≡ false
unfolding nearer
near_self Upper x = lt_irrefl x
near_self Lower x = lt_irrefl x

near_trans : (side : Side) (x y z : Float) → nearer side x y ≡ true → nearer side y z ≡ true → nearer side x z ≡ true
unfolding nearer
near_trans Upper x y z p q = lt_trans x y z p q
near_trans Lower x y z p q = lt_trans z y x q p

-- of two levels that clear the limit, the second is as near where the first is not nearer
turn : (side : Side) (l x y : Float) → clears side l x ≡ true → clears side l y ≡ true → nearer side x y ≡ false → as_near side y x ≡ true
unfolding nearer clears
turn Upper l x y p q h = nlt→le x y (le_numbers l x p).1 (le_numbers l y q).1 h
turn Lower l x y p q h = nlt→le y x (le_numbers y l q).0 (le_numbers x l p).0 h

-- a level as near as one that lies inside the swing lies inside it
still_inside : (side : Side) (c a x y : Float) → as_near side y x ≡ true → inside side c a x ≡ true → inside side c a y ≡ true
unfolding inside nearer
still_inside Upper c a x y p q = le_lt_trans y x (away Upper c (reach *f a)) p q
still_inside Lower c a x y p q = lt_le_trans (away Lower c (reach *f a)) x y q p

level_once : (side : Side) (x y : Float) → as_near side x y ≡ true → as_near side y x ≡ true → eq x y ≡ true
level_once Upper x y p q = le_antisym x y p q
level_once Lower x y p q = le_antisym x y q p

-- ---- what a walk picks

module _ (side : Side) (limit : Float) (ks : List ℕ) (vs : List Float) where
  abbrev ok : Float → Bool
  ok v = clears side limit v

  -- what is known of the first n entries once b was picked from them
  abbrev Known : ℕ → Option Entry → Type 0
  Known n None = (i : ℕ) → i < n → ok (get_or vs i nan) ≡ false
  Known n (Some e) =
      (j : ℕ) × (j < n) × (e ≡ entry_of ks vs j) × (ok e.level ≡ true)
      × ((i : ℕ) → i < n → ok (get_or vs i nan) ≡ true → nearer side (get_or vs i nan) e.level ≡ false)

  further : (x y z : Float) → nearer side x z ≡ false → nearer side y z ≡ true → nearer side x y ≡ false
  further x y z e h = go (nearer side x y) refl
    where
      go : (t : Bool) → nearer side x y ≡ t → nearer side x y ≡ false
      go true k = absurd (true≢false (sym (near_trans side x y z k h) ∙ e))
      go false k = k

  -- no entry that clears the limit is nearer than v
  abbrev NoneNearer : Float → ℕ → Type 0
  NoneNearer v i = ok (get_or vs i nan) ≡ true → nearer side (get_or vs i nan) v ≡ false

  known_step : (n : ℕ) (b : Option Entry) → Known n b → Known (suc n) (picked side limit b (entry_of ks vs n))
  unfolding picked
  known_step n None h = go (ok (get_or vs n nan)) refl
    where
      w : Float
      w = get_or vs n nan

      go : (t : Bool) → ok w ≡ t → Known (suc n) (cond t (Some (entry_of ks vs n)) None)
      go true e = (n, omega arith, refl, e, up_to (NoneNearer w) n (λ i l o. absurd (true≢false (sym o ∙ h i l))) (λ o. near_self side w))
      go false e = up_to (λ (i : ℕ). ok (get_or vs i nan) ≡ false) n h e
  known_step n (Some b) h = go (ok (get_or vs n nan)) (nearer side (get_or vs n nan) b.level) refl refl
    where
      w : Float
      w = get_or vs n nan

      v : Float
      v = b.level

      go : (t u : Bool) → ok w ≡ t → nearer side w v ≡ u → Known (suc n) (cond t (cond u (Some (entry_of ks vs n)) (Some b)) (Some b))
      go true true e f = (n, omega arith, refl, e, up_to (NoneNearer w) n (λ i l o. further (get_or vs i nan) w v (h.4 i l o) f) (λ o. near_self side w))
      go true false e f = (h.0, omega (arith, h.1), h.2, h.3, up_to (NoneNearer v) n h.4 (λ o. f))
      go false u e f = (h.0, omega (arith, h.1), h.2, h.3, up_to (NoneNearer v) n h.4 (λ o. absurd (true≢false (sym o ∙ e))))

  known : (n : ℕ) → Known n (walk side limit ks vs n)
  unfolding walk
  known zero = λ i h. absurd (not-suc-le-zero h)
  known (suc n) = known_step n (walk side limit ks vs n) (known n)

-- ---- with the swing's test

-- nothing was picked, or what was picked lies outside the swing
abbrev Missed : Side → Float → Float → Option Entry → Type 0
Missed side c a None = Unit
Missed side c a (Some e) = inside side c a e.level ≡ false

-- entry j was picked, and lies inside it
abbrev Hit : Side → Float → Float → Option Entry → ℕ → Type 0
Hit side c a b j = (b ≡ Some (entry_of (codes side) (levels side) j)) × (inside side c a (level side j) ≡ true)

abbrev Outcome : Side → Float → Float → Option Entry → Type 0
Outcome side c a b = (Missed side c a b × NoEntryServes side c a) ⊎ ((j : ℕ) × Hit side c a b j × NearestServes side c a j)

module _ (side : Side) (c a : Float) where
  abbrev limit : Float
  limit = away side c margin

  outcome_of : (b : Option Entry) → Known side limit (codes side) (levels side) 12 b → Outcome side c a b
  outcome_of None h = inl (tt, λ j s. true≢false (sym s.1 ∙ h j s.0))
  outcome_of (Some b) h = go (inside side c a b.level) refl
    where
      level-j : b.level ≡ level side h.0
      level-j = ap (λ (e : Entry). e.level) h.2

      as_picked : (i : ℕ) → Serves side c a i → as_near side b.level (level side i) ≡ true
      as_picked i s = turn side limit (level side i) b.level s.1 h.3 (h.4 i s.0 s.1)

      go : (t : Bool) → inside side c a b.level ≡ t → Outcome side c a (Some b)
      go true e =
          let j = h.0 in
          let in-j : inside side c a (level side j) ≡ true = subst (λ (x : Float). inside side c a x ≡ true) level-j e in
          inr (
            j,
            (ap Some h.2, in-j),
            (
              (h.1, subst (λ (x : Float). clears side limit x ≡ true) level-j h.3, in-j),
              λ i s. subst (λ (x : Float). as_near side x (level side i) ≡ true) level-j (as_picked i s),
            ),
          )
      go false e = inl (e, λ i s. true≢false (sym (still_inside side c a (level side i) b.level (as_picked i s) s.2) ∙ e))

  outcome : Outcome side c a (nearest side c)
  outcome = outcome_of (nearest side c) (known side limit (codes side) (levels side) 12)

-- ---- each table has each level once: a computed test
abbrev others : Float → List Float → Bool
others v ws = list_all (λ (w : Float). not (eq v w)) ws

abbrev once : List Float → Bool
once [] = true
once (v ∷ vs) = others v vs && once vs

no : (t : Bool) → T (not t) → t ≡ true → ⊥
no true h e = h
no false h e = false≢true e

other : (v : Float) (ws : List Float) (j : ℕ) → T (others v ws) → j < length ws → eq v (get_or ws j nan) ≡ true → ⊥
other v ws j h l e = no (eq v (get_or ws j nan)) (each (λ (w : Float). not (eq v w)) nan ws j h (λ p. absurd (not-le_of_lt l p))) e

one_place : (vs : List Float) (i j : ℕ) → T (once vs) → i < length vs → j < length vs → eq (get_or vs i nan) (get_or vs j nan) ≡ true → i ≡ j
one_place [] i j h l m e = absurd (not-suc-le-zero l)
one_place (v ∷ vs) zero zero h l m e = refl
one_place (v ∷ vs) zero (suc j) h l m e = absurd (other v vs j (and_l (others v vs) (once vs) h) (omega arith) e)
one_place (v ∷ vs) (suc i) zero h l m e = absurd (other v vs i (and_l (others v vs) (once vs) h) (omega arith) (eq_comm v (get_or vs i nan) ∙ e))
one_place (v ∷ vs) (suc i) (suc j) h l m e = ap suc (one_place vs i j (and_r (others v vs) (once vs) h) (omega arith) (omega arith) e)

levels_once : (side : Side) → T (once (levels side))
unfolding levels eq round
levels_once Upper = tt
levels_once Lower = tt

pub twelve : (side : Side) → length (levels side) ≡ 12
unfolding levels
twelve Upper = refl
twelve Lower = refl

-- the nearest entry is one
same : (side : Side) (c a : Float) (i k : ℕ) → NearestServes side c a i → NearestServes side c a k → i ≡ k
same side c a i k p q =
    one_place (levels side) i k (levels_once side) (subst (λ (n : ℕ). i < n) (sym (twelve side)) p.0.0) (subst (λ (n : ℕ). k < n) (sym (twelve side)) q.0.0)
    (level_once side (level side i) (level side k) (p.1 k q.0) (q.1 i p.0))

-- ---- the two picks joined
module _ (c a : Float) where
  missed_up : (b d : Option Entry) → Missed Upper c a b → joined c a b d ≡ None
  unfolding joined
  missed_up None d h = refl
  missed_up (Some high) None h = refl
  missed_up (Some high) (Some low) h = ap (λ (t : Bool). cond (t && inside Lower c a low.level) (Some (high.code * 16 + low.code)) None) h

  missed_down : (b d : Option Entry) → Missed Lower c a d → joined c a b d ≡ None
  unfolding joined
  missed_down None d h = refl
  missed_down (Some high) None h = refl
  missed_down (Some high) (Some low) h = ap (λ (t : Bool). cond (inside Upper c a high.level && t) (Some (high.code * 16 + low.code)) None) h ∙ go (inside Upper c a high.level)
    where
      go : (t : Bool) → cond {A = Option ℕ} (t && false) (Some (high.code * 16 + low.code)) None ≡ None
      go true = refl
      go false = refl

  hit_both : (b d : Option Entry) (i j : ℕ) → Hit Upper c a b i → Hit Lower c a d j → joined c a b d ≡ Some (get_or (codes Upper) i 0 * 16 + get_or (codes Lower) j 0)
  unfolding joined
  hit_both b d i j g h =
      let w = Some (get_or (codes Upper) i 0 * 16 + get_or (codes Lower) j 0) in
      ap (λ (x : Option Entry). joined c a x d) g.0 ∙ ap (joined c a (Some (entry_of (codes Upper) (levels Upper) i))) h.0
      ∙ ap (λ (t : Bool). cond (t && inside Lower c a (level Lower j)) w None) g.1
      ∙ ap (λ (t : Bool). cond t w None) h.1

  abbrev Cases : Type 0
  Cases = ((cmp_window c a ≡ None) × (NoEntryServes Upper c a ⊎ NoEntryServes Lower c a)) ⊎ ((w : ℕ) × (cmp_window c a ≡ Some w) × Pair c a w)

  cases : Cases
  unfolding cmp_window Pair
  cases = go (outcome Upper c a) (outcome Lower c a)
    where
      go : Outcome Upper c a (nearest Upper c) → Outcome Lower c a (nearest Lower c)
          → ((joined c a (nearest Upper c) (nearest Lower c) ≡ None) × (NoEntryServes Upper c a ⊎ NoEntryServes Lower c a))
          ⊎ ((w : ℕ) × (joined c a (nearest Upper c) (nearest Lower c) ≡ Some w) × Pair c a w)
      go (inl p) q = inl (missed_up (nearest Upper c) (nearest Lower c) p.0, inl p.1)
      go (inr p) (inl q) = inl (missed_down (nearest Upper c) (nearest Lower c) q.0, inr q.1)
      go (inr p) (inr q) =
          inr (
            get_or (codes Upper) p.0 0 * 16 + get_or (codes Lower) q.0 0,
            hit_both (nearest Upper c) (nearest Lower c) p.0 q.0 p.1 q.1,
            (p.0, q.0, p.2, q.2, refl),
          )

  -- where there is a pair, an entry serves on either side
  clash : (w : ℕ) → Pair c a w → NoEntryServes Upper c a ⊎ NoEntryServes Lower c a → ⊥
  unfolding Pair
  clash w p (inl n) = n p.0 p.2.0
  clash w p (inr n) = n p.1 p.3.0

  one_pair : (v w : ℕ) → Pair c a v → Pair c a w → v ≡ w
  unfolding Pair
  one_pair v w p q =
      p.4
      ∙ ap (λ (x : ℕ). get_or (codes Upper) x 0 * 16 + get_or (codes Lower) p.1 0) (same Upper c a p.0 q.0 p.2 q.2)
      ∙ ap (λ (x : ℕ). get_or (codes Upper) q.0 0 * 16 + get_or (codes Lower) x 0) (same Lower c a p.1 q.1 p.3 q.3)
      ∙ sym q.4

  apart : (r : Option ℕ) (w : ℕ) → r ≡ None → r ≡ Some w → ⊥
  apart r w p q = let z : ◌≡◌ {A = ℕ} 0 1 = cc in omega arith

  code_one : (r : Option ℕ) (v w : ℕ) → r ≡ Some v → r ≡ Some w → v ≡ w
  code_one r v w p q = cc

  -- ---- THE RULE
  pub none_exactly : (cmp_window c a ≡ None) ↔ (NoEntryServes Upper c a ⊎ NoEntryServes Lower c a)
  none_exactly = (there cases, back cases)
    where
      there : Cases → cmp_window c a ≡ None → NoEntryServes Upper c a ⊎ NoEntryServes Lower c a
      there (inl p) e = p.1
      there (inr p) e = absurd (apart (cmp_window c a) p.0 e p.1)

      back : Cases → NoEntryServes Upper c a ⊎ NoEntryServes Lower c a → cmp_window c a ≡ None
      back (inl p) n = p.0
      back (inr p) n = absurd (clash p.0 p.2 n)

  pub otherwise_nearest : (w : ℕ) → (cmp_window c a ≡ Some w) ↔ Pair c a w
  otherwise_nearest w = (there cases, back cases)
    where
      there : Cases → cmp_window c a ≡ Some w → Pair c a w
      there (inl p) e = absurd (apart (cmp_window c a) w p.0 e)
      there (inr p) e = subst (Pair c a) (code_one (cmp_window c a) p.0 w p.1 e) p.2

      back : Cases → Pair c a w → cmp_window c a ≡ Some w
      back (inl p) q = absurd (clash w q p.1)
      back (inr p) q = p.1 ∙ ap Some (one_pair p.0 w p.2 q)
