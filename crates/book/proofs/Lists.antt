-- Laws of steps, readings and means of a list of ready frames.
use mathlib.Core.Path.{◌≡◌, refl, ap, sym, ◌∙◌, subst}
use mathlib.Core.Bool.{Bool, true, false, cond, true≢false}
use mathlib.Core.List.{List, [], ◌∷◌, ◌++◌}
use Prim.Native.Nat.{ℕ, zero, suc, ◌+◌, ◌<◌, ◌≤◌}
use native.Mathlib.Omega.{arith}
use native.Mathlib.Numerals.{add-one}
use borrow.Author.Tests.{eqb-true, eqb-false, ltb-true, ltb-false, leb-true, leb-false, lt-ltb, le-leb, lt-leb}
use lib.Dec.{eqb, ltb, leb}
use lib.IntN.{ℤ, pos}
use lib.Ieee.{Float}
use lib.ListN.{length, get_or, length-append, get_or-append}
use lib.Seq.{get_or_at}
use Rattle.codes.specs.declared.Codes.{Codes}
use Rattle.steps.specs.declared.place.Kind.{Kind}
use Rattle.steps.specs.declared.place.Kind.TheVariants.{Zero, Gain}
use Rattle.steps.specs.declared.reading.Reading.{Reading}
use Rattle.steps.specs.Place.{Layout, dc_steps, layout_of}
use Rattle.steps.specs.Reading.{reading_of}
use Rattle.steps.specs.Verdict.{mean_of}
use Rattle.book.specs.Book.{measures, begins, first, step_up_to, sum_of, no_frame, Setting, reading_at, mean_x, mean_y, dc_of, tab}

-- two conds by equal tests are related where their arms are
pub both : {A B : Type 0} (R : A → B → Type 0) (t u : Bool) {x y : A} {v w : B} → t ≡ u → (t ≡ true → R x v) → (t ≡ false → R y w) → R (cond t x y) (cond u v w)
both R true true e p q = p refl
both R true false e p q = absurd (true≢false e)
both R false true e p q = absurd (true≢false (sym e))
both R false false e p q = q refl

pub ltb_same : (a b c d : ℕ) → (a < b → c < d) → (c < d → a < b) → ltb a b ≡ ltb c d
ltb_same a b c d p q = go (ltb a b) refl
  where
    go : (t : Bool) → ltb a b ≡ t → t ≡ ltb c d
    go true e = sym (lt-ltb c d (p (ltb-true a b e)))
    go false e = let h : b ≤ a = ltb-false a b e in go2 (ltb c d) refl
      where
        go2 : (u : Bool) → ltb c d ≡ u → false ≡ u
        go2 true i = let x : a < b = q (ltb-true c d i) in absurd (omega (arith, ltb-false a b e))
        go2 false i = refl

-- ---- steps

pub begins_mono : (l : Layout) (s t : ℕ) → s ≤ t → begins l s ≤ begins l t
begins_mono l s zero h = let e : s ≡ 0 = omega arith in rw e (omega arith)
begins_mono l s (suc t) h = go (leb s t) refl (λ i. begins_mono l s t i)
  where
    go : (u : Bool) → leb s t ≡ u → (s ≤ t → begins l s ≤ begins l t) → begins l s ≤ begins l (suc t)
    go true e ih = omega (arith, ih (leb-true s t e))
    go false e ih = let i : s ≡ suc t = omega (arith, leb-false s t e) in rw i (omega arith)

pub step_is : (l : Layout) (i s n : ℕ) → s ≤ n → begins l s ≤ i → i < begins l (suc s) → step_up_to l i n ≡ s
step_is l i s zero h p q = omega arith
step_is l i s (suc n) h p q = go (eqb s (suc n)) refl (λ x. step_is l i s n x p q)
  where
    go : (u : Bool) → eqb s (suc n) ≡ u → (s ≤ n → step_up_to l i n ≡ s) → step_up_to l i (suc n) ≡ s
    go true e ih = let x : s ≡ suc n = eqb-true _ _ e in
        let y : begins l (suc n) ≤ i = subst (λ (v : ℕ). begins l v ≤ i) x p in
        rw (le-leb (begins l (suc n)) i y) (sym x)
    go false e ih =
        let x : s ≤ n = omega (arith, eqb-false s (suc n) e) in
        let m : begins l (suc s) ≤ begins l (suc n) = begins_mono l (suc s) (suc n) (omega arith) in
        rw (lt-leb (begins l (suc n)) i (omega arith)) (ih x)

-- two layouts that agree at step s
pub record Same (l m : Layout) (s : ℕ) : Type 0 where
  pub place : measures l s ≡ measures m s
  pub begin : begins l s ≡ begins m s

-- the first step is the same in both kinds of gain job
pub same : (k : Kind) (d e : Bool) (s : ℕ) → (0 < s → layout_of k d ≡ layout_of k e) → Same (layout_of k d) (layout_of k e) s
same Zero d e s h = record { place = refl; begin = refl }
same Gain true true zero h = record { place = refl; begin = refl }
same Gain true false zero h = record { place = refl; begin = refl }
same Gain false true zero h = record { place = refl; begin = refl }
same Gain false false zero h = record { place = refl; begin = refl }
same Gain d e (suc s) h =
    let x : layout_of Gain d ≡ layout_of Gain e = h (omega arith) in
    record { place = ap (λ (l : Layout). measures l (suc s)) x; begin = ap (λ (l : Layout). begins l (suc s)) x }

-- ---- sums and means

pub sum_same : (n : ℕ) (g h : ℕ → Float) → ((j : ℕ) → j < n → g j ≡ h j) → sum_of n g ≡ sum_of n h
sum_same zero g h e = refl
sum_same (suc n) g h e =
    let x : sum_of n g ≡ sum_of n h = sum_same n g h (λ j i. e j (omega arith)) in
    let y : g n ≡ h n = e n (omega arith) in
    cc

pub length_more : (fs : List Codes) (f : Codes) → length (fs ++ (f ∷ [])) ≡ suc (length fs)
length_more fs f = length-append fs (f ∷ []) ∙ add-one (length fs)

pub reading_new : (c : Setting) (l : Layout) (fs : List Codes) (f : Codes) (s j : ℕ) → length fs ≡ first l s + j → reading_at c l (fs ++ (f ∷ [])) s j ≡ reading_of (measures l s) c.calibration c.vr c.zeros f
reading_new c l fs f s j h = ap (reading_of (measures l s) c.calibration c.vr c.zeros) (get_or_at fs f [] no_frame (first l s + j) h)

pub reading_old : (c : Setting) (l : Layout) (fs : List Codes) (f : Codes) (s j : ℕ) → first l s + j < length fs → reading_at c l (fs ++ (f ∷ [])) s j ≡ reading_at c l fs s j
reading_old c l fs f s j h = ap (reading_of (measures l s) c.calibration c.vr c.zeros) (get_or-append fs (f ∷ []) no_frame (first l s + j) h)

module _ (c : Setting) (l : Layout) (fs : List Codes) (f : Codes) (s : ℕ) (h : begins l (suc s) ≤ length fs) where
  pub mean_x_old : mean_x c l (fs ++ (f ∷ [])) s ≡ mean_x c l fs s
  unfolding mean_x
  mean_x_old = ap mean_of (sum_same 3 _ _ (λ j i. ap (λ (r : Reading). r.x) (reading_old c l fs f s j (omega arith))))

  pub mean_y_old : mean_y c l (fs ++ (f ∷ [])) s ≡ mean_y c l fs s
  unfolding mean_y
  mean_y_old = ap mean_of (sum_same 3 _ _ (λ j i. ap (λ (r : Reading). r.y) (reading_old c l fs f s j (omega arith))))

pub dc_old : (c : Setting) (fs : List Codes) (f : Codes) → 4 ≤ length fs → dc_of c (fs ++ (f ∷ [])) ≡ dc_of c fs
dc_old c fs f h =
    let x : mean_x c dc_steps (fs ++ (f ∷ [])) 0 ≡ mean_x c dc_steps fs 0 = mean_x_old c dc_steps fs f 0 h in
    let y : mean_y c dc_steps (fs ++ (f ∷ [])) 0 ≡ mean_y c dc_steps fs 0 = mean_y_old c dc_steps fs f 0 h in
    rw (x, y)

-- ---- a list that has a function's values

pub tab_ext : (l : List ℤ) (n : ℕ) (g : ℕ → ℤ) → length l ≡ n → ((i : ℕ) → i < n → get_or l i (pos 0) ≡ g i) → l ≡ tab n g
tab_ext [] zero g e h = refl
tab_ext [] (suc n) g e h = absurd (omega arith)
tab_ext (x ∷ xs) zero g e h = absurd (omega arith)
tab_ext (x ∷ xs) (suc n) g e h =
    let a : x ≡ g 0 = h 0 (omega arith) in
    let b : xs ≡ tab n (λ i. g (suc i)) = tab_ext xs n (λ i. g (suc i)) (omega arith) (λ i k. h (suc i) (omega arith)) in
    ap (λ (y : ℤ). y ∷ xs) a ∙ ap (λ (ys : List ℤ). g 0 ∷ ys) b
