-- The last call to earn zeros, or a range's gain, is the one whose they are: whether a call earns any is settled by what it comes to, and the list by induction.
use mathlib.Core.Path.{◌≡◌, refl, ap, sym, ◌∙◌, subst}
use mathlib.Core.Bool.{Bool, true, false, cond}
use mathlib.Core.List.{List, [], ◌∷◌, ◌++◌}
use mathlib.Core.Logic.{◌⊎◌, inl, inr}
use Prim.Native.Nat.{ℕ, min}
use borrow.Author.Tests.{eqb-true, eqb-false}
use lib.Dec.{eqb}
use lib.Ieee.{Float}
use Rattle.std.proofs.Common.{Option, None, Some, Result, Ok, Err, is_err, IsOk}
use Rattle.refusals.specs.declared.Refusal.{Refusal}
use Rattle.codes.specs.Frame.{codes_of}
use Rattle.tables.specs.declared.calibration.Calibration.{Calibration}
use Rattle.state.specs.declared.Pw.{Pw}
use Rattle.state.specs.declared.Ranges.{Ranges}
use Rattle.steps.specs.Place.{ready}
use Rattle.steps.specs.Reading.{Zeros}
use Rattle.orders.specs.declared.answer.Answer.{Answer}
use Rattle.meter.specs.Calls.{step, Call, Frame}
use Rattle.book.specs.Book.{Outcome, zeroed, gained, outcome, RangeGain, earned, Running, idle, serving, Book, book, entered, framed, note, asked, entry, books, blank, setting_of, place_for}
use Rattle.book.specs.Earned.{Comes, EarnsZeros, EarnsGain, Sometime}
use Rattle.book.specs.Last.{AnyZeros, AnyGain, LastOf, Last}
use Rattle.book.proofs.Every.{refused_or_done}

-- ---- one call

done_not_refused : (a : Result Answer Refusal) → IsOk a → is_err a ≡ false
done_not_refused (Ok x) e = refl
done_not_refused (Err n) e = sym e

module _ (w : Calibration) (m : Pw) (b : Book) where
  -- the job that a frame is in, ready: the ranges that it found, and the outcome
  abbrev in_job : ℕ → List ℕ → Running → Option (Ranges × Outcome)
  in_job flags bytes idle = None
  in_job flags bytes (serving k r fs) = cond (ready (place_for (setting_of w r b.zeros) k fs) flags) (Some (r, outcome k (setting_of w r b.zeros) fs (codes_of bytes))) None

  abbrev comes_to : Call → Option (Ranges × Outcome)
  comes_to (Frame t flags bytes) = cond (is_err (step m (Frame t flags bytes)).answer) None (in_job flags bytes b.job)
  comes_to c = None

  came : (c : Call) (r : Ranges) (o : Outcome) → Comes w m b c r o → comes_to c ≡ Some (r, o)
  came c r o p = let a : is_err (step m c).answer ≡ false = done_not_refused (step m c).answer p.accepted in rw p.is (rw (rw p.is at a, p.runs, p.serves, p.comes))

  -- zeros and gains are as before
  abbrev Stays : Book → Type 0
  Stays u = (u.zeros ≡ b.zeros) × (u.gain ≡ b.gain)

  -- it comes to an outcome
  data Due (c : Call) : Type 0 where
    due : (r : Ranges) (o : Outcome) → Comes w m b c r o → Due c

  -- an order, refused or not
  order_stays : (u : Bool) (q : Running) → Stays (cond u b (book b.zeros b.gain q))
  order_stays true q = (refl, refl)
  order_stays false q = (refl, refl)

  what_comes : (c : Call) → ((comes_to c ≡ None) × Stays (entry w (asked m c) c b)) ⊎ Due c
  what_comes (Frame t flags bytes) =
      refused_or_done (λ u. ((cond u None (in_job flags bytes b.job) ≡ None) × Stays (cond u b (framed w flags (codes_of bytes) b.zeros b.gain b.job))) ⊎ Due c) (step m c).answer
      (λ a. inl (refl, (refl, refl))) (by_job b.job refl)
    where
      c : Call
      c = Frame t flags bytes

      by_job : (q : Running) → b.job ≡ q → IsOk (step m c).answer → ((in_job flags bytes q ≡ None) × Stays (framed w flags (codes_of bytes) b.zeros b.gain q)) ⊎ Due c
      by_job idle e a = inl (refl, (refl, refl))
      by_job (serving k r fs) e a = by_ready (ready (place_for (setting_of w r b.zeros) k fs) flags) refl
        where
          o : Outcome
          o = outcome k (setting_of w r b.zeros) fs (codes_of bytes)

          by_ready : (u : Bool) → ready (place_for (setting_of w r b.zeros) k fs) flags ≡ u
              → ((cond {A = Option (Ranges × Outcome)} u (Some (r, o)) None ≡ None)
              × Stays (cond u (entered k r (fs ++ (codes_of bytes ∷ [])) o b.zeros b.gain) (book b.zeros b.gain (serving k r fs)))) ⊎ Due c
          by_ready true s =
              inr (Due.due r o (record { time = t; flags = flags; bytes = bytes; kind = k; used = fs; is = refl; accepted = a; runs = e; serves = s; comes = refl; leaves = rw (done_not_refused (step m c).answer a, e, s) }))
          by_ready false s = inl (refl, (refl, refl))
  what_comes c = inl (refl, order_stays (asked m c).refused (note w m.ranges c b).job)

  clash : (c : Call) (r : Ranges) (o : Outcome) → comes_to c ≡ None → Comes w m b c r o → ⊥
  clash c r o n p = let q = came c r o p in cc

  -- it comes to one outcome alone, in one job
  one_outcome : (c : Call) (r s : Ranges) (o u : Outcome) → Comes w m b c r o → Comes w m b c s u → o ≡ u
  one_outcome c r s o u p q = let i = came c r o p in let j = came c s u q in cc

  one_job : (c : Call) (r s : Ranges) (o u : Outcome) → Comes w m b c r o → Comes w m b c s u → r ≡ s
  one_job c r s o u p q = let i = came c r o p in let j = came c s u q in cc

  -- the zeros: as before, and none earned; or those that it earns
  zeros_step : (c : Call) → let u = entry w (asked m c) c b in ((u.zeros ≡ b.zeros) × (AnyZeros w m b c → ⊥)) ⊎ EarnsZeros w u.zeros m b c
  zeros_step c = go (what_comes c)
    where
      u : Book
      u = entry w (asked m c) c b

      none_by : comes_to c ≡ None → AnyZeros w m b c → ⊥
      none_by n (AnyZeros.any z (EarnsZeros.earns r p)) = clash c r (zeroed z) n p

      other : (r : Ranges) (o : Outcome) → Comes w m b c r o → ((z : Zeros) → zeroed z ≡ o → ⊥) → AnyZeros w m b c → ⊥
      other r o p ne (AnyZeros.any z (EarnsZeros.earns s q)) = ne z (one_outcome c s r (zeroed z) o q p)

      by_outcome : (r : Ranges) (o : Outcome) → Comes w m b c r o → ((u.zeros ≡ b.zeros) × (AnyZeros w m b c → ⊥)) ⊎ EarnsZeros w u.zeros m b c
      by_outcome r (zeroed z) p = inr (subst (λ (y : Zeros). EarnsZeros w y m b c) (sym (ap (λ (v : Book). v.zeros) p.leaves)) (EarnsZeros.earns r p))
      by_outcome r o p = inl (ap (λ (v : Book). v.zeros) p.leaves, other r o p (λ z e. cc))

      go : ((comes_to c ≡ None) × Stays u) ⊎ Due c → ((u.zeros ≡ b.zeros) × (AnyZeros w m b c → ⊥)) ⊎ EarnsZeros w u.zeros m b c
      go (inl n) = inl (n.1.0, none_by n.0)
      go (inr (Due.due r o p)) = by_outcome r o p

  -- the gain of range i
  gain_step : (i : ℕ) (c : Call) → let u = entry w (asked m c) c b in ((u.gain i ≡ b.gain i) × (AnyGain w i m b c → ⊥)) ⊎ EarnsGain w i (u.gain i) m b c
  gain_step i c = go (what_comes c)
    where
      u : Book
      u = entry w (asked m c) c b

      none_by : comes_to c ≡ None → AnyGain w i m b c → ⊥
      none_by n (AnyGain.any g (EarnsGain.earns r x p at is)) = clash c r (gained x) n p

      other : (r : Ranges) (o : Outcome) → Comes w m b c r o → ((x : Float) → gained x ≡ o → ⊥) → AnyGain w i m b c → ⊥
      other r o p ne (AnyGain.any g (EarnsGain.earns s x q at is)) = ne x (one_outcome c s r (gained x) o q p)

      -- a gain for another range
      elsewhere : (r : Ranges) (x : Float) → Comes w m b c r (gained x) → eqb i (min r.vr 3) ≡ false → AnyGain w i m b c → ⊥
      elsewhere r x p ne (AnyGain.any g (EarnsGain.earns s y q at is)) = eqb-false i (min r.vr 3) ne (at ∙ ap (λ (t : Ranges). min t.vr 3) (one_job c s r (gained y) (gained x) q p))

      by_range : (r : Ranges) (x : Float) → Comes w m b c r (gained x) → (v : Bool) → eqb i (min r.vr 3) ≡ v → u.gain i ≡ cond v (earned x) (b.gain i)
          → ((u.gain i ≡ b.gain i) × (AnyGain w i m b c → ⊥)) ⊎ EarnsGain w i (u.gain i) m b c
      by_range r x p true q e = inr (EarnsGain.earns r x p (eqb-true i (min r.vr 3) q) e)
      by_range r x p false q e = inl (e, elsewhere r x p q)

      by_outcome : (r : Ranges) (o : Outcome) → Comes w m b c r o → ((u.gain i ≡ b.gain i) × (AnyGain w i m b c → ⊥)) ⊎ EarnsGain w i (u.gain i) m b c
      by_outcome r (gained x) p = by_range r x p (eqb i (min r.vr 3)) refl (ap (λ (v : Book). v.gain i) p.leaves)
      by_outcome r o p = inl (ap (λ (v : Book). v.gain i) p.leaves, other r o p (λ x e. cc))

      go : ((comes_to c ≡ None) × Stays u) ⊎ Due c → ((u.gain i ≡ b.gain i) × (AnyGain w i m b c → ⊥)) ⊎ EarnsGain w i (u.gain i) m b c
      go (inl n) = inl (ap (λ (g : ℕ → RangeGain). g i) n.1.1, none_by n.0)
      go (inr (Due.due r o p)) = by_outcome r o p

-- ---- every list

-- of a part of the book that each call keeps or earns anew
module _ (w : Calibration) (X : Type 0) (part : Book → X) (Earns : X → Pw → Book → Call → Type 0) (Any : Pw → Book → Call → Type 0)
    (one : (m : Pw) (b : Book) (c : Call) → let u = entry w (asked m c) c b in ((part u ≡ part b) × (Any m b c → ⊥)) ⊎ Earns (part u) m b c) where
  last_in : (cs : List Call) (m : Pw) (b : Book) → let x = part (books w m cs b) in ((x ≡ part b) × (Sometime w Any m b cs → ⊥)) ⊎ LastOf w (Earns x) Any m b cs
  last_in [] m b = inl (refl, λ e. e)
  last_in (c ∷ cs) m b = go (one m b c) (last_in cs (step m c).pw (entry w (asked m c) c b))
    where
      u : Book
      u = entry w (asked m c) c b

      x : X
      x = part (books w (step m c).pw cs u)

      neither : (Any m b c → ⊥) → (Sometime w Any (step m c).pw u cs → ⊥) → Any m b c ⊎ Sometime w Any (step m c).pw u cs → ⊥
      neither f g (inl a) = f a
      neither f g (inr a) = g a

      go : ((part u ≡ part b) × (Any m b c → ⊥)) ⊎ Earns (part u) m b c → ((x ≡ part u) × (Sometime w Any (step m c).pw u cs → ⊥)) ⊎ LastOf w (Earns x) Any (step m c).pw u cs
          → ((x ≡ part b) × (Any m b c ⊎ Sometime w Any (step m c).pw u cs → ⊥)) ⊎ LastOf w (Earns x) Any m b (c ∷ cs)
      go now (inr l) = inr (record { before = c ∷ l.before; last = l.last; later = l.later; is = ap (λ (ds : List Call). c ∷ ds) l.is; earns = l.earns; none_later = l.none_later })
      go (inl p) (inl q) = inl (q.0 ∙ p.0, neither p.1 q.1)
      go (inr p) (inl q) = inr (record { before = []; last = c; later = cs; is = refl; earns = subst (λ (y : X). Earns y m b c) (sym q.0) p; none_later = q.1 })

pub every_last : Last
unfolding Last
every_last w m cs = (
  last_in w Zeros (λ b. b.zeros) (EarnsZeros w) (AnyZeros w) (zeros_step w) cs m blank,
  λ i. last_in w RangeGain (λ b. b.gain i) (EarnsGain w i) (AnyGain w i) (λ m b c. gain_step w m b i c) cs m blank,
)
