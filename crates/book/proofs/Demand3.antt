-- Demand 3, proved.
use mathlib.Core.Path.{◌≡◌, refl, ap, sym, ◌∙◌, subst}
use mathlib.Core.Bool.{Bool, true, false, cond}
use mathlib.Core.List.{List, [], ◌∷◌, ◌++◌}
use Prim.Native.Nat.{ℕ, suc}
use borrow.Author.Tests.{eq-eqb, ne_eqb}
use lib.Dec.{eqb}
use lib.Ieee.{Float}
use lib.ListN.{length}
use Rattle.refusals.specs.declared.Refusal.TheVariants as refusal
use Rattle.std.proofs.Common.{is_err, IsOk}
use Rattle.codes.specs.declared.Codes.{Codes}
use Rattle.codes.specs.Frame.{codes_of}
use Rattle.tables.specs.Bounds.{within}
use Rattle.tables.specs.Constants.{jr_abort}
use Rattle.tables.specs.Gain.{gain_least, gain_most, plausible, v_gain}
use Rattle.tables.specs.declared.calibration.Calibration.{Calibration}
use Rattle.state.specs.declared.Pw.{Pw}
use Rattle.state.specs.declared.Ranges.{Ranges}
use Rattle.steps.specs.declared.place.Kind.{Kind}
use Rattle.steps.specs.declared.place.Kind.TheVariants.{Zero, Gain}
use Rattle.steps.specs.Place.{ready}
use Rattle.jobs.specs.declared.bench.Bench.{Bench}
use Rattle.jobs.specs.Frame.{job_frame}
use Rattle.jobs.specs.declared.whole.Polled.{Polled}
use Rattle.jobs.specs.Bench.{place_in}
use Rattle.jobs.specs.Whole.{bench_in, job_polled}
use Rattle.jobs.proofs.Stated.{not_ready, frame_seen}
use Rattle.orders.specs.declared.answer.Step.{Step}
use Rattle.orders.specs.Answer.{late, refused_with, used_told}
use Rattle.orders.specs.Apply.{aborted}
use Rattle.orders.specs.Switches as switches
use Rattle.orders.specs.Ranges.{ranges_set, set_ranges}
use Rattle.orders.proofs.Stated.{aborted_none, aborted_running, aborted_idle}
use Rattle.meter.specs.Frame.{with_poll, polled_step}
use Rattle.meter.specs.Calls.{step, after, Call, On, Off, Method, SetRanges, Coupling, ZeroJob, GainJob, Frame}
use Rattle.meter.proofs.Stated.{in_job_law, in_job_leaves, outside_counts_none}
use Rattle.book.specs.Book.{earned, Running, idle, serving, Book, book, Setting, place_for, Outcome, going, struck, zeroed, gained, outcome, entered, framed, started, strikes, asked, entry, books, blank, setting_of}
use Rattle.book.specs.Demand3.{runs, result_of, Ended, Quiet, Agrees, fed, Demand3}
use Rattle.book.proofs.Lists.{length_more}
use Rattle.book.proofs.Relation.{Runs, Rel, few_frames}
use Rattle.book.proofs.Frames.{ready_same, frame_good, frame_same}
use Rattle.book.proofs.Every.{Keeps, no_job_law, refused_or_done, reached}
use Rattle.book.proofs.Counts.{zero_length, gain_length}
use Rattle.book.proofs.InForce.{in_force_law}

-- ---- at one point of the list

module _ (w : Calibration) (m : Pw) (b : Book) (h : Keeps w m b) where
  job_is : (q : Running) → Runs w (bench_in m) b.zeros q → m.job.job ≡ runs q
  unfolding bench_in
  job_is idle p = p
  job_is (serving k r fs) p = p.job

  none_counted : (t flags : ℕ) (bytes : List ℕ) → b.job ≡ idle → used_told (step m (Frame t flags bytes)).answer ≡ 0
  none_counted t flags bytes e = outside_counts_none m t flags bytes (eq-eqb m.job.job 0 (job_is b.job h.rel.runs ∙ ap runs e))

  -- ---- while the book has a job

  module _ (k : Kind) (r : Ranges) (fs : List Codes) (e : b.job ≡ serving k r fs) where
    abbrev set : Setting
    set = setting_of w r b.zeros

    rel_in : Rel w (bench_in m) (book b.zeros b.gain (serving k r fs))
    rel_in = record { held = h.rel.held; room = h.rel.room; runs = subst (Runs w (bench_in m) b.zeros) e h.rel.runs }

    busy : eqb m.job.job 0 ≡ false
    unfolding bench_in
    busy = ne_eqb m.job.job 0 (no_job_law k _ rel_in.runs.job)

    not_idle : (q : Running) → q ≡ serving k r fs → q ≡ idle → ⊥
    not_idle q i j = cc

    -- ---- a frame

    module _ (t flags : ℕ) (bytes : List ℕ) where
      abbrev s : Step
      s = step m (Frame t flags bytes)

      abbrev f : Codes
      f = codes_of bytes

      -- an accepted one is the job's
      frame_is : IsOk s.answer → s ≡ polled_step (job_polled m t flags f)
      frame_is d = in_job_law m t flags bytes busy d

      not_ready_in : ready (place_for set k fs) flags ≡ false → ready (place_in m.job) flags ≡ false
      unfolding bench_in
      not_ready_in q = ready_same t w b (bench_in m) k r fs f rel_in flags ∙ q

      abbrev left : Bench
      left = (job_frame t w flags f (bench_in m)).bench

      used_is : IsOk s.answer → used_told s.answer ≡ left.job.used
      unfolding job_polled
      used_is d = ap (λ (x : Step). used_told x.answer) (frame_is d) ∙ ap (λ (c : Calibration). (job_frame t c flags f (bench_in m)).bench.job.used) h.calibration

      res_is : IsOk s.answer → s.pw.job.job_res ≡ left.job.job_res
      unfolding job_polled
      res_is d = ap (λ (x : Step). x.pw.job.job_res) (frame_is d) ∙ ap (λ (c : Calibration). (job_frame t c flags f (bench_in m)).bench.job.job_res) h.calibration

      ranges_are : IsOk s.answer → s.pw.ranges ≡ left.ranges
      unfolding job_polled
      ranges_are d = ap (λ (x : Step). x.pw.ranges) (frame_is d) ∙ ap (λ (c : Calibration). (job_frame t c flags f (bench_in m)).bench.ranges) h.calibration

      counts : IsOk s.answer → used_told s.answer ≡ cond (ready (place_for set k fs) flags) (suc (length fs)) (length fs)
      counts d = used_is d ∙ go (ready (place_for set k fs) flags) refl
        where
          go : (u : Bool) → ready (place_for set k fs) flags ≡ u → left.job.used ≡ cond u (suc (length fs)) (length fs)
          go true q = (frame_good t w b (bench_in m) k r fs f rel_in flags q).used ∙ length_more fs f
          go false q = ap (λ (x : Bench). x.job.used) (frame_same t w b (bench_in m) k r fs f rel_in flags q) ∙ rel_in.runs.used

      results : IsOk s.answer → ready (place_for set k fs) flags ≡ true → s.pw.job.job_res ≡ result_of (outcome k set fs f)
      results d q = res_is d ∙ (frame_good t w b (bench_in m) k r fs f rel_in flags q).res

      seen_is : IsOk s.answer → s.pw.cycle.seen ≡ m.cycle.seen
      unfolding job_polled bench_in
      seen_is d = ap (λ (x : Step). x.pw.cycle.seen) (frame_is d) ∙ frame_seen t m.calibration flags f (bench_in m)

      quiet_frame : IsOk s.answer → Quiet m s.pw
      quiet_frame d = let l = in_job_leaves m t flags bytes busy in (l.0, l.4, l.1, seen_is d, l.2, l.5)

      only_polled : IsOk s.answer → ready (place_for set k fs) flags ≡ false → s.pw ≡ with_poll m t
      only_polled d q = ap (λ (x : Step). x.pw) (frame_is d) ∙ ap (λ (x : Polled). x.pw) (not_ready m t flags f (not_ready_in q))

      -- the job has ended with it
      ends_with : (o : Outcome) (gs : List Codes) → (entered k r gs o b.zeros b.gain).job ≡ idle → o ≡ going → ⊥
      ends_with going gs i j = cc
      ends_with (struck res) gs i j = cc
      ends_with (zeroed z) gs i j = cc
      ends_with (gained g) gs i j = cc

      put_back : (framed w flags f b.zeros b.gain (serving k r fs)).job ≡ idle → left.ranges ≡ r
      put_back = go (ready (place_for set k fs) flags) refl
        where
          go : (u : Bool) → ready (place_for set k fs) flags ≡ u
              → (cond u (entered k r (fs ++ (f ∷ [])) (outcome k set fs f) b.zeros b.gain) (book b.zeros b.gain (serving k r fs))).job ≡ idle → left.ranges ≡ r
          go true q i = (frame_good t w b (bench_in m) k r fs f rel_in flags q).back (ends_with (outcome k set fs f) (fs ++ (f ∷ [])) i)
          go false q i = absurd (not_idle (serving k r fs) refl i)

      frame_back : (entry w (asked m (Frame t flags bytes)) (Frame t flags bytes) b).job ≡ idle → s.pw.ranges ≡ r
      frame_back =
          refused_or_done (λ u. (cond u b (framed w flags f b.zeros b.gain b.job)).job ≡ idle → s.pw.ranges ≡ r) s.answer (λ q i. absurd (not_idle b.job e i))
          (λ d i. ranges_are d ∙ put_back (subst (λ (x : Running). (framed w flags f b.zeros b.gain x).job ≡ idle) e i))

    -- ---- an order

    -- a job that is ended is not ended again
    twice : aborted (aborted m) ≡ aborted m
    twice = aborted_idle (aborted m) (eq-eqb (aborted m).job.job 0 (aborted_none m))

    -- the five that end a job: where it is refused the job runs on; else it does what it does to the aborted one
    order_back : (l : Bool) (n : Pw → Step) → (cond (is_err (cond l (refused_with refusal.Late m) (n (aborted m))).answer) b (strikes b)).job ≡ idle
        → ((aborted m).ranges ≡ r) × ((aborted m).job.job ≡ 0) × ((aborted m).job.job_res ≡ jr_abort)
        × (cond l (refused_with refusal.Late m) (n (aborted m)) ≡ cond l (refused_with refusal.Late (aborted m)) (n (aborted (aborted m))))
    unfolding refused_with bench_in
    order_back true n i = absurd (not_idle b.job e i)
    order_back false n i = let a = aborted_running m busy in (a.1 ∙ rel_in.runs.save, aborted_none m, a.0, ap n (sym twice))

    -- a start begins one, and other orders leave the book
    begins : (u : Bool) (q : Kind) → (cond u b (started q m.ranges b)).job ≡ idle → ⊥
    begins true q i = not_idle b.job e i
    begins false q i = cc

    stays : (u : Bool) → (cond u b b).job ≡ idle → ⊥
    stays true i = not_idle b.job e i
    stays false i = not_idle b.job e i

    ended : (c : Call) → (entry w (asked m c) c b).job ≡ idle → Ended c m r
    unfolding switches.on switches.off switches.method switches.coupling set_ranges
    ended (On t) i = (refl, order_back (late t) (λ y. switches.switched_on y t) i)
    ended (Off t) i = (refl, order_back (late t) switches.switched_off i)
    ended (Method t alt) i = (refl, order_back (late t) (λ y. switches.method_set y t alt) i)
    ended (SetRanges t v j) i = (refl, order_back (late t) (λ y. ranges_set y t v j) i)
    ended (Coupling t a) i = (refl, order_back (late t) (λ y. switches.coupling_set y t a) i)
    ended (Frame t flags bytes) i = frame_back t flags bytes i
    ended (ZeroJob t) i = absurd (begins (asked m (ZeroJob t)).refused Zero i)
    ended (GainJob t) i = absurd (begins (asked m (GainJob t)).refused Gain i)
    ended c i = absurd (stays (asked m c).refused i)

  from_least_to_most : (i : ℕ) (g : Float) → b.gain i ≡ earned g → within gain_least gain_most g ≡ true
  unfolding plausible
  from_least_to_most = h.rel.held.bounded

  agrees : Agrees w m b
  unfolding bench_in
  agrees =
      record {
        zeros = h.rel.held.zeros;
        no_zeros = h.rel.held.no_zeros;
        kept_gains = h.rel.held.gains;
        words = h.calibration;
        gains = λ i i4. ap (λ (c : Calibration). v_gain c m.corrections.vgain i) h.calibration ∙ in_force_law w m.corrections.vgain i (b.gain i) i4 (h.rel.held.gains i i4) (h.rel.held.bounded i);
        bounds = from_least_to_most;
        job = job_is b.job h.rel.runs;
        back = λ c k r fs e i. ended k r fs e c i;
        quiet = λ t flags bytes k r fs e d. quiet_frame k r fs e t flags bytes d;
        not_ready = λ t flags bytes k r fs e d q. only_polled k r fs e t flags bytes d q;
        count = λ t flags bytes k r fs e d. counts k r fs e t flags bytes d;
        result = λ t flags bytes k r fs e d q. results k r fs e t flags bytes d q;
        outside = none_counted;
        most = λ k r fs e. few_frames (setting_of w r b.zeros) (bench_in m) k r fs (rel_in k r fs e).runs;
        zero_length = λ f r fs e z i. zero_length (setting_of w r b.zeros) (bench_in m) r fs f (rel_in Zero r fs e).runs z i;
        gain_length = λ f r fs e g i. gain_length (setting_of w r b.zeros) (bench_in m) r fs f (rel_in Gain r fs e).runs g i;
      }

-- after every list of calls from a meter just made
pub demand3 : Demand3
unfolding Demand3
demand3 d words valid m e cs = agrees (fed words valid) (after m cs) (books (fed words valid) m cs blank) (reached d words valid m e cs)
