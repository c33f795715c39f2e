-- The accounting as the code divides it: on a ledger, the record of what it changes. The contract of `posted` speaks of it; a reader of the frame call need not believe it: proofs/Posting.antt says that it is `account` of specs/Account.antt.
use Rattle.std.specs.Prelude.{Bool, ◌&&◌, if◌then◌else◌, ℕ, Float, pos, Result, Ok, Err}
use Rattle.refusals.specs.declared.Refusal.{Refusal}
use Rattle.figures.specs.declared.load.Figures.{Figures}
use Rattle.figures.specs.declared.tally.Tally.{Tally}
use Rattle.figures.specs.declared.tally.Counted.{Counted}
use Rattle.figures.specs.Tally.{accounting_step}
use Rattle.state.specs.declared.Pw.{Pw}
use Rattle.state.specs.Counting.{elapsed}
use Rattle.phase.specs.Phase.{cal_accounted}
use Rattle.values.specs.declared.vals.Changing.{Changing}
use Rattle.accounting.specs.declared.Ledger.{Ledger}
use Rattle.accounting.specs.Account.{last_time, powers_of, over_since}

-- `counted` of the ledger: `active` is whether the active energy counts
unfoldable pub counted_of : Ledger → Bool → ℕ → Result Counted Refusal
counted_of b active now =
    if b.clock.run && b.clock.t_last.set then accounting_step b.tally (elapsed now b.clock.t_last.at) b.powers.p_tot b.powers.s_last active
    else Ok (record { tally = b.tally; gained = pos 0 })

-- what the values take of the ledger
unfoldable pub changing : Ledger → Changing
changing b = record { tally = b.tally; clock = b.clock; over_t0 = b.over_t0; phase_cal = b.phase_cal }

-- what the accounting changes of a meter, and a meter with that changed
abbrev pub ledger_in : Pw → Ledger
ledger_in m =
    record {
      tally = m.tally;
      clock = m.clock;
      powers = m.powers;
      over_t0 = m.over_t0;
      phase_cal = m.phase_cal;
      cal_req = m.mode.cal_req;
    }

abbrev pub with_ledger : Pw → Ledger → Pw
with_ledger m b =
    record m {
      mode = record { on = m.mode.on; alt = m.mode.alt; coup = m.mode.coup; dc = m.mode.dc; cal_req = b.cal_req };
      powers = b.powers;
      tally = b.tally;
      clock = b.clock;
      over_t0 = b.over_t0;
      phase_cal = b.phase_cal;
    }

-- the ledger after the accounting
abbrev pub posted_to : Ledger → Tally → Float → Figures → ℕ → Ledger
posted_to b t iCont load now =
    let c = cal_accounted b.phase_cal b.cal_req in
    record {
      tally = t;
      clock = record { run = b.clock.run; t_last = last_time b.clock.run now; t_poll = b.clock.t_poll };
      powers = powers_of load;
      over_t0 = over_since b.over_t0 load.i iCont now;
      phase_cal = c.phase_cal;
      cal_req = c.cal_req;
    }

abbrev pub posted_by : Ledger → Float → Figures → ℕ → Result Counted Refusal → Result Ledger Refusal
posted_by b iCont load now (Ok c) = Ok (posted_to b c.tally iCont load now)
posted_by b iCont load now (Err r) = Err r

unfoldable pub posted : Ledger → Bool → Float → Figures → ℕ → Result Ledger Refusal
posted b active iCont load now = posted_by b iCont load now (counted_of b active now)
