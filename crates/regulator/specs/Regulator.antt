-- Set-up and the slot, for every table, limit, regulator and number of arrivals whatever (document 01, "One slot").
use Rattle.std.specs.Prelude.{◌≡◌, ℕ, zero, suc, ◌+◌, min, max, List, get_or, replicate, Result, Ok, Err}
use Rattle.calculus.specs.Numbers.Sizes.{most_window, most_slots, row_places}
use Rattle.refusals.specs.Table.{last_window}
use Rattle.settings.specs.Taken.{envelope_from}
use Rattle.envelope.specs.Envelope.{near_row}
use Rattle.orders.specs.Verdict.{Verdict, Accepted, Refused}
use Rattle.orders.specs.declared.refusal.Refusal.{Refusal}
use Rattle.refusals.specs.Limits.{delay_limit, buffer_limit, set_up_refusal, slot_refusal}
use Rattle.orders.specs.Answered.{refusal_number, unless_refused}
use Rattle.live_step.specs.Answer.{answer_by, SlotAnswer}
use Rattle.live_step.specs.Fill.{form_fill, bench_fill}
use Rattle.live_step.specs.Step.{step_admitted, step_departed, step_row}
use Rattle.regulator.specs.declared.regulator.Settings.{Settings}
use Rattle.regulator.specs.declared.regulator.Regulator.{Regulator}
use Rattle.live_step.specs.declared.record.SlotRecord.{SlotRecord}
use Rattle.live_step.specs.Record.{record_by}

-- the settings of an accepted set-up: L, d, q, and f at the windows 0 to 128
unfoldable pub settings_from : List ℕ → ℕ → ℕ → Settings
settings_from table d q =
    record { last = record { 0 = last_window table }; delay = record { 0 = d }; buffer = record { 0 = q }; near = near_row (envelope_from table) }

-- the row that no slot has written: 192 zeros
abbrev pub blank_row : List ℕ
blank_row = replicate row_places 0

-- a fresh regulator: running totals and peaks 0, and a row of zeros
unfoldable pub fresh_regulator : List ℕ → ℕ → ℕ → Regulator
fresh_regulator table d q =
    record {
      settings = settings_from table d q;
      slots = record { 0 = 0 };
      admitted = record { 0 = 0 };
      form_peak = record { 0 = 0 };
      bench_peak = record { 0 = 0 };
      row = blank_row;
    }

-- what stands for no regulator: 1,000,000 slots are already taken, so it takes none
unfoldable pub no_regulator : Regulator
no_regulator =
    record {
      settings = record { last = record { 0 = 0 }; delay = record { 0 = 0 }; buffer = record { 0 = 0 }; near = replicate 129 0 };
      slots = record { 0 = most_slots };
      admitted = record { 0 = 0 };
      form_peak = record { 0 = 0 };
      bench_peak = record { 0 = 0 };
      row = blank_row;
    }

-- what comes of a set-up: the verdict, and the regulator
pub record SetUp : Type 0 where
  pub verdict : Verdict
  pub regulator : Regulator

-- A refused set-up gives the number and no regulator; an accepted one a fresh regulator.
unfoldable pub set_up_by : ℕ → List ℕ → ℕ → ℕ → SetUp
set_up_by zero table d q = record { verdict = Accepted; regulator = fresh_regulator table d q }
set_up_by (suc n) table d q = record { verdict = Refused (suc n); regulator = no_regulator }

unfoldable pub set_up_of : List ℕ → ℕ → ℕ → SetUp
set_up_of table d q = set_up_by (set_up_refusal table d q) table d q

-- what a call that sets up a regulator gives
unfoldable pub set_up_given : Result Regulator Refusal → SetUp
set_up_given (Ok regulator) = record { verdict = Accepted; regulator = regulator }
set_up_given (Err refusal) = record { verdict = Refused (refusal_number refusal); regulator = no_regulator }

-- L of a regulator; one that no set-up gave counts as 64 at most
abbrev pub last_of : Regulator → ℕ
last_of r = min r.settings.last.0 most_window

-- the totals after a slot with n arrivals, admitted and departed
unfoldable pub next_admitted_of : Regulator → ℕ → ℕ
next_admitted_of r n =
    step_admitted (last_of r) (delay_limit r.settings.delay.0) (buffer_limit r.settings.buffer.0) r.settings.near r.row r.admitted.0 n

unfoldable pub next_departed_of : Regulator → ℕ → ℕ
next_departed_of r n = step_departed (last_of r) r.settings.near r.row (next_admitted_of r n)

unfoldable pub record_of : Regulator → ℕ → SlotRecord
record_of r n = record_by (next_admitted_of r n) (next_departed_of r n) r.admitted.0 (get_or r.row 0 0) n

-- the regulator advanced by one slot: each peak is the greater of the old one and the slot's fill
unfoldable pub advanced : Regulator → ℕ → Regulator
advanced r n =
    record {
      settings = r.settings;
      slots = record { 0 = r.slots.0 + 1 };
      admitted = record { 0 = next_admitted_of r n };
      form_peak = record { 0 = max r.form_peak.0 (form_fill (record_of r n)) };
      bench_peak = record { 0 = max r.bench_peak.0 (bench_fill (record_of r n)) };
      row = step_row (last_of r) (delay_limit r.settings.delay.0) r.settings.near r.row (next_departed_of r n);
    }

-- what comes of a slot: the answer, and the regulator after it
pub record Step : Type 0 where
  pub answer : SlotAnswer
  pub regulator : Regulator

-- A refused slot gives the number and the same regulator; an accepted one its record and the regulator advanced.
unfoldable pub slot_of : Regulator → ℕ → Step
slot_of r n =
    record {
      answer = answer_by (slot_refusal n r.slots.0) (record_of r n);
      regulator = unless_refused (slot_refusal n r.slots.0) (advanced r n) r;
    }

-- a regulator from its parts
abbrev pub regulator_of : ℕ → ℕ → ℕ → List ℕ → ℕ → ℕ → ℕ → ℕ → List ℕ → Regulator
regulator_of last d q near slots x form bench row =
    record {
      settings = record { last = record { 0 = last }; delay = record { 0 = d }; buffer = record { 0 = q }; near = near };
      slots = record { 0 = slots };
      admitted = record { 0 = x };
      form_peak = record { 0 = form };
      bench_peak = record { 0 = bench };
      row = row;
    }

-- what a slot on lent parts answers, and what it leaves in those that it may change
pub record SlotOn (r : Regulator) (n : ℕ) (a : SlotAnswer) (slots x form bench : ℕ) (row : List ℕ) : Type 0 where
  pub answers : a ≡ (slot_of r n).answer
  pub takes : slots ≡ (slot_of r n).regulator.slots.0
  pub admits : x ≡ (slot_of r n).regulator.admitted.0
  pub fills : form ≡ (slot_of r n).regulator.form_peak.0
  pub fills_bench : bench ≡ (slot_of r n).regulator.bench_peak.0
  pub moves : row ≡ (slot_of r n).regulator.row
