-- What is refused of anyone's rows, packets admitted and departed in each slot, and what is answered of them.
use Rattle.std.specs.Prelude.{List, ℕ, zero, suc, eqb, length}
use Rattle.calculus.specs.Numbers.Limit.{Limit, delay_limit, buffer_limit}
use Rattle.calculus.specs.Regulators.Trace.{arrivals, sum_to}
use Rattle.orders.specs.Refusal.{pick, ◌or_else◌}
use Rattle.refusals.specs.Limits.{set_up_refusal}
use Rattle.refusals.specs.Lengths.{length_refusal, lists_refusal, counts_refusal}
use Rattle.rival_calculus.specs.Broken.{rule_at, broken_slot, broken_window}
use Rattle.rivals.specs.declared.judge.Judgement.{Judgement}

-- Set-up; 10, the trace's length above 4,096; 11, a list not as long as the trace; 8, more than 1,000,000 arrivals in a slot.
unfoldable pub rival_refusal : List ℕ → ℕ → ℕ → List ℕ → ℕ → ℕ → ℕ
rival_refusal table d q trace ins outs =
    set_up_refusal table d q
    or_else length_refusal (length trace)
    or_else (lists_refusal (length trace) ins or_else lists_refusal (length trace) outs)
    or_else counts_refusal trace

-- what totals break at a slot: the rule, the slot, and the window, which is 0 but for rule 3; slot 0 stands for none, and all is 0
unfoldable pub broken_at : List ℕ → Limit → Limit → (ℕ → ℕ) → (ℕ → ℕ) → (ℕ → ℕ) → ℕ → Judgement
broken_at table d q a u v zero = record { number = 0; rule = 0; slot = 0; window = 0 }
broken_at table d q a u v (suc t) =
    record {
      number = 0;
      rule = rule_at table d q a u v (suc t);
      slot = suc t;
      window = pick (eqb (rule_at table d q a u v (suc t)) 3) (broken_window table v (suc t)) 0;
    }

-- what is answered by the number: the number alone, or what is broken where it is 0
unfoldable pub judgement_by : ℕ → Judgement → Judgement
judgement_by zero broken = broken
judgement_by (suc n) broken = record { number = suc n; rule = 0; slot = 0; window = 0 }

-- the judgement of anyone's rows: the number that refuses them, or what their totals break in the first slot that breaks a rule
unfoldable pub judgement_of : List ℕ → ℕ → ℕ → List ℕ → List ℕ → List ℕ → Judgement
judgement_of table d q trace ins outs =
    judgement_by (rival_refusal table d q trace (length ins) (length outs))
    (broken_at table (delay_limit d) (buffer_limit q) (arrivals trace) (sum_to ins) (sum_to outs)
    (broken_slot table (delay_limit d) (buffer_limit q) (arrivals trace) (length trace) (sum_to ins) (sum_to outs)))
