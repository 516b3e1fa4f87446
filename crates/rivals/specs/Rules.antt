-- What is asked of anyone's totals by their lists: which window, rule and slot they break first.
use Rattle.std.specs.Prelude.{ℕ, Bool, ◌≤◌, ◌<◌, length, get_or}
use Rattle.calculus.specs.Numbers.Limit.{delay_limit, buffer_limit}
use Rattle.calculus.specs.Regulators.Trace.{arrivals}
use Rattle.rival_calculus.specs.Broken.{broken_window, is_over_buffer, is_over_delay, rule_at, broken_slot}
use Rattle.rivals.specs.Judgement.{broken_at}
use Rattle.rivals.specs.declared.judge.Judgement.{Judgement}
use Rattle.rivals.specs.declared.rules.Rule.{Rule}
use Rattle.rivals.specs.declared.rules.Rule.TheVariants.{Arrivals, Admitted, Envelope, Buffer, Delay}
use Rattle.rivals.specs.declared.rules.Totals.{Totals}

-- the number of a rule in a judgement
abbrev pub rule_number : Rule → ℕ
rule_number Arrivals = 1
rule_number Admitted = 2
rule_number Envelope = 3
rule_number Buffer = 4
rule_number Delay = 5

-- a table of at most 65 entries, a trace of at most 4,096 slots, and totals that have a place for each of them
abbrev pub Held : Totals → Type 0
Held z = (length z.table.now ≤ 65) × (length z.arrivals.now ≤ 4096) × (length z.arrivals.now < length z.admitted.now) × (length z.arrivals.now < length z.departed.now)

abbrev pub window_of : Totals → ℕ → ℕ
window_of z = broken_window z.table.now (λ k. get_or z.departed.now k 0)

abbrev pub over_buffer_of : Totals → ℕ → Bool
over_buffer_of z = is_over_buffer (buffer_limit z.buffer) (λ k. get_or z.admitted.now k 0) (λ k. get_or z.departed.now k 0)

abbrev pub over_delay_of : Totals → ℕ → Bool
over_delay_of z = is_over_delay (delay_limit z.delay) (λ k. get_or z.admitted.now k 0) (λ k. get_or z.departed.now k 0)

abbrev pub rule_of : Totals → ℕ → ℕ
rule_of z = rule_at z.table.now (delay_limit z.delay) (buffer_limit z.buffer) (arrivals z.arrivals.now) (λ k. get_or z.admitted.now k 0) (λ k. get_or z.departed.now k 0)

abbrev pub slot_of : Totals → ℕ
slot_of z =
    broken_slot z.table.now (delay_limit z.delay) (buffer_limit z.buffer) (arrivals z.arrivals.now) (length z.arrivals.now) (λ k. get_or z.admitted.now k 0)
    (λ k. get_or z.departed.now k 0)

-- what the totals break at a slot, as it is answered
abbrev pub broken_by : Totals → ℕ → Judgement
broken_by z = broken_at z.table.now (delay_limit z.delay) (buffer_limit z.buffer) (arrivals z.arrivals.now) (λ k. get_or z.admitted.now k 0) (λ k. get_or z.departed.now k 0)
