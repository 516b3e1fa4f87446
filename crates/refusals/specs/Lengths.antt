-- What is refused of a trace's length, of lent lists and of a trace's counts (document 01, "Refused, by place": Whole trace).
use Rattle.std.specs.Prelude.{ℕ, not, List, [], ◌∷◌, ltb, eqb}
use Rattle.calculus.specs.Numbers.Sizes.{most_trace}
use Rattle.orders.specs.Refusal.{◌when◌, ◌or_else◌}
use Rattle.refusals.specs.Limits.{arrivals_refusal}

-- 10: the trace's length above 4,096
unfoldable pub length_refusal : ℕ → ℕ
length_refusal slots = 10 when ltb most_trace slots

-- 24: T, or a pencil trace, above 5 (document 02, request 2.14)
unfoldable pub short_refusal : ℕ → ℕ
short_refusal slots = 24 when ltb 5 slots

-- 11: a lent list not as long as the trace
unfoldable pub lists_refusal : ℕ → ℕ → ℕ
lists_refusal slots list = 11 when not (eqb list slots)

-- 8: a slot with more than 1,000,000 arrivals
unfoldable pub counts_refusal : List ℕ → ℕ
counts_refusal [] = 0
counts_refusal (n ∷ later) = arrivals_refusal n or_else counts_refusal later
