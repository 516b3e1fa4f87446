-- What is refused where a chain is asked for or checked (document 02, request 2.8).
use Rattle.std.specs.Prelude.{ℕ, suc, List, length, nat_lt}
use Rattle.orders.specs.Refusal.{◌when◌, ◌or_else◌}
use Rattle.refusals.specs.Limits.{set_up_refusal}
use Rattle.refusals.specs.Lengths.{length_refusal, lists_refusal, counts_refusal}

-- 18: a slot t above the trace's length
unfoldable pub beyond_refusal : ℕ → ℕ → ℕ
beyond_refusal slots t = 18 when nat_lt slots t

-- 11: a chain list that is not one longer than the trace
unfoldable pub chain_lists_refusal : ℕ → ℕ → ℕ → ℕ → ℕ
chain_lists_refusal places slots marks amounts = lists_refusal places slots or_else lists_refusal places marks or_else lists_refusal places amounts

-- Set-up, 10, 11, 8, 18.
unfoldable pub chain_refusal : List ℕ → ℕ → ℕ → List ℕ → ℕ → ℕ → ℕ → ℕ → ℕ
chain_refusal table d q trace t slots marks amounts =
    set_up_refusal table d q
    or_else length_refusal (length trace)
    or_else chain_lists_refusal (suc (length trace)) slots marks amounts
    or_else counts_refusal trace
    or_else beyond_refusal (length trace) t
