-- Which rule anyone's totals break first, and where (document 01, "The lowest loss curve", with request 2.9's fill): a(t) arrives in slot t,
-- u(t) and v(t) are admitted and departed in slots 1 to t.
use Rattle.std.specs.Prelude.{Bool, false, ◌&&◌, List, ℕ, zero, suc, ◌-◌, min, ltb, leb, get_or}
use Rattle.calculus.specs.Numbers.Limit.{Limit, none, at_most}
use Rattle.orders.specs.Refusal.{◌when◌, ◌or_else◌}
use Rattle.refusals.specs.Table.{last_window}

-- the first of 1, 2, .., n of which the test holds; 0 where it holds of none
unfoldable pub first_up_to : (ℕ → Bool) → ℕ → ℕ
first_up_to test zero = 0
first_up_to test (suc n) = first_up_to test n or_else suc n when test (suc n)

-- 1: u(t) - u(t-1) above a(t)
unfoldable pub is_over_arrivals : (ℕ → ℕ) → (ℕ → ℕ) → ℕ → Bool
is_over_arrivals a u t = ltb (a t) (u t - u (t - 1))

-- 2: v(t) above u(t)
unfoldable pub is_over_admitted : (ℕ → ℕ) → (ℕ → ℕ) → ℕ → Bool
is_over_admitted u v t = ltb (u t) (v t)

-- v(t) - v(t-k) above the table's entry at window k
unfoldable pub over_window : List ℕ → (ℕ → ℕ) → ℕ → ℕ → Bool
over_window table v t k = ltb (get_or table k 0) (v t - v (t - k))

-- the smallest window of 1 to L, not above t, that is broken at slot t; 0 where none is
unfoldable pub broken_window : List ℕ → (ℕ → ℕ) → ℕ → ℕ
broken_window table v t = first_up_to (over_window table v t) (min (last_window table) t)

-- 3: a window is broken
unfoldable pub is_over_envelope : List ℕ → (ℕ → ℕ) → ℕ → Bool
is_over_envelope table v t = ltb 0 (broken_window table v t)

-- 4: u(t) - v(t-1) above q
unfoldable pub is_over_buffer : Limit → (ℕ → ℕ) → (ℕ → ℕ) → ℕ → Bool
is_over_buffer none u v t = false
is_over_buffer (at_most n) u v t = ltb n (u t - v (t - 1))

-- 5: u(t-d) above v(t), slot t being the deadline of slot t-d
unfoldable pub is_over_delay : Limit → (ℕ → ℕ) → (ℕ → ℕ) → ℕ → Bool
is_over_delay none u v t = false
is_over_delay (at_most n) u v t = leb n t && ltb (v t) (u (t - n))

-- the first rule that is broken at slot t, 0 where none is
unfoldable pub rule_at : List ℕ → Limit → Limit → (ℕ → ℕ) → (ℕ → ℕ) → (ℕ → ℕ) → ℕ → ℕ
rule_at table d q a u v t =
    1 when is_over_arrivals a u t
    or_else 2 when is_over_admitted u v t
    or_else 3 when is_over_envelope table v t
    or_else 4 when is_over_buffer q u v t
    or_else 5 when is_over_delay d u v t

-- the first slot of 1 to T in which a rule is broken, 0 where there is none
unfoldable pub broken_slot : List ℕ → Limit → Limit → (ℕ → ℕ) → ℕ → (ℕ → ℕ) → (ℕ → ℕ) → ℕ
broken_slot table d q a T u v = first_up_to (λ t. ltb 0 (rule_at table d q a u v t)) T
