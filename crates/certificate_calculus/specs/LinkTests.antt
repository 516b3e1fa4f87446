-- The tests of a certificate's links, as additions and comparisons.
use Rattle.std.specs.Prelude.{Bool, ◌&&◌, ℕ, ◌+◌, ◌-◌, eqb, ltb, leb}
use Rattle.calculus.specs.Numbers.Limit.{Limit, none, at_most, map_limit, limit_unless}
use Rattle.chain_calculus.specs.Chain.{is_number, amount}

-- the delay limit that binds slot t of a trace of T slots: d where the deadline t+d lies in the trace, else none
unfoldable pub due_delay : Limit → ℕ → ℕ → Limit
due_delay none T t = none
due_delay (at_most n) T t = limit_unless (ltb T (t + n)) n

-- the admitted link of this mark from slot s to slot t: s is below t, and U(s) plus the usable amount, request 2.8's, is U(t)
unfoldable pub admitted_holds : (ℕ → ℕ) → Limit → Limit → (ℕ → ℕ) → ℕ → (ℕ → ℕ) → ℕ → ℕ → ℕ → Bool
admitted_holds f d q a T u t s mark = ltb s t && is_number (map_limit (λ n. u s + n) (amount f (due_delay d T t) q a mark s t)) (u t)

-- the departed link from slot r to slot t: r is at most t, and U(r) + f(t-r) is V(t)
unfoldable pub departed_holds : (ℕ → ℕ) → (ℕ → ℕ) → (ℕ → ℕ) → ℕ → ℕ → Bool
departed_holds f u v t r = leb r t && eqb (u r + f (t - r)) (v t)
