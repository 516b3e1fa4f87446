-- Permitted pairs (document 01, "The lowest loss curve"): totals admitted u and departed v for the slots 0 to T,
-- chosen by anyone with the trace known in advance.
use Rattle.std.specs.Prelude.{◌≡◌, ℕ, suc, ◌+◌, ◌-◌, ◌≤◌, ◌<◌}
use Rattle.calculus.specs.Numbers.Limit.{Limit, at_most}
use Rattle.calculus.specs.Regulators.Clipper.{arrived}

pub record Permitted (F : ℕ → ℕ → ℕ) (d q : Limit) (a : ℕ → ℕ) (T : ℕ) (u v : ℕ → ℕ) : Type 0 where
  -- U(0) and V(0) are 0.
  pub admitted_starts : u 0 ≡ 0
  pub departed_starts : v 0 ≡ 0
  -- Neither total ever falls.
  pub admitted_rises : (t : ℕ) → t < T → u t ≤ u (suc t)
  pub departed_rises : (t : ℕ) → t < T → v t ≤ v (suc t)
  -- U(t) - U(t-1) is at most A(t) - A(t-1).
  pub admits_arrivals : (t : ℕ) → t < T → u (suc t) - u t ≤ arrived a (suc t) - arrived a t
  -- V(t) is at most U(t).
  pub departs-admitted : (t : ℕ) → t ≤ T → v t ≤ u t
  -- Envelope: V(t) - V(s) is at most F(s,t) for every s below t.
  pub envelope : (s t : ℕ) → s < t → t ≤ T → v t - v s ≤ F s t
  -- Buffer (document 02, request 2.9): U(t) - V(t-1) is at most q.
  pub buffer : (n : ℕ) → q ≡ at_most n → (t : ℕ) → t < T → u (suc t) - v t ≤ n
  -- Delay: where t+d is at most T, U(t) is at most V(t+d).
  pub delay : (n : ℕ) → d ≡ at_most n → (t : ℕ) → t + n ≤ T → u t ≤ v (t + n)

-- d is none, or the trace of T slots ends in at least d slots without arrivals
unfoldable pub Quiet : Limit → (ℕ → ℕ) → ℕ → Type 0
Quiet d a T = (n : ℕ) → d ≡ at_most n → (n ≤ T) × ((t : ℕ) → T - n < t → t ≤ T → a t ≡ 0)
