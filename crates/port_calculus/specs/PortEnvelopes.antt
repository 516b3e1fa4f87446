-- When a port of c packets a slot is in time (document 000, theorems 7.1 and 7.4, for document 02, request 2.11).
-- Slots are numbered from 1. D(i) is stream i's deadline, a(i,t) is what it brings in slot t, and f(i,k) bounds what it brings in k slots.
use Rattle.std.specs.Prelude.{cond, ℕ, ◌+◌, ◌-◌, ◌*◌, ◌≤◌, ltb}
use Rattle.calculus.specs.Regulators.Clipper.{arrived}
use Rattle.port_calculus.specs.Port.{sum_below}

-- Theorem 7.1's condition: what comes after slot s and is due by slot u is at most c packets for each of the slots s+1 to u.
unfoldable pub Fits : ℕ → (ℕ → ℕ) → (ℕ → ℕ → ℕ) → ℕ → ℕ → Type 0
Fits n D a c T = (s u : ℕ) → s ≤ u → u ≤ T → sum_below (λ i. arrived (a i) (u - D i) - arrived (a i) s) n ≤ c * (u - s)

-- A stream keeps an envelope f of windows in the slots 1 to T.
unfoldable pub KeepsEnvelope : (ℕ → ℕ) → (ℕ → ℕ) → ℕ → Type 0
KeepsEnvelope f a T = (s t : ℕ) → s ≤ t → t ≤ T → arrived a t ≤ arrived a s + f (t - s)

-- the most that comes in a window of k slots and is due in it: f(k-D), and nothing where k is at most D
unfoldable pub due_within : (ℕ → ℕ) → ℕ → ℕ → ℕ
due_within f D k = cond (ltb D k) (f (k - D)) 0

-- Theorem 7.4's condition, for envelopes of windows: what n streams may bring and have due in a window of k slots is at most c × k.
unfoldable pub Admissible : ℕ → (ℕ → ℕ) → (ℕ → ℕ → ℕ) → ℕ → ℕ → Type 0
Admissible n D f c T = (k : ℕ) → 1 ≤ k → k ≤ T → sum_below (λ i. due_within (f i) (D i) k) n ≤ c * k
