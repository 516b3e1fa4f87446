-- Demands 2 and 3 as a claim about one trace and what was answered or listed for its slots (document 01, "The lowest loss
-- curve"), for any envelope.
use Rattle.std.specs.Prelude.{◌≡◌, ℕ, ◌+◌, ◌-◌, ◌≤◌, List, length}
use Rattle.calculus.specs.Numbers.Limit.{Limit, at_most}
use Rattle.calculus.specs.Regulators.Clipper.{arrived, admitted}
use Rattle.calculus.specs.Regulators.Regulator.{departed}
use Rattle.calculus.specs.Losses.Permitted.{Permitted, Quiet}
use Rattle.calculus.specs.Regulators.Trace.{arrivals, sum_to}

-- Packets admitted, dropped and departed, one number for each slot of the trace, are the least loss that there is among the pairs of
-- totals that are permitted, whoever these are; X and Y are what our totals should be.
pub record LowestAmong (Among : (ℕ → ℕ) → (ℕ → ℕ) → Type 0) (d : Limit) (X Y : ℕ → ℕ) (trace ins drops outs : List ℕ) : Type 0 where
  pub long_ins : length ins ≡ length trace
  pub long_drops : length drops ≡ length trace
  pub long_outs : length outs ≡ length trace
  -- Our totals are X(t) and Y(t), and our loss is A(t) - X(t), for every t from 0 to T.
  pub admitted_total : (t : ℕ) → t ≤ length trace → sum_to ins t ≡ X t
  pub departed_total : (t : ℕ) → t ≤ length trace → sum_to outs t ≡ Y t
  pub dropped_total : (t : ℕ) → t ≤ length trace → sum_to drops t ≡ arrived (arrivals trace) t - X t
  -- Our pair is permitted, whatever the trace ends in.
  pub permitted : Among (sum_to ins) (sum_to outs)
  -- Where d is none, or the trace ends in at least d slots without arrivals, every permitted pair has at most our totals and
  -- at least our loss, for every t from 0 to T.
  pub lowest : Quiet d (arrivals trace) (length trace) → (u v : ℕ → ℕ) → Among u v → (t : ℕ) → t ≤ length trace
      → (u t ≤ sum_to ins t) × (v t ≤ sum_to outs t) × (sum_to drops t ≤ arrived (arrivals trace) t - u t)
  -- Without that premise its departures are at most ours, and so is what it has admitted by a slot whose deadline lies in the trace.
  pub departed_most : (u v : ℕ → ℕ) → Among u v → (t : ℕ) → t ≤ length trace → v t ≤ sum_to outs t
  pub admitted_most_due : (u v : ℕ → ℕ) → Among u v → (t n : ℕ) → d ≡ at_most n → t + n ≤ length trace → u t ≤ sum_to ins t

-- For an envelope: among the permitted pairs, with theorem 5.1's totals.
abbrev pub LowestLoss : (ℕ → ℕ → ℕ) → Limit → Limit → List ℕ → List ℕ → List ℕ → List ℕ → Type 0
LowestLoss F d q trace =
    LowestAmong (Permitted F d q (arrivals trace) (length trace)) d (admitted F d q (arrivals trace)) (departed F d q (arrivals trace)) trace
