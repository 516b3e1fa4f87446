-- Demands 2 and 3 for regulators in a row (document 02, request 2.5): a claim about one trace, the packets admitted and dropped at the
-- entrance and those departed from the last stage.
use Rattle.std.specs.Prelude.{◌≡◌, ℕ, suc, ◌+◌, ◌-◌, ◌*◌, ◌≤◌, ◌<◌, List, length, take, drop}
use Rattle.calculus.specs.Numbers.Limit.{Limit}
use Rattle.calculus.specs.Envelopes.Envelope.{windows}
use Rattle.calculus.specs.Regulators.Clipper.{admitted}
use Rattle.calculus.specs.Regulators.Regulator.{convolution, departed}
use Rattle.calculus.specs.Losses.LossCurve.{LowestAmong}
use Rattle.calculus.specs.Regulators.Trace.{arrivals, sum_to}
use Rattle.path_calculus.specs.Path.{stage_envelope, path_envelope, PathPermitted}

-- stage i's part of the stages' list, stages being counted from 0 and each having T slots
abbrev pub stage_part : ℕ → ℕ → List ℕ → List ℕ
stage_part T i outs = take T (drop (i * T) outs)

-- what each stage lets go: the convolution of the stage before with its own envelope, the first stage's input being the admitted packets;
-- it keeps its own envelope, and never passes the stage before, nor the first the entrance
pub record StagesKeep (tables : List (List ℕ)) (T : ℕ) (ins outs : List ℕ) : Type 0 where
  pub long : (i : ℕ) → i < length tables → length (stage_part T i outs) ≡ T
  pub first_fed : (t : ℕ) → t ≤ T → sum_to (stage_part T 0 outs) t ≡ convolution (sum_to ins) (windows (stage_envelope tables 0)) t
  pub fed : (i : ℕ) → suc i < length tables → (t : ℕ) → t ≤ T
      → sum_to (stage_part T (suc i) outs) t ≡ convolution (sum_to (stage_part T i outs)) (windows (stage_envelope tables (suc i))) t
  pub keeps : (i : ℕ) → i < length tables → (s t : ℕ) → s ≤ t → t ≤ T
      → sum_to (stage_part T i outs) t ≤ sum_to (stage_part T i outs) s + stage_envelope tables i (t - s)
  pub first_behind : (t : ℕ) → t ≤ T → sum_to (stage_part T 0 outs) t ≤ sum_to ins t
  pub behind : (i : ℕ) → suc i < length tables → (t : ℕ) → t ≤ T → sum_to (stage_part T (suc i) outs) t ≤ sum_to (stage_part T i outs) t

-- The least loss that there is among pairs whose departures keep every stage's envelope; outs are the last stage's departures.
-- Our totals are theorem 5.1's for the closure of the pointwise least of the closed envelopes.
abbrev pub PathLowestLoss : List (List ℕ) → Limit → Limit → List ℕ → List ℕ → List ℕ → List ℕ → Type 0
PathLowestLoss tables d q trace =
    LowestAmong (PathPermitted tables d q (arrivals trace) (length trace)) d (admitted (windows (path_envelope tables)) d q (arrivals trace))
    (departed (windows (path_envelope tables)) d q (arrivals trace)) trace
