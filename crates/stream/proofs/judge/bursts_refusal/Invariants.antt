-- `bursts_refusal` passes on the judgment of the bursts that are left.
use mathlib.Core.Path.{◌≡◌}
use lib.ListN.{drop}
use Rattle.stream.specs.Format.{number_at, burst_slots}
use Rattle.stream.specs.Refusals.{bursts_refusal}
use Rattle.stream.proofs.judge.bursts_refusal.Given as goal

abbrev pub invariant-loop-k : goal.invariant-loop-k
invariant-loop-k l =
    bursts_refusal (number_at l.file 1) 0 (burst_slots l.file) ≡ bursts_refusal (number_at l.file 1) l.before (drop l.k (burst_slots l.file))
