-- `burst_counts_refusal` passes on the judgment of the bursts that are left.
use mathlib.Core.Path.{◌≡◌}
use lib.ListN.{drop}
use Rattle.refusals.specs.Lengths.{counts_refusal}
use Rattle.stream.specs.Format.{burst_counts}
use Rattle.stream.proofs.judge.burst_counts_refusal.Given as goal

abbrev pub invariant-loop-k : goal.invariant-loop-k
invariant-loop-k l = counts_refusal (burst_counts l.file) ≡ counts_refusal (drop l.k (burst_counts l.file))
