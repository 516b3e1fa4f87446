-- `total_row` adds one count a turn.
use Rattle.std.proofs.Common.{◌≡◌, length}
use Rattle.chain.specs.Rows.{total_at}
use Rattle.chain.proofs.FilledRows.{Summed}
use Rattle.chain.proofs.rows.total_row.Given as goal

abbrev pub invariant-loop-t : goal.invariant-loop-t
invariant-loop-t l = (length l.totals ≡ 4161) × (l.sum ≡ total_at l.counts l.t) × Summed l.counts l.initial.totals l.totals l.t
