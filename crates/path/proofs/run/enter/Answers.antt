-- `enter` runs the trace with the merged table.
use Rattle.std.proofs.Common.{ℕ, refl}
use lib.ListN.{get_or-replicate}
use Rattle.orders.proofs.Given.{none_ok}
use Rattle.path.proofs.PathRows.{merged_run, ran_rows}
use Rattle.path.proofs.run.enter.Goals as goal

pub merged_table-entries-requires : goal.merged_table-entries-requires
merged_table-entries-requires c = (c.requires.0, c.requires.1, refl, λ k p. get_or-replicate {A = ℕ} 65 k 4294967295 0 p)

pub unwrap-requires : goal.unwrap-requires
unwrap-requires c = none_ok c.run.result _ c.run.ensures.answered (merged_run _ _ _ _ _ _ _ _ c.merged_table-entries.ensures.2 c.requires.2)

pub returns : goal.returns
returns c =
    ran_rows _ _ _ _ _ _ _ _ _ _ _ _ c.merged_table-entries.ensures.2 c.requires.2
    c.run.ensures
