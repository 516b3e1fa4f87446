-- `entries_refusal` passes on the judgment of the entries that are left.
use Rattle.std.proofs.Common.{◌≡◌, drop}
use Rattle.refusals.specs.Table.{entries_refusal}
use Rattle.refusals.proofs.table.entries_refusal.Given as goal

abbrev pub invariant-loop-entry : goal.invariant-loop-entry
invariant-loop-entry l =
    (entries_refusal 0 (drop 1 l.table) ≡ entries_refusal l.before (drop l.entry-index l.entries))
