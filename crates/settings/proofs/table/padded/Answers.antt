-- `padded` copies the entries that there are.
use Rattle.std.proofs.Common.{ℕ, List, ◌++◌, drop, replicate, ap, ◌∙◌}
use Rattle.settings.proofs.TakenTable.{padded_all}
use Rattle.settings.proofs.table.padded.Goals as goal

pub returns : goal.returns
returns c =
    let n = c.min-entries.result in
    ap (λ (l : List ℕ). l ++ drop n (replicate 65 0)) c.copy_from_slice.ensures.after ∙ padded_all c.args.table.now n c.min-entries.ensures
