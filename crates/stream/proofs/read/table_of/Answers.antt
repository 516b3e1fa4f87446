-- `table_of` fills a list of the table's length for an accepted file.
use mathlib.Core.Path.{◌≡◌, sym, ◌∙◌}
use Prim.Native.Nat.{◌+◌}
use native.Mathlib.Omega.{arith}
use lib.ListN.{length}
use borrow.Author.Rules.{rules}
use Rattle.orders.proofs.Given.{number_of_is_ok, number_of_not_ok}
use Rattle.stream.specs.Format.{last, table_of}
use Rattle.stream.specs.Refusals.{file_refusal}
use Rattle.stream.proofs.FileJudged.{length-table, table_filled}
use Rattle.stream.proofs.HandedFile.{handed_refused, handed_other, handed_over}
use Rattle.stream.proofs.read.table_of.Goals as goal
use Rattle.stream.proofs.read.table_of.Goals.{else-is_ok-via-then-is_ok+else-table-entries_of, else-is_ok-via-else-is_ok}

pub returns-then-table-entries_of : goal.returns-then-table-entries_of
returns-then-table-entries_of c =
    let z = c.args in
    let long : length z.table.now ≡ last z.file.now + 1 = omega (arith, c.entries_of.ensures) in
    table_filled z.file.now _ (length z.table.now) long c.fill.ensures
    ∙ handed_over (file_refusal z.file.now) (table_of z.file.now) z.table.now
    (number_of_is_ok c.file_refusal.result _ c.file_refusal.ensures (search rules)) (long ∙ sym (length-table z.file.now))

pub returns-else-is_ok : goal.returns-else-is_ok
returns-else-is_ok c =
    let z = c.args in
    elim c.else-is_ok.branch [
      | else-is_ok-via-then-is_ok+else-table-entries_of w ↦ handed_other (file_refusal z.file.now) (table_of z.file.now) z.table.now
          (number_of_is_ok c.file_refusal.result _ c.file_refusal.ensures (search rules)) (λ e. omega (arith, e, length-table z.file.now, w.entries_of.ensures))
      | else-is_ok-via-else-is_ok w ↦ handed_refused (file_refusal z.file.now) (table_of z.file.now) z.table.now
          (number_of_not_ok c.file_refusal.result _ c.file_refusal.ensures (search rules))
    ]
