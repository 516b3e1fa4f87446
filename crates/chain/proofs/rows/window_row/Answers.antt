-- `window_row` takes the table and fills the row's end, and a row for the pieces.
use Rattle.std.proofs.Common.{ℕ, ◌-◌, ◌≤◌, min, drop, arith, rules}
use Rattle.settings.specs.Taken.{no_envelope, taken_given}
use Rattle.orders.proofs.Given.{none_ok}
use Rattle.settings.proofs.TakenTable.{take_or_none}
use Rattle.question.proofs.WindowRow.{windows-asked}
use Rattle.std.proofs.lemmas.List.{length-drop}
use lib.Seq.{length-take-le}
use Rattle.chain.proofs.FilledRows.{windows_filled}
use Rattle.chain.proofs.rows.window_row.Goals as goal

pub unwrap-requires : goal.unwrap-requires
unwrap-requires c =
    let lent = length-take-le {A = ℕ} (4161 - (4160 - c.min-from.result)) (drop (4160 - c.min-from.result) c.args.row.now) (omega (arith, length-drop (4160 - c.min-from.result) c.args.row.now)) in
    none_ok c.windows.result _ c.windows.ensures.answered (windows-asked _ _ (omega (arith, lent)) (search rules))

pub returns : goal.returns
unfolding no_envelope
returns c =
    let z = c.args in
    let within : min z.last 4160 ≤ 4160 = omega arith in
    windows_filled z.table.now z.row.now _ (min z.last 4160) (4160 - c.min-from.result) within (omega (arith, c.min-from.ensures)) (search rules)
    (search rules) _ _ _ _ (taken_given c.take.result) c.take.ensures
    (rw (take_or_none c.take.result c.unwrap_or-envelope.result c.unwrap_or-envelope.ensures) at c.windows.ensures)
