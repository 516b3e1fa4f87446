-- `loss_text` prints the refusal or the table where there is room.
use mathlib.Core.Path.{◌≡◌, sym, ◌∙◌}
use lib.ListN.{length}
use borrow.Author.Rules.{rules}
use Rattle.orders.proofs.Given.{refusal_numbered, given_number, given_none}
use Rattle.text.proofs.Put.{nothing_printed}
use Rattle.loss_table.proofs.PrintedFile.{refused_prints, printed_fits, printed_left_out}
use Rattle.loss_table.proofs.file_text.loss_text.Goals as goal

pub returns-then-out-lt-ROOM : goal.returns-then-out-lt-ROOM
returns-then-out-lt-ROOM c = let z = c.args in
    rw (printed_left_out z.file.now (length z.out.now) (search rules)) (nothing_printed z.out.now)

pub put_accepted-requires : goal.put_accepted-requires
put_accepted-requires c = (given_none c.file_refusal.result _ _ c.file_refusal.ensures (search rules), search rules)

pub returns-in-Ok : goal.returns-in-Ok
returns-in-Ok c =
    let z = c.args in
    rw (printed_fits z.file.now (length z.out.now) (search rules)) c.put_accepted.ensures

pub returns-in-Err : goal.returns-in-Err
returns-in-Err c =
    let z = c.args in
    let numbered = c.number.ensures ∙ given_number c.file_refusal.result c.in-Err.refusal _ c.file_refusal.ensures (search rules) in
    let some : c.number.result ≡ 0 → ⊥ = λ none. refusal_numbered c.in-Err.refusal (sym c.number.ensures ∙ none) in
    rw (← refused_prints z.file.now c.number.result (length z.out.now) some numbered (search rules)) c.put_refused.ensures
