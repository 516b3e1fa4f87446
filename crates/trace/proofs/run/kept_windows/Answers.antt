-- `kept_windows` takes the table and asks for the windows that a run looks at.
use Rattle.std.proofs.Common.{ap, sym, ◌∙◌, rules, arith, Result, is_ok, ◌+◌}
use Rattle.orders.specs.declared.refusal.Refusal.{Refusal}
use Rattle.envelope.specs.declared.table.Envelope.{Envelope}
use Rattle.envelope.specs.Envelope.{near_to}
use Rattle.settings.specs.Taken.{taken_given}
use Rattle.refusals.proofs.TableJudged.{table-accepted}
use Rattle.settings.proofs.LookedAhead.{looks-ahead}
use Rattle.settings.proofs.TakenTable.{take_ok}
use Rattle.trace.proofs.RunAnswer.{table_windowed}
use Rattle.trace.proofs.run.kept_windows.Goals as goal

pub unwrap-envelope-requires : goal.unwrap-envelope-requires
unwrap-envelope-requires c = ap is_ok (take_ok c.take.result c.args.table.now c.take.ensures c.requires)

pub returns : goal.returns
unfolding taken_given
returns c =
    table_windowed c.args.table.now c.args.delay (c.last_window.result + c.looked_ahead.result) c.requires
    (omega (arith, c.last_window.ensures, c.looked_ahead.ensures))
    (taken_given c.take.result) c.take.ensures c.near.result.packets
    (c.near.ensures.0 ∙ ap (λ (g : Result Envelope Refusal). near_to (taken_given g).envelope (c.last_window.result + c.looked_ahead.result)) (sym c.unwrap-envelope.ensures))

pub overflow_add-last : goal.overflow_add-last
overflow_add-last c =
    omega (arith, c.last_window.ensures, (table-accepted c.args.table.now c.requires).last_to, (looks-ahead c.looked_ahead.ensures).0)
