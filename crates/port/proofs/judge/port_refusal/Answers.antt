-- `port_refusal` judges the lists of at most eight streams and 256 slots.
use borrow.Author.Rules.{rules}
use Rattle.orders.proofs.Given.{given_none}
use Rattle.port.proofs.RefusalParts.{streams-accepted}
use Rattle.port.proofs.judge.port_refusal.Goals as goal

pub lists_refusal-requires : goal.lists_refusal-requires
lists_refusal-requires c =
    let ok = streams-accepted _ c.args.slots (given_none c.streams_refusal.result _ _ c.streams_refusal.ensures (search rules)) in
    (ok.1, ok.2)
