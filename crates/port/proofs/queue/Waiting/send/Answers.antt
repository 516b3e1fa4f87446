-- `send` serves one due slot a turn.
use Rattle.port.proofs.Sending.{sending-first, sending_next, sending-last, sending_stops, whole_asks}
use borrow.Author.Rules.{rules}
use Rattle.port.proofs.queue.Waiting.send.Goals as goal

pub loop-due-init : goal.loop-due-init
loop-due-init c =
    let z = c.args in
    sending-first z.streams z.capacity z.from z.to z.self.now.row z.self.now.totals z.counts.now c.requires _
    c.next_due-due.ensures.0 c.next_due-due.ensures.1

pub returns-then-total-left : goal.returns-then-total-left
returns-then-total-left c =
    let z = c.args in
    let l = c.loop-due in (
      search rules,
      sending_stops z.streams z.capacity z.from z.to z.self.now.row z.self.now.totals z.counts.now c.requires
          l.due l.left l.self.row l.self.totals l.counts l.invariant (search rules) _ _ _ c.send_due.ensures
          (search rules),
    )

pub send_whole-requires : goal.send_whole-requires
send_whole-requires c =
    let z = c.args in
    let l = c.loop-due in
    whole_asks z.streams z.capacity z.from z.to z.self.now.row z.self.now.totals z.counts.now c.requires l.due l.left
    l.self.row l.self.totals l.counts l.invariant (search rules) (search rules) (search rules)

pub loop-due-preserved : goal.loop-due-preserved
loop-due-preserved c =
    let z = c.args in
    let l = c.loop-due in
    sending_next z.streams z.capacity z.from z.to z.self.now.row z.self.now.totals z.counts.now c.requires l.due l.left
    l.self.row l.self.totals l.counts l.invariant (search rules) (search rules) _ _
    c.send_whole.ensures _ c.next_due-due-in-loop-due.ensures.0 c.next_due-due-in-loop-due.ensures.1

pub returns : goal.returns
returns c =
    let z = c.args in
    let l = c.loop-due in (
      l.invariant.within,
      sending-last z.streams z.capacity z.from z.to z.self.now.row z.self.now.totals z.counts.now c.requires
          l.due l.left l.self.row l.self.totals l.counts l.invariant (search rules),
    )
