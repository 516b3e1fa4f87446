-- `work` takes one slot a turn.
use Rattle.port.proofs.PortLists.{zeros, zeroed, standing-first, standing-last}
use borrow.Author.Rules.{rules}
use Rattle.port.proofs.run.Port.work.Goals as goal

pub loop-t-init : goal.loop-t-init
loop-t-init c =
    standing-first c.args.self.now.deadlines.now c.args.self.now.slots c.args.self.now.capacity c.args.self.now.input.now _ _
    c.args.sent.now c.args.late.now _ c.requires.0 (zeros 2568) (zeros 321) (zeroed c.args.late.now _ (c.fill.ensures.after (search rules)))

pub returns : goal.returns
returns c =
    standing-last c.args.self.now.deadlines.now c.args.self.now.slots c.args.self.now.capacity c.args.self.now.input.now _ _ _ _ _ _ (search rules)
    c.loop-t.invariant
