-- `sound` tests one link a turn.
use Rattle.std.proofs.Common.{◌≡◌, ℕ, true, List}
use Rattle.calculus.specs.Regulators.Rows.{envelope_of}
use Rattle.calculus.specs.Regulators.Trace.{arrivals}
use Rattle.chain_calculus.specs.Chain.{links_sound}
use Rattle.refusals.specs.Limits.{delay_limit, buffer_limit}
use Rattle.chain.specs.Prepared.{Checkable}
use Rattle.chain.proofs.check.Chain.sound.Given as goal

abbrev pub invariant-loop-n : goal.invariant-loop-n
invariant-loop-n l =
    (table trace : List ℕ) → Checkable table l.delay l.buffer trace l.t l.windows l.arrived → links_sound (envelope_of table) (delay_limit l.delay)
    (buffer_limit l.buffer) (arrivals trace) l.self.slots.now l.self.marks.now l.self.amounts.now l.n ≡ true
