-- `first_lack` tries one slot a turn.
use Rattle.std.proofs.Common.{List, ℕ, ◌+◌, ◌≤◌, length}
use Rattle.calculus.specs.Numbers.Limit.{delay_limit, buffer_limit}
use Rattle.calculus.specs.Regulators.Trace.{arrivals}
use Rattle.calculus.specs.Regulators.Rows.{envelope_of}
use Rattle.certificate.specs.Read.{RowsRead, links_in}
use Rattle.certificate.proofs.FirstLack.{NoneBefore}
use Rattle.certificate.proofs.held.Rows.first_lack.Given as goal

abbrev pub invariant-loop-t : goal.invariant-loop-t
invariant-loop-t l =
    (l.t ≤ length l.links.from.now + 1) × ((table trace : List ℕ) (u v : ℕ → ℕ) → RowsRead l.self table trace (length l.links.from.now) u v
    → NoneBefore (envelope_of table) (delay_limit l.self.delay) (buffer_limit l.self.buffer) (arrivals trace) (length l.links.from.now) u v (links_in l.links) l.t)
