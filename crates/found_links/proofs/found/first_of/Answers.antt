-- `first_of` compares the three.
use Rattle.std.proofs.Common.{◌≡◌, arith}
use Rattle.found_links.proofs.FirstOfMarks.{none_found, arrivals_found, delay_found, buffer_found}
use Rattle.found_links.proofs.found.first_of.Goals as goal

pub returns-then-from-t-clause-found : goal.returns-then-from-t-clause-found
returns-then-from-t-clause-found c =
    let z = c.args in
    λ f a u d q slots one two three.
    none_found f d q a slots u z.t z.arrivals z.delay z.buffer one two three (omega arith) (omega arith) (omega arith)

pub returns-then-arrivals-from-clause-found : goal.returns-then-arrivals-from-clause-found
returns-then-arrivals-from-clause-found c =
    let z = c.args in
    let same : c.min-from.result ≡ z.arrivals = omega arith in
    λ f a u d q slots one two three.
    rw same (arrivals_found f d q a slots u z.t z.arrivals z.delay z.buffer one two three (omega arith) (omega arith) (omega arith))

pub returns-then-delay-from-clause-found : goal.returns-then-delay-from-clause-found
returns-then-delay-from-clause-found c =
    let z = c.args in
    let same : c.min-from.result ≡ z.delay = omega arith in
    λ f a u d q slots one two three.
    rw same (delay_found f d q a slots u z.t z.arrivals z.delay z.buffer one two three (omega arith) (omega arith) (omega arith))

pub returns-clause-found : goal.returns-clause-found
returns-clause-found c =
    let z = c.args in
    let same : c.min-from.result ≡ z.buffer = omega arith in
    λ f a u d q slots one two three.
    rw same (buffer_found f d q a slots u z.t z.arrivals z.delay z.buffer one two three (omega arith) (omega arith) (omega arith))
