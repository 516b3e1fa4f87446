-- `links_answer` tests the links on rows of its own.
use native.Mathlib.Omega.{arith}
use Rattle.certificate.specs.Read.{claimed}
use Rattle.certificate.proofs.ClaimRows.{claim-accepted, claim-buffer, claim_rows}
use Rattle.certificate.proofs.check.Certificate.links_answer.Goals as goal

pub first_lack-requires : goal.first_lack-requires
first_lack-requires c =
    let ok = claim-accepted _ c.requires.0 in
    (omega (arith, ok.short, ok.long_from), omega (arith, ok.long_from, ok.long_by), omega (arith, ok.long_from, ok.long_gone))

pub returns : goal.returns
returns c =
    let z = c.args.self.now in
    let k = claimed z in
    let ok = claim-accepted k c.requires.0 in
    let ready = claim_rows k ok c.requires.1 _ _ _ _ _ _ _ _ c.window_row.ensures
    c.total_row.ensures c.total_row-2.ensures c.total_row-3.ensures in
    rw ok.long_from at (c.first_lack.ensures z.table.now z.arrivals.now _ _ (rw (← ok.long_from) at ready))

pub overflow_cast-rows : goal.overflow_cast-rows
overflow_cast-rows c =
    let ok = claim-accepted _ c.requires.0 in
    omega (arith, claim-buffer _ ok)
