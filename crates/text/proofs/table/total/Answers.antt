-- `total` adds the counts, each below 2^32.
use Rattle.std.proofs.Common.{rules, ◌≡◌, ◌^◌, sum, arith}
use Rattle.std.proofs.lemmas.List.Sums.{sum_by-le}
use Rattle.std.proofs.lemmas.Grind.{get_or_default_zero}
use Rattle.text.proofs.table.total.Goals as goal

pub returns : goal.returns
returns c =
    let counts = c.args.counts.now in
    let added : c.sum.result ≡ sum counts = search rules in
    let each = sum_by-le (λ x. x) (2 ^ 32) counts (λ k d p. omega (arith, get_or_default_zero counts k d p, c.type_inv.counts k)) in
    record { added = added; bounded = omega (arith, each) }
