-- `size_beside` refuses, or answers the limit that halving finds and what it loses.
use mathlib.Core.Path.{◌≡◌}
use native.Mathlib.Omega.{arith}
use Rattle.orders.proofs.Given.{given_none}
use Rattle.size.specs.Size.{size_given}
use Rattle.size.specs.Beside.{beside_refusal, greatest_beside, loss_beside, size_beside}
use Rattle.size.proofs.SizeSearched.{call_refused, size_found, size_none}
use borrow.Author.Rules.{rules}
use Rattle.size.proofs.size_beside.Goals as goal

pub returns-in_err-size_refusal : goal.returns-in_err-size_refusal
unfolding size_beside size_given
returns-in_err-size_refusal c =
    call_refused _ _ _ _ c.size_refusal.result c.from_residual.result c.in_err-size_refusal.field-0.0 c.size_refusal.ensures (search rules) (search rules)

pub halve-limit-requires : goal.halve-limit-requires
halve-limit-requires c = given_none c.size_refusal.result _ _ c.size_refusal.ensures (search rules)

pub loss_beside-lost-requires : goal.loss_beside-lost-requires
loss_beside-lost-requires c = (given_none c.size_refusal.result _ _ c.size_refusal.ensures (search rules), omega (arith, c.greatest_beside-greatest.ensures))

pub returns-then-limit-greatest : goal.returns-then-limit-greatest
unfolding size_beside size_given
returns-then-limit-greatest c =
    let z = c.args in
    let none : beside_refusal z.table.now z.kept z.arrivals.now ≡ 0 = given_none c.size_refusal.result _ _ c.size_refusal.ensures (search rules) in
    size_none _ (greatest_beside z.kept) (loss_beside z.table.now z.kept z.arrivals.now) z.most none
    c.halve-limit.result c.loss_beside-lost.result
    c.halve-limit.ensures c.greatest_beside-greatest.result c.greatest_beside-greatest.ensures
    (search rules) c.loss_beside-lost.ensures

pub loss_beside-lost-requires-2 : goal.loss_beside-lost-requires-2
loss_beside-lost-requires-2 c = (given_none c.size_refusal.result _ _ c.size_refusal.ensures (search rules), omega (arith, c.greatest_beside-greatest.ensures))

pub returns : goal.returns
unfolding size_beside size_given
returns c =
    let z = c.args in
    let none : beside_refusal z.table.now z.kept z.arrivals.now ≡ 0 = given_none c.size_refusal.result _ _ c.size_refusal.ensures (search rules) in
    size_found _ (greatest_beside z.kept) (loss_beside z.table.now z.kept z.arrivals.now) z.most none
    c.halve-limit.result c.loss_beside-lost-2.result
    c.halve-limit.ensures c.greatest_beside-greatest.result c.greatest_beside-greatest.ensures
    (search rules) c.loss_beside-lost-2.ensures
