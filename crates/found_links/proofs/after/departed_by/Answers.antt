-- `departed_by` takes the lesser of the least so far and the next window's sum, which a least of 32 bits is below where it does not fit.
use Rattle.std.proofs.Common.{◌≡◌, ℕ, ◌+◌, ◌-◌, min, get_or, refl, ◌∙◌, arith}
use Rattle.found_links.proofs.LeastTo.{least_none, least_first, least_on}
use Rattle.found_links.proofs.after.departed_by.Goals as goal

pub loop-k-init : goal.loop-k-init
loop-k-init c = (omega arith, least_none _ _)

pub loop-k-preserved : goal.loop-k-preserved
loop-k-preserved c =
    let z = c.args in
    let l = c.loop-k in
    let sum = λ (k : ℕ). get_or z.departed.now (z.t - k) 0 + get_or z.table.now k 0 in
    let made : c.min-least.result ≡ min l.least (sum l.k) = omega (arith, least_first z.total sum (l.k - 1), l.invariant.1) in
    (omega arith, made ∙ least_on z.total sum l.k _ _ (omega arith) l.invariant.1 refl)
