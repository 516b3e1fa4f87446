-- C's struct of a size goes by cases as its definition does.
use Rattle.std.proofs.Common.{◌≡◌, ap, sym, rules, Result, Ok}
use Rattle.orders.specs.declared.refusal.Refusal.{Refusal}
use Rattle.size.specs.declared.Size.{Size}
use Rattle.size.specs.declared.Size.TheVariants as size
use Rattle.size.specs.Size.{size_given}
use Rattle.exports.specs.NumberedSizes.{size_of}
use Rattle.exports.proofs.sizing.SizeFromResultSizeSizeRefusal.from.Goals as goal

pub returns-in-Ok-Found : goal.returns-in-Ok-Found
unfolding size_of size_given
returns-in-Ok-Found c =
    let same : c.args.answer ≡ Ok (size.Found c.in-Ok-Found.at) = search rules in
    ap (λ (given : Result Size Refusal). size_of (size_given given)) (sym same)

pub returns-in-Ok-NotFound : goal.returns-in-Ok-NotFound
unfolding size_of size_given
returns-in-Ok-NotFound c =
    let same : c.args.answer ≡ Ok (size.NotFound c.in-Ok-NotFound.at) = search rules in
    ap (λ (given : Result Size Refusal). size_of (size_given given)) (sym same)

pub returns-in-Err : goal.returns-in-Err
unfolding size_of size_given
returns-in-Err c = rw c.number.ensures (ap (λ (given : Result Size Refusal). size_of (size_given given)) (sym c.in-Err.is))
