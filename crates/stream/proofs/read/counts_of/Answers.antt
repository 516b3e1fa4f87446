-- `counts_of` lends the part where the counts stand; an accepted file reaches to its end.
use native.Mathlib.Omega.{arith}
use borrow.Author.Rules.{rules}
use Rattle.orders.proofs.Given.{number_of_ok, number_of_err}
use Rattle.stream.proofs.FileJudged.{file-accepted}
use Rattle.stream.proofs.HandedFile.{part_refused, part-accepted}
use Rattle.stream.proofs.read.counts_of.Goals as goal

pub slice_bounds-result-end-2 : goal.slice_bounds-result-end-2
slice_bounds-result-end-2 c =
    let ok = (file-accepted c.args.file.now (number_of_ok c.file_refusal.result _ c.file_refusal.ensures (search rules))).sizes in
    omega (arith, ok.size, c.number_at-last.ensures, c.number_at-bursts.ensures)

pub returns-then-is_err : goal.returns-then-is_err
returns-then-is_err c =
    part_refused c.args.file.now c.args.file.ref_ptr (number_of_err c.file_refusal.result _ c.file_refusal.ensures (search rules))

pub returns : goal.returns
returns c =
    let z = c.args.file in
    part-accepted z.now z.ref_ptr c.number_at-last.result c.number_at-bursts.result
    (number_of_ok c.file_refusal.result _ c.file_refusal.ensures (search rules)) c.number_at-last.ensures
    c.number_at-bursts.ensures
