-- `at_window` works the windows 0 to w in the first w + 1 places of a blank row, and the piece of the first.
use mathlib.Core.Path.{◌∙◌}
use mathlib.Core.List.{List, [], ◌∷◌}
use Prim.Native.Nat.{ℕ, ◌+◌}
use native.Mathlib.Omega.{arith}
use lib.ListN.{take, drop, replicate, length-replicate}
use lib.Seq.{length-take-le}
use Rattle.orders.proofs.Given.{accepted_ok}
use Rattle.envelope.proofs.Filled.{row-accepted}
use Rattle.question.proofs.FirstPlace.{first_place}
use borrow.Author.Rules.{rules}
use Rattle.question.proofs.question.at_window.Goals as goal

pub unwrap-requires : goal.unwrap-requires
unwrap-requires c =
    let long = length-take-le {A = ℕ} (c.args.w + 1) (replicate 4161 0) (omega (arith, length-replicate {A = ℕ} 4161 0)) in
    accepted_ok c.fill.result (row-accepted c.args.e _ _ (omega (arith, long)) c.fill.ensures)

pub returns : goal.returns
returns c =
    let z = c.args in
    let blank : List ℕ = replicate 4161 0 in
    let (f, piece) = first_place z.e (take (z.w + 1) blank) (0 ∷ []) (drop (z.w + 1) blank) z.w
    (length-take-le (z.w + 1) blank (omega (arith, length-replicate {A = ℕ} 4161 0))) (search rules) (omega arith) c.fill.ensures in
    (c.from.ensures ∙ f, piece)
